use Rattle.std.proofs.Common.{◌≡◌, refl, arith}
use Rattle.port.proofs.Moves.{moved_all, moved_more, moved_none}
use Rattle.port.proofs.Padded.{fills_behind}
use Rattle.port.proofs.runs.move_pairs.Goals as goal

pub loop-init : goal.loop-init
loop-init g c = moved_none _ _ _ _

pub loop-preserved : goal.loop-preserved
loop-preserved g c =
    moved_more _ c.loop.counter _ _ _ _ _ _ _ c.loop.invariant
    c.in_ok-move_pair.ensures.from c.in_ok-move_pair.ensures.to

pub returns : goal.returns
returns g c =
    let all : c.loop.counter ≡ c.args.pairs = omega arith in
    record { moved = moved_all _ _ _ _ _ _ _ _ all c.loop.invariant; filled = fills_behind }

pub returns-then-free-pairs : goal.returns-then-free-pairs
returns-then-free-pairs g c = record {
  moved = record { full = omega arith; number = refl; waits = refl; same = refl };
  filled = fills_behind;
}
