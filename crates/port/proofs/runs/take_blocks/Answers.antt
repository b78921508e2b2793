use Rattle.std.proofs.Common.{arith}
use Rattle.port.proofs.Moves.{taking_all, taking_more, taking_none}
use Rattle.port.proofs.runs.take_blocks.Goals as goal

pub loop-i-init : goal.loop-i-init
loop-i-init g c = taking_none _ _ _ _

pub loop-i-preserved : goal.loop-i-preserved
loop-i-preserved g c =
    taking_more _ _ c.loop-i.i _ _ _ _ _ _ _ (omega arith) (omega arith) c.loop-i.invariant
    c.next.ensures.first c.unwrap_or-sync.ensures c.next.ensures.rest

pub returns : goal.returns
returns g c = let r = taking_all _ _ _ _ _ _ _ (omega arith) (omega arith) c.loop-i.invariant in record { blocks = r.0; left = r.1 }
