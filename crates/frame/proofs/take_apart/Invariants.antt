use Rattle.std.proofs.Common.{◌≡◌, ℕ, ◌+◌, ◌<◌, ◌++◌, length, get_or, drop}
use Rattle.block.specs.Fixed.{start_block}
use Rattle.frame.specs.Frames.{carried_after_all}
use Rattle.frame.proofs.take_apart.Given as goal

abbrev pub invariant-loop-i : goal.invariant-loop-i
invariant-loop-i l =
    (length l.overhead ≡ 7) × (length l.payload ≡ 7920)
    × (carried_after_all (l.i + 1) (drop l.i l.blocks) (l.overhead ++ l.payload) ≡ carried_after_all 1 l.blocks (l.initial.overhead ++ l.initial.payload))
    × ((j : ℕ) → j < l.i → length (get_or l.blocks j start_block).bytes ≡ 8)
