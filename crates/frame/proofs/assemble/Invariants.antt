use Rattle.std.proofs.Common.{◌≡◌, ℕ, ◌+◌, ◌<◌, ◌++◌, length, get_or}
use Rattle.frame.specs.Frames.{frame_block}
use Rattle.frame.proofs.Carried.{blank}
use Rattle.frame.proofs.assemble.Given as goal

abbrev pub invariant-loop-i : goal.invariant-loop-i
invariant-loop-i l = (length l.blocks ≡ 992) × ((j : ℕ) → j < l.i → get_or l.blocks j blank ≡ frame_block (l.overhead ++ l.payload) (j + 1))
