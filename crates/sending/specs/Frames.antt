-- Frames as a sender numbers and cuts them.
use Rattle.std.specs.Prelude.{ℕ, List, drop}
use Rattle.block.specs.declared.Block.{Block}
use Rattle.block.specs.declared.Pair.{Pair}
use Rattle.overhead.specs.Format.{Fields}
use Rattle.whole_frame.specs.Meaning.{frame_written}

-- what a frame says of itself: its number, and the calendar entry that it announces
abbrev pub fields : ℕ → ℕ → Fields
fields number entry = record { entry = entry; frame = number }

-- its blocks behind the start block
unfoldable pub frame_rest : ℕ → ℕ → List Pair → List Block
frame_rest number entry pairs = drop 1 (frame_written (fields number entry) pairs)
