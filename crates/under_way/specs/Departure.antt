-- What contracts see of a frame that leaves.
use Rattle.std.specs.Prelude.{List}
use Rattle.block.specs.declared.Block.{Block}
use Rattle.block.specs.declared.Pair.{Pair}

-- the pairs in the slots, and the blocks still to send, none between frames
pub record Departure : Type 0 where
  pub pairs : List Pair
  pub rest : List Block
