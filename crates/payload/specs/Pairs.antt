-- A pair of blocks as bits in sending order, and back.
use Rattle.std.specs.Prelude.{Bool, List, ◌++◌, take, drop}
use Rattle.bits.specs.Bits.{bits, low_value, packed_bytes}
use Rattle.block.specs.declared.Block.{Block}
use Rattle.block.specs.Syncs.{sync_bits, sync_of}
use Rattle.block.specs.declared.Pair.{Pair}

-- a block: its sync bits, then its eight bytes
abbrev pub block_bits : Block → List Bool
block_bits b = sync_bits b.sync ++ bits b.bytes

-- a pair: its first block, then its second
abbrev pub pair_bits : Pair → List Bool
pair_bits p = block_bits p.first ++ block_bits p.second

-- the block that 66 bits write
abbrev pub block_of : List Bool → Block
block_of l = record { sync = sync_of (low_value (take 2 l)); bytes = packed_bytes 8 (drop 2 l) }

-- the pair that 132 bits write
abbrev pub pair_of : List Bool → Pair
pair_of l = record { first = block_of (take 66 l); second = block_of (drop 66 l) }
