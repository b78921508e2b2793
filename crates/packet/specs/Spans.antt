-- A packet by where its end stands: the reader's first step, before it copies.
use Rattle.std.specs.Prelude.{◌≡◌, ℕ, ◌+◌, ◌*◌, ◌<◌, List, ◌++◌, length, take, drop, Some, slice_index_or}
use Rattle.std.specs.List.{flat_map}
use Rattle.block.specs.declared.Block.{Block}
use Rattle.packet.specs.Format.{opening_block}
use Rattle.packet.specs.Reading.{FoundPacket}

abbrev pub bytes_in : Block → List ℕ
bytes_in b = b.bytes

-- the bytes of the first `whole` blocks, and `left` bytes of the block behind them
abbrev pub span_bytes : List Block → ℕ → ℕ → List ℕ
span_bytes bs whole left = flat_map bytes_in (take whole bs) ++ take left (drop 1 (slice_index_or bs whole opening_block).bytes)

-- what was found in the blocks spans `whole` data blocks and `left` bytes of an end
pub record Spans (bs : List Block) (found : FoundPacket) (whole left : ℕ) : Type 0 where
  pub is : found ≡ Some (span_bytes bs whole left, whole + 1)
  pub long : length (span_bytes bs whole left) ≡ 8 * whole + left
  pub inside : whole < length bs
  pub few : left < 8
