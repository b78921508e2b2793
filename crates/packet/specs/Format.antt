-- A packet as blocks: the opening, data blocks of eight bytes, an end with what is left, one idle.
use Rattle.std.specs.Prelude.{◌≡◌, ℕ, zero, suc, ◌+◌, ◌-◌, ◌*◌, ◌/◌, Bool, false, if◌then◌else◌, List, [], ◌∷◌, ◌++◌, length, take, drop, replicate, nat_le, slice_index, slice_index_or}
use Rattle.block.specs.declared.Block.{Block}
use Rattle.block.specs.declared.Sync.TheVariants.{Control, Data}
use Rattle.block.specs.Classes.{end_types}
use Rattle.block.specs.Fixed.{idle_block}

-- a packet has 64 to 2,000 bytes
abbrev pub is_packet_length : ℕ → Bool
is_packet_length n = if nat_le 64 n then nat_le n 2000 else false

-- the start block of a packet
abbrev pub opening_block : Block
opening_block = record { sync = Control; bytes = 0x78 ∷ 0x55 ∷ 0x55 ∷ 0x55 ∷ 0x55 ∷ 0x55 ∷ 0x55 ∷ 0xD5 ∷ [] }

-- the end that carries fewer than eight bytes, padded with zeros
unfoldable pub end_block : List ℕ → Block
end_block left = record { sync = Control; bytes = slice_index end_types (length left) ∷ (left ++ replicate (7 - length left) 0) }

-- a data block
abbrev pub data_block : List ℕ → Block
data_block eight = record { sync = Data; bytes = eight }

-- n data blocks with the bytes at the front, eight to a block
unfoldable pub data_blocks : ℕ → List ℕ → List Block
data_blocks zero bytes = []
data_blocks (suc n) bytes = data_block (take 8 bytes) ∷ data_blocks n (drop 8 bytes)

-- all blocks of a packet
unfoldable pub packet_blocks : List ℕ → List Block
packet_blocks p =
    let whole : ℕ = length p / 8 in
    opening_block ∷ (data_blocks whole p ++ (end_block (drop (8 * whole) p) ∷ idle_block ∷ []))

-- the blocks of a packet of so many bytes: the opening, one for each eight bytes, the end and the idle
abbrev pub block_count : ℕ → ℕ
block_count bytes = bytes / 8 + 3

-- every packet has as many blocks
abbrev pub HasBlocks : ℕ → ℕ → Type 0
HasBlocks bytes count = (p : List ℕ) → length p ≡ bytes → length (packet_blocks p) ≡ count

-- 64 bytes make 11 blocks, the tenth of which is the end 87 with no bytes
abbrev pub SixtyFourBytes : Type 0
SixtyFourBytes =
    (p : List ℕ) → length p ≡ 64 →
    (length (packet_blocks p) ≡ 11) × (slice_index_or (packet_blocks p) 9 idle_block ≡ record { sync = Control; bytes = 0x87 ∷ 0 ∷ 0 ∷ 0 ∷ 0 ∷ 0 ∷ 0 ∷ 0 ∷ [] })
