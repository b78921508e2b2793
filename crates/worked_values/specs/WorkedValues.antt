-- The worked values of the formats.
use Rattle.std.specs.Prelude.{ℕ, [], ◌∷◌, ◌≡◌}
use Rattle.block.specs.declared.Block.{Block}
use Rattle.block.specs.declared.Sync.TheVariants.{Control}
use Rattle.bits.specs.Bits.{field}
use Rattle.crc.specs.Remainder.{remainder}
use Rattle.overhead.specs.Laws.{WorkedOverheads}
use Rattle.frame.specs.SlotStarts.{SlotStarts}
use Rattle.packet.specs.Format.{SixtyFourBytes}
use Rattle.message.specs.declared.Kind.TheVariants.{OneDm}
use Rattle.message.specs.Values.{filled_values}
use Rattle.message.specs.Written.{message_blocks, PayloadTypeEleven}

-- a message block by its head byte and two value bytes
abbrev pub carrying : ℕ → ℕ → ℕ → Block
carrying head first second = record { sync = Control; bytes = 0x4B ∷ head ∷ first ∷ second ∷ 0x0C ∷ 0 ∷ 0 ∷ 0 ∷ [] }

-- both one-way delay messages of ITU-T G.8312, Appendix II: the writer fills in the remainders E0 95 and 50 44
abbrev pub DelayMessages : Type 0
DelayMessages =
    (message_blocks OneDm (filled_values (0x37 ∷ 0x9A ∷ 0x05 ∷ 0x51 ∷ 0x91 ∷ 0x52 ∷ 0x35 ∷ 0x98 ∷ 0x00 ∷ 0x00 ∷ []))
    ≡ carrying 0xD5 0x37 0x9A ∷ carrying 0xD4 0x05 0x51 ∷ carrying 0xD4 0x91 0x52 ∷ carrying 0xD4 0x35 0x98 ∷ carrying 0xD6 0xE0 0x95 ∷ [])
    × (message_blocks OneDm (filled_values (0x35 ∷ 0x98 ∷ 0x14 ∷ 0x75 ∷ 0x91 ∷ 0x50 ∷ 0x35 ∷ 0x98 ∷ 0x00 ∷ 0x00 ∷ []))
    ≡ carrying 0xD5 0x35 0x98 ∷ carrying 0xD4 0x14 0x75 ∷ carrying 0xD4 0x91 0x50 ∷ carrying 0xD4 0x35 0x98 ∷ carrying 0xD6 0x50 0x44 ∷ [])

-- Appendix IV: the field 101 and 36 zeros leaves 0101011
abbrev pub SevenBitRemainder : Type 0
SevenBitRemainder = remainder 7 0xB7 (field (0x05 ∷ 0 ∷ 0 ∷ 0 ∷ 0 ∷ []) 0 39) ≡ 0b0101011

-- Overheads: the bytes of three (client 1 in frame 0, client 480 in frame 479, no client in frame 0), and that the first is read as a wrong
--   remainder once its byte 3 is 01.
-- Slots: where the second and the last begin. Packets: the blocks of the shortest.
-- Messages: CS with payload type 11 (binary), both of one-way delay; and the 7-bit remainder above.
-- Each value stands in the definition named.
abbrev pub WorkedValues : Type 0
WorkedValues = WorkedOverheads × SlotStarts × SixtyFourBytes × PayloadTypeEleven × DelayMessages × SevenBitRemainder
