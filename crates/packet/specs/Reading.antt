-- The packet that stands at the front of blocks, if one does.
use Rattle.std.specs.Prelude.{ℕ, ◌+◌, Bool, false, if◌then◌else◌, List, [], ◌∷◌, ◌++◌, length, take, drop, Some, None, Option}
use Rattle.std.specs.Str.{bytes_eq}
use Rattle.block.specs.declared.Block.{Block}
use Rattle.block.specs.declared.Sync.TheVariants.{Zeros, Control, Data as DataSync, Ones}
use Rattle.block.specs.declared.Class.TheVariants.{Data, Idle, Characters, OrderedSet, Start, End, Unlawful}
use Rattle.block.specs.Classes.{class_of}
use Rattle.packet.specs.Format.{is_packet_length, opening_block}

-- the bytes of a packet, and the blocks that they take
abbrev pub FoundPacket : Type 0
FoundPacket = Option (List ℕ × ℕ)

-- the same with one more block in front, which carries these bytes
abbrev pub with_bytes_before : List ℕ → FoundPacket → FoundPacket
with_bytes_before bytes None = None
with_bytes_before bytes (Some found) = Some (bytes ++ found.0, 1 + found.1)

-- data blocks and the end behind them; an end carries bytes 1 onward, as many as its type says
unfoldable pub found_to_end : List Block → FoundPacket
found_to_end [] = None
found_to_end (b ∷ bs) =
    elim (class_of b) [
      | Data ↦ with_bytes_before b.bytes (found_to_end bs)
      | Idle ↦ None
      | Characters ↦ None
      | OrderedSet ↦ None
      | Start ↦ None
      | End n ↦ Some (take n (drop 1 b.bytes), 1)
      | Unlawful ↦ None
    ]

-- only if the bytes are as many as a packet may have
abbrev pub found_of_length : FoundPacket → FoundPacket
found_of_length None = None
found_of_length (Some found) = if is_packet_length (length found.0) then Some found else None

-- is the first block the start block of a packet, sync and all bytes?
abbrev pub opens : List Block → Bool
opens [] = false
opens (b ∷ bs) = elim b.sync [ Zeros ↦ false | Control ↦ bytes_eq b.bytes opening_block.bytes | DataSync ↦ false | Ones ↦ false ]

-- the packet at the front: the opening, data blocks and an end
unfoldable pub packet_at : List Block → FoundPacket
packet_at bs = if opens bs then with_bytes_before [] (found_of_length (found_to_end (drop 1 bs))) else None
