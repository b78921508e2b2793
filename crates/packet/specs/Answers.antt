-- What the writer and the reader answer, and what they leave in the output.
use Rattle.std.specs.Prelude.{◌≡◌, ℕ, ◌+◌, ◌/◌, ◌≤◌, true, if◌then◌else◌, List, [], ◌++◌, length, drop, Some, None, Ok, Err, Result, nat_le}
use Rattle.block.specs.declared.Block.{Block}
use Rattle.refusal.specs.declared.Refusal.{Refusal}
use Rattle.refusal.specs.declared.Refusal.TheVariants.{PacketLength, NoPacket, OutputTooShort}
use Rattle.packet.specs.Format.{is_packet_length, packet_blocks}
use Rattle.packet.specs.Reading.{FoundPacket}

-- an output with new entries at its front, the rest as before
abbrev pub over : {A : Type 0} → List A → List A → List A
over front out = front ++ drop (length front) out

-- what a call that answered r leaves in an output: the new entries, or all as before
abbrev pub leaves : {A B : Type 0} → Result B Refusal → List A → List A → List A
leaves (Ok _) front out = over front out
leaves (Err _) front out = out

-- the writer's answer for an output of so many places: the number of blocks
abbrev pub write_answer : List ℕ → ℕ → Result ℕ Refusal
write_answer p places =
    if is_packet_length (length p) then (if nat_le (length (packet_blocks p)) places then Ok (length (packet_blocks p)) else Err OutputTooShort) else Err PacketLength

-- the reader's answer for an output of so many places: the packet's length and the blocks used
abbrev pub read_answer : FoundPacket → ℕ → Result (ℕ × ℕ) Refusal
read_answer None places = Err NoPacket
read_answer (Some found) places =
    if nat_le (length found.0) places then (Ok (length found.0, found.1)) else Err OutputTooShort

-- the bytes found
abbrev pub bytes_of : FoundPacket → List ℕ
bytes_of None = []
bytes_of (Some found) = found.0

-- Where a packet's blocks stand at the front, whatever stands behind them, reading them gives the packet back.
abbrev pub GivesBack : List Block → List ℕ → Result (ℕ × ℕ) Refusal → List ℕ → Type 0
GivesBack blocks before r after =
    (p : List ℕ) (behind : List Block) → blocks ≡ packet_blocks p ++ behind → is_packet_length (length p) ≡ true → length p ≤ length before →
    (r ≡ Ok (length p, 2 + length p / 8)) × (after ≡ over p before)
