-- What a packet reader means: blocks of its client that are taken out of an inlet and not yet read, in lent places.
use Rattle.std.specs.Prelude.{◌≡◌, ℕ, ◌+◌, ◌/◌, ◌≤◌, true, List, ◌++◌, length, take, Ok, Err, Result}
use Rattle.std.specs.Borrow.{GName}
use Rattle.block.specs.declared.Block.{Block}
use Rattle.refusal.specs.declared.Refusal.{Refusal}
use Rattle.port.specs.Model.{Lists}
use Rattle.packet.specs.Answers.{over}
use Rattle.packet.specs.Format.{is_packet_length, packet_blocks}
use Rattle.packet_inlet.specs.declared.reader.PacketReader.{PacketReader}

-- the blocks held, in the order in which they were taken
abbrev pub held_blocks : PacketReader → List Block
held_blocks reader = take reader.held reader.places.now

abbrev pub reader_places : PacketReader → ℕ
reader_places reader = length reader.places.now

-- what a reader is to its callers: its client, the blocks held, the number of its places, and the name of the loan that these are
pub record ReaderContents : Type 0 where
  pub client : ℕ
  pub blocks : List Block
  pub places : ℕ
  pub lender : GName

abbrev pub reader_contents : PacketReader → ReaderContents
reader_contents reader = record { client = reader.client; blocks = held_blocks reader; places = reader_places reader; lender = reader.places.ghost_name }

-- all blocks that its client still has: those held, and behind them those that wait at the inlet
abbrev pub blocks_to_read : PacketReader → Lists → List Block
blocks_to_read reader waiting = held_blocks reader ++ waiting reader.client

-- and those of them for which there are places
abbrev pub blocks_in_reach : PacketReader → Lists → List Block
blocks_in_reach reader waiting = take (reader_places reader) (blocks_to_read reader waiting)

-- how many blocks a packet uses up, by the answer: one that is refused uses none
abbrev pub blocks_used : Result (ℕ × ℕ) Refusal → ℕ
blocks_used (Ok read) = read.1
blocks_used (Err _) = 0

-- Where a packet's blocks come first, there are places for them, and the output has room, the packet comes back whole.
abbrev pub ComesBack : List Block → ℕ → List ℕ → Result (ℕ × ℕ) Refusal → List ℕ → Type 0
ComesBack to_read places before r after =
    (p : List ℕ) (behind : List Block) → to_read ≡ packet_blocks p ++ behind → length (packet_blocks p) ≤ places →
    is_packet_length (length p) ≡ true → length p ≤ length before →
    (r ≡ Ok (length p, 2 + length p / 8)) × (after ≡ over p before)
