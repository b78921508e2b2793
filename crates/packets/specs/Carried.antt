-- What becomes of a line of the input: why it is refused, how its packet is put into a store, and what is printed of it.
use Rattle.std.specs.Prelude.{◌≡◌, ℕ, ◌+◌, ◌%◌, true, false, ◌⊎◌, if◌then◌else◌, min, List, length, take, Some, None, Ok, Err, Option, Result, MatchBool, nat_le}
use Rattle.block.specs.declared.Block.{Block}
use Rattle.packet.specs.Answers.{bytes_of, leaves}
use Rattle.packet.specs.Reading.{FoundPacket, packet_at}
use Rattle.packet_report.specs.Texts.{carried_text, print_answer}
use Rattle.refusal.specs.declared.Refusal.{Refusal}
use Rattle.refusal.specs.declared.Refusal.TheVariants.{FormBroken, NoPacket, OutOfRange, OutputTooShort}
use Rattle.numbers.specs.Range.{is_one_to_480}
use Rattle.port.specs.Model.{Holding}
use Rattle.port.specs.Runs.{without_first}
use Rattle.packet_inlet.specs.Stored.{PacketPut}

-- bytes of the longest packet that an input can write
abbrev pub longest : ℕ
longest = 16384

-- why a line is refused: it has not the form, its packet is too long, or its client is out of range
abbrev pub LineRefused : Option (ℕ × List ℕ) → Refusal → Type 0
LineRefused None cause = cause ≡ FormBroken
LineRefused (Some line) cause = MatchBool (nat_le (length line.1) longest) ((is_one_to_480 line.0 ≡ false) × (cause ≡ OutOfRange)) (cause ≡ OutputTooShort)

-- a line with the form, whose packet is not too long and whose client is in range: just the lines that are not refused
pub record LineRead (line : Option (ℕ × List ℕ)) (client : ℕ) (packet : List ℕ) : Type 0 where
  pub form : line ≡ Some (client, packet)
  pub short : nat_le (length packet) longest ≡ true
  pub lawful : is_one_to_480 client ≡ true

-- a line's packet put into a store for its client; a line that is refused changes nothing
pub record LineKept (line : Option (ℕ × List ℕ)) (r : Result ℕ Refusal) (before after : Holding) : Type 0 where
  pub cause : Refusal
  pub refused : LineRefused line cause
  pub answer : r ≡ Err cause
  pub same : after ≡ before

pub record LinePut (line : Option (ℕ × List ℕ)) (r : Result ℕ Refusal) (before after : Holding) : Type 0 where
  pub client : ℕ
  pub packet : List ℕ
  pub read : LineRead line client packet
  pub put : PacketPut client packet r before after

abbrev pub StoresLine : Option (ℕ × List ℕ) → Result ℕ Refusal → Holding → Holding → Type 0
StoresLine line r before after = LineKept line r before after ⊎ LinePut line r before after

-- the blocks that are taken of a packet of so many: an even number, and no more than the longest packet has
abbrev pub places_taken : ℕ → ℕ
places_taken count = let places = min count 253 in places + places % 2

-- the answer by the packet found among them, for an output of so many places
abbrev pub carried_answer : ℕ → ℕ → ℕ → FoundPacket → ℕ → Result ℕ Refusal
carried_answer client bytes count None places = Err NoPacket
carried_answer client bytes count (Some found) places =
    if nat_le (length found.0) 2000 then print_answer (carried_text client bytes count found.0) (length found.0) places else Err OutputTooShort

-- a client's packet, stored as so many blocks, taken out of what waits and printed
pub record CarriesPacket (client bytes count : ℕ) (before after : ℕ → List Block) (r : Result ℕ Refusal) (out now : List ℕ) : Type 0 where
  pub left : after ≡ without_first (places_taken count) client before
  pub answer : r ≡ carried_answer client bytes count (packet_at (take (places_taken count) (before client))) (length out)
  pub output : now ≡ leaves r (carried_text client bytes count (bytes_of (packet_at (take (places_taken count) (before client))))) out

-- the same of a line, by what was answered when it was stored; a line that is refused takes nothing and prints nothing
abbrev pub CarriesLine : Option (ℕ × List ℕ) → Result ℕ Refusal → (ℕ → List Block) → (ℕ → List Block) → Result ℕ Refusal → List ℕ → List ℕ → Type 0
CarriesLine line (Err cause) before after r out now = (r ≡ Err cause) × (after ≡ before) × (now ≡ out)
CarriesLine line (Ok count) before after r out now =
    ((cause : Refusal) × LineRefused line cause × (r ≡ Err cause) × (after ≡ before) × (now ≡ out))
    ⊎ ((client : ℕ) × (packet : List ℕ) × LineRead line client packet × CarriesPacket client (length packet) count before after r out now)
