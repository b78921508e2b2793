-- The text of each computed value, by the definition of the call that computes it.
use Rattle.std.specs.Prelude.{ℕ, ◌-◌, if◌then◌else◌, List, [], ◌∷◌, ◌++◌, replicate, Ok, Err, codes, decimal, Result, nat_le, nat_lt, slice_index, slice_index_or}
use Rattle.block.specs.declared.Block.{Block}
use Rattle.block.specs.Fixed.{idle_block}
use Rattle.refusal.specs.declared.Refusal.{Refusal}
use Rattle.refusal.specs.declared.Refusal.TheVariants.{OutOfRange}
use Rattle.numbers.specs.Range.{slots}
use Rattle.overhead.specs.declared.OverheadFault.{OverheadFault}
use Rattle.overhead.specs.declared.OverheadFault.TheVariants.{WrongRemainder, ClientTooHigh, FrameTooHigh}
use Rattle.overhead.specs.declared.Overhead.{Overhead}
use Rattle.overhead.specs.Format.{Fields, fields_of, overhead_bytes}
use Rattle.overhead.specs.Laws.{overhead}
use Rattle.frame.specs.declared.SlotStart.{SlotStart}
use Rattle.frame.specs.SlotStarts.{slot_start}
use Rattle.packet.specs.Answers.{leaves, write_answer}
use Rattle.packet.specs.Format.{packet_blocks}
use Rattle.message.specs.declared.Kind.{Kind}
use Rattle.message.specs.Written.{message_answer, output_with_message}
use Rattle.value_text.specs.Texts.{block_text, hex_of, refusal_text}

-- what an overhead can say: entry 0, no client, or a client number, and a frame number
abbrev pub checked_fields : ℕ → ℕ → Result Fields Refusal
checked_fields entry frame =
    if nat_le entry slots then if nat_le slots frame then Err OutOfRange else Ok (overhead entry frame) else Err OutOfRange

-- what is said by the overhead that is made
abbrev pub made_fields : Result Overhead Refusal → Result Fields Refusal
made_fields (Ok made) = Ok (fields_of made)
made_fields (Err cause) = Err cause

-- the bytes of an overhead
abbrev pub written_overhead : Result Fields Refusal → List ℕ
written_overhead (Ok fields) = hex_of (overhead_bytes fields)
written_overhead (Err cause) = refusal_text cause

-- what an overhead is read as
abbrev pub read_overhead : Result Fields OverheadFault → List ℕ
read_overhead (Ok fields) = codes "client number " ++ (decimal fields.entry ++ (codes ", frame number " ++ decimal fields.frame))
read_overhead (Err WrongRemainder) = codes "wrong CRC"
read_overhead (Err ClientTooHigh) = codes "client number above 480"
read_overhead (Err FrameTooHigh) = codes "frame number above 479"

-- data block, byte and bit
abbrev pub start_text : SlotStart → List ℕ
start_text s =
    codes "data block " ++ (decimal s.block ++ (codes ", byte " ++ (decimal s.byte ++ (codes ", bit " ++ decimal s.bit))))

-- where a slot begins
abbrev pub slot_text : Result ℕ Refusal → List ℕ
slot_text (Ok slot) = start_text (slot_start slot)
slot_text (Err cause) = refusal_text cause

-- an output of so many idles
abbrev pub idles : ℕ → List Block
idles n = replicate n idle_block

-- the first byte of the block before the last
abbrev pub end_type_text : List Block → ℕ → ℕ
end_type_text blocks count = slice_index (slice_index_or blocks (count - 2) idle_block).bytes 0

-- how many blocks a packet has, and the type of its end
abbrev pub made_text : ℕ → ℕ → List ℕ
made_text count end = decimal count ++ (codes " blocks, end " ++ hex_of (end ∷ []))

-- a writer's answer and output, for a packet
abbrev pub packet_text : Result ℕ Refusal → List Block → List ℕ
packet_text (Ok count) blocks = made_text count (end_type_text blocks count)
packet_text (Err cause) blocks = refusal_text cause

-- what `packet::write` makes of a packet, in an output of the most blocks that one has
abbrev pub written_packet : List ℕ → List ℕ
written_packet p =
    let answered : Result ℕ Refusal = write_answer p 253 in
    packet_text answered (leaves answered (packet_blocks p) (idles 253))

-- a writer's answer and output, for the block at a place of a message, counted from 0
abbrev pub place_text : Result ℕ Refusal → List Block → ℕ → List ℕ
place_text (Ok count) blocks place =
    if nat_lt place count then block_text (slice_index_or blocks place idle_block) else codes "no block"
place_text (Err cause) blocks place = refusal_text cause

-- the block at a place of what `message::write` makes, in an output of the most blocks that a message has
abbrev pub written_message : Kind → List ℕ → ℕ → List ℕ
written_message k vs place = place_text (message_answer k vs (idles 17)) (output_with_message k vs (idles 17)) place
