-- What the writer makes: the blocks of a message, the start mark on the first and the end mark on the last.
use Rattle.std.specs.Prelude.{◌≡◌, ℕ, ◌+◌, ◌≤◌, Bool, true, false, if◌then◌else◌, List, [], ◌∷◌, ◌++◌, length, drop, Some, None, Ok, Err, Option, Result, ◌==◌, nat_le}
use Rattle.bits.specs.Bits.{bits}
use Rattle.refusal.specs.declared.Refusal.{Refusal}
use Rattle.refusal.specs.declared.Refusal.TheVariants.{MessageInvalid, OutputTooShort}
use Rattle.block.specs.declared.Block.{Block}
use Rattle.block.specs.declared.Sync.TheVariants.{Control}
use Rattle.message.specs.declared.Kind.{Kind}
use Rattle.message.specs.declared.Kind.TheVariants.{Basic, Cs}
use Rattle.message.specs.declared.Mark.{Mark}
use Rattle.message.specs.declared.Mark.TheVariants.{Start, End}
use Rattle.message.specs.declared.MessageBlock.{MessageBlock}
use Rattle.message.specs.Kinds.{block_count_of}
use Rattle.message.specs.Blocks.{message_block, message_block_of, read_of}
use Rattle.message.specs.Values.{covered_value_bits, crc12, filled_values, lawful, map_pairs}

-- the block at place i of a message
abbrev pub message_block_at : Kind → ℕ → ℕ → ℕ → Block
message_block_at k i a b = message_block k (i == 0) (i + 1 == block_count_of k) a b

-- the blocks that carry value bytes
abbrev pub message_blocks : Kind → List ℕ → List Block
message_blocks k us = map_pairs (message_block_at k) 0 us

-- what these blocks say
abbrev pub message_parts : Kind → List ℕ → List MessageBlock
message_parts k us = map_pairs (λ i a b. message_block_of k (i == 0) (i + 1 == block_count_of k) a b) 0 us

-- the number of blocks, or why none is written
abbrev pub message_answer : Kind → List ℕ → List Block → Result ℕ Refusal
message_answer k vs out =
    if lawful k vs then if nat_le (block_count_of k) (length out) then Ok (block_count_of k) else Err OutputTooShort else Err MessageInvalid

-- the output after: the blocks at its front, or as before
abbrev pub output_with_message : Kind → List ℕ → List Block → List Block
output_with_message k vs out =
    if lawful k vs then if nat_le (block_count_of k) (length out) then message_blocks k (filled_values vs) ++ drop (block_count_of k) out else out else out

-- the same for a code, which may name no kind
abbrev pub message_answer_for : Option Kind → List ℕ → List Block → Result ℕ Refusal
message_answer_for None vs out = Err MessageInvalid
message_answer_for (Some k) vs out = message_answer k vs out

abbrev pub output_with_message_for : Option Kind → List ℕ → List Block → List Block
output_with_message_for None vs out = out
output_with_message_for (Some k) vs out = output_with_message k vs out

-- a basic message has one mark, and its values are zero
abbrev pub basic_block : Mark → Block
basic_block Start = message_block Basic true false 0 0
basic_block End = message_block Basic false true 0 0

-- what the message blocks among some blocks say
abbrev pub reads_of : List Block → List MessageBlock
reads_of [] = []
reads_of (b ∷ bs) = elim (read_of b) [ None ↦ reads_of bs | Some m ↦ m ∷ reads_of bs ]

-- CS with payload type 11, computed
abbrev pub PayloadTypeEleven : Type 0
PayloadTypeEleven = message_blocks Cs (filled_values (3 ∷ 0 ∷ []))
    ≡ record { sync = Control; bytes = 0x4B ∷ 0xDB ∷ 0x03 ∷ 0x1E ∷ 0x0C ∷ 0 ∷ 0 ∷ 0 ∷ [] } ∷ []

-- The laws of what is written.
pub record MessageLaws : Type 0 where
  -- every message block is read as what it was made from,
  pub block_back : (k : Kind) (s e : Bool) (a b : ℕ) → read_of (message_block k s e a b) ≡ Some (message_block_of k s e a b)
  -- so a message's blocks say its kind, the marks in their places, and its values
  pub message_back : (k : Kind) (us : List ℕ) → reads_of (message_blocks k us) ≡ message_parts k us
  -- a message of lawful values has as many blocks as its kind
  pub block_count : (k : Kind) (vs : List ℕ) → lawful k vs ≡ true → length (message_blocks k (filled_values vs)) ≡ block_count_of k
  -- filled values are as long, have the bits that were given before the remainder, and leave 0
  pub same_length : (vs : List ℕ) → 2 ≤ length vs → length (filled_values vs) ≡ length vs
  pub same_covered_bits : (vs : List ℕ) → 2 ≤ length vs → covered_value_bits (filled_values vs) ≡ covered_value_bits vs
  pub zero_remainder : (vs : List ℕ) → 2 ≤ length vs → crc12 (bits (filled_values vs)) ≡ 0
  pub eleven : PayloadTypeEleven
