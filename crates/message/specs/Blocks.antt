-- A message block is a control block. Its bytes:
--   0       4B, the type of an ordered set
--   1       head: bit 0 is the start mark, bit 1 the end mark, and the six bits above are the code of the kind
--   2, 3    values
--   4       0C: the low half is the ordered set's code, and C is that of path messages
--   5 to 7  zeros
use Rattle.std.specs.Prelude.{◌≡◌, ◌↔◌, ℕ, ◌+◌, ◌*◌, ◌/◌, ◌%◌, Bool, if◌then◌else◌, ◌&&◌, List, [], ◌∷◌, Some, None, IsSome, Option, ◌==◌, slice_index, slice_index_or}
use Rattle.block.specs.declared.Block.{Block}
use Rattle.block.specs.declared.Sync.TheVariants.{Zeros, Control, Data, Ones}
use Rattle.message.specs.declared.Kind.{Kind}
use Rattle.message.specs.declared.MessageBlock.{MessageBlock}
use Rattle.message.specs.Kinds.{code_of, kind_of}

-- a bit as a number
abbrev pub bit : Bool → ℕ
bit b = if b then 1 else 0

abbrev pub head_of : Kind → Bool → Bool → ℕ
head_of k starts ends = 4 * code_of k + (2 * bit ends + bit starts)

abbrev pub message_block : Kind → Bool → Bool → ℕ → ℕ → Block
message_block k starts ends first second =
    record { sync = Control; bytes = 0x4B ∷ head_of k starts ends ∷ first ∷ second ∷ 0x0C ∷ 0 ∷ 0 ∷ 0 ∷ [] }

-- what the bytes of a control block say; the high half of byte 4 and the bytes behind it have no part in that
abbrev pub message_in_bytes : List ℕ → Option MessageBlock
message_in_bytes bytes =
    let head : ℕ = slice_index_or bytes 1 0 in
    if slice_index bytes 0 == 0x4B && slice_index bytes 4 % 16 == 0x0C
    then Some (record {
      kind = kind_of (head / 4);
      starts = (head % 2 == 1);
      ends = (head / 2 % 2 == 1);
      first = slice_index bytes 2;
      second = slice_index bytes 3;
    })
    else None

-- what a block says, if it is a message block
abbrev pub read_of : Block → Option MessageBlock
read_of b = elim b.sync [ Zeros ↦ None | Control ↦ message_in_bytes b.bytes | Data ↦ None | Ones ↦ None ]

-- what a message block of a known kind is to say
abbrev pub message_block_of : Kind → Bool → Bool → ℕ → ℕ → MessageBlock
message_block_of k s e a b = record { kind = Some k; starts = s; ends = e; first = a; second = b }

-- a block is a message block exactly if it is a control block of type 4B with C in the low half of byte 4
abbrev pub MessageBlocksTold : Type 0
MessageBlocksTold = (b : Block) → IsSome (read_of b) ↔ ((b.sync ≡ Control) × (slice_index b.bytes 0 ≡ 0x4B) × (slice_index b.bytes 4 % 16 ≡ 0x0C))
