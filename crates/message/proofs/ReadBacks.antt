-- Every message block is read as what it was made from.
use Rattle.std.proofs.Common.{◌≡◌, ℕ, suc, ◌+◌, Bool, true, false, eqb, List, [], ◌∷◌, Some, None, Option, refl, ap, ◌∙◌}
use Rattle.block.specs.declared.Block.{Block}
use Rattle.bits.specs.Bits.{low_first, high_first, bits, packed_bytes}
use Rattle.crc.specs.Remainder.{reduce, step}
use Rattle.message.specs.declared.Kind.{Kind}
use Rattle.message.specs.declared.Kind.TheVariants.{Basic, Aps, Cv, OneDm, TwoDmm, TwoDmr, Cs}
use Rattle.message.specs.declared.MessageBlock.{MessageBlock}
use Rattle.message.specs.Kinds.{block_count_of}
use Rattle.message.specs.Blocks.{message_block, read_of, message_block_of}
use Rattle.message.specs.Values.{filled_values, map_pairs}
use Rattle.message.specs.Written.{message_block_at, message_parts, reads_of, message_blocks, PayloadTypeEleven}

pub read_back : (k : Kind) (s e : Bool) (a b : ℕ) → read_of (message_block k s e a b) ≡ Some (message_block_of k s e a b)
read_back Basic true true a b = refl
read_back Basic true false a b = refl
read_back Basic false true a b = refl
read_back Basic false false a b = refl
read_back Aps true true a b = refl
read_back Aps true false a b = refl
read_back Aps false true a b = refl
read_back Aps false false a b = refl
read_back Cv true true a b = refl
read_back Cv true false a b = refl
read_back Cv false true a b = refl
read_back Cv false false a b = refl
read_back OneDm true true a b = refl
read_back OneDm true false a b = refl
read_back OneDm false true a b = refl
read_back OneDm false false a b = refl
read_back TwoDmm true true a b = refl
read_back TwoDmm true false a b = refl
read_back TwoDmm false true a b = refl
read_back TwoDmm false false a b = refl
read_back TwoDmr true true a b = refl
read_back TwoDmr true false a b = refl
read_back TwoDmr false true a b = refl
read_back TwoDmr false false a b = refl
read_back Cs true true a b = refl
read_back Cs true false a b = refl
read_back Cs false true a b = refl
read_back Cs false false a b = refl

next : (b : Block) (m : MessageBlock) (bs : List Block) → read_of b ≡ Some m → reads_of (b ∷ bs) ≡ m ∷ reads_of bs
next b m bs e = ap (λ (o : Option MessageBlock). elim o [ None ↦ reads_of bs | Some n ↦ n ∷ reads_of bs ]) e

pairs_read_back : (k : Kind) (j : ℕ) (us : List ℕ)
    → reads_of (map_pairs (message_block_at k) j us) ≡ map_pairs (λ i a b. message_block_of k (eqb i 0) (eqb (i + 1) (block_count_of k)) a b) j us
pairs_read_back k j [] = refl
pairs_read_back k j (a ∷ []) = refl
pairs_read_back k j (a ∷ b ∷ us) =
    next (message_block_at k j a b) (message_block_of k (eqb j 0) (eqb (j + 1) (block_count_of k)) a b) (map_pairs (message_block_at k) (suc j) us)
    (read_back k (eqb j 0) (eqb (j + 1) (block_count_of k)) a b)
    ∙ ap (λ (l : List MessageBlock). message_block_of k (eqb j 0) (eqb (j + 1) (block_count_of k)) a b ∷ l) (pairs_read_back k (suc j) us)

pub blocks_read_back : (k : Kind) (us : List ℕ) → reads_of (message_blocks k us) ≡ message_parts k us
blocks_read_back k us = pairs_read_back k 0 us

pub eleven : PayloadTypeEleven
unfolding filled_values packed_bytes bits low_first high_first step reduce
eleven = refl
