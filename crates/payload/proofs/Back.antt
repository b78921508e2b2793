-- Blocks and pairs written in bits and read back.
use Rattle.std.proofs.Common.{◌≡◌, ℕ, Bool, true, false, List, [], ◌∷◌, ◌++◌, length, take, drop, sym, refl, ap, ◌∙◌, arith, length-append, length-drop}
use Rattle.std.proofs.lemmas.List.{drop_at, length-take-le, take-append-drop, take_at}
use Rattle.block.specs.declared.Block.{Block}
use Rattle.block.specs.declared.Pair.{Pair}
use Rattle.block.specs.declared.Sync.{Sync}
use Rattle.block.specs.declared.Sync.TheVariants.{Zeros, Control, Data, Ones}
use Rattle.block.specs.Syncs.{sync_bits, sync_of}
use Rattle.block.specs.Whole.{Whole, WholePair}
use Rattle.block.proofs.Blocks.{same_block}
use Rattle.bits.specs.Bits.{bits, low_value, packed_bytes}
use Rattle.bits.proofs.Packing.{length_packed, packed_below}
use Rattle.bits.proofs.Places.{length_bits, numbered}
use Rattle.payload.specs.Pairs.{block_bits, block_of, pair_bits, pair_of}

-- sync bits
sync_length : (y : Sync) → length (sync_bits y) ≡ 2
sync_length Zeros = refl
sync_length Control = refl
sync_length Data = refl
sync_length Ones = refl

sync_back : (y : Sync) → sync_of (low_value (sync_bits y)) ≡ y
sync_back Zeros = refl
sync_back Control = refl
sync_back Data = refl
sync_back Ones = refl

sync_of_is : (bs : List Bool) → length bs ≡ 2 → sync_bits (sync_of (low_value bs)) ≡ bs
sync_of_is [] e = absurd (omega arith)
sync_of_is (a ∷ []) e = absurd (omega arith)
sync_of_is (false ∷ false ∷ []) e = refl
sync_of_is (true ∷ false ∷ []) e = refl
sync_of_is (false ∷ true ∷ []) e = refl
sync_of_is (true ∷ true ∷ []) e = refl
sync_of_is (a ∷ b ∷ c ∷ bs) e = absurd (omega arith)

-- blocks
block_length : (b : Block) → Whole b → length (block_bits b) ≡ 66
block_length b w = length-append (sync_bits b.sync) (bits b.bytes) ∙ omega (arith, sync_length b.sync, length_bits b.bytes, w.0)

block_back : (b : Block) → Whole b → block_of (block_bits b) ≡ b
block_back b w =
    let y : List Bool = sync_bits b.sync in
    let l : List Bool = bits b.bytes in
    same_block (block_of (block_bits b)) b
    (ap (λ (z : List Bool). sync_of (low_value z)) (take_at y l 2 (sync_length b.sync)) ∙ sync_back b.sync)
    (ap (λ (z : List Bool). packed_bytes 8 z) (drop_at y l 2 (sync_length b.sync)) ∙ ap (λ (n : ℕ). packed_bytes n l) (sym w.0) ∙ numbered.packs b.bytes (λ i h. w.1 i))

block_bits_back : (l : List Bool) → length l ≡ 66 → block_bits (block_of l) ≡ l
block_bits_back l e =
    ap (λ (z : List Bool). z ++ bits (packed_bytes 8 (drop 2 l))) (sync_of_is (take 2 l) (length-take-le 2 l (omega arith)))
    ∙ ap (λ (z : List Bool). take 2 l ++ z) (numbered.unpacks 8 (drop 2 l) (length-drop 2 l ∙ omega arith))
    ∙ take-append-drop 2 l

-- whatever bits are read as a block, it is whole
block_whole : (l : List Bool) → Whole (block_of l)
block_whole l = (length_packed 8 (drop 2 l), packed_below 8 (drop 2 l))

-- pairs
same_pair : (p q : Pair) → p.first ≡ q.first → p.second ≡ q.second → p ≡ q
same_pair p q a b =
    let f : Block → Pair = λ x. record { first = x; second = p.second } in
    let g : Block → Pair = λ x. record { first = q.first; second = x } in
    ap f a ∙ ap g b

pub pair_length : (p : Pair) → WholePair p → length (pair_bits p) ≡ 132
pair_length p w = length-append (block_bits p.first) (block_bits p.second)
    ∙ omega (arith, block_length p.first w.0, block_length p.second w.1)

pub pair_back : (p : Pair) → WholePair p → pair_of (pair_bits p) ≡ p
pair_back p w =
    let a : List Bool = block_bits p.first in
    let b : List Bool = block_bits p.second in
    same_pair (pair_of (pair_bits p)) p
    (ap block_of (take_at a b 66 (block_length p.first w.0)) ∙ block_back p.first w.0)
    (ap block_of (drop_at a b 66 (block_length p.first w.0)) ∙ block_back p.second w.1)

pub pair_bits_back : (l : List Bool) → length l ≡ 132 → pair_bits (pair_of l) ≡ l
pair_bits_back l e =
    ap (λ (z : List Bool). z ++ block_bits (block_of (drop 66 l))) (block_bits_back (take 66 l) (length-take-le 66 l (omega arith)))
    ∙ ap (λ (z : List Bool). take 66 l ++ z) (block_bits_back (drop 66 l) (length-drop 66 l ∙ omega arith))
    ∙ take-append-drop 66 l

pub pair_whole : (l : List Bool) → WholePair (pair_of l)
pair_whole l = (block_whole (take 66 l), block_whole (drop 66 l))
