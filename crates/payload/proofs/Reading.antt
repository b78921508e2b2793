-- The words that are read at half-byte places are the bits of two blocks.
use Rattle.std.proofs.Common.{◌≡◌, ℕ, zero, suc, ◌+◌, ◌*◌, ◌/◌, ◌%◌, ◌^◌, ◌<◌, Bool, List, [], ◌∷◌, ◌++◌, map, take, drop, sym, ap, ◌∙◌, arith}
use Rattle.std.specs.Int.Bits.{bit_and, bit_or, or_shifted_r}
use Rattle.std.proofs.lemmas.Nat.{and_mask}
use Rattle.std.proofs.Math.Seq.{take-add}
use Rattle.std.proofs.lemmas.List.{drop-drop}
use Rattle.block.specs.declared.Sync.{Sync}
use Rattle.block.specs.declared.Sync.TheVariants.{Zeros, Control, Data, Ones}
use Rattle.block.specs.Syncs.{sync_bits, sync_number}
use Rattle.block.specs.Whole.{Bytes}
use Rattle.bits.specs.Bits.{low_first}
use Rattle.bits.proofs.Places.{low_value_is}
use Rattle.bits.proofs.Words.{low_more, low_three}
use Rattle.payload.proofs.Halves.{pair_join}

-- sync bits written by their number
sync_written : (s : Sync) → low_first 2 (sync_number s) ≡ sync_bits s
sync_written Zeros = low_value_is (sync_bits Zeros)
sync_written Control = low_value_is (sync_bits Control)
sync_written Data = low_value_is (sync_bits Data)
sync_written Ones = low_value_is (sync_bits Ones)

-- the sync bits are the two lowest bits of their number
pub sync_low : (s : Sync) (x : ℕ) → sync_number s ≡ x % 4 → sync_bits s ≡ low_first 2 x
sync_low s x e =
    let f : x ≡ x % 4 + 2 ^ 2 * (x / 4) = omega arith in
    sym (sync_written s) ∙ ap (low_first 2) e ∙ sym (ap (low_first 2) f ∙ low_more 2 (x % 4) (x / 4))

pub mod_bytes : (xs : List ℕ) → Bytes (map (λ x. x % 256) xs)
mod_bytes [] i = omega arith
mod_bytes (x ∷ xs) zero = omega arith
mod_bytes (x ∷ xs) (suc i) = mod_bytes xs i

-- bits that follow one another
take_three : (a b c s t u : ℕ) (B : List Bool) → t ≡ s + a → u ≡ s + (a + b) →
    take (a + (b + c)) (drop s B) ≡ take a (drop s B) ++ (take b (drop t B) ++ take c (drop u B))
take_three a b c s t u B e f =
    let g : s + a + b ≡ u = omega arith in
    take-add a (b + c) (drop s B)
    ∙ ap (λ (l : List Bool). take a (drop s B) ++ take (b + c) l) (drop-drop a s B ∙ ap (λ (n : ℕ). drop n B) (sym e))
    ∙ ap (λ (l : List Bool). take a (drop s B) ++ l) (take-add b c (drop t B)
    ∙ ap (λ (l : List Bool). take b (drop t B) ++ take c l)
    (drop-drop b t B ∙ ap (λ (n : ℕ). drop (n + b) B) e ∙ ap (λ (n : ℕ). drop n B) g))

-- x | y << k, at 64 bits, where x is below 2 ^ k
pub or_shl_62 : (x y : ℕ) → x < 2 ^ 62 → bit_or x ((y * 2 ^ 62) % 2 ^ 64) ≡ x + 2 ^ 62 * (y % 4)
or_shl_62 x y h =
    let e : (y * 2 ^ 62) % 2 ^ 64 ≡ (y % 4) * 2 ^ 62 = omega arith in
    ap (λ (z : ℕ). bit_or x z) e ∙ or_shifted_r (y % 4) 62 x h ∙ omega arith

pub or_shl_60 : (x y : ℕ) → x < 2 ^ 60 → bit_or x ((y * 2 ^ 60) % 2 ^ 64) ≡ x + 2 ^ 60 * (y % 16)
or_shl_60 x y h =
    let e : (y * 2 ^ 60) % 2 ^ 64 ≡ (y % 16) * 2 ^ 60 = omega arith in
    ap (λ (z : ℕ). bit_or x z) e ∙ or_shifted_r (y % 16) 60 x h ∙ omega arith

pub or_shl_2 : (x y : ℕ) → x < 2 ^ 2 → bit_or x ((y * 4) % 2 ^ 64) ≡ x + 4 * (y % 2 ^ 62)
or_shl_2 x y h =
    let e : (y * 4) % 2 ^ 64 ≡ (y % 2 ^ 62) * 2 ^ 2 = omega arith in
    ap (λ (z : ℕ). bit_or x z) e ∙ or_shifted_r (y % 2 ^ 62) 2 x h ∙ omega arith

pub low_pair : (B X Y : List Bool) (at lo hi last : ℕ) → lo < 2 ^ 64 → hi < 2 ^ 64 →
    low_first 64 lo ≡ take 64 (drop (8 * at) B) → low_first 64 hi ≡ take 64 (drop (8 * (at + 8)) B) → take 4 (drop (8 * (at + 16)) B) ≡ low_first 4 last →
    X ≡ low_first 2 (bit_and lo 3) ++ low_first 64 (bit_or (lo / 4) ((hi * 2 ^ 62) % 2 ^ 64)) →
    Y ≡ low_first 2 (bit_and (hi / 4) 3) ++ low_first 64 (bit_or (hi / 16) ((last * 2 ^ 60) % 2 ^ 64)) →
    X ++ Y ≡ take 132 (drop (8 * at) B)
low_pair B X Y at lo hi last l m e f g p q =
    let a : bit_and lo 3 ≡ lo % 4 = and_mask lo 2 in
    let b : bit_and (hi / 4) 3 ≡ hi / 4 % 4 = and_mask (hi / 4) 2 in
    let c = or_shl_62 (lo / 4) hi (omega arith) in
    let d = or_shl_60 (hi / 16) last (omega arith) in
    let r : last ≡ last % 16 + 2 ^ 4 * (last / 16) = omega arith in
    let x : bit_and lo 3 + 4 * bit_or (lo / 4) ((hi * 2 ^ 62) % 2 ^ 64) + 2 ^ 66 * (bit_and (hi / 4) 3 + 4 * bit_or (hi / 16) ((last * 2 ^ 60) % 2 ^ 64))
    ≡ lo + 2 ^ 64 * hi + 2 ^ 128 * (last % 16) = omega arith in
    ap (λ (z : List Bool). z ++ Y) p ∙ ap (λ (z : List Bool). (low_first 2 (bit_and lo 3) ++ low_first 64 (bit_or (lo / 4) ((hi * 2 ^ 62) % 2 ^ 64))) ++ z) q
    ∙ pair_join (bit_and lo 3) _ (bit_and (hi / 4) 3) _ (omega arith) (omega arith) (omega arith)
    ∙ ap (λ (z : ℕ). low_first 132 z) x
    ∙ sym (low_three 64 64 4 lo hi (last % 16) l (omega arith))
    ∙ ap (λ (z : List Bool). low_first 64 lo ++ (low_first 64 hi ++ z)) (sym (ap (λ (z : ℕ). low_first 4 z) r ∙ low_more 4 (last % 16) (last / 16)) ∙ sym g)
    ∙ ap (λ (z : List Bool). z ++ (low_first 64 hi ++ take 4 (drop (8 * (at + 16)) B))) e
    ∙ ap (λ (z : List Bool). take 64 (drop (8 * at) B) ++ (z ++ take 4 (drop (8 * (at + 16)) B))) f
    ∙ sym (take_three 64 64 4 (8 * at) (8 * (at + 8)) (8 * (at + 16)) B (omega arith) (omega arith))

pub high_pair : (B X Y : List Bool) (at lo hi first : ℕ) → first < 256 → lo < 2 ^ 64 → hi < 2 ^ 64 →
    take 4 (drop (8 * at + 4) B) ≡ low_first 4 (first / 16) → low_first 64 lo ≡ take 64 (drop (8 * (at + 1)) B) → low_first 64 hi ≡ take 64 (drop (8 * (at + 9)) B) →
    X ≡ low_first 2 (bit_and (first / 16) 3) ++ low_first 64 (bit_or (first / 64) ((lo * 4) % 2 ^ 64)) →
    Y ≡ low_first 2 (lo / 2 ^ 62) ++ low_first 64 hi →
    X ++ Y ≡ take 132 (drop (8 * at + 4) B)
high_pair B X Y at lo hi first t l m e f g p q =
    let a : bit_and (first / 16) 3 ≡ first / 16 % 4 = and_mask (first / 16) 2 in
    let c = or_shl_2 (first / 64) lo (omega arith) in
    let x : bit_and (first / 16) 3 + 4 * bit_or (first / 64) ((lo * 4) % 2 ^ 64) + 2 ^ 66 * (lo / 2 ^ 62 + 4 * hi)
    ≡ first / 16 + 2 ^ 4 * lo + 2 ^ 68 * hi = omega arith in
    ap (λ (z : List Bool). z ++ Y) p ∙ ap (λ (z : List Bool). (low_first 2 (bit_and (first / 16) 3) ++ low_first 64 (bit_or (first / 64) ((lo * 4) % 2 ^ 64))) ++ z) q
    ∙ pair_join (bit_and (first / 16) 3) _ (lo / 2 ^ 62) _ (omega arith) (omega arith) (omega arith)
    ∙ ap (λ (z : ℕ). low_first 132 z) x
    ∙ sym (low_three 4 64 64 (first / 16) lo hi (omega arith) (omega arith))
    ∙ ap (λ (z : List Bool). z ++ (low_first 64 lo ++ low_first 64 hi)) (sym e)
    ∙ ap (λ (z : List Bool). take 4 (drop (8 * at + 4) B) ++ (z ++ low_first 64 hi)) f
    ∙ ap (λ (z : List Bool). take 4 (drop (8 * at + 4) B) ++ (take 64 (drop (8 * (at + 1)) B) ++ z)) g
    ∙ sym (take_three 4 64 64 (8 * at + 4) (8 * (at + 1)) (8 * (at + 9)) B (omega arith) (omega arith))
