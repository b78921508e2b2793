-- The last two value bytes: four bits that are the sender's, then the remainder, its highest coefficient first.
use Rattle.std.proofs.Common.{◌≡◌, ℕ, zero, suc, ◌+◌, ◌-◌, ◌*◌, ◌/◌, ◌%◌, ◌^◌, ◌<◌, ◌≤◌, Bool, List, [], ◌∷◌, ◌++◌, length, get_or, take, drop, sym, refl, ap, ◌∙◌, ap₂, append_assoc, zero-add, div-one, arith, shr-shr}
use Rattle.std.specs.Int.{reverse_bits_onto}
use Rattle.std.proofs.Math.Seq.{take-add}
use Rattle.std.proofs.lemmas.List.{drop_more, length-append}
use Rattle.bits.specs.Bits.{low_first, high_first, bits, field, packed_bytes}
use Rattle.bits.proofs.Digits.{low_reversed, length_high}
use Rattle.bits.proofs.Parts.{bits_append, drop_bits, take_bits}
use Rattle.bits.proofs.Places.{numbered, length_low}
use Rattle.bits.proofs.Words.{bits_low, low_append, num}
use Rattle.message.specs.Values.{covered_value_bits, crc12, filled_values}

-- digits turned round, in two parts
onto_split : (j k n a : ℕ) → reverse_bits_onto (j + k) n a ≡ reverse_bits_onto k (n / 2 ^ j) (reverse_bits_onto j n a)
unfolding reverse_bits_onto
onto_split zero k n a = ap₂ (λ (m x : ℕ). reverse_bits_onto m x a) (zero-add k) (sym (div-one n))
onto_split (suc j) k n a =
    ap (λ (m : ℕ). reverse_bits_onto m n a) (let e : suc j + k ≡ suc (j + k) = omega arith in e)
    ∙ onto_split j k (n / 2) (a * 2 + n % 2)
    ∙ ap (λ (x : ℕ). reverse_bits_onto k x (reverse_bits_onto j (n / 2) (a * 2 + n % 2)))
    (shr-shr n 1 j ∙ ap (λ (x : ℕ). n / 2 ^ x) (let e : 1 + j ≡ suc j = omega arith in e))

four_zeros : (a : ℕ) → reverse_bits_onto 4 0 a ≡ a * 16
unfolding reverse_bits_onto
four_zeros a = let e : (((a * 2 + 0) * 2 + 0) * 2 + 0) * 2 + 0 ≡ a * 16 = omega arith in e

-- twelve digits in a word of sixteen
pub turned : (r : ℕ) → r < 4096 → reverse_bits_onto 16 r 0 ≡ reverse_bits_onto 12 r 0 * 16
turned r h =
    onto_split 12 4 r 0
    ∙ ap (λ (x : ℕ). reverse_bits_onto 4 x (reverse_bits_onto 12 r 0)) (let e : r / 2 ^ 12 ≡ 0 = omega arith in e)
    ∙ four_zeros (reverse_bits_onto 12 r 0)

sixteen : (v x : ℕ) → x < 16 → low_first 16 (v * 16 + x) ≡ low_first 4 x ++ low_first 12 v
sixteen v x h = sym (low_append 4 12 x v h ∙ ap (low_first 16) (let e : x + 16 * v ≡ v * 16 + x = omega arith in e))

two_bytes : (y : ℕ) → y < 65536 → bits (y % 256 ∷ y / 256 % 256 ∷ []) ≡ low_first 16 y
unfolding num
two_bytes y h = bits_low (y % 256 ∷ y / 256 % 256 ∷ []) ∙ ap (low_first 16) (omega arith)

pub tail_bits : (r x w : ℕ) → r < 4096 → x < 16 → w < 65536 → w ≡ reverse_bits_onto 16 r 0
    → bits ((w + x) % 256 ∷ (w + x) / 256 % 256 ∷ []) ≡ low_first 4 x ++ high_first 12 r
tail_bits r x w hr hx hw e =
    let v : ℕ = reverse_bits_onto 12 r 0 in
    let f : w ≡ v * 16 = e ∙ turned r hr in
    two_bytes (w + x) (omega arith)
    ∙ ap (low_first 16) (let g : w + x ≡ v * 16 + x = omega arith in g)
    ∙ sixteen v x hx
    ∙ ap (λ (ys : List Bool). low_first 4 x ++ ys) (low_reversed 12 r)

pub tail_fits : (r x w : ℕ) → r < 4096 → x < 16 → w < 65536 → w ≡ reverse_bits_onto 16 r 0 → w + x < 65536
tail_fits r x w hr hx hw e = omega (arith, e ∙ turned r hr)

-- the four bits before the remainder
first_four : (x : ℕ) (vs : List ℕ) → take 4 (bits (x ∷ vs)) ≡ low_first 4 x
unfolding bits low_first
first_four x vs = refl

four_at : (vs : List ℕ) → 2 ≤ length vs → field vs (8 * length vs - 16) (8 * length vs - 12) ≡ low_first 4 (get_or vs (length vs - 2) 0)
four_at vs h =
    let n : ℕ = length vs in
    ap₂ (λ (k m : ℕ). take k (drop m (bits vs)))
    (let e : (8 * n - 12) - (8 * n - 16) ≡ 4 = omega arith in e)
    (let e : 8 * n - 16 ≡ 8 * (n - 2) = omega arith in e)
    ∙ ap (take 4) (drop_bits (n - 2) vs ∙ ap bits (drop_more vs (n - 2) 0 (omega arith)))
    ∙ first_four (get_or vs (n - 2) 0) (drop (n - 2 + 1) vs)

-- what the code puts in place of the last two bytes
pub last_filled : (vs : List ℕ) (r w x : ℕ) (tail : List ℕ) → 2 ≤ length vs → x ≡ get_or vs (length vs - 2) 0 → x < 16 → r < 4096 → r ≡ crc12 (covered_value_bits vs)
    → w < 65536 → w ≡ reverse_bits_onto 16 r 0 → tail ≡ (w + x) % 256 ∷ (w + x) / 256 % 256 ∷ []
    → take (length vs - 2) vs ++ tail ≡ filled_values vs
unfolding filled_values
last_filled vs r w x tail h ex hx hr er hw ew et =
    ap (λ (l : List ℕ). take (length vs - 2) vs ++ l)
    (et ∙ sym (numbered.packs ((w + x) % 256 ∷ (w + x) / 256 % 256 ∷ []) bytes)
    ∙ ap (packed_bytes 2)
    (tail_bits r x w hr hx hw ew
    ∙ ap₂ (λ (xs : List Bool) (k : ℕ). xs ++ high_first 12 k) (ap (low_first 4) ex ∙ sym (four_at vs h)) er))
  where
    bytes : (i : ℕ) → i < 2 → get_or ((w + x) % 256 ∷ (w + x) / 256 % 256 ∷ []) i 0 < 256
    bytes zero l = omega arith
    bytes (suc zero) l = omega arith
    bytes (suc (suc i)) l = absurd (omega arith)

-- ---- filled values: the bits that were given, and the remainder
pub filled_bits : (vs : List ℕ) → 2 ≤ length vs → bits (filled_values vs) ≡ covered_value_bits vs ++ high_first 12 (crc12 (covered_value_bits vs))
unfolding filled_values
filled_bits vs h =
    let n : ℕ = length vs in
    let four : List Bool = field vs (8 * n - 16) (8 * n - 12) in
    let tail : List Bool = high_first 12 (crc12 (covered_value_bits vs)) in
    let len : length (four ++ tail) ≡ 8 * 2 = length-append four tail ∙ ap₂ (λ (a b : ℕ). a + b) (ap length (four_at vs h) ∙ length_low 4 (get_or vs (n - 2) 0)) (length_high 12 (crc12 (covered_value_bits vs))) in
    bits_append (take (n - 2) vs) (packed_bytes 2 (four ++ tail))
    ∙ ap₂ (λ (xs ys : List Bool). xs ++ ys) (sym (take_bits (n - 2) vs)) (numbered.unpacks 2 (four ++ tail) len)
    ∙ sym (append_assoc (take (8 * (n - 2)) (bits vs)) four tail)
    ∙ ap (λ (xs : List Bool). xs ++ tail)
    (sym (ap (λ (m : ℕ). take m (bits vs)) (let e : 8 * n - 12 - 0 ≡ 8 * (n - 2) + 4 = omega arith in e)
    ∙ take-add (8 * (n - 2)) 4 (bits vs)
    ∙ ap₂ (λ (a b : ℕ). take (8 * (n - 2)) (bits vs) ++ take a (drop b (bits vs)))
    (let e : 4 ≡ (8 * n - 12) - (8 * n - 16) = omega arith in e) (let e : 8 * (n - 2) ≡ 8 * n - 16 = omega arith in e)))
