-- Where the bits of bytes stand.
use Rattle.std.proofs.Common.{◌≡◌, ℕ, zero, suc, ◌+◌, ◌-◌, ◌*◌, ◌/◌, ◌%◌, ◌^◌, ◌<◌, ◌≤◌, min, Bool, true, false, eqb, ◌⊎◌, List, [], ◌∷◌, ◌++◌, length, get_or, take, drop, sym, refl, ap, ◌∙◌, ap₂, inl, inr, ⊎_elim, pow-suc, div-one, arith, shr-shr}
use Rattle.std.proofs.lemmas.List.{length-append, get_or_append_left, get_or-append-add, drop_more, length-drop, take_all, take_at, drop_at, length-take-le, take-append-drop, nil_from_length}
use Rattle.std.proofs.lemmas.Bool.{cases_lt}
use Rattle.bits.specs.Bits.{odd, low_first, bits, field, low_value, packed_bytes, BitsAreNumbered}
use Rattle.bits.proofs.Digits.{digit}

pub length_low : (k n : ℕ) → length (low_first k n) ≡ k
unfolding low_first
length_low zero n = refl
length_low (suc k) n = ap suc (length_low k (n / 2))

pub length_bits : (bytes : List ℕ) → length (bits bytes) ≡ 8 * length bytes
unfolding bits
length_bits [] = refl
length_bits (b ∷ bs) = omega (arith, length-append (low_first 8 b) (bits bs), length_low 8 b, length_bits bs)

-- digit r of a number
pub low_digit : (k n r : ℕ) → r < k → get_or (low_first k n) r false ≡ odd (n / 2 ^ r)
unfolding low_first
low_digit zero n r h = absurd (omega arith)
low_digit (suc k) n zero h = ap odd (sym (div-one n))
low_digit (suc k) n (suc r) h =
    low_digit k (n / 2) r (omega arith)
    ∙ ap odd (shr-shr n 1 r ∙ ap (λ (x : ℕ). n / 2 ^ x) (let e : 1 + r ≡ suc r = omega arith in e))

pub bit_place : (bytes : List ℕ) (q r : ℕ) → q < length bytes → r < 8 → get_or (bits bytes) (8 * q + r) false ≡ odd (get_or bytes q 0 / 2 ^ r)
unfolding bits
bit_place [] q r h l = absurd (omega arith)
bit_place (b ∷ bs) zero r h l =
    ap (λ (i : ℕ). get_or (low_first 8 b ++ bits bs) i false) (let e : 8 * 0 + r ≡ r = omega arith in e)
    ∙ get_or_append_left (low_first 8 b) (bits bs) false r (omega (arith, length_low 8 b))
    ∙ low_digit 8 b r l
bit_place (b ∷ bs) (suc q) r h l =
    ap (λ (i : ℕ). get_or (low_first 8 b ++ bits bs) i false) (let e : 8 * suc q + r ≡ length (low_first 8 b) + (8 * q + r) = omega (arith, length_low 8 b) in e)
    ∙ get_or-append-add (low_first 8 b) (bits bs) (8 * q + r) false
    ∙ bit_place bs q r (omega arith) l

-- ---- bits and the number that they write, the lowest first
pub low_value_is : (bs : List Bool) → low_first (length bs) (low_value bs) ≡ bs
unfolding low_first
low_value_is [] = refl
low_value_is (true ∷ bs) =
    ap₂ (λ (x : Bool) (xs : List Bool). x ∷ xs)
    (ap (λ (x : ℕ). eqb x 1) (let e : (1 + 2 * low_value bs) % 2 ≡ 1 = omega arith in e))
    (ap (low_first (length bs)) (let e : (1 + 2 * low_value bs) / 2 ≡ low_value bs = omega arith in e) ∙ low_value_is bs)
low_value_is (false ∷ bs) =
    ap₂ (λ (x : Bool) (xs : List Bool). x ∷ xs)
    (ap (λ (x : ℕ). eqb x 1) (let e : (2 * low_value bs) % 2 ≡ 0 = omega arith in e))
    (ap (low_first (length bs)) (let e : (2 * low_value bs) / 2 ≡ low_value bs = omega arith in e) ∙ low_value_is bs)

pub value_low : (k n : ℕ) → n < 2 ^ k → low_value (low_first k n) ≡ n
unfolding low_first
value_low zero n h = omega arith
value_low (suc k) n h =
    let rest : low_value (low_first k (n / 2)) ≡ n / 2 = value_low k (n / 2) (omega (arith, pow-suc 2 k)) in
    ⊎_elim
    (λ (e : n % 2 ≡ 0). ap (λ (x : ℕ). low_value (eqb x 1 ∷ low_first k (n / 2))) e ∙ omega (arith, rest))
    (λ (e : n % 2 ≡ 1). ap (λ (x : ℕ). low_value (eqb x 1 ∷ low_first k (n / 2))) e ∙ omega (arith, rest))
    (digit n)

packs : (bytes : List ℕ) → ((i : ℕ) → i < length bytes → get_or bytes i 0 < 256) → packed_bytes (length bytes) (bits bytes) ≡ bytes
unfolding bits packed_bytes
packs [] h = refl
packs (b ∷ bs) h =
    ap₂ (λ (x : ℕ) (xs : List ℕ). x ∷ xs)
    (ap low_value (take_at (low_first 8 b) (bits bs) 8 (length_low 8 b)) ∙ value_low 8 b (h 0 (omega arith)))
    (ap (packed_bytes (length bs)) (drop_at (low_first 8 b) (bits bs) 8 (length_low 8 b)) ∙ packs bs (λ i l. h (suc i) (omega arith)))

unpacks : (n : ℕ) (bs : List Bool) → length bs ≡ 8 * n → bits (packed_bytes n bs) ≡ bs
unfolding bits packed_bytes
unpacks zero bs h = sym (nil_from_length bs h)
unpacks (suc n) bs h =
    ap₂ (λ (xs ys : List Bool). xs ++ ys)
    (ap (λ (k : ℕ). low_first k (low_value (take 8 bs))) (sym (length-take-le 8 bs (omega arith))) ∙ low_value_is (take 8 bs))
    (unpacks n (drop 8 bs) (omega (arith, length-drop 8 bs)))
    ∙ take-append-drop 8 bs

pub numbered : BitsAreNumbered
numbered = record { eight = length_bits; places = bit_place; packs = packs; unpacks = unpacks }

-- a field begins with its first bit
pub field_step : (bytes : List ℕ) (i to : ℕ) → i < to → i < 8 * length bytes
    → field bytes i to ≡ odd (get_or bytes (i / 8) 0 / 2 ^ (i % 8)) ∷ field bytes (i + 1) to
field_step bytes i to h l =
    ap₂ take (let e : to - i ≡ suc (to - (i + 1)) = omega arith in e) (drop_more (bits bytes) i false (omega (arith, length_bits bytes)))
    ∙ ap (λ (b : Bool). b ∷ field bytes (i + 1) to)
    (ap (λ (x : ℕ). get_or (bits bytes) x false) (let e : i ≡ 8 * (i / 8) + i % 8 = omega arith in e)
    ∙ bit_place bytes (i / 8) (i % 8) (omega arith) (omega arith))

pub field_none : (bytes : List ℕ) (i to : ℕ) → to ≤ i → field bytes i to ≡ []
field_none bytes i to h = ap (λ (n : ℕ). take n (drop i (bits bytes))) (let e : to - i ≡ 0 = omega arith in e)

-- what lies behind the last byte is no part of a field
field_end : (bytes : List ℕ) (from to end : ℕ) → 8 * length bytes ≤ to → 8 * length bytes ≤ end → field bytes from end ≡ field bytes from to
field_end bytes from to end h l =
    take_all (end - from) (drop from (bits bytes)) (omega (arith, length-drop from (bits bytes), length_bits bytes))
    ∙ sym (take_all (to - from) (drop from (bits bytes)) (omega (arith, length-drop from (bits bytes), length_bits bytes)))

-- so it may be cut there
pub field_cut : (bytes : List ℕ) (from to end : ℕ) → (end ≡ to) ⊎ ((8 * length bytes ≤ to) × (8 * length bytes ≤ end)) → field bytes from end ≡ field bytes from to
field_cut bytes from to end (inl e) = ap (field bytes from) e
field_cut bytes from to end (inr h) = field_end bytes from to end h.0 h.1

pub cut_at : (len to end : ℕ) → end ≡ min to (min (len * 8) (2 ^ 64 - 1)) → to < 2 ^ 64 → (end ≡ to) ⊎ ((8 * len ≤ to) × (8 * len ≤ end))
cut_at len to end e h =
    ⊎_elim (λ (k : to < 8 * len). inl (omega arith)) (λ (k : 8 * len ≤ to). inr (omega arith, omega arith)) (cases_lt to (8 * len))
