-- The number that bits write, the highest digit first: how large it is, and reading back.
use Rattle.std.proofs.Common.{◌≡◌, ℕ, zero, suc, ◌+◌, ◌*◌, ◌/◌, ◌%◌, ◌^◌, ◌<◌, Bool, true, false, eqb, ◌⊎◌, inl, inr, List, [], ◌∷◌, length, sym, refl, ap, ap₂, ◌∙◌, mod-eq_of_lt, pow-suc, one-add, arith, pow_pos}
use Rattle.std.proofs.lemmas.Nat.{shr_high, mod_low, mod-pow-add}
use Rattle.bits.specs.Bits.{odd, high_first, high_value}
use Rattle.bits.specs.ReadBack.{ReadBack}
use Rattle.bits.proofs.Digits.{digit, high_mod, length_high}
use Rattle.bits.proofs.Places.{low_value_is, value_low}

pub value_lt : (bs : List Bool) → high_value bs < 2 ^ length bs
value_lt [] = pow_pos 0
value_lt (true ∷ bs) = omega (arith, pow-suc 2 (length bs), value_lt bs)
value_lt (false ∷ bs) = omega (arith, pow-suc 2 (length bs), value_lt bs)

-- a digit as a number
abbrev digit_of : Bool → ℕ
digit_of true = 1
digit_of false = 0

odd_digit : (b : Bool) → odd (digit_of b) ≡ b
odd_digit true = refl
odd_digit false = refl

digit_odd : (n : ℕ) → digit_of (odd n) ≡ n % 2
digit_odd n = go (n % 2) (digit n)
  where
    go : (t : ℕ) → (t ≡ 0) ⊎ (t ≡ 1) → digit_of (eqb t 1) ≡ t
    go t (inl e) = simp e
    go t (inr e) = simp e

-- the highest digit, and the others
value_cons : (b : Bool) (bs : List Bool) → high_value (b ∷ bs) ≡ digit_of b * 2 ^ length bs + high_value bs
value_cons true bs = omega arith
value_cons false bs = omega arith

pub high_value_is : (bs : List Bool) → high_first (length bs) (high_value bs) ≡ bs
unfolding high_first
high_value_is [] = refl
high_value_is (b ∷ bs) =
    let n : ℕ = length bs in
    let d : ℕ = digit_of b in
    let v : ℕ = high_value bs in
    ap₂ (λ (x : Bool) (xs : List Bool). x ∷ xs)
    (ap odd (ap (λ (x : ℕ). x / 2 ^ n) (value_cons b bs) ∙ shr_high d n v (value_lt bs)) ∙ odd_digit b)
    (high_mod n (high_value (b ∷ bs)) v
    (ap (λ (x : ℕ). x % 2 ^ n) (value_cons b bs) ∙ mod_low d n v (value_lt bs) ∙ sym (mod-eq_of_lt (value_lt bs)))
    ∙ high_value_is bs)

pub value_high : (k n : ℕ) → high_value (high_first k n) ≡ n % 2 ^ k
unfolding high_first
value_high zero n = let e : 0 ≡ n % 1 = omega arith in e
value_high (suc k) n =
    value_cons (odd (n / 2 ^ k)) (high_first k n)
    ∙ ap₂ (λ (x y : ℕ). x * 2 ^ length (high_first k n) + y) (digit_odd (n / 2 ^ k)) (value_high k n)
    ∙ ap (λ (x : ℕ). (n / 2 ^ k % 2) * 2 ^ x + n % 2 ^ k) (length_high k n)
    ∙ sym (mod-pow-add n 1 k)
    ∙ ap (λ (x : ℕ). n % 2 ^ x) (one-add k)

-- ---- and all that is read back
pub read_back : ReadBack
read_back = record {
  low_read = value_low;
  low_written = low_value_is;
  high_read = λ k n h. value_high k n ∙ mod-eq_of_lt h;
  high_written = high_value_is;
}
