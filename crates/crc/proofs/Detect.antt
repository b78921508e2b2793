-- Changes of few bits and bursts leave a remainder: one argument over the degree, the generator and the length.
use Rattle.std.proofs.Common.{◌≡◌, ℕ, zero, suc, ◌+◌, ◌-◌, ◌*◌, ◌/◌, ◌%◌, ◌^◌, ◌<◌, ◌≤◌, Bool, true, false, List, [], ◌∷◌, ◌++◌, length, replicate, sym, refl, ap, ◌∙◌, ap₂, add-zero, add-suc, suc-add, pow-suc, zero-add, zero-mul, div-one, arith, pow_pos}
use Rattle.std.proofs.Math.Nat.{eq_of_mul-eq-mul_right}
use Rattle.std.specs.Int.Bits.{bit_xor, xor_self, xor_zero_r}
use Rattle.std.specs.Int.Count.{ones}
use Rattle.std.proofs.Math.Pow.{pow-lt}
use Rattle.bits.specs.Bits.{high_value}
use Rattle.crc.specs.Remainder.{step, reduce, remainder_onto, remainder}
use Rattle.crc.specs.Laws.{times, xors, weight, power, IsDetecting, SeesFew, SeesBursts, Detects}
use Rattle.crc.proofs.Laws.{onto_xor, onto-append, onto_parity, step_xor, step_zero, leading, shift_zero, back, xor_over, reduce_small, times_one}
use Rattle.crc.proofs.Division.{length_xors}

ones_zero : ones 0 ≡ 0
unfolding ones
ones_zero = refl

ones_one : ones 1 ≡ 1
unfolding ones
ones_one = refl

-- bits that write 0 are all 0
no_bits : (bs : List Bool) → high_value bs ≡ 0 → weight bs ≡ 0
no_bits [] e = refl
no_bits (true ∷ bs) e = absurd (omega (arith, pow_pos (length bs)))
no_bits (false ∷ bs) e = no_bits bs e

zero_factor : (a b : ℕ) → 0 < b → a * b ≡ 0 → a ≡ 0
zero_factor a b h e = eq_of_mul-eq-mul_right b h a 0 (e ∙ sym (zero-mul b))

module _ (w G n : ℕ) (good : IsDetecting w G n) where
  positive : 0 < w
  positive = go w good.degree
    where
      go : (v : ℕ) → G / 2 ^ v ≡ 1 → 0 < v
      go zero e = absurd (omega (arith, good.even, ap (λ (x : ℕ). ones x % 2) (sym (div-one G) ∙ e), ones_one))
      go (suc v) e = omega arith

  -- only 0 is shifted to 0, so a shift loses nothing
  zero_shift : (r : ℕ) → step w G r false ≡ 0 → r ≡ 0
  zero_shift r e = shift_zero w G r positive good.constant e

  same_shift : (r s : ℕ) → step w G r false ≡ step w G s false → r ≡ s
  same_shift r s e =
      xor_over r s 0
      (zero_shift (bit_xor r s)
      (step_xor w G r s false false ∙ ap (λ (x : ℕ). bit_xor x (step w G s false)) e ∙ xor_self (step w G s false)))

  -- no more changes: a register that is not 0 stays so
  stays : (e : List Bool) (r : ℕ) → weight e ≡ 0 → remainder_onto w G r e ≡ 0 → r ≡ 0
  stays [] r h z = z
  stays (true ∷ e) r h z = absurd (omega arith)
  stays (false ∷ e) r h z = zero_shift r (stays e (step w G r false) h z)

  -- below the degree x ^ k is itself, and x ^ w is what one bit leaves
  low_power : (k : ℕ) → k < w → power w G k ≡ 2 ^ k
  unfolding step
  low_power zero h = refl
  low_power (suc k) h =
      ap (λ (x : ℕ). reduce w G (bit_xor (x * 2) 0)) (low_power k (omega arith))
      ∙ ap (reduce w G) (xor_zero_r (2 ^ k * 2) ∙ sym (pow-suc 2 k))
      ∙ reduce_small w G (2 ^ suc k) (pow-lt h)

  first_power : step w G 0 true ≡ power w G w
  unfolding step
  first_power = go w refl positive
    where
      go : (v : ℕ) → v ≡ w → 0 < v → reduce w G (2 ^ w) ≡ power w G v
      go zero e h = absurd (omega arith)
      go (suc v) e h =
          ap (reduce w G) (ap (λ (x : ℕ). 2 ^ x) (sym e) ∙ pow-suc 2 v ∙ sym (xor_zero_r (2 ^ v * 2)))
          ∙ sym (ap (λ (x : ℕ). reduce w G (bit_xor (x * 2) 0)) (low_power v (omega arith)))

  -- x may be taken out of both sides
  cancel : (i j : ℕ) → power w G (i + j) ≡ power w G i → power w G j ≡ 1
  cancel zero j e = ap (power w G) (sym (zero-add j)) ∙ e
  cancel (suc i) j e =
      cancel i j (same_shift (power w G (i + j)) (power w G i) (sym (ap (power w G) (suc-add i j)) ∙ e))

  -- a second change, j places behind the first, brings the register back to 0 only if x ^ j is 1
  returns : (k : ℕ) → step w G (power w G (w + k)) true ≡ 0 → power w G (suc k) ≡ 1
  returns k e =
      let sum : bit_xor (step w G (power w G (w + k)) false) (step w G 0 true) ≡ 0
      = sym (step_xor w G (power w G (w + k)) 0 false true) ∙ ap (λ (x : ℕ). step w G x true) (xor_zero_r (power w G (w + k))) ∙ e in
      cancel w (suc k)
      (ap (power w G) (add-suc w k)
      ∙ xor_over (power w G (suc (w + k))) (step w G 0 true) 0 sum
      ∙ first_power)

  second : (e : List Bool) (k : ℕ) → weight e ≡ 1 → k + length e < n → remainder_onto w G (power w G (w + k)) e ≡ 0 → ⊥
  second [] k h l z = absurd (omega arith)
  second (true ∷ e) k h l z =
      good.order (suc k) (omega arith) (omega arith) (returns k (stays e (step w G (power w G (w + k)) true) (omega arith) z))
  second (false ∷ e) k h l z =
      second e (suc k) h (omega arith) (ap (λ (x : ℕ). remainder_onto w G (power w G x) e) (add-suc w k) ∙ z)

  two : (e : List Bool) → weight e ≡ 2 → length e ≤ n → remainder_onto w G 0 e ≡ 0 → ⊥
  two [] h l z = absurd (omega arith)
  two (true ∷ e) h l z =
      second e 0 (omega arith) (omega arith)
      (ap (λ (x : ℕ). remainder_onto w G x e) (ap (power w G) (add-zero w) ∙ sym first_power) ∙ z)
  two (false ∷ e) h l z = two e h (omega arith) (sym (ap (λ (x : ℕ). remainder_onto w G x e) (step_zero w G)) ∙ z)

  -- one or three changes leave an odd number of terms
  pattern : (e : List Bool) → 0 < weight e → weight e ≤ 3 → length e ≤ n → remainder_onto w G 0 e ≡ 0 → ⊥
  pattern e h k l z = go (weight e) refl
    where
      even : weight e % 2 ≡ 0
      even = omega (arith, onto_parity w G e 0 good.even, ap (λ (x : ℕ). ones x % 2) z, ones_zero)

      go : (m : ℕ) → weight e ≡ m → ⊥
      go zero q = omega arith
      go (suc zero) q = omega (arith, even)
      go (suc (suc zero)) q = two e q l z
      go (suc (suc (suc zero))) q = omega (arith, even)
      go (suc (suc (suc (suc m)))) q = omega arith

  differ_zero : (s t : List Bool) → length s ≡ length t → remainder w G s ≡ 0 → remainder w G t ≡ 0 → remainder w G (xors s t) ≡ 0
  differ_zero s t l p q = onto_xor w G s t 0 0 l ∙ ap₂ bit_xor p q

  trailing : (k r : ℕ) → remainder_onto w G r (replicate k false) ≡ 0 → r ≡ 0
  trailing zero r z = z
  trailing (suc k) r z = zero_shift r (trailing k (step w G r false) z)

  burst_zero : (b : List Bool) → length b ≤ w → 0 < weight b → remainder_onto w G 0 b ≡ 0 → ⊥
  burst_zero b l h z =
      let e : 0 ≡ times b 1 * 2 ^ (w - length b) = back w G b (w - length b) 0 good.constant (omega arith) z in
      omega (arith, no_bits b (sym (times_one b) ∙ zero_factor (times b 1) (2 ^ (w - length b)) (pow_pos (w - length b)) (sym e)))

  few : SeesFew w G n
  few s t l b p q h k = pattern (xors s t) h k (omega (arith, length_xors s t l)) (differ_zero s t l p q)

  burst : SeesBursts w G
  burst s t i k b l e lb wb p q =
      let z : remainder_onto w G 0 (b ++ replicate k false) ≡ 0 = sym (leading w G i (b ++ replicate k false)) ∙ ap (remainder w G) (sym e) ∙ differ_zero s t l p q in
      let z' : remainder_onto w G (remainder_onto w G 0 b) (replicate k false) ≡ 0 = sym (onto-append w G b (replicate k false) 0) ∙ z in
      burst_zero b lb wb (trailing k (remainder_onto w G 0 b) z')

  pub detects : Detects w G n
  detects = (few, burst)
