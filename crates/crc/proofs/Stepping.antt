-- The code's step, and what it reads of the bytes.
use Rattle.std.proofs.Common.{◌≡◌, ℕ, ◌+◌, ◌*◌, ◌/◌, ◌%◌, ◌^◌, ◌<◌, Bool, true, false, eqb, sym, ap, ◌∙◌, ap₂, mod-eq_of_lt, one-mul, zero-mul, arith, pow_pos, pow_mono, shr_lt}
use Rattle.std.proofs.lemmas.Nat.{one_shl, and_mask, xor_lt}
use Rattle.std.specs.Int.Bits.{bit_and, bit_xor, xor_zero_r}
use mir.Val.{bool_byte}
use Rattle.bits.specs.Bits.{odd}
use Rattle.crc.specs.Remainder.{scale, reduce, step}
use Rattle.crc.proofs.Laws.{pow_more}

-- ---- the code's step
argument_lt : (w r : ℕ) (b : Bool) → r < 2 ^ w → bit_xor (r * 2) (scale b (2 ^ w)) < 2 ^ (1 + w)
argument_lt w r b h = xor_lt (1 + w) (r * 2) (scale b (2 ^ w)) (omega (arith, pow_more w)) (half b)
  where
    half : (b : Bool) → scale b (2 ^ w) < 2 ^ (1 + w)
    half true = omega (arith, pow_more w, pow_pos w)
    half false = pow_pos (1 + w)

fit : (w r high : ℕ) (b : Bool) → w < 16 → r < 2 ^ w → high ≡ scale b (2 ^ w) → bit_xor (r * 2 % 65536) high ≡ bit_xor (r * 2) (scale b (2 ^ w))
fit w r high b hw h e = ap₂ bit_xor (mod-eq_of_lt (omega (arith, pow_mono {i = w} {j = 15} (omega arith)))) e

-- the digit was set
pub code_then : (w G r high : ℕ) (b : Bool) → w < 16 → r < 2 ^ w → high ≡ scale b (2 ^ w)
    → bit_xor (r * 2 % 65536) high / 2 ^ w ≡ 1 → bit_xor (bit_xor (r * 2 % 65536) high) G ≡ step w G r b
unfolding step reduce
code_then w G r high b hw h e q =
    let f = fit w r high b hw h e in
    ap₂ bit_xor f
    (sym (ap (λ (x : ℕ). x % 2 * G) (ap (λ (x : ℕ). x / 2 ^ w) (sym f) ∙ q) ∙ one-mul G))

pub code_else : (w G r high : ℕ) (b : Bool) → w < 16 → r < 2 ^ w → high ≡ scale b (2 ^ w)
    → (bit_xor (r * 2 % 65536) high / 2 ^ w ≡ 1 → ⊥) → bit_xor (r * 2 % 65536) high ≡ step w G r b
unfolding step reduce
code_else w G r high b hw h e q =
    let u : ℕ = bit_xor (r * 2) (scale b (2 ^ w)) in
    let f : bit_xor (r * 2 % 65536) high ≡ u = fit w r high b hw h e in
    let z : u / 2 ^ w ≡ 0 = no_one (u / 2 ^ w) (shr_lt 1 w (argument_lt w r b h)) (λ k. q (ap (λ (x : ℕ). x / 2 ^ w) f ∙ k)) in
    f ∙ sym (ap (bit_xor u) (ap (λ (x : ℕ). x % 2 * G) z ∙ zero-mul G) ∙ xor_zero_r u)
  where
    no_one : (x : ℕ) → x < 2 → (x ≡ 1 → ⊥) → x ≡ 0
    no_one x h k = omega arith

-- a bit set to the place of the digit
pub placed : (w : ℕ) (b : Bool) → w < 16 → (bool_byte b * 2 ^ w) % 65536 ≡ scale b (2 ^ w)
placed w true h = one_shl w 16 h
placed w false h = simp zero-mul

-- the code's bit
pub code_bit : (n : ℕ) → eqb (bit_and n 1) 1 ≡ odd n
code_bit n = ap (λ (x : ℕ). eqb x 1) (and_mask n 1)
