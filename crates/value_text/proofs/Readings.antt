-- Bytes are read back from their hexadecimal text.
use Rattle.std.proofs.Common.{◌≡◌, ℕ, suc, ◌+◌, ◌*◌, ◌/◌, ◌%◌, ◌<◌, ◌≤◌, Bool, true, false, ltb, List, [], ◌∷◌, refl, ap₂, arith}
use Rattle.std.specs.List.{flat_map}
use Rattle.std.proofs.lemmas.Bool.{lt-ltb, le-ltb, ltb-true, ltb-false}
use Rattle.block.specs.Whole.{Bytes}
use Rattle.value_text.specs.Texts.{digit_value, capital_digit, spaced_byte, spaced_bytes, HexReadsBack}

digit_back : (d : ℕ) (b : Bool) → ltb d 10 ≡ b → d < 16 → digit_value (capital_digit d) ≡ d
digit_back d true e l =
    let low : 48 + d < 65 = omega (arith, ltb-true d 10 e) in
    rw (e, lt-ltb (48 + d) 65 low) (omega arith)
digit_back d false e l =
    let high : 65 ≤ 55 + d = omega (arith, ltb-false d 10 e) in
    rw (e, le-ltb (55 + d) 65 high) (omega arith)

byte_back : (b : ℕ) → b < 256 → 16 * digit_value (capital_digit (b / 16)) + digit_value (capital_digit (b % 16)) ≡ b
byte_back b l =
    let high : b / 16 < 16 = omega arith in
    let low : b % 16 < 16 = omega arith in
    rw (digit_back (b / 16) (ltb (b / 16) 10) refl high, digit_back (b % 16) (ltb (b % 16) 10) refl low) (omega arith)

spaced_back : (bs : List ℕ) → Bytes bs → spaced_bytes (flat_map spaced_byte bs) ≡ bs
spaced_back [] h = refl
spaced_back (b ∷ bs) h = ap₂ (λ (x : ℕ) (xs : List ℕ). x ∷ xs) (byte_back b (h 0)) (spaced_back bs (λ i. h (suc i)))

pub read_back : HexReadsBack
read_back [] h = refl
read_back (b ∷ bs) h = spaced_back (b ∷ bs) h
