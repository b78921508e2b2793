-- The kit's reader of hexadecimal text, over digits as a line of packets has them, writes the bytes that they stand for.
use Rattle.std.proofs.Common.{◌≡◌, ℕ, zero, suc, ◌+◌, ◌*◌, ◌/◌, ◌%◌, true, eqb, List, [], ◌∷◌, length, Some, Ok, Err, Result, MatchResult, subst, refl, ap, ◌∙◌, arith}
use Rattle.std.proofs.lemmas.Bool.{and_parts, eqb-true}
use Rattle.std.proofs.lemmas.Bool.Decides.{nat_tests}
use Rattle.hex.specs.Hex.{decode_pairs, decode_sized, hex_digit_value}
use Rattle.hex.proofs.HexLemmas.{decode_of-even, decode_sized-twice}
use Rattle.hex.specs.declared.error.FromHexError.{FromHexError}
use Rattle.packet_text.specs.Hex.{all_hex, hex_bytes, hex_value, is_hex, is_hex_digit}

-- a small letter or a digit has the same value for the kit's reader
digit_value : (x : ℕ) → is_hex_digit x ≡ true → hex_digit_value x ≡ Some (hex_value x)
digit_value x e = grind (arith, nat_tests)

-- digits, two for each byte, are decoded as the bytes that they write
decoded_from :
    (k i : ℕ) (xs : List ℕ) → all_hex xs ≡ true → length xs ≡ 2 * k → decode_pairs i xs ≡ Ok (hex_bytes xs)
unfolding hex_bytes decode_pairs
decoded_from k i [] e n = refl
decoded_from k i (x ∷ []) e n = absurd (omega arith)
decoded_from zero i (x ∷ y ∷ zs) e n = absurd (omega arith)
decoded_from (suc k) i (x ∷ y ∷ zs) e n =
    let one = and_parts (is_hex_digit x) (all_hex (y ∷ zs)) e in
    let two = and_parts (is_hex_digit y) (all_hex zs) one.1 in
    let high = digit_value x one.0 in
    let low = digit_value y two.0 in
    let rest = decoded_from k (i + 2) zs two.1 (omega arith) in
    let swap : hex_value x * 16 + hex_value y ≡ 16 * hex_value x + hex_value y = omega arith in
    rw (high, low, rest) (ap (λ b. Ok (b ∷ hex_bytes zs)) swap)

pub decoded : (xs : List ℕ) → is_hex xs ≡ true → decode_sized xs (length xs / 2) ≡ Ok (hex_bytes xs)
decoded xs e =
    let h = and_parts (all_hex xs) (eqb (length xs % 2) 0) e in
    let even = eqb-true (length xs % 2) 0 h.1 in
    decode_sized-twice xs (length xs / 2) (omega arith) ∙ decode_of-even xs even ∙ decoded_from (length xs / 2) 0 xs h.0 (omega arith)

-- so the kit's reader succeeds on digits, and writes the bytes
pub decodes :
    (xs out : List ℕ) (n : ℕ) (r : Result Unit FromHexError) → is_hex xs ≡ true → n ≡ length xs / 2 →
    MatchResult (decode_sized xs n) (λ bytes. (r ≡ Ok tt) × (out ≡ bytes)) (λ e. r ≡ Err e) → (r ≡ Ok tt) × (out ≡ hex_bytes xs)
decodes xs out n r hex half h =
    let P : Result (List ℕ) FromHexError → Type 0 = λ d. MatchResult d (λ bytes. (r ≡ Ok tt) × (out ≡ bytes)) (λ e. r ≡ Err e) in
    subst P (ap (decode_sized xs) half ∙ decoded xs hex) h
