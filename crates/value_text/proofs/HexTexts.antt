-- Hexadecimal text grows byte by byte.
use Rattle.std.proofs.Common.{◌≡◌, ℕ, zero, suc, ◌+◌, ◌/◌, ◌%◌, ◌<◌, List, [], ◌∷◌, ◌++◌, length, get_or, take, sym, refl, ap, ◌∙◌, append_assoc, arith}
use Rattle.std.proofs.lemmas.List.{take_more, flat_map_more}
use Rattle.value_text.specs.Texts.{capital_byte, capital_digit, hex_of, spaced_byte}

first_byte : (bs : List ℕ) → 0 < length bs → hex_of (take 1 bs) ≡ capital_byte (get_or bs 0 0)
first_byte [] l = absurd (omega arith)
first_byte (b ∷ bs) l = refl

next_byte : (bs : List ℕ) (i : ℕ) → 0 < i → i < length bs → hex_of (take (i + 1) bs) ≡ hex_of (take i bs) ++ spaced_byte (get_or bs i 0)
next_byte [] i k l = absurd (omega arith)
next_byte (b ∷ bs) zero k l = absurd (omega arith)
next_byte (b ∷ bs) (suc i) k l = ap hex_of (take_more (b ∷ bs) (suc i) 0 l) ∙ sym (flat_map_more spaced_byte (capital_byte b) (take i bs) (get_or bs i 0))

-- one more byte, with a blank before it unless it is the first
pub one_more : (bs : List ℕ) (i : ℕ) (blank : List ℕ) → i < length bs → (i ≡ 0 → blank ≡ []) → ((i ≡ 0 → ⊥) → blank ≡ 32 ∷ [])
    → hex_of (take i bs) ++ (blank ++ capital_byte (get_or bs i 0)) ≡ hex_of (take (i + 1) bs)
one_more bs zero blank l none one =
    ap (λ (t : List ℕ). t ++ capital_byte (get_or bs 0 0)) (none refl) ∙ sym (first_byte bs l)
one_more bs (suc i) blank l none one =
    ap (λ (t : List ℕ). hex_of (take (suc i) bs) ++ (t ++ capital_byte (get_or bs (suc i) 0))) (one (λ z. omega arith))
    ∙ sym (next_byte bs (suc i) (omega arith) l)

-- its two digits, the first with a blank before it unless it is the first byte's
pub digits_more : (bs : List ℕ) (i : ℕ) (high low : List ℕ) → i < length bs
    → (i ≡ 0 → high ≡ capital_digit (get_or bs i 0 / 16) ∷ []) → ((i ≡ 0 → ⊥) → high ≡ 32 ∷ capital_digit (get_or bs i 0 / 16) ∷ [])
    → low ≡ capital_digit (get_or bs i 0 % 16) ∷ [] → (hex_of (take i bs) ++ high) ++ low ≡ hex_of (take (i + 1) bs)
digits_more bs zero high low l none one last =
    let both : high ++ low ≡ [] ++ capital_byte (get_or bs 0 0) = rw (none refl, last) refl in
    append_assoc (hex_of (take 0 bs)) high low ∙ ap (λ (t : List ℕ). hex_of (take 0 bs) ++ t) both ∙ one_more bs 0 [] l (λ _. refl) (λ z. absurd (z refl))
digits_more bs (suc i) high low l none one last =
    let both : high ++ low ≡ (32 ∷ []) ++ capital_byte (get_or bs (suc i) 0) = rw (one (λ z. omega arith), last) refl in
    append_assoc (hex_of (take (suc i) bs)) high low ∙ ap (λ (t : List ℕ). hex_of (take (suc i) bs) ++ t) both
    ∙ one_more bs (suc i) (32 ∷ []) l (λ z. absurd (omega arith)) (λ _. refl)
