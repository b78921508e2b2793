-- Hexadecimal digits: tested one by one, read two by two, and written again.
use Rattle.std.proofs.Common.{◌≡◌, ℕ, zero, suc, ◌+◌, ◌*◌, ◌/◌, ◌%◌, ◌<◌, ◌≤◌, true, eqb, List, [], ◌∷◌, ◌++◌, length, get_or, take, drop, set, leb, Ok, Err, sym, refl, ap, ◌∙◌, arith}
use Rattle.std.specs.List.{AllByRecursion}
use Rattle.std.specs.Simd.{first_chunks}
use Rattle.std.proofs.lemmas.List.{append_assoc, append-nil, at_drop_more, drop-drop, drop-set-lt, get_or-drop, get_or-take, length-drop, length-take-le, take-append-drop, take_more_set}
use Rattle.std.proofs.lemmas.Bool.{and_from, and_parts, cond-false, cond-true, eq-eqb, eqb-true, le-leb, lt-leb}
use Rattle.std.proofs.lemmas.Bool.Decides.{nat_tests}
use Rattle.packet.specs.Answers.{over}
use Rattle.refusal.specs.declared.Refusal.TheVariants.{OutputTooShort}
use Rattle.packet_text.specs.Lines.{length_answer}
use Rattle.packet_text.specs.Hex.{all_hex, hex_bytes, hex_digit, hex_text, hex_value, is_hex, is_hex_digit}

pub length_hex_bytes : (xs : List ℕ) → length (hex_bytes xs) ≡ length xs / 2
unfolding hex_bytes
length_hex_bytes [] = refl
length_hex_bytes (x ∷ []) = refl
length_hex_bytes (x ∷ y ∷ zs) = omega (arith, length_hex_bytes zs)

-- one digit: what it stands for, and back
digit_back : (x : ℕ) → is_hex_digit x ≡ true → (hex_value x < 16) × (hex_digit (hex_value x) ≡ x)
digit_back x e = (grind (arith, nat_tests), grind (arith, nat_tests))

value_back : (n : ℕ) → n < 16 → (is_hex_digit (hex_digit n) ≡ true) × (hex_value (hex_digit n) ≡ n)
value_back n h = (grind (arith, nat_tests), grind (arith, nat_tests))

-- digits, two for each byte, are the bytes' text
pub text_of_bytes :
    (k : ℕ) (xs : List ℕ) → all_hex xs ≡ true → length xs ≡ 2 * k →
    AllByRecursion (λ b. b < 256) (hex_bytes xs) × (hex_text (hex_bytes xs) ≡ xs)
unfolding hex_bytes
text_of_bytes k [] e n = (tt, refl)
text_of_bytes k (x ∷ []) e n = absurd (omega arith)
text_of_bytes zero (x ∷ y ∷ zs) e n = absurd (omega arith)
text_of_bytes (suc k) (x ∷ y ∷ zs) e n =
    let one = and_parts (is_hex_digit x) (all_hex (y ∷ zs)) e in
    let two = and_parts (is_hex_digit y) (all_hex zs) one.1 in
    let a = digit_back x one.0 in
    let b = digit_back y two.0 in
    let rest = text_of_bytes k zs two.1 (omega arith) in
    let v = 16 * hex_value x + hex_value y in
    let high : v / 16 ≡ hex_value x = omega (arith, a.0, b.0) in
    let low : v % 16 ≡ hex_value y = omega (arith, a.0, b.0) in (
      (omega (arith, a.0, b.0), rest.0),
      ap (λ m. hex_digit m ∷ hex_digit (v % 16) ∷ hex_text (hex_bytes zs)) high
          ∙ ap (λ m. hex_digit (hex_value x) ∷ hex_digit m ∷ hex_text (hex_bytes zs)) low
          ∙ ap (λ c. c ∷ hex_digit (hex_value y) ∷ hex_text (hex_bytes zs)) a.1
          ∙ ap (λ c. x ∷ c ∷ hex_text (hex_bytes zs)) b.1
          ∙ ap (λ t. x ∷ y ∷ t) rest.1,
    )

-- the text of bytes is digits, two for each, and gives the bytes back
pub bytes_of_text :
    (bs : List ℕ) → AllByRecursion (λ b. b < 256) bs → (all_hex (hex_text bs) ≡ true) × (length (hex_text bs) ≡ 2 * length bs) × (hex_bytes (hex_text bs) ≡ bs)
unfolding hex_bytes
bytes_of_text [] all = (refl, refl, refl)
bytes_of_text (b ∷ bs) all =
    let high = value_back (b / 16) (omega (arith, all.0)) in
    let low = value_back (b % 16) (omega arith) in
    let rest = bytes_of_text bs all.1 in
    let value : 16 * hex_value (hex_digit (b / 16)) + hex_value (hex_digit (b % 16)) ≡ b = omega (arith, high.1, low.1) in (
      and_from (is_hex_digit (hex_digit (b / 16))) (all_hex (hex_digit (b % 16) ∷ hex_text bs)) high.0
          (and_from (is_hex_digit (hex_digit (b % 16))) (all_hex (hex_text bs)) low.0 rest.0),
      omega (arith, rest.1),
      ap (λ v. v ∷ hex_bytes (hex_text bs)) value ∙ ap (λ t. b ∷ t) rest.2,
    )

pub hex_text_is : (bs : List ℕ) → AllByRecursion (λ b. b < 256) bs → is_hex (hex_text bs) ≡ true
hex_text_is bs all =
    let t = bytes_of_text bs all in
    and_from (all_hex (hex_text bs)) (eqb (length (hex_text bs) % 2) 0) t.0 (eq-eqb (length (hex_text bs) % 2) 0 (omega (arith, t.1)))

pub hex_parts : (xs : List ℕ) → is_hex xs ≡ true → AllByRecursion (λ b. b < 256) (hex_bytes xs) × (hex_text (hex_bytes xs) ≡ xs)
hex_parts xs e =
    let h = and_parts (all_hex xs) (eqb (length xs % 2) 0) e in
    let even = eqb-true (length xs % 2) 0 h.1 in
    text_of_bytes (length xs / 2) xs h.0 (omega arith)

-- a pair of digits, of all that stand in twos
pub pair_is : (n i : ℕ) (text none : List ℕ) → i < n → get_or (first_chunks 2 n text) i none ≡ take 2 (drop (2 * i) text)
pair_is zero i text none low = absurd (omega arith)
pair_is (suc n) zero text none low = refl
pair_is (suc n) (suc i) text none low =
    let e : 2 + 2 * i ≡ 2 * suc i = omega arith in
    pair_is n i (drop 2 text) none (omega arith) ∙ rw (drop-drop, e) refl

-- its two digits
pub high_is : (text : List ℕ) (i : ℕ) → get_or (take 2 (drop (2 * i) text)) 0 0 ≡ get_or text (2 * i) 0
high_is text i =
    let front : 2 * i + 0 ≡ 2 * i = omega arith in
    get_or-take 2 (drop (2 * i) text) 0 0 (omega arith) ∙ get_or-drop (2 * i) text 0 0 ∙ ap (λ k. get_or text k 0) front

pub low_is : (text : List ℕ) (i : ℕ) → get_or (take 2 (drop (2 * i) text)) 1 0 ≡ get_or text (2 * i + 1) 0
low_is text i = get_or-take 2 (drop (2 * i) text) 1 0 (omega arith) ∙ get_or-drop (2 * i) text 1 0

-- i bytes are read from the digits, and the rest of the output is as before
pub record ReadUpTo (text before out : List ℕ) (i : ℕ) : Type 0 where
  pub bytes : take i out ++ hex_bytes (drop (2 * i) text) ≡ hex_bytes text
  pub rest : drop i out ≡ drop i before

pub read_none : (text out : List ℕ) → ReadUpTo text out out 0
read_none text out = record { bytes = refl; rest = refl }

pub read_more :
    (text before out : List ℕ) (i x : ℕ) → 2 * i + 1 < length text → i < length out →
    x ≡ 16 * hex_value (get_or text (2 * i) 0) + hex_value (get_or text (2 * i + 1) 0) →
    ReadUpTo text before out i → ReadUpTo text before (set out i x) (i + 1)
unfolding hex_bytes
read_more text before out i x low room is inv =
    let a = get_or text (2 * i) 0 in
    let b = get_or text (2 * i + 1) 0 in
    let behind = drop (2 * i + 1 + 1) text in
    let two : 2 * i + 1 + 1 ≡ 2 * (i + 1) = omega arith in
    let first : hex_bytes (drop (2 * i) text) ≡ hex_bytes (a ∷ drop (2 * i + 1) text) = at_drop_more hex_bytes text (2 * i) 0 (omega arith) in
    let second : hex_bytes (a ∷ drop (2 * i + 1) text) ≡ (16 * hex_value a + hex_value b) ∷ hex_bytes behind =
    at_drop_more (λ t. hex_bytes (a ∷ t)) text (2 * i + 1) 0 low in
    let here : hex_bytes (drop (2 * i) text) ≡ x ∷ hex_bytes (drop (2 * (i + 1)) text) =
    first ∙ second ∙ ap (λ y. y ∷ hex_bytes behind) (sym is) ∙ ap (λ k. x ∷ hex_bytes (drop k text)) two in
    record {
      bytes =
          ap (λ t. t ++ hex_bytes (drop (2 * (i + 1)) text)) (take_more_set out i x room)
          ∙ append_assoc (take i out) (x ∷ []) (hex_bytes (drop (2 * (i + 1)) text))
          ∙ ap (λ t. take i out ++ t) (sym here)
          ∙ inv.bytes;
      rest =
          drop-set-lt (i + 1) out i x (omega arith)
          ∙ sym (drop-drop 1 i out)
          ∙ ap (drop 1) inv.rest
          ∙ drop-drop 1 i before;
    }

-- fewer than two digits are left
none_left : (text : List ℕ) → length text < 2 → hex_bytes text ≡ []
unfolding hex_bytes
none_left [] short = refl
none_left (x ∷ []) short = refl
none_left (x ∷ y ∷ zs) short = absurd (omega arith)

pub read_all :
    (text before out : List ℕ) (i : ℕ) → length text < 2 * i + 2 → i ≤ length out → ReadUpTo text before out i →
    out ≡ over (hex_bytes text) before
read_all text before out i all room inv =
    let left : hex_bytes (drop (2 * i) text) ≡ [] = none_left (drop (2 * i) text) (omega (arith, length-drop (2 * i) text)) in
    let front : take i out ≡ hex_bytes text =
    sym (append-nil (take i out)) ∙ ap (λ t. take i out ++ t) (sym left) ∙ inv.bytes in
    let long : i ≡ length (hex_bytes text) = sym (length-take-le i out room) ∙ ap length front in
    sym (take-append-drop i out) ∙ ap (λ t. t ++ drop i out) front ∙ ap (λ t. hex_bytes text ++ t) inv.rest ∙ ap (λ k. hex_bytes text ++ drop k before) long

-- what is answered of the digits' bytes
pub answer_fits : (xs : List ℕ) (places : ℕ) → length xs / 2 ≤ places → Ok (length xs / 2) ≡ length_answer (hex_bytes xs) places
answer_fits xs places room =
    let long = length_hex_bytes xs in
    sym (cond-true (leb (length (hex_bytes xs)) places) _ _ (le-leb (length (hex_bytes xs)) places (omega arith)) ∙ ap Ok long)

pub answer_long : (xs : List ℕ) (places : ℕ) → places < length xs / 2 → Err OutputTooShort ≡ length_answer (hex_bytes xs) places
answer_long xs places short =
    let long = length_hex_bytes xs in
    sym (cond-false (leb (length (hex_bytes xs)) places) _ _ (lt-leb (length (hex_bytes xs)) places (omega arith)))
