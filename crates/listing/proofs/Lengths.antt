-- How many bytes a line and a listing have.
use Rattle.std.proofs.Common.{◌≡◌, ℕ, zero, suc, ◌+◌, ◌*◌, ◌^◌, ◌<◌, ◌≤◌, eqb, List, [], length, decimal, ap, inl, inr, arith}
use Rattle.std.proofs.lemmas.Fmt.{length-decimal-le}
use Rattle.std.proofs.lemmas.List.{length-append}
use Rattle.std.proofs.lemmas.Bool.{cases_Bool, cases_eq, cond-false, cond-true}
use Rattle.std.specs.List.{range_with_len, flat_map}
use Rattle.numbers.specs.Walk.{numbers_between}
use Rattle.calendar.proofs.Shares.{count_le, share_law}
use Rattle.calendar.specs.Share.{first_slot, slot_count}
use Rattle.refusal.specs.declared.Refusal.{Refusal}
use Rattle.refusal.specs.Numbers.{number_of}
use Rattle.listing.specs.Lines.{client_line, client_count_line, listing_of, refused_line}

pub length_line :
    (client count first : ℕ) →
    length (client_count_line client count first) ≡ length (decimal client) + length (decimal count) + length (decimal first) + 3
length_line client count first = simp length-append (omega arith)

-- three numbers of at most three digits
pub short_line :
    (client count first : ℕ) → client ≤ 480 → count ≤ 480 → first ≤ 480 → length (client_count_line client count first) ≤ 12
short_line client count first a b c =
    omega (
      arith,
      length_line client count first,
      length-decimal-le 3 client (omega arith) (omega arith) (omega arith),
      length-decimal-le 3 count (omega arith) (omega arith) (omega arith),
      length-decimal-le 3 first (omega arith) (omega arith) (omega arith),
    )

pub first_le : (c : ℕ) (es : List ℕ) → first_slot c es ≤ length es
first_le c es =
    elim (cases_eq (first_slot c es) 0) [
      | inl none ↦ omega arith
      | inr some ↦ ((share_law c es).own some).1
    ]

short_client : (es : List ℕ) (c : ℕ) → length es ≡ 480 → c ≤ 480 → length (client_line es c) ≤ 12
short_client es c full high =
    let line = client_count_line c (slot_count c es) (first_slot c es) in
    elim (cases_Bool (eqb (slot_count c es) 0)) [
      | inl t ↦ omega (arith, ap length (cond-true (eqb (slot_count c es) 0) [] line t))
      | inr f ↦
          omega (
            arith,
            ap length (cond-false (eqb (slot_count c es) 0) [] line f),
            short_line c (slot_count c es) (first_slot c es) high (omega (arith, count_le c es)) (omega (arith, first_le c es)),
          )
    ]

-- the lines of n clients, from number a on
short_lines :
    (es : List ℕ) (a n : ℕ) → length es ≡ 480 → a + n ≤ 481 → length (flat_map (client_line es) (range_with_len a n)) ≤ 12 * n
short_lines es a zero full high = omega arith
short_lines es a (suc n) full high =
    omega (
      arith,
      length-append (client_line es a) (flat_map (client_line es) (range_with_len (a + 1) n)),
      short_client es a full (omega arith),
      short_lines es (a + 1) n full (omega arith),
    )

pub short_listing : (es : List ℕ) → length es ≡ 480 → length (listing_of es) ≤ 5760
unfolding numbers_between
short_listing es full = let lines = short_lines es 1 480 full (omega arith) in omega (arith, lines)

-- a cause's number has at most three digits, and a line's at most twenty
pub short_refusal : (cause : Refusal) (line : ℕ) → number_of cause < 2 ^ 8 → line < 2 ^ 64 → length (refused_line cause line) ≤ 38
short_refusal cause line small bound =
    let number = length-decimal-le 3 (number_of cause) (omega arith) (omega arith) (omega arith) in
    let last = length-decimal-le 20 line (omega arith) (omega arith) (omega arith) in
    simp length-append (omega arith)
