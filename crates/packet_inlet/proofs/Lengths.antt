-- Lengths taken one by one from the bytes that are left.
use Rattle.std.proofs.Common.{◌≡◌, ℕ, ◌+◌, ◌-◌, ◌<◌, ◌≤◌, Bool, true, false, cond, eqb, List, [], ◌∷◌, ◌++◌, map, length, get_or, take, drop, sum, sym, refl, ap, ◌∙◌, arith}
use Rattle.std.specs.List.{flat_map}
use Rattle.std.proofs.lemmas.List.{drop_more, drop_all, nil_from_length, length-take-le, length-drop, take-append-drop}
use Rattle.std.proofs.lemmas.List.Sums.{sum_by-cons}
use Rattle.std.proofs.lemmas.Bool.{eqb-true, false≢true}
use Rattle.std.proofs.lemmas.Bool.Decides.{nat_tests}
use Rattle.packet.specs.Format.{is_packet_length}
use Rattle.packet_inlet.specs.Packets.{all_packet_lengths, are_lengths, packets_of, CutWhole}

cond_none : (t : Bool) → cond t false false ≡ false
cond_none true = refl
cond_none false = refl

less : (n s left : ℕ) → n ≤ left → eqb (n + s) left ≡ eqb s (left - n)
less n s left l = grind (arith, nat_tests)

short : (n s left : ℕ) → left < n → eqb (n + s) left ≡ false
short n s left l = grind (arith, nat_tests)

none : (left : ℕ) → eqb left 0 ≡ eqb 0 left
none left = grind (arith, nat_tests)

one_more : (n : ℕ) (lengths : List ℕ) (left : ℕ) → true ≡ is_packet_length n → n ≤ left → are_lengths (n ∷ lengths) left ≡ are_lengths lengths (left - n)
one_more n lengths left t l =
    ap (λ s. cond (all_packet_lengths (n ∷ lengths)) (eqb s left) false) (sum_by-cons (λ x. x) n lengths) ∙ rw (sym t, less n (sum lengths) left l) refl

one_out : (n : ℕ) (lengths : List ℕ) (left : ℕ) → false ≡ is_packet_length n → are_lengths (n ∷ lengths) left ≡ false
one_out n lengths left t = rw (sym t) refl

one_short : (n : ℕ) (lengths : List ℕ) (left : ℕ) → left < n → are_lengths (n ∷ lengths) left ≡ false
one_short n lengths left l =
    ap (λ s. cond (all_packet_lengths (n ∷ lengths)) (eqb s left) false) (sum_by-cons (λ x. x) n lengths)
    ∙ ap (λ t. cond (all_packet_lengths (n ∷ lengths)) t false) (short n (sum lengths) left l) ∙ cond_none (all_packet_lengths (n ∷ lengths))

module _ (lengths : List ℕ) (i left bytes : ℕ) (inv : are_lengths (drop i lengths) left ≡ are_lengths lengths bytes) where
  module _ (l : i < length lengths) where
    here : are_lengths (get_or lengths i 0 ∷ drop (i + 1) lengths) left ≡ are_lengths lengths bytes
    here = ap (λ ls. are_lengths ls left) (sym (drop_more lengths i 0 l)) ∙ inv

    pub lengths_more : true ≡ is_packet_length (get_or lengths i 0) → get_or lengths i 0 ≤ left → are_lengths (drop (i + 1) lengths) (left - get_or lengths i 0) ≡ are_lengths lengths bytes
    lengths_more t m = sym (one_more (get_or lengths i 0) (drop (i + 1) lengths) left t m) ∙ here

    pub lengths_out : false ≡ is_packet_length (get_or lengths i 0) → false ≡ are_lengths lengths bytes
    lengths_out t = sym (one_out (get_or lengths i 0) (drop (i + 1) lengths) left t) ∙ here

    pub lengths_short : left < get_or lengths i 0 → false ≡ are_lengths lengths bytes
    lengths_short m = sym (one_short (get_or lengths i 0) (drop (i + 1) lengths) left m) ∙ here

  pub lengths_all : length lengths ≤ i → eqb left 0 ≡ are_lengths lengths bytes
  lengths_all l = none left ∙ ap (λ ls. are_lengths ls left) (sym (drop_all i lengths l)) ∙ inv

cut_whole : (lengths bytes : List ℕ) → sum lengths ≡ length bytes → (map length (packets_of lengths bytes) ≡ lengths) × (flat_map (λ p. p) (packets_of lengths bytes) ≡ bytes)
unfolding packets_of
cut_whole [] bytes e = (refl, sym (nil_from_length bytes (sym e)))
cut_whole (n ∷ lengths) bytes e =
    let total = sum_by-cons (λ x. x) n lengths in
    let first : length (take n bytes) ≡ n = length-take-le n bytes (omega (arith, total)) in
    let behind : sum lengths ≡ length (drop n bytes) = simp length-drop (omega (arith, total)) in
    let rest = cut_whole lengths (drop n bytes) behind in
    (rw (first, rest.0) refl, ap (λ l. take n bytes ++ l) rest.1 ∙ take-append-drop n bytes)

pub cut_lawful : (lengths bytes : List ℕ) → CutWhole lengths bytes
cut_lawful lengths bytes t = cut_whole lengths bytes (eqb-true (sum lengths) (length bytes) (second (all_packet_lengths lengths) (eqb (sum lengths) (length bytes)) t))
  where
    second : (a b : Bool) → cond a b false ≡ true → b ≡ true
    second true b e = e
    second false b e = absurd (false≢true e)
