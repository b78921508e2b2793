-- A text cut behind its first newline, and the newline at a text's end.
use Rattle.std.proofs.lemmas.Option.{cond_some, none-some}
use Rattle.std.proofs.Common.{◌≡◌, ℕ, suc, ◌+◌, ◌-◌, ◌≤◌, Bool, true, false, not, codes, cond, eqb, ltb, List, [], ◌∷◌, ◌++◌, length, take, drop, Some, None, Option, sym, refl, ap, ◌∙◌, arith, Bor, MatchOption, ◌≢◌}
use Rattle.std.specs.List.{position, position_or_len}
use Rattle.std.proofs.lemmas.List.{drop_all, take_all, take_rest}
use Rattle.std.specs.Option.{option_copied}
use Rattle.std.proofs.lemmas.Bool.{cond-false, eqb-true, ltb-false}
use Rattle.form.specs.Cut.{cut_line, ended_text, longer_cut, text_with_byte}
use Rattle.form.proofs.Words.{none_from}
use Rattle.std.proofs.lemmas.Slice.Eq.{strip_suffix_is}
use Rattle.std.proofs.lemmas.Bool.Decides.{Decides-eqb}
use lib.Pointwise.{pointwise}

-- whether a byte is a newline
abbrev pub newline : ℕ → Bool
newline c = eqb c 10

pub cond_none : {A : Type 0} (t : Bool) (x : A) → cond t (Some x) None ≡ None → t ≡ false
cond_none true x e = absurd (none-some _ (sym e))
cond_none false x e = refl

cut_by : (b : Bool) (x m : ℕ) (xs : List ℕ) (cut : List ℕ × List ℕ) → cut ≡ (take (m + 1) xs, drop (m + 1) xs) → cond b (x ∷ [], xs) (longer_cut x cut) ≡ (take (cond (not b) (1 + m) 0 + 1) (x ∷ xs), drop (cond (not b) (1 + m) 0 + 1) (x ∷ xs))
cut_by true x m xs cut e = refl
cut_by false x m xs cut e = let more : 1 + m + 1 ≡ suc (m + 1) = omega arith in rw (more, e) refl

-- the cut lies behind the first newline, or at the end
pub cut_place : (xs : List ℕ) → cut_line xs ≡ (take (position_or_len newline xs + 1) xs, drop (position_or_len newline xs + 1) xs)
cut_place [] = refl
cut_place (x ∷ xs) = cut_by (eqb x 10) x (position_or_len newline xs) xs (cut_line xs) (cut_place xs)

pub cut_found : (s : List ℕ) (i : ℕ) → position newline s ≡ Some i → cut_line s ≡ (take (i + 1) s, drop (i + 1) s)
cut_found s i e =
    let place = (cond_some (ltb (position_or_len newline s) (length s)) (position_or_len newline s) i e).1 in
    cut_place s ∙ ap (λ n. (take (n + 1) s, drop (n + 1) s)) place

pub cut_none : (s : List ℕ) → position newline s ≡ None → cut_line s ≡ (s, [])
cut_none s e =
    let past = cond_none (ltb (position_or_len newline s) (length s)) (position_or_len newline s) e in
    let n = position_or_len newline s + 1 in
    let all : length s ≤ n = omega (arith, ltb-false (position_or_len newline s) (length s) past) in
    cut_place s ∙ ap (λ t. (t, drop n s)) (take_all n s all) ∙ ap (λ t. (s, t)) (drop_all n s all)

-- where a text is cut, by the place of its first newline
pub ruleset cuts = (cut_found, cut_none, take_rest)

prefixed_cond : (t : Bool) (x : ℕ) (xs : List ℕ) → text_with_byte x (cond t (Some xs) None) ≡ cond t (Some (x ∷ xs)) None
prefixed_cond true x xs = refl
prefixed_cond false x xs = refl

pub ended_push : (xs : List ℕ) (z : ℕ) → ended_text (xs ++ (z ∷ [])) ≡ cond (eqb z 10) (Some xs) None
ended_push [] z = refl
ended_push (x ∷ []) z = prefixed_cond (eqb z 10) x []
ended_push (x ∷ y ∷ xs) z = ap (text_with_byte x) (ended_push (y ∷ xs) z) ∙ prefixed_cond (eqb z 10) x (y ∷ xs)

prefixed_some : (x : ℕ) (o : Option (List ℕ)) (ys : List ℕ) → text_with_byte x o ≡ Some ys → (zs : List ℕ) × (o ≡ Some zs) × (ys ≡ x ∷ zs)
prefixed_some x None ys e = absurd (none-some _ e)
prefixed_some x (Some zs) ys e = (zs, refl, cc)

pub ended_is : (xs ys : List ℕ) → ended_text xs ≡ Some ys → xs ≡ ys ++ (10 ∷ [])
ended_is [] ys e = absurd (none-some _ e)
ended_is (x ∷ []) ys e =
    let h = cond_some (eqb x 10) [] ys e in
    ap (λ z. z ∷ []) (eqb-true x 10 h.0) ∙ ap (λ t. t ++ (10 ∷ [])) h.1
ended_is (x ∷ y ∷ zs) ys e =
    let h = prefixed_some x (ended_text (y ∷ zs)) ys e in
    ap (λ t. x ∷ t) (ended_is (y ∷ zs) h.0 h.1) ∙ ap (λ t. t ++ (10 ∷ [])) (sym h.2)

-- `ended` is what `strip_suffix` takes the newline off
pub stripped : (s : List ℕ) (r : Option (Bor (List ℕ))) → MatchOption r ((front : List ℕ) → s ≢ front ++ (10 ∷ [])) (λ x. s ≡ x.now ++ (10 ∷ [])) → option_copied r ≡ ended_text s
stripped s None h = sym (none_from (ended_text s) (λ ys e. h ys (ended_is s ys e)))
stripped s (Some x) h = sym (ap ended_text h ∙ ended_push x.now 10)

-- the same, by what `strip_suffix` says of its answer
pub text_ended :
    (s : List ℕ) (r : Option (Bor (List ℕ))) →
    MatchOption
    r
    (pointwise eqb (drop (length s - length (codes "\n")) s) (codes "\n") ≡ false)
    (λ x. (pointwise eqb (drop (length s - length (codes "\n")) s) (codes "\n") ≡ true) × (x.now ≡ take (length s - length (codes "\n")) s) × (length x.now + length (codes "\n") ≡ length s)) →
    option_copied r ≡ ended_text s
text_ended s r h = stripped s r (strip_suffix_is Decides-eqb s (codes "\n") r h)

-- a text that does not begin with a newline ends as what follows
pub ended_more : (c : ℕ) (xs : List ℕ) → eqb c 10 ≡ false → ended_text (c ∷ xs) ≡ text_with_byte c (ended_text xs)
ended_more c [] e = cond-false (eqb c 10) (Some []) None e
ended_more c (x ∷ xs) e = refl
