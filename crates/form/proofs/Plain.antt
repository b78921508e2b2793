-- A lease's text holds marks alone and no newline, and lines joined again are the sheet.
use Rattle.std.proofs.Common.{◌≡◌, ℕ, ◌+◌, ◌/◌, ◌%◌, ◌<◌, Bool, true, false, cond, eqb, ltb, List, [], ◌∷◌, ◌++◌, is_some, codes, sym, refl, ap, ◌∙◌, ⊎_elim, arith}
use Rattle.std.proofs.lemmas.Bool.{cond-true, cond-false, cond_both, cases_Bool}
use Rattle.std.proofs.lemmas.Bool.Decides.{eqb_tells, nat_tests}
use Rattle.form.specs.Lease.{Group, Lease, short_decimal, group_text, groups_text, lease_text, ShortGroups, Writable}
use Rattle.form.specs.Marks.{LineOf, lines_with_byte, lines, mark_of, all_marks}

-- marks alone, and no newline
abbrev plain_byte : ℕ → Bool
plain_byte c = cond (eqb c 10) false (is_some (mark_of c))

abbrev pub plain : List ℕ → Bool
plain [] = true
plain (c ∷ cs) = cond (plain_byte c) (plain cs) false

both : (b p : Bool) → cond b p false ≡ true → (b ≡ true) × (p ≡ true)
both true p e = (refl, e)
both false p e = absurd (let y : ◌≡◌ {A = ℕ} 0 1 = cc in omega arith)

plain_join : (xs ys : List ℕ) → plain xs ≡ true → plain ys ≡ true → plain (xs ++ ys) ≡ true
plain_join [] ys p q = q
plain_join (x ∷ xs) ys p q =
    let h = both (plain_byte x) (plain xs) p in
    cond-true (plain_byte x) (plain (xs ++ ys)) false h.0 ∙ plain_join xs ys h.1 q

plain_digit : (d : ℕ) → d < 10 → plain_byte (48 + d) ≡ true
plain_digit d h = grind (arith, nat_tests)

one_digit : (d : ℕ) (xs : List ℕ) → d < 10 → plain xs ≡ true → plain ((48 + d) ∷ xs) ≡ true
one_digit d xs h p = cond-true (plain_byte (48 + d)) (plain xs) false (plain_digit d h) ∙ p

plain_decimal : (n : ℕ) → n < 1000 → plain (short_decimal n) ≡ true
plain_decimal n h =
    cond_both (ltb n 10) ((48 + n) ∷ []) (cond (ltb n 100) ((48 + n / 10) ∷ (48 + n % 10) ∷ []) ((48 + n / 100) ∷ (48 + n / 10 % 10) ∷ (48 + n % 10) ∷ [])) (λ t. plain t ≡ true)
    (λ e. one_digit n [] (grind (arith, nat_tests)) refl)
    (λ e. cond_both (ltb n 100) ((48 + n / 10) ∷ (48 + n % 10) ∷ []) ((48 + n / 100) ∷ (48 + n / 10 % 10) ∷ (48 + n % 10) ∷ []) (λ t. plain t ≡ true)
    (λ f. one_digit (n / 10) ((48 + n % 10) ∷ []) (let l : n < 100 = grind (arith, nat_tests) in omega arith) (one_digit (n % 10) [] (omega arith) refl))
    (λ f. one_digit (n / 100) ((48 + n / 10 % 10) ∷ (48 + n % 10) ∷ []) (omega arith) (one_digit (n / 10 % 10) ((48 + n % 10) ∷ []) (omega arith) (one_digit (n % 10) [] (omega arith) refl))))

plain_group : (g : Group) → g.first < 1000 → g.last < 1000 → plain (group_text g) ≡ true
plain_group g a b =
    plain_join (codes " (slots ") (short_decimal g.first ++ (codes " " ++ (short_decimal g.last ++ codes ")"))) refl
    (plain_join (short_decimal g.first) (codes " " ++ (short_decimal g.last ++ codes ")")) (plain_decimal g.first a)
    (plain_join (codes " ") (short_decimal g.last ++ codes ")") refl
    (plain_join (short_decimal g.last) (codes ")") (plain_decimal g.last b) refl)))

plain_groups : (gs : List Group) → ShortGroups gs → plain (groups_text gs) ≡ true
plain_groups [] h = refl
plain_groups (g ∷ gs) h = plain_join (group_text g) (groups_text gs) (plain_group g h.0 h.1) (plain_groups gs h.2)

pub plain_lease : (l : Lease) → Writable l → plain (lease_text l) ≡ true
plain_lease l w =
    plain_join (codes "(client ") (short_decimal l.client ++ (groups_text l.groups ++ codes ")")) refl
    (plain_join (short_decimal l.client) (groups_text l.groups ++ codes ")") (plain_decimal l.client w.0)
    (plain_join (groups_text l.groups) (codes ")") (plain_groups l.groups w.2) refl))

plain_byte_marked : (c : ℕ) → plain_byte c ≡ true → (eqb c 10 ≡ false) × (is_some (mark_of c) ≡ true)
plain_byte_marked c e =
    ⊎_elim
    (λ t. absurd (let f : false ≡ true = sym (cond-true (eqb c 10) false (is_some (mark_of c)) t) ∙ e in let y : ◌≡◌ {A = ℕ} 0 1 = cc in omega arith))
    (λ t. (t, sym (cond-false (eqb c 10) false (is_some (mark_of c)) t) ∙ e))
    (cases_Bool (eqb c 10))

pub plain_marked : (xs : List ℕ) → plain xs ≡ true → all_marks xs ≡ true
plain_marked [] e = refl
plain_marked (x ∷ xs) e =
    let h = both (plain_byte x) (plain xs) e in
    let b = plain_byte_marked x h.0 in
    cond-true (is_some (mark_of x)) (all_marks xs) false b.1 ∙ plain_marked xs h.1

-- a text without newline, ended by one, is a line
pub plain_line : (xs rest : List ℕ) → plain xs ≡ true → lines (xs ++ (10 ∷ rest)) ≡ record { text = xs; ended = true } ∷ lines rest
plain_line [] rest e = refl
plain_line (x ∷ xs) rest e =
    let h = both (plain_byte x) (plain xs) e in
    let b = plain_byte_marked x h.0 in
    cond-false (eqb x 10) (record { text = []; ended = true } ∷ lines (xs ++ (10 ∷ rest))) (lines_with_byte x (lines (xs ++ (10 ∷ rest)))) b.0
    ∙ ap (lines_with_byte x) (plain_line xs rest h.1)

-- lines joined again
abbrev pub rejoined : List LineOf → List ℕ
rejoined [] = []
rejoined (l ∷ ls) = l.text ++ cond l.ended (10 ∷ rejoined ls) (rejoined ls)

before_rejoined : (c : ℕ) (ls : List LineOf) → rejoined (lines_with_byte c ls) ≡ c ∷ rejoined ls
before_rejoined c [] = refl
before_rejoined c (l ∷ ls) = refl

pub lines_rejoined : (xs : List ℕ) → rejoined (lines xs) ≡ xs
lines_rejoined [] = refl
lines_rejoined (c ∷ cs) =
    ⊎_elim
    (λ t. ap rejoined (cond-true (eqb c 10) (record { text = []; ended = true } ∷ lines cs) (lines_with_byte c (lines cs)) t.0) ∙ ap (λ x. 10 ∷ x) (lines_rejoined cs) ∙ ap (λ x. x ∷ cs) (sym t.1))
    (λ t. ap rejoined (cond-false (eqb c 10) (record { text = []; ended = true } ∷ lines cs) (lines_with_byte c (lines cs)) t.0) ∙ before_rejoined c (lines cs) ∙ ap (λ x. c ∷ x) (lines_rejoined cs))
    (eqb_tells c 10)
