-- Numbers of one to three digits: read exactly as they are written.
use Rattle.std.proofs.lemmas.Option.{none-some}
use Rattle.std.proofs.Common.{◌≡◌, ℕ, ◌+◌, ◌-◌, ◌*◌, ◌/◌, ◌%◌, ◌<◌, ◌≤◌, false, cond, eqb, ◌⊎◌, List, [], ◌∷◌, ◌++◌, Some, None, Option, sym, refl, ap, ◌∙◌, subst, inl, inr, ⊎_elim, arith}
use Rattle.std.proofs.lemmas.Bool.{cond-true, cond-false, cases_lt, ne_eqb, eq-eqb, cases_eq}
use Rattle.std.proofs.lemmas.Bool.Decides.{nat_tests}
use Rattle.form.specs.Lease.{short_decimal}
use Rattle.form.specs.Marks.{digit}
use Rattle.form.specs.Form.{bind, first_digit, longer_number, extended_number, number}

pub bind_some : {A B : Type 0} (o : Option A) (f : A → Option B) (y : B) → bind o f ≡ Some y → (x : A) × (o ≡ Some x) × (f x ≡ Some y)
bind_some None f y e = absurd (none-some _ e)
bind_some (Some x) f y e = (x, refl, e)

pub bind_at : {A B : Type 0} (o : Option A) (f : A → Option B) (x : A) → o ≡ Some x → bind o f ≡ f x
bind_at o f x e = ap (λ p. bind p f) e

leading_digit : (xs ys : List ℕ) (d : ℕ) → first_digit xs ≡ Some (d, ys) → (d < 10) × (xs ≡ (48 + d) ∷ ys)
leading_digit [] ys d e = absurd (none-some _ e)
leading_digit (x ∷ xs) ys d e = (grind (arith, nat_tests), grind (arith, nat_tests))

leading_reads : (d : ℕ) (ys : List ℕ) → d < 10 → first_digit ((48 + d) ∷ ys) ≡ Some (d, ys)
leading_reads d ys h = grind (arith, nat_tests)

leading_stops : (y : ℕ) (ys : List ℕ) → digit y ≡ false → first_digit (y ∷ ys) ≡ None
leading_stops y ys e = cond-false (digit y) (Some (y - 48, ys)) None e

decimal_1 : (a : ℕ) → a < 10 → short_decimal a ≡ (48 + a) ∷ []
decimal_1 a h = grind (arith, nat_tests)

decimal_2 : (a b : ℕ) → 1 ≤ a → a < 10 → b < 10 → short_decimal (10 * a + b) ≡ (48 + a) ∷ (48 + b) ∷ []
decimal_2 a b l h k =
    let q : (10 * a + b) / 10 ≡ a = omega arith in
    let r : (10 * a + b) % 10 ≡ b = omega arith in
    grind (arith, nat_tests)

decimal_3 : (a b c : ℕ) → 1 ≤ a → a < 10 → b < 10 → c < 10 → short_decimal (10 * (10 * a + b) + c) ≡ (48 + a) ∷ (48 + b) ∷ (48 + c) ∷ []
decimal_3 a b c l h k m =
    let q : (10 * (10 * a + b) + c) / 100 ≡ a = omega arith in
    let s : (10 * (10 * a + b) + c) / 10 % 10 ≡ b = omega arith in
    let r : (10 * (10 * a + b) + c) % 10 ≡ c = omega arith in
    grind (arith, nat_tests)

-- what one more digit makes of a number: the same, or ten times it and a digit
Extended : ℕ → List ℕ → ℕ × List ℕ → Type 0
Extended v ys p = ((p ≡ (v, ys)) × (first_digit ys ≡ None)) ⊎ ((d : ℕ) × (zs : List ℕ) × (d < 10) × (ys ≡ (48 + d) ∷ zs) × (p ≡ (10 * v + d, zs)))

extended_by : (v : ℕ) (ys : List ℕ) (o : Option (ℕ × List ℕ)) → first_digit ys ≡ o → Extended v ys (longer_number (v, ys) o)
unfolding Extended
extended_by v ys None e = inl (refl, e)
extended_by v ys (Some d) e = let h = leading_digit ys d.1 d.0 e in inr (d.0, d.1, h.0, h.1, refl)

extended_cases : (v : ℕ) (ys : List ℕ) → Extended v ys (extended_number (v, ys))
extended_cases v ys = extended_by v ys (first_digit ys) refl

extended_stops : (v : ℕ) (ys : List ℕ) → first_digit ys ≡ None → extended_number (v, ys) ≡ (v, ys)
extended_stops v ys e = ap (longer_number (v, ys)) e

extended_reads : (v d : ℕ) (ys : List ℕ) → d < 10 → extended_number (v, (48 + d) ∷ ys) ≡ (10 * v + d, ys)
extended_reads v d ys h = ap (longer_number (v, (48 + d) ∷ ys)) (leading_reads d ys h)

Written : List ℕ → ℕ × List ℕ → Type 0
Written xs p = (p.0 < 1000) × (xs ≡ short_decimal p.0 ++ p.1)

two_more : (a : ℕ) (xs ys : List ℕ) → 1 ≤ a → a < 10 → xs ≡ (48 + a) ∷ ys → Written xs (extended_number (extended_number (a, ys)))
unfolding Extended Written
two_more a xs ys l h e =
    ⊎_elim
    (λ p. let once = p.0 in
    let twice : extended_number (extended_number (a, ys)) ≡ (a, ys) = ap extended_number once ∙ extended_stops a ys p.1 in
    subst (λ q. (q.0 < 1000) × (xs ≡ short_decimal q.0 ++ q.1)) (sym twice) (omega arith, e ∙ ap (λ t. t ++ ys) (sym (decimal_1 a h))))
    (λ p. let b : ℕ = p.0 in let zs : List ℕ = p.1 in let hb = p.2 in
    ⊎_elim
    (λ r. let twice : extended_number (extended_number (a, ys)) ≡ (10 * a + b, zs) = ap extended_number p.4 ∙ r.0 in
    subst (λ q. (q.0 < 1000) × (xs ≡ short_decimal q.0 ++ q.1)) (sym twice)
    (omega arith, e ∙ ap (λ t. (48 + a) ∷ t) p.3 ∙ ap (λ t. t ++ zs) (sym (decimal_2 a b l h hb))))
    (λ r. let c : ℕ = r.0 in let ws : List ℕ = r.1 in let hc = r.2 in
    let twice : extended_number (extended_number (a, ys)) ≡ (10 * (10 * a + b) + c, ws) = ap extended_number p.4 ∙ r.4 in
    subst (λ q. (q.0 < 1000) × (xs ≡ short_decimal q.0 ++ q.1)) (sym twice)
    (omega arith, e ∙ ap (λ t. (48 + a) ∷ t) p.3 ∙ ap (λ t. (48 + a) ∷ (48 + b) ∷ t) r.3 ∙ ap (λ t. t ++ ws) (sym (decimal_3 a b c l h hb hc))))
    (extended_cases (10 * a + b) zs))
    (extended_cases a ys)

-- a number that is read is the number that stands there
pub number_is : (xs ys : List ℕ) (n : ℕ) → number xs ≡ Some (n, ys) → (n < 1000) × (xs ≡ short_decimal n ++ ys)
unfolding Written
number_is xs ys n e =
    let b = bind_some (first_digit xs) (λ d. Some (cond (eqb d.0 0) d (extended_number (extended_number d)))) (n, ys) e in
    let d : ℕ × List ℕ = b.0 in
    let h = leading_digit xs d.1 d.0 b.1 in
    let v : cond (eqb d.0 0) d (extended_number (extended_number d)) ≡ (n, ys) = (let f = b.2 in cc) in
    ⊎_elim
    (λ z. let same : d ≡ (n, ys) = sym (cond-true (eqb d.0 0) d (extended_number (extended_number d)) (eq-eqb d.0 0 z)) ∙ v in
    subst (λ q. (q.0 < 1000) × (xs ≡ short_decimal q.0 ++ q.1)) same
    (omega arith, h.1 ∙ ap (λ t. t ++ d.1) (sym (decimal_1 d.0 h.0))))
    (λ z. let same : extended_number (extended_number d) ≡ (n, ys) = sym (cond-false (eqb d.0 0) d (extended_number (extended_number d)) (ne_eqb d.0 0 z)) ∙ v in
    subst (λ q. (q.0 < 1000) × (xs ≡ short_decimal q.0 ++ q.1)) same (two_more d.0 xs d.1 (omega arith) h.0 h.1))
    (cases_eq d.0 0)

-- a number that is written is read again
module _ (y : ℕ) (ys : List ℕ) (stop : digit y ≡ false) where
  starts : (a : ℕ) (xs : List ℕ) → 1 ≤ a → a < 10 → number ((48 + a) ∷ xs) ≡ Some (extended_number (extended_number (a, xs)))
  starts a xs l h =
      ap (λ o. bind o (λ d. Some (cond (eqb d.0 0) d (extended_number (extended_number d))))) (leading_reads a xs h)
      ∙ ap Some (cond-false (eqb a 0) (a, xs) (extended_number (extended_number (a, xs))) (ne_eqb a 0 (omega arith)))

  end : (v : ℕ) → extended_number (v, y ∷ ys) ≡ (v, y ∷ ys)
  end v = extended_stops v (y ∷ ys) (leading_stops y ys stop)

  reads_1 : (a : ℕ) → 1 ≤ a → a < 10 → number ((48 + a) ∷ y ∷ ys) ≡ Some (a, y ∷ ys)
  reads_1 a l h = starts a (y ∷ ys) l h ∙ ap (λ p. Some (extended_number p)) (end a) ∙ ap Some (end a)

  reads_2 : (a b : ℕ) → 1 ≤ a → a < 10 → b < 10 → number ((48 + a) ∷ (48 + b) ∷ y ∷ ys) ≡ Some (10 * a + b, y ∷ ys)
  reads_2 a b l h k = starts a ((48 + b) ∷ y ∷ ys) l h ∙ ap (λ p. Some (extended_number p)) (extended_reads a b (y ∷ ys) k) ∙ ap Some (end (10 * a + b))

  reads_3 : (a b c : ℕ) → 1 ≤ a → a < 10 → b < 10 → c < 10 → number ((48 + a) ∷ (48 + b) ∷ (48 + c) ∷ y ∷ ys) ≡ Some (10 * (10 * a + b) + c, y ∷ ys)
  reads_3 a b c l h k m =
      starts a ((48 + b) ∷ (48 + c) ∷ y ∷ ys) l h
      ∙ ap (λ p. Some (extended_number p)) (extended_reads a b ((48 + c) ∷ y ∷ ys) k)
      ∙ ap Some (extended_reads (10 * a + b) c (y ∷ ys) m)

  pub number_reads : (n : ℕ) → n < 1000 → number (short_decimal n ++ y ∷ ys) ≡ Some (n, y ∷ ys)
  number_reads n h =
      ⊎_elim
      (λ a. ap (λ t. number (t ++ y ∷ ys)) (decimal_1 n a)
      ∙ ⊎_elim (λ z. ap (λ m. number ((48 + m) ∷ y ∷ ys)) z ∙ ap (λ m. Some (m, y ∷ ys)) (sym z)) (λ z. reads_1 n (omega arith) a) (cases_eq n 0))
      (λ a. ⊎_elim
      (λ b. let q : ℕ = n / 10 in let r : ℕ = n % 10 in
      let is : n ≡ 10 * q + r = omega arith in
      ap (λ m. number (short_decimal m ++ y ∷ ys)) is ∙ ap (λ t. number (t ++ y ∷ ys)) (decimal_2 q r (omega arith) (omega arith) (omega arith))
      ∙ reads_2 q r (omega arith) (omega arith) (omega arith) ∙ ap (λ m. Some (m, y ∷ ys)) (sym is))
      (λ b. let q : ℕ = n / 100 in let s : ℕ = n / 10 % 10 in let r : ℕ = n % 10 in
      let is : n ≡ 10 * (10 * q + s) + r = omega arith in
      ap (λ m. number (short_decimal m ++ y ∷ ys)) is ∙ ap (λ t. number (t ++ y ∷ ys)) (decimal_3 q s r (omega arith) (omega arith) (omega arith) (omega arith))
      ∙ reads_3 q s r (omega arith) (omega arith) (omega arith) (omega arith) ∙ ap (λ m. Some (m, y ∷ ys)) (sym is))
      (cases_lt n 100))
      (cases_lt n 10)
