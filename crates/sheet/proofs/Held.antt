-- Entries slot by slot: what giving a group changes, and when one of its slots is taken.
use Rattle.std.proofs.Common.{◌≡◌, ℕ, zero, suc, ◌+◌, ◌-◌, ◌<◌, ◌≤◌, true, false, eqb, ◌⊎◌, List, [], ◌∷◌, ◌++◌, length, get_or, take, drop, replicate, sym, refl, ap, ◌∙◌, inl, inr, ⊎_elim, arith}
use Rattle.std.proofs.lemmas.List.{length-replicate, length-take-le, length-take, get_or_append_left, get_or-append_right, get_or-take, get_or-drop, get_or-replicate}
use Rattle.std.proofs.lemmas.Bool.{cases_lt, cond-true, cond-false}
use Rattle.std.proofs.lemmas.Bool.Decides.{eqb_tells, nat_tests}
use Rattle.bits.proofs.Splices.{length_splice}
use Rattle.form.specs.Lease.{Group}
use Rattle.sheet.specs.Verdict.{has_filled_entry, fits, entries_with_group, size, has_used_slot}
use Rattle.sheet.specs.Laws.{GroupsInRange, HeldBy, Holds}
use Rattle.sheet.proofs.Gives.{slots_are}

-- the entry of slot k
abbrev pub at : List ℕ → ℕ → ℕ
at es k = get_or es (k - 1) 0

pub holds_or_not : (g : Group) (k : ℕ) → Holds g k ⊎ (Holds g k → ⊥)
holds_or_not g k =
    ⊎_elim
    (λ a. inr (λ h. omega arith))
    (λ a. ⊎_elim (λ b. inr (λ h. omega arith)) (λ b. inl (a, b)) (cases_lt g.last k))
    (cases_lt k g.first)

pub held_or_not : (gs : List Group) (k : ℕ) → HeldBy gs k ⊎ (HeldBy gs k → ⊥)
held_or_not [] k = inr (λ h. h)
held_or_not (g ∷ gs) k =
    ⊎_elim
    (λ h. inl (inl h))
    (λ n. ⊎_elim (λ h. inl (inr h)) (λ m. inr (λ h. ⊎_elim n m h)) (held_or_not gs k))
    (holds_or_not g k)

pub held_in_range : (gs : List Group) (k : ℕ) → GroupsInRange gs → HeldBy gs k → (1 ≤ k) × (k ≤ 480)
held_in_range [] k r h = absurd h
held_in_range (g ∷ gs) k r h = ⊎_elim (λ a. (omega arith, omega arith)) (λ a. held_in_range gs k r.3 a) h

pub fits_in_range : (c : ℕ) (g : Group) → 1 ≤ c → c ≤ 480 → 1 ≤ g.first → g.first ≤ g.last → g.last ≤ 480 → fits c g ≡ true
fits_in_range c g a b d e f = grind (arith, nat_tests)

pub in_range_fits : (c : ℕ) (g : Group) → fits c g ≡ true → (1 ≤ c) × (c ≤ 480) × (1 ≤ g.first) × (g.first ≤ g.last) × (g.last ≤ 480)
in_range_fits c g e = (grind (arith, nat_tests), grind (arith, nat_tests), grind (arith, nat_tests), grind (arith, nat_tests), grind (arith, nat_tests))

-- a group in range, given to c
module _ (c : ℕ) (g : Group) (es : List ℕ) (full : length es ≡ 480) (low : 1 ≤ g.first) (order : g.first ≤ g.last) (high : g.last ≤ 480) where
  a : ℕ
  a = g.first - 1

  n : ℕ
  n = g.last + 1 - g.first

  fore : length (take a es) ≡ a
  unfolding a
  fore = length-take-le (g.first - 1) es (omega arith)

  tail : List ℕ
  tail = replicate n c ++ drop (a + n) es

  pub length_give : length (entries_with_group c g es) ≡ 480
  unfolding a n
  length_give =
      let z = length-replicate (g.last + 1 - g.first) c in
      length_splice (g.first - 1) (replicate (g.last + 1 - g.first) c) es (omega arith) ∙ full

  pub give_held : (k : ℕ) → Holds g k → at (entries_with_group c g es) k ≡ c
  unfolding a n tail
  give_held k h =
      ap (λ l. at l k) (slots_are c a n es)
      ∙ get_or-append_right (take a es) tail a (k - 1) 0 fore (omega arith)
      ∙ get_or_append_left (replicate n c) (drop (a + n) es) 0 (k - 1 - a) (let z = length-replicate n c in omega arith)
      ∙ get_or-replicate n (k - 1 - a) c 0 (omega arith)

  pub give_other : (k : ℕ) → 1 ≤ k → (Holds g k → ⊥) → at (entries_with_group c g es) k ≡ at es k
  unfolding a n tail
  give_other k one non =
      ap (λ l. at l k) (slots_are c a n es)
      ∙ ⊎_elim
      (λ b. get_or_append_left (take a es) tail 0 (k - 1) (let f = fore in omega arith) ∙ get_or-take a es (k - 1) 0 (omega arith))
      (λ b. let past : g.last < k = ⊎_elim (λ x. x) (λ x. absurd (non (omega arith, x))) (cases_lt g.last k) in
      let z = length-replicate n c in
      let same : a + n + (k - 1 - a - n) ≡ k - 1 = omega arith in
      get_or-append_right (take a es) tail a (k - 1) 0 fore (omega arith)
      ∙ get_or-append_right (replicate n c) (drop (a + n) es) n (k - 1 - a) 0 z (omega arith)
      ∙ get_or-drop (a + n) es (k - 1 - a - n) 0
      ∙ ap (λ i. get_or es i 0) same)
      (cases_lt k g.first)

-- an entry that is not empty
filled_some : (xs : List ℕ) → has_filled_entry xs ≡ true → (i : ℕ) × (i < length xs) × (get_or xs i 0 ≡ 0 → ⊥)
filled_some [] e = absurd (let z : ◌≡◌ {A = ℕ} 0 1 = cc in omega arith)
filled_some (x ∷ xs) e =
    ⊎_elim
    (λ t. let r = filled_some xs (sym (cond-true (eqb x 0) (has_filled_entry xs) true t.0) ∙ e) in (suc r.0, omega arith, r.2))
    (λ t. (0, omega arith, t.1))
    (eqb_tells x 0)

filled_none : (xs : List ℕ) (i : ℕ) → has_filled_entry xs ≡ false → get_or xs i 0 ≡ 0
filled_none [] i e = refl
filled_none (x ∷ xs) zero e =
    ⊎_elim (λ t. t.1) (λ t. absurd (let f : true ≡ false = sym (cond-false (eqb x 0) (has_filled_entry xs) true t.0) ∙ e in let z : ◌≡◌ {A = ℕ} 0 1 = cc in omega arith)) (eqb_tells x 0)
filled_none (x ∷ xs) (suc i) e =
    ⊎_elim (λ t. filled_none xs i (sym (cond-true (eqb x 0) (has_filled_entry xs) true t.0) ∙ e)) (λ t. absurd (let f : true ≡ false = sym (cond-false (eqb x 0) (has_filled_entry xs) true t.0) ∙ e in let z : ◌≡◌ {A = ℕ} 0 1 = cc in omega arith)) (eqb_tells x 0)

part_at : (es : List ℕ) (s m i : ℕ) → i < m → get_or (take m (drop s es)) i 0 ≡ get_or es (s + i) 0
part_at es s m i h = get_or-take m (drop s es) i 0 h ∙ get_or-drop s es i 0

pub used_some : (g : Group) (es : List ℕ) → 1 ≤ g.first → has_used_slot g es ≡ true → (k : ℕ) × Holds g k × (at es k ≡ 0 → ⊥)
used_some g es low e =
    let r = filled_some (take (size g) (drop (g.first - 1) es)) e in
    let i : ℕ = r.0 in
    let l = length-take (size g) (drop (g.first - 1) es) in
    let h : i < size g = omega arith in
    let same : g.first - 1 + i ≡ g.first + i - 1 = omega arith in
    (g.first + i, (omega arith, omega arith), λ z. r.2 (part_at es (g.first - 1) (size g) i h ∙ ap (λ j. get_or es j 0) same ∙ z))

pub used_none : (g : Group) (es : List ℕ) (k : ℕ) → 1 ≤ g.first → has_used_slot g es ≡ false → Holds g k → at es k ≡ 0
used_none g es k low e h =
    let same : g.first - 1 + (k - g.first) ≡ k - 1 = omega arith in
    sym (part_at es (g.first - 1) (size g) (k - g.first) (omega arith) ∙ ap (λ j. get_or es j 0) same)
    ∙ filled_none (take (size g) (drop (g.first - 1) es)) (k - g.first) e
