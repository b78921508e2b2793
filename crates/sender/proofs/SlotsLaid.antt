-- What the loop over the slots keeps.
use Rattle.std.proofs.Common.{◌≡◌, ℕ, zero, suc, ◌+◌, ◌-◌, ◌<◌, ◌≤◌, ◌⊎◌, inl, inr, ⊎_elim, List, [], ◌∷◌, ◌++◌, length, get_or, take, set, sym, refl, subst, ap, ◌∙◌, ap₂, arith}
use Rattle.std.proofs.lemmas.List.{take_all, take_more_set, length-set}
use Rattle.std.proofs.lemmas.Bool.{cases_lt}
use Rattle.block.specs.declared.Block.{Block}
use Rattle.block.specs.declared.Pair.{Pair}
use Rattle.port.specs.Model.{Lists}
use Rattle.numbers.specs.Walk.{numbers_between}
use Rattle.numbers.proofs.Walks.{numbers_between_next, numbers_between_end}
use Rattle.under_way.specs.Departure.{Departure}
use Rattle.under_way.specs.Leaving.{slots_answer, with_pair}
use Rattle.sending.proofs.Laying.{lists_more, pairs_more}
use Rattle.sending.specs.Laid.{lists_after_frame, lists_after_slot, pair_for, pairs_for}

-- slots 1 to n are laid, from the lists w, of which v is left
pub record Laid (entries : List ℕ) (n : ℕ) (w v : Lists) (frame : Departure) (to_come : List ℕ) : Type 0 where
  pub walk : to_come ≡ numbers_between (n + 1) 480
  pub within : n ≤ 480
  pub between : frame.rest ≡ []
  pub many : (n ≡ 0) ⊎ (length frame.pairs ≡ 480)
  pub laid : take n frame.pairs ≡ pairs_for (take n entries) w
  pub left : v ≡ lists_after_frame (take n entries) w

pub none_laid : (entries : List ℕ) (w : Lists) (frame : Departure) (to_come : List ℕ) → to_come ≡ numbers_between 1 480 → frame.rest ≡ [] → Laid entries 0 w w frame to_come
unfolding pairs_for lists_after_frame
none_laid entries w frame to_come e h = record { walk = e; within = omega arith; between = h; many = inl refl; laid = refl; left = refl }

head_is : (n k : ℕ) (rest : List ℕ) → numbers_between (n + 1) 480 ≡ k ∷ rest → (n < 480) × ((k ≡ n + 1) × (rest ≡ numbers_between (n + 1 + 1) 480))
head_is n k rest e =
    ⊎_elim
    (λ (h : n < 480).
    let f : (n + 1) ∷ numbers_between (n + 1 + 1) 480 ≡ k ∷ rest = sym (numbers_between_next (n + 1) 480 (omega arith)) ∙ e in
    (h, (cc, cc)))
    (λ (h : 480 ≤ n).
    let f : [] ≡ k ∷ rest = sym (numbers_between_end (n + 1) 480 (omega arith)) ∙ e in
    absurd cc)
    (cases_lt n 480)

between_pairs : (k : ℕ) (p : Pair) (frame : Departure) → frame.rest ≡ [] → with_pair (slots_answer frame.rest) k p frame ≡ record frame { pairs = set frame.pairs (k - 1) p }
between_pairs k p frame e = ap (λ (r : List Block). with_pair (slots_answer r) k p frame) e

-- one slot more, the next of the walk
pub one_laid :
    (entries : List ℕ) (n : ℕ) (w v u : Lists) (frame new : Departure) (to_come rest : List ℕ) (k : ℕ) (p : Pair)
    → length entries ≡ 480
    → Laid entries n w v frame to_come
    → to_come ≡ k ∷ rest
    → p ≡ pair_for (get_or entries (k - 1) 0) v
    → u ≡ lists_after_slot (get_or entries (k - 1) 0) v
    → new ≡ with_pair (slots_answer frame.rest) k p frame
    → length new.pairs ≡ 480
    → Laid entries (n + 1) w u new rest
one_laid entries n w v u frame new to_come rest k p long s e pair left made many =
    let h = head_is n k rest (sym s.walk ∙ e) in
    let at : k - 1 ≡ n = omega (arith, h.1.0) in
    let new_is : new ≡ record frame { pairs = set frame.pairs n p } =
    made ∙ between_pairs k p frame s.between ∙ ap (λ (i : ℕ). record frame { pairs = set frame.pairs i p }) at in
    let many_pairs : length frame.pairs ≡ 480 =
    sym (length-set frame.pairs n p) ∙ sym (ap (λ (d : Departure). length d.pairs) new_is) ∙ many in
    let entry : get_or entries (k - 1) 0 ≡ get_or entries n 0 = ap (λ (i : ℕ). get_or entries i 0) at in
    record {
      walk = h.1.1;
      within = omega (arith, h.0);
      between = ap (λ (d : Departure). d.rest) new_is ∙ s.between;
      many = inr many;
      laid =
          ap (λ (d : Departure). take (n + 1) d.pairs) new_is
          ∙ take_more_set frame.pairs n p (omega (arith, h.0, many_pairs))
          ∙ ap (λ (l : List Pair). l ++ (p ∷ [])) s.laid
          ∙ ap (λ (q : Pair). pairs_for (take n entries) w ++ (q ∷ [])) (pair ∙ ap (λ (x : ℕ). pair_for x v) entry ∙ ap (pair_for (get_or entries n 0)) s.left)
          ∙ sym (pairs_more entries w n (omega (arith, h.0, long)));
      left =
          left ∙ ap (λ (x : ℕ). lists_after_slot x v) entry ∙ ap (lists_after_slot (get_or entries n 0)) s.left
          ∙ sym (lists_more entries w n (omega (arith, h.0, long)));
    }

-- all slots are laid, where none is to come
pub all_laid :
    (entries : List ℕ) (n : ℕ) (w v : Lists) (frame : Departure) (to_come : List ℕ)
    → length entries ≡ 480
    → Laid entries n w v frame to_come
    → to_come ≡ []
    → (frame ≡ record { pairs = pairs_for entries w; rest = [] }) × (v ≡ lists_after_frame entries w)
all_laid entries n w v frame to_come long s e =
    let last : n ≡ 480 =
    ⊎_elim
    (λ (h : n < 480).
    let f : (n + 1) ∷ numbers_between (n + 1 + 1) 480 ≡ [] = sym (numbers_between_next (n + 1) 480 (omega arith)) ∙ sym s.walk ∙ e in
    absurd cc)
    (λ (h : 480 ≤ n). let w : n ≤ 480 = s.within in omega arith)
    (cases_lt n 480) in
    let many : length frame.pairs ≡ 480 = ⊎_elim (λ (z : n ≡ 0). absurd (omega (arith, z, last))) (λ m. m) s.many in
    let entries_all : take n entries ≡ entries = take_all n entries (omega (arith, last, long)) in
    let made : List Pair → List Block → Departure = λ ps bs. record { pairs = ps; rest = bs } in (
      ap₂ made
          (sym (take_all n frame.pairs (omega (arith, last, many))) ∙ s.laid ∙ ap (λ (l : List ℕ). pairs_for l w) entries_all)
          s.between,
      s.left ∙ ap (λ (l : List ℕ). lists_after_frame l w) entries_all,
    )

-- the same, where the count is that of what was walked
pub next_laid :
    (entries : List ℕ) (n m : ℕ) (w v u : Lists) (frame new : Departure) (to_come rest : List ℕ) (k : ℕ) (p : Pair)
    → m ≡ n + 1
    → length entries ≡ 480
    → Laid entries n w v frame to_come
    → to_come ≡ k ∷ rest
    → p ≡ pair_for (get_or entries (k - 1) 0) v
    → u ≡ lists_after_slot (get_or entries (k - 1) 0) v
    → new ≡ with_pair (slots_answer frame.rest) k p frame
    → length new.pairs ≡ 480
    → Laid entries m w u new rest
next_laid entries n m w v u frame new to_come rest k p count long s e pair left made many =
    let P : ℕ → Type 0 = λ i. Laid entries i w u new rest in
    subst P (sym count) (one_laid entries n w v u frame new to_come rest k p long s e pair left made many)
