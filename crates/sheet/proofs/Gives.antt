-- Slots given to a client one by one.
use Rattle.std.proofs.Common.{◌≡◌, ℕ, ◌+◌, ◌-◌, ◌<◌, Bool, true, false, cond, eqb, List, [], ◌∷◌, ◌++◌, length, get_or, take, drop, set, replicate, is_some, Some, None, Option, sym, refl, ap, ◌∙◌, add-zero, add_assoc, arith}
use Rattle.std.proofs.lemmas.List.{append_assoc, take_more, drop_more, length-append, length-replicate, length-take-le, set_at, get_or_at, replicate_more, get_or-drop, length-drop, take-append-drop}
use Rattle.numbers.specs.Entries.{entry_of, is_entry}
use Rattle.std.proofs.lemmas.Bool.{cond-false, ne_eqb}
use Rattle.std.proofs.lemmas.Bool.Decides.{nat_tests}
use Rattle.sheet.specs.Verdict.{entries_with_slots, has_filled_entry}

or_push : (b p q : Bool) (e : ℕ) → p ≡ cond q true (cond (eqb e 0) false true) → cond b p true ≡ cond (cond b q true) true (cond (eqb e 0) false true)
or_push true p q e h = h
or_push false p q e h = refl

filled_push : (es : List ℕ) (e : ℕ) → has_filled_entry (es ++ e ∷ []) ≡ cond (has_filled_entry es) true (cond (eqb e 0) false true)
filled_push [] e = refl
filled_push (x ∷ es) e = or_push (eqb x 0) (has_filled_entry (es ++ e ∷ [])) (has_filled_entry es) e (filled_push es e)

-- the entries with n slots given, by their number
pub slots_are : (c a n : ℕ) (es : List ℕ) → entries_with_slots c a n es ≡ take a es ++ (replicate n c ++ drop (a + n) es)
slots_are c a n es = ap (λ m. take a es ++ (replicate n c ++ drop (a + m) es)) (length-replicate n c)

module _ (c a n : ℕ) (es : List ℕ) (fits : a + n < length es) where
  front : List ℕ
  front = take a es ++ replicate n c

  front_length : length front ≡ a + n
  unfolding front
  front_length = length-append (take a es) (replicate n c) ∙ (let x = length-take-le a es (omega arith) in let y = length-replicate n c in omega arith)

  split : entries_with_slots c a n es ≡ front ++ (get_or es (a + n) 0 ∷ drop (a + n + 1) es)
  unfolding front
  split = slots_are c a n es ∙ sym (append_assoc (take a es) (replicate n c) (drop (a + n) es)) ∙ ap (λ t. (take a es ++ replicate n c) ++ t) (drop_more es (a + n) 0 fits)

  pub at_next : get_or (entries_with_slots c a n es) (a + n) 0 ≡ get_or es (a + n) 0
  at_next = ap (λ t. get_or t (a + n) 0) split ∙ get_or_at front (get_or es (a + n) 0) (drop (a + n + 1) es) 0 (a + n) front_length

  pub gave_more : set (entries_with_slots c a n es) (a + n) c ≡ entries_with_slots c a (n + 1) es
  unfolding front
  gave_more =
      let rest : List ℕ = drop (a + n + 1) es in
      ap (λ t. set t (a + n) c) split
      ∙ set_at front (get_or es (a + n) 0) rest c (a + n) front_length
      ∙ append_assoc (take a es) (replicate n c) (c ∷ rest)
      ∙ ap (λ t. take a es ++ t) (sym (append_assoc (replicate n c) (c ∷ []) rest) ∙ ap (λ t. t ++ rest) (replicate_more n c))
      ∙ ap (λ m. take a es ++ (replicate (n + 1) c ++ drop m es)) (add_assoc a n 1)
      ∙ sym (slots_are c a (n + 1) es)

  pub filled_more : has_filled_entry (take (n + 1) (drop a es)) ≡ cond (has_filled_entry (take n (drop a es))) true (cond (eqb (get_or es (a + n) 0) 0) false true)
  filled_more =
      ap has_filled_entry (take_more (drop a es) n 0 (rw length-drop (omega arith)))
      ∙ filled_push (take n (drop a es)) (get_or (drop a es) n 0)
      ∙ ap (λ x. cond (has_filled_entry (take n (drop a es))) true (cond (eqb x 0) false true)) (get_or-drop a es n 0)

-- an entry is a client's if it is not 0
pub some_entry : (o : Option ℕ) → is_entry o ≡ true → is_some o ≡ cond (eqb (entry_of o) 0) false true
some_entry None h = refl
some_entry (Some c) h = sym (cond-false (eqb c 0) false true (ne_eqb c 0 (λ e. grind (arith, nat_tests))))

-- the slot behind the first a and the n that are given already
module _ (c a n slot : ℕ) (es now : List ℕ) (place : slot - 1 ≡ a + n) (within : a + n < length es) (is : now ≡ entries_with_slots c a n es) where
  pub slot_given : set now (slot - 1) c ≡ entries_with_slots c a (n + 1) es
  slot_given = rw (place, is) (gave_more c a n es within)

  pub slot_read : get_or now (slot - 1) 0 ≡ get_or es (a + n) 0
  slot_read = rw (place, is) (at_next c a n es within)

pub gave_none : (c a : ℕ) (es : List ℕ) → es ≡ entries_with_slots c a 0 es
gave_none c a es = sym (take-append-drop a es) ∙ ap (λ i. take a es ++ drop i es) (sym (add-zero a))

pub again_then : (b t u : Bool) → u ≡ cond b true t → t ≡ true → true ≡ u
again_then true t u e f = sym e
again_then false t u e f = sym (e ∙ f)

pub again_else : (b t u : Bool) → u ≡ cond b true t → t ≡ false → b ≡ u
again_else true t u e f = sym e
again_else false t u e f = sym (e ∙ f)
