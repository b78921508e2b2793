-- How a share grows by one entry, and what count and first slot say of a client's slots.
use Rattle.std.proofs.Common.{◌≡◌, ℕ, zero, suc, ◌+◌, ◌-◌, ◌<◌, ◌≤◌, true, false, eqb, List, [], ◌∷◌, cond, map, length, get_or, drop, Some, None, Option, sym, refl, ap, ◌∙◌, inl, inr, add_comm, ◌==◌, arith}
use Rattle.std.proofs.lemmas.Bool.{cases_Bool, cond-true, cond-false, eq-eqb, ne_eqb, eqb-true, eqb-false}
use Rattle.std.proofs.lemmas.List.Recursion.{is_count_by}
use Rattle.std.proofs.lemmas.Bool.Decides.{nat_tests}
use Rattle.std.proofs.lemmas.List.Quantifiers.{position-Some}
use Rattle.std.specs.List.{count_by, position}
use Rattle.std.specs.Option.{option_map_or}
use Rattle.numbers.specs.Entries.{entry_of}
use Rattle.calendar.specs.Share.{slot_count, first_from, first_slot, is_client, HasSlot, ShareLaw}

pub count_yes : (c e : ℕ) (es : List ℕ) → eqb e c ≡ true → slot_count c (e ∷ es) ≡ slot_count c es + 1
count_yes c e es h = cond-true (eqb e c) _ _ h

pub count_no : (c e : ℕ) (es : List ℕ) → eqb e c ≡ false → slot_count c (e ∷ es) ≡ slot_count c es
count_no c e es h = cond-false (eqb e c) _ _ h

pub first_yes : (s c e : ℕ) (es : List ℕ) → eqb e c ≡ true → first_from s c (e ∷ es) ≡ s
first_yes s c e es h = cond-true (eqb e c) _ _ h

pub first_no : (s c e : ℕ) (es : List ℕ) → eqb e c ≡ false → first_from s c (e ∷ es) ≡ first_from (s + 1) c es
first_no s c e es h = cond-false (eqb e c) _ _ h

pub count_le : (c : ℕ) (es : List ℕ) → slot_count c es ≤ length es
count_le c [] = omega arith
count_le c (e ∷ es) =
    elim (cases_Bool (eqb e c))
    [ inl t ↦ omega (arith, count_yes c e es t, count_le c es) | inr f ↦ omega (arith, count_no c e es f, count_le c es) ]

-- count and first slot are 0 together
zero_count : (s c : ℕ) (es : List ℕ) → 1 ≤ s → slot_count c es ≡ 0 → first_from s c es ≡ 0
zero_count s c [] low h = refl
zero_count s c (e ∷ es) low h =
    elim (cases_Bool (eqb e c)) [
      | inl t ↦ absurd (omega (arith, count_yes c e es t))
      | inr f ↦ first_no s c e es f ∙ zero_count (s + 1) c es (omega arith) (sym (count_no c e es f) ∙ h)
    ]

zero_first : (s c : ℕ) (es : List ℕ) → 1 ≤ s → first_from s c es ≡ 0 → slot_count c es ≡ 0
zero_first s c [] low h = refl
zero_first s c (e ∷ es) low h =
    elim (cases_Bool (eqb e c)) [
      | inl t ↦ absurd (omega (arith, first_yes s c e es t))
      | inr f ↦ count_no c e es f ∙ zero_first (s + 1) c es (omega arith) (sym (first_no s c e es f) ∙ h)
    ]

-- count 0 says that no entry is the client's
none_is : (c : ℕ) (es : List ℕ) → slot_count c es ≡ 0 → (k : ℕ) → k < length es → get_or es k 0 ≡ c → ⊥
none_is c [] h k within own = omega arith
none_is c (e ∷ es) h zero within own = omega (arith, count_yes c e es (eq-eqb e c own))
none_is c (e ∷ es) h (suc k) within own =
    elim (cases_Bool (eqb e c)) [
      | inl t ↦ omega (arith, count_yes c e es t)
      | inr f ↦ none_is c es (sym (count_no c e es f) ∙ h) k (omega arith) own
    ]

-- any other first slot lies p places on, where p is the first place of the client
record Found (s c : ℕ) (es : List ℕ) (p : ℕ) : Type 0 where
  at : first_from s c es ≡ s + p
  within : p < length es
  own : get_or es p 0 ≡ c
  lowest : (k : ℕ) → k < p → get_or es k 0 ≡ c → ⊥

later :
    (s c e : ℕ) (es : List ℕ) → eqb e c ≡ false → (p : ℕ) → Found (s + 1) c es p →
    (k : ℕ) → k < suc p → get_or (e ∷ es) k 0 ≡ c → ⊥
later s c e es f p rest zero below h = eqb-false e c f h
later s c e es f p rest (suc k) below h = rest.lowest k (omega arith) h

found : (s c : ℕ) (es : List ℕ) → (first_from s c es ≡ 0 → ⊥) → (p : ℕ) × Found s c es p
found s c [] some = absurd (some refl)
found s c (e ∷ es) some =
    elim (cases_Bool (eqb e c)) [
      | inl t ↦ (
        0,
        record {
          at = omega (arith, first_yes s c e es t);
          within = omega arith;
          own = eqb-true e c t;
          lowest = λ k below h. omega arith;
        },
      )
      | inr f ↦
          let rest = found (s + 1) c es (λ z. some (first_no s c e es f ∙ z)) in (
            suc rest.0,
            record {
              at = omega (arith, first_no s c e es f, rest.1.at);
              within = omega (arith, rest.1.within);
              own = rest.1.own;
              lowest = later s c e es f rest.0 rest.1;
            },
          )
    ]

found_own : (c : ℕ) (es : List ℕ) → ((p : ℕ) × Found 1 c es p) → HasSlot c es (first_slot c es)
found_own c es (p, f) =
    let e : first_slot c es - 1 ≡ p = omega (arith, f.at) in
    (omega (arith, f.at), omega (arith, f.at, f.within), rw e f.own)

found_lowest :
    (c : ℕ) (es : List ℕ) → ((p : ℕ) × Found 1 c es p) → (s : ℕ) → s < first_slot c es → HasSlot c es s → ⊥
found_lowest c es (p, f) s below h = f.lowest (s - 1) (omega (arith, f.at)) h.2

pub share_law : (c : ℕ) (es : List ℕ) → ShareLaw c es (slot_count c es) (first_slot c es)
share_law c es =
    record {
      none = λ z s h. none_is c es (zero_first 1 c es (omega arith) z) (s - 1) (omega arith) h.2;
      own = λ some. found_own c es (found 1 c es some);
      lowest = λ s below h. found_lowest c es (found 1 c es (λ z. omega arith)) s below h;
      together = (zero_count 1 c es (omega arith), zero_first 1 c es (omega arith));
    }

-- no client has number 0, so an empty entry is no client's
is_own : (c : ℕ) → 1 ≤ c → (o : Option ℕ) → (entry_of o == c) ≡ is_client c o
is_own c low (Some e) = refl
is_own c low None = ne_eqb 0 c (λ e. omega arith)

-- the client's slots are counted among the entries
is_count : (c : ℕ) → 1 ≤ c → (os : List (Option ℕ)) → slot_count c (map entry_of os) ≡ count_by (is_client c) os
is_count c low os =
    is_count_by (λ xs. slot_count c (map entry_of xs)) (is_client c) refl
    (λ x xs.
    ap (λ b. cond b (slot_count c (map entry_of xs) + 1) (slot_count c (map entry_of xs))) (is_own c low x)
    ∙ ap (λ m. cond (is_client c x) m (slot_count c (map entry_of xs))) (add_comm (slot_count c (map entry_of xs)) 1)) os

-- the first slot is one more than the place of the first entry
is_first : (s c : ℕ) → 1 ≤ c → (os : List (Option ℕ)) → first_from s c (map entry_of os) ≡ option_map_or (λ i. s + i) (position (is_client c) os) 0
is_first s c low [] = refl
is_first s c low (o ∷ os) =
    elim (cases_Bool (is_client c o)) [
      | inl t ↦ grind (arith, nat_tests, first_yes s c (entry_of o) (map entry_of os) (is_own c low o ∙ t))
      | inr f ↦ grind (arith, nat_tests, first_no s c (entry_of o) (map entry_of os) (is_own c low o ∙ f), is_first (s + 1) c low os)
    ]

-- entries that are not the client's count nothing
count_dropped : (c : ℕ) → 1 ≤ c → (os : List (Option ℕ)) (i : ℕ) → ((k : ℕ) (d : Option ℕ) → k < i → is_client c (get_or os k d) ≡ false) → slot_count c (map entry_of os) ≡ slot_count c (map entry_of (drop i os))
count_dropped c low os zero h = refl
count_dropped c low [] (suc i) h = refl
count_dropped c low (o ∷ os) (suc i) h =
    count_no c (entry_of o) (map entry_of os) (is_own c low o ∙ h 0 None (omega arith))
    ∙ count_dropped c low os i (λ k d below. h (suc k) d (omega (arith, below)))

-- what count and first slot say, wherever they come from
share_law_at : (c : ℕ) (es : List ℕ) (n f : ℕ) → n ≡ slot_count c es → f ≡ first_slot c es → (n ≡ slot_count c es) × (f ≡ first_slot c es) × ShareLaw c es n f
share_law_at c es n f h k = (h, k, rw (h, k) (share_law c es))

-- what a search for the first entry finds
abbrev pub Shares : ℕ → List (Option ℕ) → ℕ → ℕ → Type 0
Shares c os n f = (n ≡ slot_count c (map entry_of os)) × (f ≡ first_slot c (map entry_of os)) × ShareLaw c (map entry_of os) n f

pub some_share : (c i n : ℕ) → 1 ≤ c → (os : List (Option ℕ)) → position (is_client c) os ≡ Some i → n ≡ count_by (is_client c) (drop i os) → Shares c os n (i + 1)
some_share c i n low os h e =
    share_law_at c (map entry_of os) n (i + 1)
    (e ∙ sym (count_dropped c low os i (λ k d below. (position-Some (is_client c) os i d h).2 k below) ∙ is_count c low (drop i os)))
    (add_comm i 1 ∙ sym (is_first 1 c low os ∙ ap (λ o. option_map_or (λ k. 1 + k) o 0) h))

pub no_share : (c : ℕ) → 1 ≤ c → (os : List (Option ℕ)) → position (is_client c) os ≡ None → Shares c os 0 0
no_share c low os h =
    let first : first_slot c (map entry_of os) ≡ 0 = is_first 1 c low os ∙ ap (λ o. option_map_or (λ k. 1 + k) o 0) h in
    share_law_at c (map entry_of os) 0 0 (sym ((share_law c (map entry_of os)).together.1 first)) (sym first)
