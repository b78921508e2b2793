-- What a class says of a block, and the class of a block of which that is said.
use Rattle.std.proofs.Common.{◌≡◌, ◌≢◌, ◌⊎◌, ℕ, ◌+◌, ◌<◌, zero, suc, true, false, Bool, not, cond, eqb, ltb, List, [], ◌∷◌, length, get_or, Some, None, Option, sym, refl, ap, ◌∙◌, inl, inr, ⊎_elim, arith, subst}
use Rattle.std.specs.List.{position, position_or_len}
use Rattle.std.specs.Option.{option_map_or}
use Rattle.std.specs.Str.{bytes_eq}
use Rattle.std.proofs.lemmas.Bool.{cases_Bool, cond-true, cond-false, both_ways, eq-eqb, eqb-true, eqb-false}
use Rattle.std.proofs.lemmas.Bool.Decides.{nat_tests}
use Rattle.std.proofs.lemmas.Slice.Eq.{bytes_eq-Decides}
use Rattle.std.proofs.lemmas.List.Quantifiers.{position-Some}
use Rattle.block.specs.declared.Sync.{Sync}
use Rattle.block.specs.declared.Sync.TheVariants.{Zeros, Control, Data as DataSync, Ones}
use Rattle.block.specs.declared.Block.{Block}
use Rattle.block.specs.declared.Class.{Class}
use Rattle.block.specs.declared.Class.TheVariants.{Data, Idle, Characters, OrderedSet, Start, End, Unlawful}
use Rattle.block.specs.Classes.{class_of, class_by, control_class, end_class, end_type, end_types}
use Rattle.block.specs.Fixed.{idle_bytes}
use Rattle.block.specs.Told.{type_of, IsNoType, IsOfClass, ClassesTold}

-- a place that passes lies at or behind the first
first_before : (p : ℕ → Bool) (xs : List ℕ) (k : ℕ) → k < length xs → p (get_or xs k 0) ≡ true → position_or_len p xs < length xs
first_before p [] k within passes = absurd (omega arith)
first_before p (x ∷ xs) zero within passes =
    let e : position_or_len p (x ∷ xs) ≡ 0 = cond-false (not (p x)) _ _ (ap not passes) in
    omega (arith, e)
first_before p (x ∷ xs) (suc k) within passes =
    let rest = first_before p xs k (omega arith) passes in
    elim (cases_Bool (p x)) [
      | inl t ↦ let e : position_or_len p (x ∷ xs) ≡ 0 = cond-false (not (p x)) _ _ (ap not t) in omega (arith, e)
      | inr f ↦
          let e : position_or_len p (x ∷ xs) ≡ 1 + position_or_len p xs = cond-true (not (p x)) _ _ (ap not f) in
          omega (arith, e, rest)
    ]

is_some_then : (b : Bool) (n : ℕ) → b ≡ true → cond b (Some n) None ≡ None → ⊥
is_some_then true n t h = cc
is_some_then false n t h = cc

-- where no type is found, it is the type of no end
pub no_end : (t : ℕ) → position (λ k. eqb k t) end_types ≡ None → (n : ℕ) → n < 8 → t ≢ end_type n
no_end t h n within e =
    let before = first_before (λ k. eqb k t) end_types n within (eq-eqb (end_type n) t (sym e)) in
    is_some_then (ltb (position_or_len (λ k. eqb k t) end_types) (length end_types)) (position_or_len (λ k. eqb k t) end_types) (grind (arith, nat_tests)) h

-- a control block's class, by its type and its bytes
abbrev control_by : ℕ → List ℕ → Class
control_by t bs =
    cond (eqb t 0x1E) (cond (bytes_eq bs idle_bytes) Idle Characters) (cond (eqb t 0x4B) OrderedSet (cond (eqb t 0x78) Start (end_class t)))

-- what is said of a control block of this class
abbrev Said : List ℕ → Class → Type 0
Said bs c = IsOfClass c (record { sync = Control; bytes = bs })

-- a class that a control block's class is equal to is said of it
said_at : (bs : List ℕ) (c d : Class) → c ≡ d → Said bs d → Said bs c
said_at bs c d e said = subst (Said bs) (sym e) said

module _ (bs : List ℕ) (other : get_or bs 0 0 ≢ 0x1E) (unordered : get_or bs 0 0 ≢ 0x4B) (unopened : get_or bs 0 0 ≢ 0x78) where
  end_said : (o : Option ℕ) → position (λ k. eqb k (get_or bs 0 0)) end_types ≡ o → Said bs (option_map_or End o Unlawful)
  end_said None e = inr (inr (refl, (other, unordered, unopened, no_end (get_or bs 0 0) e)))
  end_said (Some n) e =
      let found = position-Some (λ k. eqb k (get_or bs 0 0)) end_types n 0 e in
      (refl, found.0, sym (eqb-true (end_type n) (get_or bs 0 0) found.1))

control_said : (bs : List ℕ) → Said bs (control_class bs)
control_said bs =
    let t = get_or bs 0 0 in
    elim (cases_Bool (eqb t 0x1E)) [
      | inl typed ↦
          elim (cases_Bool (bytes_eq bs idle_bytes)) [
            | inl same ↦
                said_at bs (control_class bs) Idle (cond-true (eqb t 0x1E) _ _ typed ∙ cond-true (bytes_eq bs idle_bytes) Idle Characters same)
                (refl, (bytes_eq-Decides bs idle_bytes).0 same)
            | inr apart ↦
                said_at bs (control_class bs) Characters (cond-true (eqb t 0x1E) _ _ typed ∙ cond-false (bytes_eq bs idle_bytes) Idle Characters apart)
                (refl, eqb-true t 0x1E typed, λ e. both_ways (bytes_eq bs idle_bytes) apart ((bytes_eq-Decides bs idle_bytes).1 e))
          ]
      | inr other ↦
          elim (cases_Bool (eqb t 0x4B)) [
            | inl typed ↦
                said_at bs (control_class bs) OrderedSet (cond-false (eqb t 0x1E) _ _ other ∙ cond-true (eqb t 0x4B) OrderedSet _ typed) (refl, eqb-true t 0x4B typed)
            | inr unordered ↦
                elim (cases_Bool (eqb t 0x78)) [
                  | inl typed ↦
                      said_at bs (control_class bs) Start
                      (cond-false (eqb t 0x1E) _ _ other ∙ cond-false (eqb t 0x4B) OrderedSet _ unordered ∙ cond-true (eqb t 0x78) Start _ typed)
                      (refl, eqb-true t 0x78 typed)
                  | inr unopened ↦
                      said_at bs (control_class bs) (end_class t)
                      (cond-false (eqb t 0x1E) _ _ other ∙ cond-false (eqb t 0x4B) OrderedSet _ unordered ∙ cond-false (eqb t 0x78) Start _ unopened)
                      (end_said bs (eqb-false t 0x1E other) (eqb-false t 0x4B unordered) (eqb-false t 0x78 unopened) (position (λ k. eqb k t) end_types) refl)
                ]
          ]
    ]

said_by : (s : Sync) (bs : List ℕ) → IsOfClass (class_by s bs) (record { sync = s; bytes = bs })
said_by Zeros bs = inl refl
said_by Control bs = control_said bs
said_by DataSync bs = refl
said_by Ones bs = inr (inl refl)

-- what is said of a block's class holds of it
said : (b : Block) → IsOfClass (class_of b) b
said b = said_by b.sync b.bytes

by_type : (b : Block) (t : ℕ) → b.sync ≡ Control → type_of b ≡ t → class_of b ≡ control_by t b.bytes
by_type b t control typed = ap (λ s. class_by s b.bytes) control ∙ ap (λ k. control_by k b.bytes) typed

end_known : (n : ℕ) → n < 8 → (bs : List ℕ) → control_by (end_type n) bs ≡ End n
end_known zero l bs = refl
end_known (suc zero) l bs = refl
end_known (suc (suc zero)) l bs = refl
end_known (suc (suc (suc zero))) l bs = refl
end_known (suc (suc (suc (suc zero)))) l bs = refl
end_known (suc (suc (suc (suc (suc zero))))) l bs = refl
end_known (suc (suc (suc (suc (suc (suc zero)))))) l bs = refl
end_known (suc (suc (suc (suc (suc (suc (suc zero))))))) l bs = refl
end_known (suc (suc (suc (suc (suc (suc (suc (suc n)))))))) l bs = absurd (omega arith)

-- of sync bits that neither data nor a listed type goes with, nothing else is said
unlawful_sync : (b : Block) (c : Class) → (b.sync ≡ Zeros) ⊎ (b.sync ≡ Ones) → IsOfClass c b → c ≡ Unlawful
unlawful_sync b Data (inl e) h = cc
unlawful_sync b Data (inr e) h = cc
unlawful_sync b Idle (inl e) h = let k = h.0 in cc
unlawful_sync b Idle (inr e) h = let k = h.0 in cc
unlawful_sync b Characters (inl e) h = let k = h.0 in cc
unlawful_sync b Characters (inr e) h = let k = h.0 in cc
unlawful_sync b OrderedSet (inl e) h = let k = h.0 in cc
unlawful_sync b OrderedSet (inr e) h = let k = h.0 in cc
unlawful_sync b Start (inl e) h = let k = h.0 in cc
unlawful_sync b Start (inr e) h = let k = h.0 in cc
unlawful_sync b (End n) (inl e) h = let k = h.0 in cc
unlawful_sync b (End n) (inr e) h = let k = h.0 in cc
unlawful_sync b Unlawful e h = refl

unlawful_type : (b : Block) (c : Class) → b.sync ≡ Control → IsNoType (type_of b) → IsOfClass c b → c ≡ Unlawful
unlawful_type b Data e none h = cc
unlawful_type b Idle e none h = absurd (none.0 (ap (λ bs. get_or bs 0 0) h.1))
unlawful_type b Characters e none h = absurd (none.0 h.1)
unlawful_type b OrderedSet e none h = absurd (none.1 h.1)
unlawful_type b Start e none h = absurd (none.2 h.1)
unlawful_type b (End n) e none h = absurd (none.3 n h.1 h.2)
unlawful_type b Unlawful e none h = refl

-- a block of which it is said has the class
of_said : (c : Class) (b : Block) → IsOfClass c b → class_of b ≡ c
of_said Data b h = ap (λ s. class_by s b.bytes) h
of_said Idle b h = ap (λ s. class_by s b.bytes) h.0 ∙ ap control_class h.1
of_said Characters b h =
    by_type b 0x1E h.0 h.1
    ∙ ap (λ same. cond same Idle Characters)
    (⊎_elim (λ same. absurd (h.2 ((bytes_eq-Decides b.bytes idle_bytes).0 same))) (λ apart. apart) (cases_Bool (bytes_eq b.bytes idle_bytes)))
of_said OrderedSet b h = by_type b 0x4B h.0 h.1
of_said Start b h = by_type b 0x78 h.0 h.1
of_said (End n) b h = by_type b (end_type n) h.0 h.2 ∙ end_known n h.1 b.bytes
of_said Unlawful b (inl e) = unlawful_sync b (class_of b) (inl e) (said b)
of_said Unlawful b (inr (inl e)) = unlawful_sync b (class_of b) (inr e) (said b)
of_said Unlawful b (inr (inr h)) = unlawful_type b (class_of b) h.0 h.1 (said b)

pub classes_told : ClassesTold
classes_told b c = (λ e. subst (λ d. IsOfClass d b) e (said b), of_said c b)
