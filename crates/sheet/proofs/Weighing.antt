-- One line's verdict, in words of leases.
use Rattle.std.proofs.lemmas.Bool.{false≢true}
use Rattle.std.proofs.Common.{◌≡◌, ℕ, ◌≤◌, Bool, true, false, cond, ◌⊎◌, List, [], ◌∷◌, ◌++◌, Some, Ok, Err, Result, sym, refl, ap, ◌∙◌, subst, inl, inr, ⊎_elim, arith}
use Rattle.std.proofs.lemmas.Bool.{cases_Bool}
use Rattle.refusal.specs.declared.Refusal.TheVariants.{OutOfRange, SlotTwice, ClientTwice}
use Rattle.refusal.specs.declared.Level.TheVariants.{Calendar}
use Rattle.refusal.specs.declared.SheetRefusal.{SheetRefusal}
use Rattle.form.specs.Lease.{Group, Lease, SomeGroup, Writable, ShortGroups}
use Rattle.sheet.specs.Verdict.{Claim, claims, lease_verdict, is_named, refusal_at, start}
use Rattle.sheet.specs.Laws.{Apart, Belongs, Gives, GroupsInRange, InRange, Lawful, Leases, groups_of}
use Rattle.sheet.proofs.Held.{at, held_or_not, held_in_range}
use Rattle.sheet.proofs.Claiming.{Came, claims_come, lawful_client, lawful_in_range}
use Rattle.sheet.proofs.Leased.{apart_join, apart_parts, belongs_held, belongs_none, belongs_other, belongs_taken, crossed, each_last, each_snoc, groups_snoc, lease_is_named, named_has_lease}

-- the leases of the lines before, and the entries that they give
abbrev pub State : List Lease → List ℕ → Type 0
State ls es = Lawful ls × Gives ls es

pub ok_err : {A E : Type 0} {x : A} {e : E} → Ok x ≡ Err e → ⊥
ok_err h = let z : ◌≡◌ {A = ℕ} 0 1 = cc in omega arith

pub err_ok : {A E : Type 0} {x : A} {e : E} → Err e ≡ Ok x → ⊥
err_ok h = ok_err (sym h)

pub ok_same : {A E : Type 0} {x y : A} → ◌≡◌ {A = Result A E} (Ok x) (Ok y) → x ≡ y
ok_same h = cc

pub err_same : {A E : Type 0} {d e : E} → ◌≡◌ {A = Result A E} (Err d) (Err e) → d ≡ e
err_same h = cc

-- the three tests of a lease
abbrev tests : Bool → Bool → Bool → ℕ → List ℕ → Result (List ℕ) SheetRefusal
tests l k t n es =
    cond l (cond k (Err (refusal_at ClientTwice Calendar n)) (cond t (Err (refusal_at SlotTwice Calendar n)) (Ok es))) (Err (refusal_at OutOfRange Calendar n))

tests_ok : (l k t : Bool) (n : ℕ) (es out : List ℕ) → tests l k t n es ≡ Ok out → (l ≡ true) × (k ≡ false) × (t ≡ false) × (es ≡ out)
tests_ok true true t n es out e = absurd (err_ok e)
tests_ok true false true n es out e = absurd (err_ok e)
tests_ok true false false n es out e = (refl, refl, refl, ok_same e)
tests_ok false k t n es out e = absurd (err_ok e)

-- which test failed
Failed : Bool → Bool → Bool → ℕ → SheetRefusal → Type 0
Failed l k t n e =
    ((l ≡ false) × (e ≡ refusal_at OutOfRange Calendar n))
    ⊎ (((l ≡ true) × (k ≡ true) × (e ≡ refusal_at ClientTwice Calendar n)) ⊎ ((l ≡ true) × (k ≡ false) × (t ≡ true) × (e ≡ refusal_at SlotTwice Calendar n)))

tests_failed : (l k t : Bool) (n : ℕ) (es : List ℕ) (e : SheetRefusal) → tests l k t n es ≡ Err e → Failed l k t n e
unfolding Failed
tests_failed true true t n es e h = inr (inl (refl, refl, sym (err_same h)))
tests_failed true false true n es e h = inr (inr (refl, refl, refl, sym (err_same h)))
tests_failed true false false n es e h = absurd (ok_err h)
tests_failed false k t n es e h = inl (refl, sym (err_same h))

pub short_groups : (gs : List Group) → GroupsInRange gs → ShortGroups gs
short_groups [] r = tt
short_groups (g ∷ gs) r = (omega arith, omega arith, short_groups gs r.3)

pub writable : (m : Lease) → SomeGroup m.groups → InRange m → Writable m
writable m s r = (omega arith, s, short_groups m.groups r.2)

client_of : (c : ℕ) (gs : List Group) (s : Claim) → SomeGroup gs → (claims c gs s).lawful ≡ true → (1 ≤ c) × (c ≤ 480)
client_of c [] s n e = absurd n
client_of c (g ∷ gs) s n e = lawful_client c g gs s e

-- lease m behind the leases ls
module _ (ls : List Lease) (es : List ℕ) (state : State ls es) (m : Lease) (n : ℕ) where
  s : Claim
  s = claims m.client m.groups (start es)

  came : InRange m → Came m.client m.groups (start es) s
  unfolding s
  came r = claims_come m.client r.0 r.1 m.groups (start es) state.1.0 r.2

  lawful_range : SomeGroup m.groups → s.lawful ≡ true → InRange m
  unfolding s
  lawful_range g e = let c = client_of m.client m.groups (start es) g e in (c.0, c.1, lawful_in_range m.client m.groups (start es) e)

  range_lawful : InRange m → s.lawful ≡ true
  range_lawful r = (came r).lawful

  -- the slots of m are free just if no lease before holds one
  taken_by_none : (r : InRange m) → s.twice ≡ false → Apart (groups_of (ls ++ (m ∷ [])))
  taken_by_none r t =
      let o = (came r).once t in
      subst Apart (sym (groups_snoc ls m))
      (apart_join (groups_of ls) m.groups state.0.1 o.2
      (λ k a b. let h = held_in_range m.groups k r.2 b in belongs_taken ls k (at es k) state.0.0 (state.1.1 k h.0 h.1) a (o.1 k b)))

  apart_once : (r : InRange m) → Apart (groups_of (ls ++ (m ∷ []))) → s.twice ≡ false
  apart_once r p =
      let q = apart_parts (groups_of ls) m.groups (subst Apart (groups_snoc ls m) p) in
      (came r).stays refl
      (λ k b. let h = held_in_range m.groups k r.2 b in belongs_none ls k (at es k) (λ a. crossed (groups_of ls) m.groups q.2 k a b) (state.1.1 k h.0 h.1))
      q.1

  grown : (r : InRange m) → Apart (groups_of (ls ++ (m ∷ []))) → Gives (ls ++ (m ∷ [])) s.entries
  grown r p =
      let c = came r in
      let q = apart_parts (groups_of ls) m.groups (subst Apart (groups_snoc ls m) p) in (
        c.full,
        λ k one top.
            ⊎_elim
            (λ h. subst (λ d. Belongs (ls ++ (m ∷ [])) k d) (sym (c.held k h)) (belongs_held ls m k (λ a. crossed (groups_of ls) m.groups q.2 k a h) h))
            (λ h. subst (λ d. Belongs (ls ++ (m ∷ [])) k d) (sym (c.others k one h)) (belongs_other ls m k (at es k) h (state.1.1 k one top)))
            (held_or_not m.groups k),
      )

  pub lease_ok : SomeGroup m.groups → (out : List ℕ) → lease_verdict n es (Some m) ≡ Ok out → State (ls ++ (m ∷ [])) out
  unfolding s
  lease_ok g out e =
      let t = tests_ok s.lawful (is_named m.client es) s.twice n s.entries out e in
      let r = lawful_range g t.0 in
      let p = taken_by_none r t.2 in
      let new : Leases m.client ls → ⊥ = λ h. false≢true (sym t.1 ∙ lease_is_named ls es state.0 state.1 m.client r.0 r.1 h) in
      ((each_snoc ls m state.0.0 g r new, p), subst (Gives (ls ++ (m ∷ []))) t.3 (grown r p))

  pub lease_reads : Lawful (ls ++ (m ∷ [])) → (out : List ℕ) × (lease_verdict n es (Some m) ≡ Ok out)
  unfolding s
  lease_reads w =
      let l = each_last ls m w.0 in
      let r = l.1 in
      let known : is_named m.client es ≡ false =
      ⊎_elim (λ t. absurd (l.2 (named_has_lease ls es state.0 state.1 m.client r.0 r.1 t))) (λ t. t) (cases_Bool (is_named m.client es)) in (
        s.entries,
        ap (λ b. tests b (is_named m.client es) s.twice n s.entries) (range_lawful r)
            ∙ ap (λ b. tests true b s.twice n s.entries) known
            ∙ ap (λ b. tests true false b n s.entries) (apart_once r w.1),
      )

  -- which of the rules of a lease is broken
  pub data Fault (e : SheetRefusal) : Type 0 where
    far : (InRange m → ⊥) → e ≡ refusal_at OutOfRange Calendar n → Fault e
    again : InRange m → Leases m.client ls → e ≡ refusal_at ClientTwice Calendar n → Fault e
    clash : InRange m → (Leases m.client ls → ⊥) → (Apart (groups_of (ls ++ (m ∷ []))) → ⊥) → e ≡ refusal_at SlotTwice Calendar n → Fault e

  pub lease_fails : SomeGroup m.groups → (e : SheetRefusal) → lease_verdict n es (Some m) ≡ Err e → Fault e
  unfolding s Failed
  lease_fails g e h =
      ⊎_elim
      (λ t. far (λ r. false≢true (sym t.0 ∙ range_lawful r)) t.1)
      (λ t. ⊎_elim
      (λ u. let r = lawful_range g u.0 in again r (named_has_lease ls es state.0 state.1 m.client r.0 r.1 u.1) u.2)
      (λ u. let r = lawful_range g u.0 in
      clash r (λ a. false≢true (sym u.1 ∙ lease_is_named ls es state.0 state.1 m.client r.0 r.1 a)) (λ p. false≢true (sym (apart_once r p) ∙ u.2)) u.3) t)
      (tests_failed s.lawful (is_named m.client es) s.twice n s.entries e h)
