-- Lists of leases with one lease more, and the calendars that they give.
use Rattle.std.proofs.Common.{◌≡◌, ℕ, ◌<◌, ◌≤◌, true, false, ltb, ◌⊎◌, List, [], ◌∷◌, ◌++◌, sym, refl, ap, ◌∙◌, subst, inl, inr, ⊎_elim, arith}
use Rattle.std.proofs.lemmas.List.{append_assoc, append-nil}
use Rattle.std.proofs.lemmas.Bool.{cond-true, ltb-true, lt-ltb, cases_eq}
use Rattle.std.proofs.lemmas.Bool.Decides.{nat_tests}
use Rattle.numbers.specs.Range.{is_one_to_480}
use Rattle.calendar.specs.Share.{first_slot, slot_count}
use Rattle.calendar.proofs.Shares.{share_law}
use Rattle.form.specs.Lease.{Group, Lease, SomeGroup}
use Rattle.sheet.specs.Verdict.{is_named}
use Rattle.sheet.specs.Laws.{Apart, Belongs, EachLawful, Gives, GroupsInRange, HeldBy, InRange, Lawful, Leases, groups_of}
use Rattle.sheet.proofs.Held.{at, held_in_range}

-- groups behind groups

pub held_left : (gs hs : List Group) (k : ℕ) → HeldBy gs k → HeldBy (gs ++ hs) k
held_left [] hs k h = absurd h
held_left (g ∷ gs) hs k h = ⊎_elim (λ a. inl a) (λ a. inr (held_left gs hs k a)) h

pub held_right : (gs hs : List Group) (k : ℕ) → HeldBy hs k → HeldBy (gs ++ hs) k
held_right [] hs k h = h
held_right (g ∷ gs) hs k h = inr (held_right gs hs k h)

pub held_parts : (gs hs : List Group) (k : ℕ) → HeldBy (gs ++ hs) k → HeldBy gs k ⊎ HeldBy hs k
held_parts [] hs k h = inr h
held_parts (g ∷ gs) hs k h = ⊎_elim (λ a. inl (inl a)) (λ a. ⊎_elim (λ b. inl (inr b)) (λ b. inr b) (held_parts gs hs k a)) h

abbrev pub Between : List Group → List Group → Type 0
Between gs hs = (k : ℕ) → HeldBy gs k → HeldBy hs k → ⊥

pub apart_parts : (gs hs : List Group) → Apart (gs ++ hs) → Apart gs × Apart hs × Between gs hs
apart_parts [] hs p = (tt, p, λ k a b. a)
apart_parts (g ∷ gs) hs p =
    let r = apart_parts gs hs p.1 in
    ((λ k h a. p.0 k h (held_left gs hs k a), r.0), r.1, λ k a b. ⊎_elim (λ h. p.0 k h (held_right gs hs k b)) (λ h. r.2 k h b) a)

pub apart_join : (gs hs : List Group) → Apart gs → Apart hs → Between gs hs → Apart (gs ++ hs)
apart_join [] hs p q b = q
apart_join (g ∷ gs) hs p q b =
    (λ k h a. ⊎_elim (λ x. p.0 k h x) (λ x. b k (inl h) x) (held_parts gs hs k a), apart_join gs hs p.1 q (λ k x y. b k (inr x) y))

pub crossed : (gs hs : List Group) → Between gs hs → (k : ℕ) → HeldBy gs k → HeldBy hs k → ⊥
crossed gs hs b = b

-- one lease more

pub groups_snoc : (ls : List Lease) (m : Lease) → groups_of (ls ++ (m ∷ [])) ≡ groups_of ls ++ m.groups
groups_snoc [] m = append-nil m.groups
groups_snoc (l ∷ ls) m = ap (λ t. l.groups ++ t) (groups_snoc ls m) ∙ sym (append_assoc l.groups (groups_of ls) m.groups)

leases_snoc : (c : ℕ) (ls : List Lease) (m : Lease) → Leases c (ls ++ (m ∷ [])) → Leases c ls ⊎ (m.client ≡ c)
leases_snoc c [] m h = ⊎_elim (λ e. inr e) (λ e. absurd e) h
leases_snoc c (l ∷ ls) m h = ⊎_elim (λ e. inl (inl e)) (λ e. ⊎_elim (λ a. inl (inr a)) (λ a. inr a) (leases_snoc c ls m e)) h

pub leases_last : (ls : List Lease) (m : Lease) → Leases m.client (ls ++ (m ∷ []))
leases_last [] m = inl refl
leases_last (l ∷ ls) m = inr (leases_last ls m)

pub each_snoc : (ls : List Lease) (m : Lease) → EachLawful ls → SomeGroup m.groups → InRange m → (Leases m.client ls → ⊥) → EachLawful (ls ++ (m ∷ []))
each_snoc [] m e s r n = (s, r, (λ x. x), tt)
each_snoc (l ∷ ls) m e s r n =
    (e.0, e.1, (λ h. ⊎_elim e.2 (λ q. n (inl (sym q))) (leases_snoc l.client ls m h)), each_snoc ls m e.3 s r (λ h. n (inr h)))

pub each_last : (ls : List Lease) (m : Lease) → EachLawful (ls ++ (m ∷ [])) → SomeGroup m.groups × InRange m × (Leases m.client ls → ⊥)
each_last [] m e = (e.0, e.1, λ x. x)
each_last (l ∷ ls) m e =
    let r = each_last ls m e.3 in
    (r.0, r.1, λ h. ⊎_elim (λ q. e.2 (subst (λ c. Leases c (ls ++ (m ∷ []))) (sym q) (leases_last ls m))) r.2 h)

-- leases behind leases

pub groups_append : (ls ms : List Lease) → groups_of (ls ++ ms) ≡ groups_of ls ++ groups_of ms
groups_append [] ms = refl
groups_append (l ∷ ls) ms = ap (λ t. l.groups ++ t) (groups_append ls ms) ∙ sym (append_assoc l.groups (groups_of ls) (groups_of ms))

leases_before : (c : ℕ) (ls ms : List Lease) → Leases c ls → Leases c (ls ++ ms)
leases_before c [] ms h = absurd h
leases_before c (l ∷ ls) ms h = ⊎_elim (λ e. inl e) (λ e. inr (leases_before c ls ms e)) h

pub each_prefix : (ls ms : List Lease) → EachLawful (ls ++ ms) → EachLawful ls
each_prefix [] ms e = tt
each_prefix (l ∷ ls) ms e = (e.0, e.1, (λ h. e.2 (leases_before l.client ls ms h)), each_prefix ls ms e.3)

-- whom a slot belongs to

pub belongs_taken : (ls : List Lease) (k c : ℕ) → EachLawful ls → Belongs ls k c → HeldBy (groups_of ls) k → c ≡ 0 → ⊥
belongs_taken [] k c e b h z = h
belongs_taken (l ∷ ls) k c e b h z =
    ⊎_elim
    (λ a. let low = e.1.0 in let q = a.1 in omega arith)
    (λ a. ⊎_elim a.0 (λ x. belongs_taken ls k c e.3 a.1 x z) (held_parts l.groups (groups_of ls) k h)) b

pub belongs_none : (ls : List Lease) (k c : ℕ) → (HeldBy (groups_of ls) k → ⊥) → Belongs ls k c → c ≡ 0
belongs_none [] k c n b = b
belongs_none (l ∷ ls) k c n b =
    ⊎_elim (λ a. absurd (n (held_left l.groups (groups_of ls) k a.0))) (λ a. belongs_none ls k c (λ h. n (held_right l.groups (groups_of ls) k h)) a.1) b

pub belongs_client : (ls : List Lease) (k c : ℕ) → Belongs ls k c → (c ≡ 0 → ⊥) → Leases c ls
belongs_client [] k c b n = n b
belongs_client (l ∷ ls) k c b n = ⊎_elim (λ a. inl a.1) (λ a. inr (belongs_client ls k c a.1 n)) b

pub belongs_held : (ls : List Lease) (m : Lease) (k : ℕ) → (HeldBy (groups_of ls) k → ⊥) → HeldBy m.groups k → Belongs (ls ++ (m ∷ [])) k m.client
belongs_held [] m k n h = inl (h, refl)
belongs_held (l ∷ ls) m k n h = inr ((λ a. n (held_left l.groups (groups_of ls) k a)), belongs_held ls m k (λ a. n (held_right l.groups (groups_of ls) k a)) h)

pub belongs_other : (ls : List Lease) (m : Lease) (k c : ℕ) → (HeldBy m.groups k → ⊥) → Belongs ls k c → Belongs (ls ++ (m ∷ [])) k c
belongs_other [] m k c n b = inr (n, b)
belongs_other (l ∷ ls) m k c n b = ⊎_elim (λ a. inl a) (λ a. inr (a.0, belongs_other ls m k c n a.1)) b

-- a slot of the client's lease, which belongs to it alone
first_held : (gs : List Group) → SomeGroup gs → GroupsInRange gs → (k : ℕ) × HeldBy gs k
first_held [] s r = absurd s
first_held (g ∷ gs) s r = (g.first, inl (omega arith, r.1))

abbrev Own : List Lease → ℕ → Type 0
Own ls c = (k : ℕ) × (1 ≤ k) × (k ≤ 480) × HeldBy (groups_of ls) k × ((d : ℕ) → Belongs ls k d → d ≡ c)

pub own_slot : (ls : List Lease) (c : ℕ) → EachLawful ls → Apart (groups_of ls) → Leases c ls → Own ls c
own_slot [] c e p h = absurd h
own_slot (l ∷ ls) c e p h =
    let parts = apart_parts l.groups (groups_of ls) p in
    ⊎_elim
    (λ q. let f = first_held l.groups e.0 e.1.2 in
    let r = held_in_range l.groups f.0 e.1.2 f.1 in
    (f.0, r.0, r.1, held_left l.groups (groups_of ls) f.0 f.1, λ d b. ⊎_elim (λ a. sym a.1 ∙ q) (λ a. absurd (a.0 f.1)) b))
    (λ q. let o = own_slot ls c e.3 parts.1 q in
    (o.0, o.1, o.2, held_right l.groups (groups_of ls) o.0 o.3, λ d b. ⊎_elim (λ a. absurd (crossed l.groups (groups_of ls) parts.2 o.0 a.0 o.3)) (λ a. o.4 d a.1) b))
    h

-- a client has a slot in the calendar just if it has a lease
module _ (ls : List Lease) (es : List ℕ) (lawful : Lawful ls) (gives : Gives ls es) (c : ℕ) (low : 1 ≤ c) (high : c ≤ 480) where
  numbers_in_range : is_one_to_480 c ≡ true
  numbers_in_range = grind (arith, nat_tests)

  pub named_has_lease : is_named c es ≡ true → Leases c ls
  named_has_lease e =
      let some = ltb-true 0 (slot_count c es) (sym (cond-true (is_one_to_480 c) (ltb 0 (slot_count c es)) false numbers_in_range) ∙ e) in
      let law = share_law c es in
      let own = law.own (λ z. let n = law.together.1 z in omega arith) in
      let s : ℕ = first_slot c es in
      let full = gives.0 in
      belongs_client ls s c (subst (λ d. Belongs ls s d) own.2 (gives.1 s own.0 (omega arith))) (λ z. omega arith)

  pub lease_is_named : Leases c ls → is_named c es ≡ true
  lease_is_named h =
      let o = own_slot ls c lawful.0 lawful.1 h in
      let law = share_law c es in
      let full = gives.0 in
      let has : at es o.0 ≡ c = o.4 (at es o.0) (gives.1 o.0 o.1 o.2) in
      let first : first_slot c es ≡ 0 → ⊥ = λ z. law.none z o.0 (o.1, omega arith, has) in
      let some : 0 < slot_count c es = ⊎_elim (λ z. absurd (first (law.together.0 z))) (λ z. omega arith) (cases_eq (slot_count c es) 0) in
      cond-true (is_one_to_480 c) (ltb 0 (slot_count c es)) false numbers_in_range ∙ lt-ltb 0 (slot_count c es) some
