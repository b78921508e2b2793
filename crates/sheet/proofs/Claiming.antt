-- What the claims of a line's groups come to, in words of slots.
use Rattle.std.proofs.lemmas.Bool.{false≢true}
use Rattle.std.proofs.Common.{◌≡◌, ℕ, ◌≤◌, Bool, true, false, cond, List, [], ◌∷◌, length, sym, refl, ap, ◌∙◌, subst, inl, inr, ⊎_elim, arith}
use Rattle.std.proofs.lemmas.Bool.{cond-true, cond-false, cases_Bool}
use Rattle.form.specs.Lease.{Group}
use Rattle.sheet.specs.Verdict.{Claim, claim_with_group, claims, fits, entries_with_group, has_used_slot}
use Rattle.sheet.specs.Laws.{Apart, GroupsInRange, HeldBy, Holds}
use Rattle.sheet.proofs.Held.{at, held_or_not, held_in_range, fits_in_range, in_range_fits, length_give, give_held, give_other, used_some, used_none}

-- the slots of the groups are empty
abbrev pub Free : List Group → List ℕ → Type 0
Free gs es = (k : ℕ) → HeldBy gs k → at es k ≡ 0

-- claims r of client c's groups behind claims s
pub record Came (c : ℕ) (gs : List Group) (s r : Claim) : Type 0 where
  pub full : length r.entries ≡ 480
  pub lawful : r.lawful ≡ s.lawful
  pub held : (k : ℕ) → HeldBy gs k → at r.entries k ≡ c
  pub others : (k : ℕ) → 1 ≤ k → (HeldBy gs k → ⊥) → at r.entries k ≡ at s.entries k
  pub once : r.twice ≡ false → (s.twice ≡ false) × Free gs s.entries × Apart gs
  pub stays : s.twice ≡ false → Free gs s.entries → Apart gs → r.twice ≡ false

nor : (b t : Bool) → cond b true t ≡ false → (b ≡ false) × (t ≡ false)
nor true t e = absurd (false≢true (sym e))
nor false t e = (refl, e)

from_nor : (b t : Bool) → b ≡ false → t ≡ false → cond b true t ≡ false
from_nor true t e f = e
from_nor false t e f = f

-- the first group claimed
with_first : ℕ → Group → Claim → Claim
with_first c g s = record { entries = entries_with_group c g s.entries; lawful = s.lawful; twice = cond s.twice true (has_used_slot g s.entries) }

first_claimed : (c : ℕ) (g : Group) (s : Claim) → fits c g ≡ true → claim_with_group c g s ≡ with_first c g s
unfolding with_first
first_claimed c g s e = cond-true (fits c g) (record { entries = entries_with_group c g s.entries; lawful = s.lawful; twice = cond s.twice true (has_used_slot g s.entries) }) (record { entries = s.entries; lawful = false; twice = s.twice }) e

first_claimed_lawful : (c : ℕ) (g : Group) (s : Claim) → fits c g ≡ true → (claim_with_group c g s).lawful ≡ s.lawful
unfolding with_first
first_claimed_lawful c g s e = ap (λ (x : Claim). x.lawful) (first_claimed c g s e)

out_of_range : (c : ℕ) (g : Group) (s : Claim) → fits c g ≡ false → (claim_with_group c g s).lawful ≡ false
out_of_range c g s t = ap (λ (x : Claim). x.lawful) (cond-false (fits c g) (record { entries = entries_with_group c g s.entries; lawful = s.lawful; twice = cond s.twice true (has_used_slot g s.entries) }) (record { entries = s.entries; lawful = false; twice = s.twice }) t)

module _ (c : ℕ) (low : 1 ≤ c) (high : c ≤ 480) where
  module _ (g : Group) (gs : List Group) (s r : Claim) (room : length s.entries ≡ 480) (range : GroupsInRange (g ∷ gs)) (more : Came c gs (with_first c g s) r) where
    given : (k : ℕ) → Holds g k → at (entries_with_group c g s.entries) k ≡ c
    given k h = give_held c g s.entries room range.0 range.1 range.2 k h

    beside : (k : ℕ) → 1 ≤ k → (Holds g k → ⊥) → at (entries_with_group c g s.entries) k ≡ at s.entries k
    beside k one h = give_other c g s.entries room range.0 range.1 range.2 k one h

    came_held : (k : ℕ) → HeldBy (g ∷ gs) k → at r.entries k ≡ c
    unfolding with_first
    came_held k h =
        ⊎_elim (λ a. more.held k a)
        (λ n. ⊎_elim (λ a. more.others k (let b = range.0 in omega arith) n ∙ given k a) (λ a. absurd (n a)) h)
        (held_or_not gs k)

    came_others : (k : ℕ) → 1 ≤ k → (HeldBy (g ∷ gs) k → ⊥) → at r.entries k ≡ at s.entries k
    unfolding with_first
    came_others k one n = more.others k one (λ a. n (inr a)) ∙ beside k one (λ a. n (inl a))

    came_once : r.twice ≡ false → (s.twice ≡ false) × Free (g ∷ gs) s.entries × Apart (g ∷ gs)
    unfolding with_first
    came_once e =
        let o = more.once e in
        let t = nor s.twice (has_used_slot g s.entries) o.0 in
        let clash : (k : ℕ) → Holds g k → HeldBy gs k → ⊥ = λ k h a. (let z = o.1 k a in let y = given k h in omega arith) in (
          t.0,
          (λ k h. ⊎_elim
              (λ a. used_none g s.entries k range.0 t.1 a)
              (λ a. sym (beside k (held_in_range gs k range.3 a).0 (λ b. clash k b a)) ∙ o.1 k a) h),
          (clash, o.2),
        )

    came_stays : s.twice ≡ false → Free (g ∷ gs) s.entries → Apart (g ∷ gs) → r.twice ≡ false
    unfolding with_first
    came_stays e f p =
        let unused : has_used_slot g s.entries ≡ false =
        ⊎_elim (λ t. absurd (let u = used_some g s.entries range.0 t in u.2 (f u.0 (inl u.1)))) (λ t. t) (cases_Bool (has_used_slot g s.entries)) in
        more.stays (from_nor s.twice (has_used_slot g s.entries) e unused)
        (λ k a. beside k (held_in_range gs k range.3 a).0 (λ b. p.0 k b a) ∙ f k (inr a))
        p.1

    came : Came c (g ∷ gs) s r
    unfolding with_first
    came = record { full = more.full; lawful = more.lawful; held = came_held; others = came_others; once = came_once; stays = came_stays }

  pub claims_come : (gs : List Group) (s : Claim) → length s.entries ≡ 480 → GroupsInRange gs → Came c gs s (claims c gs s)
  unfolding with_first
  claims_come [] s room range =
      record { full = room; lawful = refl; held = λ k h. absurd h; others = λ k one n. refl; once = λ e. (e, (λ k h. absurd h), tt); stays = λ e f p. e }
  claims_come (g ∷ gs) s room range =
      let first = first_claimed c g s (fits_in_range c g low high range.0 range.1 range.2) in
      let long = length_give c g s.entries room range.0 range.1 range.2 in
      came g gs s (claims c gs (claim_with_group c g s)) room range
      (subst (λ t. Came c gs (with_first c g s) (claims c gs t)) (sym first) (claims_come gs (with_first c g s) long range.3))

-- the claims are lawful just if the client and the groups are in range
pub unlawful_stays : (c : ℕ) (gs : List Group) (s : Claim) → s.lawful ≡ false → (claims c gs s).lawful ≡ false
unlawful_stays c [] s e = e
unlawful_stays c (g ∷ gs) s e =
    unlawful_stays c gs (claim_with_group c g s)
    (⊎_elim (λ t. first_claimed_lawful c g s t ∙ e) (λ t. out_of_range c g s t) (cases_Bool (fits c g)))

pub lawful_in_range : (c : ℕ) (gs : List Group) (s : Claim) → (claims c gs s).lawful ≡ true → GroupsInRange gs
lawful_in_range c [] s e = tt
lawful_in_range c (g ∷ gs) s e =
    let rest = lawful_in_range c gs (claim_with_group c g s) e in
    ⊎_elim
    (λ t. let f = in_range_fits c g t in (f.2, f.3, f.4, rest))
    (λ t. absurd (false≢true (sym (unlawful_stays c gs (claim_with_group c g s) (out_of_range c g s t)) ∙ e)))
    (cases_Bool (fits c g))

pub lawful_client : (c : ℕ) (g : Group) (gs : List Group) (s : Claim) → (claims c (g ∷ gs) s).lawful ≡ true → (1 ≤ c) × (c ≤ 480)
lawful_client c g gs s e =
    ⊎_elim
    (λ t. let f = in_range_fits c g t in (f.0, f.1))
    (λ t. absurd (false≢true (sym (unlawful_stays c gs (claim_with_group c g s) (out_of_range c g s t)) ∙ e)))
    (cases_Bool (fits c g))
