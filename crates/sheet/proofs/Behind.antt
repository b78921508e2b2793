-- The groups of a line, claimed one by one as they are read.
use Rattle.std.proofs.Common.{◌≡◌, ℕ, zero, suc, ◌≤◌, true, false, List, [], ◌∷◌, length, Some, None, Option, refl, ap, ◌∙◌, arith}
use Rattle.std.proofs.lemmas.Bool.{cond-true, cond-false}
use Rattle.form.specs.Lease.{Group}
use Rattle.form.specs.Form.{bind, group, groups, is_closing_bracket, put_before}
use Rattle.form.proofs.Texts.{group_shorter, groups_none, groups_step}
use Rattle.sheet.specs.Verdict.{Claim, claim_with_group, claims}

-- what the groups of a text, at most k, make of the claims so far
abbrev pub behind : ℕ → ℕ → List ℕ → Claim → Option Claim
behind k c text s = bind (groups k text) λ gs. Some (claims c gs s)

pub behind_none : (k c : ℕ) (xs : List ℕ) (s : Claim) → group xs ≡ None → behind k c xs s ≡ None
behind_none k c xs s e = ap (λ o. bind o (λ gs. Some (claims c gs s))) (groups_none k xs e)

pub behind_last : (k c : ℕ) (xs ys : List ℕ) (g : Group) (s : Claim) → length xs ≤ k → group xs ≡ Some (g, ys) → is_closing_bracket ys ≡ true → behind k c xs s ≡ Some (claim_with_group c g s)
behind_last zero c xs ys g s n e t = absurd (let l = group_shorter xs ys g e in omega arith)
behind_last (suc k) c xs ys g s n e t =
    ap (λ o. bind o (λ gs. Some (claims c gs s))) (groups_step k xs ys g e ∙ cond-true (is_closing_bracket ys) (Some (g ∷ [])) (put_before g (groups k ys)) t)

put_behind : (c : ℕ) (g : Group) (s : Claim) (o : Option (List Group)) → bind (put_before g o) (λ gs. Some (claims c gs s)) ≡ bind o (λ gs. Some (claims c gs (claim_with_group c g s)))
put_behind c g s None = refl
put_behind c g s (Some gs) = refl

pub behind_next : (k c : ℕ) (xs ys : List ℕ) (g : Group) (s : Claim) → length xs ≤ k → group xs ≡ Some (g, ys) → is_closing_bracket ys ≡ false → (m : ℕ) × (length ys ≤ m) × (behind k c xs s ≡ behind m c ys (claim_with_group c g s))
behind_next zero c xs ys g s n e t = absurd (let l = group_shorter xs ys g e in omega arith)
behind_next (suc k) c xs ys g s n e t =
    let l = group_shorter xs ys g e in (
      k,
      omega arith,
      ap (λ o. bind o (λ gs. Some (claims c gs s))) (groups_step k xs ys g e ∙ cond-false (is_closing_bracket ys) (Some (g ∷ [])) (put_before g (groups k ys)) t)
          ∙ put_behind c g s (groups k ys),
    )
