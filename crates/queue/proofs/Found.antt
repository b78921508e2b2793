-- A search for a key, by the index at which it ends.
use Rattle.std.proofs.Common.{◌≡◌, ℕ, suc, ◌+◌, ◌≤◌, Bool, true, false, not, cond, ltb, List, [], ◌∷◌, length, Some, None, position, ◌==◌, refl, ap, ◌∙◌, arith}
use Rattle.std.specs.List.{position_or_len, remove, slice_get}
use Rattle.std.proofs.lemmas.Bool.{ltb-false}
use Rattle.std.proofs.lemmas.List.{take_all, drop_all, append-nil}
use Rattle.std.proofs.lemmas.List.Folds.{find_at}
use Rattle.std.proofs.lemmas.Option.{slice_get_past}
use Rattle.queue.specs.Entries.{first_with, without_first_with}

remove_past : {T : Type 0} (es : List T) (i : ℕ) → length es ≤ i → remove es i ≡ es
remove_past es i h = rw (take_all i es h, drop_all (suc i) es (omega arith)) (append-nil es)

module _ {T : Type 0} (key : T → ℕ) (k : ℕ) where
  abbrev has_key : T → Bool
  has_key x = key x == k

  without_at : (es : List T) → without_first_with key k es ≡ remove es (position_or_len has_key es)
  without_at [] = refl
  without_at (x ∷ es) = go (has_key x) (without_at es)
    where
      go : (t : Bool) → without_first_with key k es ≡ remove es (position_or_len has_key es) → cond t es (x ∷ without_first_with key k es) ≡ remove (x ∷ es) (cond (not t) (1 + position_or_len has_key es) 0)
      go true e = refl
      go false e = let next : 1 + position_or_len has_key es ≡ suc (position_or_len has_key es) = omega arith in rw next (ap (λ l. x ∷ l) e)

  pub first_found : (es : List T) (i : ℕ) → Some i ≡ position has_key es → first_with key k es ≡ slice_get es i
  first_found es i e = find_at has_key es ∙ go (ltb (position_or_len has_key es) (length es)) e
    where
      go : (t : Bool) → Some i ≡ cond t (Some (position_or_len has_key es)) None → slice_get es (position_or_len has_key es) ≡ slice_get es i
      go true e = cc
      go false e = cc

  pub rest_found : (es : List T) (i : ℕ) → Some i ≡ position has_key es → without_first_with key k es ≡ remove es i
  rest_found es i e = without_at es ∙ go (ltb (position_or_len has_key es) (length es)) e
    where
      go : (t : Bool) → Some i ≡ cond t (Some (position_or_len has_key es)) None → remove es (position_or_len has_key es) ≡ remove es i
      go true e = cc
      go false e = cc

  none_past : (es : List T) → None ≡ position has_key es → length es ≤ position_or_len has_key es
  none_past es e = go (ltb (position_or_len has_key es) (length es)) refl e
    where
      go : (t : Bool) → ltb (position_or_len has_key es) (length es) ≡ t → None ≡ cond t (Some (position_or_len has_key es)) None → length es ≤ position_or_len has_key es
      go true q e = absurd cc
      go false q e = ltb-false _ _ q

  pub first_none : (es : List T) → None ≡ position has_key es → first_with key k es ≡ None
  first_none es e = find_at has_key es ∙ slice_get_past es _ (none_past es e)

  pub rest_none : (es : List T) → None ≡ position has_key es → without_first_with key k es ≡ es
  rest_none es e = without_at es ∙ remove_past es _ (none_past es e)
