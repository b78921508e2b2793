-- Slot after slot: what one slot more lays and leaves, for a loop over the slots.
use Rattle.std.proofs.Common.{◌≡◌, ℕ, ◌+◌, ◌<◌, List, [], ◌∷◌, ◌++◌, length, get_or, take, refl, ap, ◌∙◌}
use Rattle.std.proofs.lemmas.List.{take_more}
use Rattle.block.specs.declared.Pair.{Pair}
use Rattle.port.specs.Model.{Lists}
use Rattle.sending.specs.Laid.{pair_for, lists_after_slot, pairs_for, lists_after_frame}

lists_push : (xs : List ℕ) (e : ℕ) (w : Lists) → lists_after_frame (xs ++ (e ∷ [])) w ≡ lists_after_slot e (lists_after_frame xs w)
unfolding lists_after_frame
lists_push [] e w = refl
lists_push (x ∷ xs) e w = lists_push xs e (lists_after_slot x w)

pairs_push : (xs : List ℕ) (e : ℕ) (w : Lists) → pairs_for (xs ++ (e ∷ [])) w ≡ pairs_for xs w ++ (pair_for e (lists_after_frame xs w) ∷ [])
unfolding lists_after_frame pairs_for
pairs_push [] e w = refl
pairs_push (x ∷ xs) e w = ap (λ (l : List Pair). pair_for x w ∷ l) (pairs_push xs e (lists_after_slot x w))

-- the lists after k + 1 slots, and the pairs in them
pub lists_more : (calendar : List ℕ) (w : Lists) (k : ℕ) → k < length calendar → lists_after_frame (take (k + 1) calendar) w ≡ lists_after_slot (get_or calendar k 0) (lists_after_frame (take k calendar) w)
lists_more calendar w k h = ap (λ (l : List ℕ). lists_after_frame l w) (take_more calendar k 0 h) ∙ lists_push (take k calendar) (get_or calendar k 0) w

pub pairs_more : (calendar : List ℕ) (w : Lists) (k : ℕ) → k < length calendar → pairs_for (take (k + 1) calendar) w ≡ pairs_for (take k calendar) w ++ (pair_for (get_or calendar k 0) (lists_after_frame (take k calendar) w) ∷ [])
pairs_more calendar w k h = ap (λ (l : List ℕ). pairs_for l w) (take_more calendar k 0 h) ∙ pairs_push (take k calendar) (get_or calendar k 0) w
