-- What a walk over slots or clients yields, number by number.
use Rattle.std.proofs.Common.{◌≡◌, ℕ, suc, ◌+◌, ◌-◌, ◌<◌, ◌≤◌, List, [], ◌∷◌, length, get_or, Some, None, Option, arith, ap, sym, ◌∙◌}
use Rattle.std.specs.List.{range_with_len}
use Rattle.std.specs.Iterator.{Yields, YieldsFirst}
use Rattle.std.proofs.lemmas.List.{map-id}
use Rattle.std.proofs.lemmas.List.FromFn.{length-range_with_len, get_or-range_with_len}
use Rattle.std.proofs.lemmas.Iterator.{YieldsList}
use Rattle.std.proofs.lemmas.Iterator.Consumers.{YieldsList-end, YieldsList-from_first, YieldsList-turn}
use Rattle.numbers.specs.Walk.{numbers_between}

-- the numbers from one on are that number and those behind it
pub numbers_between_next : (first last : ℕ) → first ≤ last → numbers_between first last ≡ first ∷ numbers_between (first + 1) last
unfolding numbers_between
numbers_between_next first last h =
    let e : last + 1 - first ≡ suc (last + 1 - (first + 1)) = omega arith in
    ap (range_with_len first) e

-- behind the last there are none
pub numbers_between_end : (first last : ℕ) → last < first → numbers_between first last ≡ []
unfolding numbers_between
numbers_between_end first last h =
    let e : last + 1 - first ≡ 0 = omega arith in
    ap (range_with_len first) e

pub length-numbers_between : (first last : ℕ) → length (numbers_between first last) ≡ last + 1 - first
unfolding numbers_between
length-numbers_between first last = length-range_with_len first (last + 1 - first)

-- a number comes behind as many as it is higher than the first, and is one of those between first and last
pub record IsBetween (first last before x : ℕ) : Type 0 where
  pub place : x ≡ first + before
  pub low : first ≤ x
  pub high : x ≤ last

get_between : (first last i x : ℕ) → i < last + 1 - first → x ≡ get_or (numbers_between first last) i x → x ≡ first + i
unfolding numbers_between
get_between first last i x within is = is ∙ get_or-range_with_len first (last + 1 - first) i x within

-- what a `for` over these numbers has yielded so far
module _ (first last : ℕ) {s : List ℕ} (all : s ≡ numbers_between first last) (xs t : List ℕ) (yielded : Yields (YieldsFirst (λ (ys : List ℕ). ys)) s xs t) where
  road : YieldsList (YieldsFirst (λ (ys : List ℕ). ys)) (λ x. x) s (numbers_between first last)
  road = YieldsList-from_first (λ x. x) (λ ys. ys) (numbers_between first last) all

  -- at a turn
  pub walk_turn : (r : Option ℕ) (u : List ℕ) (x : ℕ) → r ≡ Some x → YieldsFirst (λ (ys : List ℕ). ys) t r u → IsBetween first last (length xs) x
  walk_turn r u x some next =
      let here = YieldsList-turn road xs t yielded r u x some next in
      let within : length xs < last + 1 - first = omega (arith, here.0, length-numbers_between first last) in
      let place = get_between first last (length xs) x within here.1 in
      record { place = place; low = omega (arith, place); high = omega (arith, place, within) }

  -- at its end
  pub walk_end : (r : Option ℕ) (u : List ℕ) → r ≡ None → YieldsFirst (λ (ys : List ℕ). ys) t r u → xs ≡ numbers_between first last
  walk_end r u none next = sym (map-id xs) ∙ (YieldsList-end road xs t yielded r u none next).0
