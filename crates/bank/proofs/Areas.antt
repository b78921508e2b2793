-- Where areas lie, and what a write to one leaves of the others.
use Rattle.std.proofs.Common.{◌≡◌, ℕ, ◌+◌, ◌-◌, ◌*◌, ◌/◌, ◌<◌, ◌≤◌, min, Bool, true, false, eqb, leb, ◌⊎◌, List, length, take, drop, set, sym, refl, ap, ◌∙◌, inl, inr, ⊎_elim, add-mul, arith, length-drop, length-set, length-take}
use Rattle.std.proofs.Math.Seq.{take-set-lt}
use Rattle.std.proofs.lemmas.Nat.{le-div, div_below, mul-le}
use Rattle.std.proofs.lemmas.List.{take-set-le, drop-set-lt, drop-set-add}
use Rattle.std.proofs.lemmas.Bool.{eqb-true, eqb-false, le-leb, lt-leb, leb-true, cases_order}
use Rattle.block.specs.declared.Block.{Block}
use Rattle.bank.specs.Lists.{area_count, width_of, AreaAt, area_of}

-- k rows of w end where row k - 1 from 0 ends
pub row_end : (k w : ℕ) → 1 ≤ k → (k - 1) * w + w ≡ k * w
row_end k w h =
    let e : k - 1 + 1 ≡ k = omega arith in
    let p : (k - 1 + 1) * w ≡ (k - 1) * w + 1 * w = add-mul (k - 1) 1 w in
    let q : (k - 1 + 1) * w ≡ k * w = ap (λ j. j * w) e in
    omega arith

pub width_fits : (k w m : ℕ) → 1 ≤ k → k ≤ 480 → k * w ≤ m → width_of w m k ≡ w
width_fits k w m l h f = go (eqb w 0) refl
  where
    one : leb 1 k ≡ true
    one = le-leb 1 k l

    go : (t : Bool) → eqb w 0 ≡ t → width_of w m k ≡ w
    go true e =
        let z : leb k 0 ≡ false = lt-leb k 0 l in
        rw (one, e, z) (sym (eqb-true w 0 e))
    go false e =
        let p : 0 < w = omega (arith, eqb-false w 0 e) in
        let c : leb k (min 480 (m / w)) ≡ true = le-leb k (min 480 (m / w)) (omega (arith, le-div k m w p f)) in
        rw (one, e, c) refl

pub width_none : (k w m : ℕ) → m < k * w → width_of w m k ≡ 0
width_none k w m f = go (leb 1 k) refl (eqb w 0) refl
  where
    go : (s : Bool) → leb 1 k ≡ s → (t : Bool) → eqb w 0 ≡ t → width_of w m k ≡ 0
    go false d t e = rw d refl
    go true d true e =
        let z : leb k 0 ≡ false = lt-leb k 0 (leb-true 1 k d) in
        rw (d, e, z) refl
    go true d false e =
        let p : 0 < w = omega (arith, eqb-false w 0 e) in
        let c : leb k (min 480 (m / w)) ≡ false = lt-leb k (min 480 (m / w)) (omega (arith, div_below m w k p f)) in
        rw (d, e, c) refl

pub area_at : (k n w m : ℕ) → n ≡ k → 1 ≤ k → k ≤ 480 → n * w ≤ m → AreaAt w m k (n * w - w)
area_at k n w m e l h f =
    let p : n * w ≡ k * w = ap (λ j. j * w) e in
    let q : (k - 1) * w + w ≡ k * w = row_end k w l in
    record { begins = omega arith; within = omega arith; width = width_fits k w m l h (omega arith) }

pub area_none : (k n w m : ℕ) → n ≡ k → m < n * w → width_of w m k ≡ 0
area_none k n w m e f = width_none k w m (let p : n * w ≡ k * w = ap (λ j. j * w) e in omega arith)

-- the width of an area is w or 0
width_cases : (w m k : ℕ) → (width_of w m k ≡ 0) ⊎ ((1 ≤ k) × (width_of w m k ≡ w))
width_cases w m k = go (leb 1 k) refl (leb k (area_count w m)) refl
  where
    go : (s : Bool) → leb 1 k ≡ s → (t : Bool) → leb k (area_count w m) ≡ t → (width_of w m k ≡ 0) ⊎ ((1 ≤ k) × (width_of w m k ≡ w))
    go false d t e = inl (rw d refl)
    go true d false e = inl (rw (d, e) refl)
    go true d true e = inr (leb-true 1 k d, rw (d, e) refl)

module _ (w c start : ℕ) (memory : List Block) (at : AreaAt w (length memory) c start) where
  pub area_is : area_of w memory c ≡ take w (drop start memory)
  area_is = rw (at.width, at.begins) refl

  pub length_area : length (area_of w memory c) ≡ w
  length_area = ap length area_is ∙ (simp (length-take, length-drop) (let h = at.within in omega arith))

  -- a write to a place of client c's area
  pub area_set : (p : ℕ) (x : Block) → p < w → area_of w (set memory (start + p) x) c ≡ set (area_of w memory c) p x
  area_set p x h =
      let l : length (set memory (start + p) x) ≡ length memory = length-set memory (start + p) x in
      let f : drop start (set memory (start + p) x) ≡ set (drop start memory) p x = drop-set-add start memory p x in
      let g : take w (set (drop start memory) p x) ≡ set (take w (drop start memory)) p x = take-set-lt w (drop start memory) p x h in
      let a : area_of w (set memory (start + p) x) c ≡ take w (drop start (set memory (start + p) x)) = rw (l, at.width, at.begins) refl in
      a ∙ ap (take w) f ∙ g ∙ ap (λ (r : List Block). set r p x) (sym area_is)

  -- leaves every other client's area
  pub area_kept : (p : ℕ) (x : Block) (k : ℕ) → p < w → 1 ≤ c → eqb k c ≡ false → area_of w (set memory (start + p) x) k ≡ area_of w memory k
  area_kept p x k h o n =
      let l : length (set memory (start + p) x) ≡ length memory = length-set memory (start + p) x in
      rw l (⊎_elim none some (width_cases w (length memory) k))
    where
      none : width_of w (length memory) k ≡ 0 → take (width_of w (length memory) k) (drop ((k - 1) * w) (set memory (start + p) x)) ≡ area_of w memory k
      none z = rw z refl

      some : (1 ≤ k) × (width_of w (length memory) k ≡ w) → take (width_of w (length memory) k) (drop ((k - 1) * w) (set memory (start + p) x)) ≡ area_of w memory k
      some (b, z) = rw z (⊎_elim (λ e. absurd (eqb-false k c n e)) (⊎_elim below above) (cases_order k c))
        where
          mine : (c - 1) * w + w ≡ c * w
          mine = row_end c w o

          theirs : (k - 1) * w + w ≡ k * w
          theirs = row_end k w b

          below : k < c → take w (drop ((k - 1) * w) (set memory (start + p) x)) ≡ take w (drop ((k - 1) * w) memory)
          below lt =
              let u : k * w ≤ (c - 1) * w = mul-le k w (c - 1) w (omega arith) (omega arith) in
              let i : start + p ≡ (k - 1) * w + (start + p - (k - 1) * w) = omega (arith, at.begins, theirs) in
              let f : drop ((k - 1) * w) (set memory (start + p) x) ≡ set (drop ((k - 1) * w) memory) (start + p - (k - 1) * w) x = ap (λ (j : ℕ). drop ((k - 1) * w) (set memory j x)) i ∙ drop-set-add ((k - 1) * w) memory (start + p - (k - 1) * w) x in
              rw f (take-set-le w (drop ((k - 1) * w) memory) (start + p - (k - 1) * w) x (omega (arith, at.begins, theirs)))

          above : c < k → take w (drop ((k - 1) * w) (set memory (start + p) x)) ≡ take w (drop ((k - 1) * w) memory)
          above lt =
              let u : c * w ≤ (k - 1) * w = mul-le c w (k - 1) w (omega arith) (omega arith) in
              ap (take w) (drop-set-lt ((k - 1) * w) memory (start + p) x (omega (arith, at.begins, mine)))
