-- A ring's order of an area of w places: read, written and moved on by one.
use Rattle.std.proofs.Common.{◌≡◌, ℕ, ◌+◌, ◌-◌, ◌<◌, ◌≤◌, Bool, true, false, cond, ltb, List, [], ◌∷◌, ◌++◌, length, get_or, take, drop, set, sym, refl, ap, ◌∙◌, append_assoc, append-nil, arith, length-append, length-drop, length-set, length-take}
use Rattle.std.proofs.Math.Seq.{take-set-lt}
use Rattle.std.proofs.lemmas.List.{take_all, drop_all, take_more, drop_more, take-set-le, drop-set-lt, drop-set-add, set-append_left, set-append_right, get_or_append_left, get_or-append_right, get_or-drop, get_or-take}
use Rattle.std.proofs.lemmas.Bool.{ltb-true, ltb-false}
use Rattle.bank.specs.Ring.{ring_order, start_of, place_from, place_at}

turned_start : {X : Type 0} (first w : ℕ) (a : List X) → length a ≡ w → ring_order first a ≡ ring_order (start_of first w) a
turned_start {X} first w a n = go (ltb first w) refl
  where
    go : (t : Bool) → ltb first w ≡ t → ring_order first a ≡ ring_order (cond t first 0) a
    go true e = refl
    go false e =
        let l : length a ≤ first = omega (arith, ltb-false first w e) in
        let d : drop first a ≡ [] = drop_all first a l in
        let t : take first a ≡ a = take_all first a l in
        (rw (d, t) refl) ∙ sym (append-nil a)

start_below : (first w : ℕ) → 0 < w → start_of first w < w
start_below first w h = go (ltb first w) refl
  where
    go : (t : Bool) → ltb first w ≡ t → cond t first 0 < w
    go true e = ltb-true first w e
    go false e = h

pub length_turned : {X : Type 0} (first : ℕ) (a : List X) → length (ring_order first a) ≡ length a
length_turned first a = simp (length-append, length-drop, length-take) (omega arith)

pub place_below : (first w i : ℕ) → i < w → place_at first w i < w
place_below first w i h = go (start_of first w) (start_below first w (omega arith)) (ltb i (w - start_of first w)) refl
  where
    go : (s : ℕ) → s < w → (t : Bool) → ltb i (w - s) ≡ t → cond t (s + i) (i - (w - s)) < w
    go s b true e = omega (arith, ltb-true i (w - s) e)
    go s b false e = omega arith

module _ {X : Type 0} (a : List X) (w : ℕ) (n : length a ≡ w) where
  set_from : (s i : ℕ) (x : X) → s < w → i < w → ring_order s (set a (place_from s w i) x) ≡ set (ring_order s a) i x
  set_from s i x b h = go (ltb i (w - s)) refl
    where
      len : length (drop s a) ≡ w - s
      len = simp length-drop (omega arith)

      go : (t : Bool) → ltb i (w - s) ≡ t → ring_order s (set a (cond t (s + i) (i - (w - s))) x) ≡ set (ring_order s a) i x
      go true e =
          let l : i < length (drop s a) = omega (arith, ltb-true i (w - s) e, len) in
          let f : drop s (set a (s + i) x) ≡ set (drop s a) i x = drop-set-add s a i x in
          let g : take s (set a (s + i) x) ≡ take s a = take-set-le s a (s + i) x (omega arith) in
          (rw (f, g) refl) ∙ sym (set-append_left (drop s a) (take s a) i x l)
      go false e =
          let l : w - s ≤ i = ltb-false i (w - s) e in
          let p : i - (w - s) < s = omega arith in
          let f : drop s (set a (i - (w - s)) x) ≡ drop s a = drop-set-lt s a (i - (w - s)) x p in
          let g : take s (set a (i - (w - s)) x) ≡ set (take s a) (i - (w - s)) x = take-set-lt s a (i - (w - s)) x p in
          (rw (f, g) refl) ∙ sym (set-append_right (drop s a) (take s a) (w - s) i x len l)

  get_from : (s i : ℕ) (d : X) → s < w → i < w → get_or (ring_order s a) i d ≡ get_or a (place_from s w i) d
  get_from s i d b h = go (ltb i (w - s)) refl
    where
      len : length (drop s a) ≡ w - s
      len = simp length-drop (omega arith)

      go : (t : Bool) → ltb i (w - s) ≡ t → get_or (ring_order s a) i d ≡ get_or a (cond t (s + i) (i - (w - s))) d
      go true e = get_or_append_left (drop s a) (take s a) d i (omega (arith, ltb-true i (w - s) e, len)) ∙ get_or-drop s a i d
      go false e =
          let l : w - s ≤ i = ltb-false i (w - s) e in
          get_or-append_right (drop s a) (take s a) (w - s) i d len l ∙ get_or-take s a (i - (w - s)) d (omega arith)

  next_from : (s : ℕ) → s < w → ring_order (place_from s w 1) a ≡ drop 1 (ring_order s a) ++ take 1 (ring_order s a)
  next_from s b = go (ltb 1 (w - s)) refl ∙ step a s (omega arith)
    where
      step : (a : List X) (s : ℕ) → s < length a → ring_order (s + 1) a ≡ drop 1 (ring_order s a) ++ take 1 (ring_order s a)
      step [] s b = absurd (omega arith)
      step (d ∷ a) s b =
          let f : drop s (d ∷ a) ≡ get_or (d ∷ a) s d ∷ drop (s + 1) (d ∷ a) = drop_more (d ∷ a) s d b in
          let g : take (s + 1) (d ∷ a) ≡ take s (d ∷ a) ++ (get_or (d ∷ a) s d ∷ []) = take_more (d ∷ a) s d b in
          rw (f, g) (sym (append_assoc (drop (s + 1) (d ∷ a)) (take s (d ∷ a)) (get_or (d ∷ a) s d ∷ [])))

      go : (t : Bool) → ltb 1 (w - s) ≡ t → ring_order (cond t (s + 1) (1 - (w - s))) a ≡ ring_order (s + 1) a
      go true e = refl
      go false e =
          let z : 1 - (w - s) ≡ 0 = omega (arith, ltb-false 1 (w - s) e) in
          let l : length a ≤ s + 1 = omega (arith, ltb-false 1 (w - s) e) in
          let f : drop (s + 1) a ≡ [] = drop_all (s + 1) a l in
          let g : take (s + 1) a ≡ a = take_all (s + 1) a l in
          rw (z, f, g) (append-nil a)

  -- a block written at the place of index i is the ring's entry at i
  pub turned_set : (first i : ℕ) (x : X) → i < w → ring_order first (set a (place_at first w i) x) ≡ set (ring_order first a) i x
  turned_set first i x h = turned_start first w (set a (place_at first w i) x) (length-set a (place_at first w i) x ∙ n) ∙ set_from (start_of first w) i x (start_below first w (omega arith)) h ∙ ap (λ l. set l i x) (sym (turned_start first w a n))

  pub turned_get : (first i : ℕ) (d : X) → i < w → get_or (ring_order first a) i d ≡ get_or a (place_at first w i) d
  turned_get first i d h = ap (λ l. get_or l i d) (turned_start first w a n) ∙ get_from (start_of first w) i d (start_below first w (omega arith)) h

  -- a ring that starts at the place of index 1 is the ring moved on by one
  pub turned_next : (first : ℕ) → 0 < w → ring_order (place_at first w 1) a ≡ drop 1 (ring_order first a) ++ take 1 (ring_order first a)
  turned_next first h = next_from (start_of first w) (start_below first w h) ∙ ap (λ l. drop 1 l ++ take 1 l) (sym (turned_start first w a n))
