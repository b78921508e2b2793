-- What the calls of a bank do to the lists of the clients.
use Rattle.std.proofs.Common.{◌≡◌, ℕ, zero, suc, ◌+◌, ◌-◌, ◌*◌, ◌<◌, ◌≤◌, min, Bool, true, false, cond, eqb, ◌≢◌, List, [], ◌∷◌, ◌++◌, length, get_or, take, drop, set, replicate, Some, Ok, sym, refl, ap, ◌∙◌, subst, ⊎_elim, append_assoc, arith, length-set, length-take}
use Rattle.std.proofs.Math.Path.{fun_ext}
use Rattle.std.proofs.lemmas.List.{take_all, drop_all, take-append-le, take_more_set, get_or-set_same, get_or-set_other, get_or-take, get_or-drop, get_or_past, get_or-replicate, length-replicate}
use Rattle.std.proofs.lemmas.Bool.{eqb-true, eqb-false, cases_lt}
use Rattle.std.specs.Borrow.{GName}
use Rattle.block.specs.declared.Block.{Block}
use Rattle.block.specs.declared.Pair.{Pair}
use Rattle.port.specs.Model.{Lists, Holding, PutAccepted, first_of, rest_of, lists_after_next, block_count_given, pair_blocks, empty_with}
use Rattle.port.proofs.Lists.{by_client, holding_by, none_removed}
use Rattle.bank.specs.declared.Bank.{Bank}
use Rattle.bank.specs.declared.Ring.{Ring}
use Rattle.bank.specs.Ring.{ring_order, place_at}
use Rattle.bank.specs.Lists.{BankContents, width_of, AreaAt, area_of, ring_of, blocks_in, free_in, bank_holding_after_next, bank_holding_after_put}
use Rattle.bank.proofs.Turns.{length_turned, place_below, turned_set, turned_get, turned_next}
use Rattle.bank.proofs.Areas.{area_is, length_area, area_set, area_kept}

turned_none : (first : ℕ) (a : List Block) → length a ≤ 0 → ring_order first a ≡ []
turned_none first [] h =
    let d : drop {A = Block} first [] ≡ [] = drop_all first [] (omega arith) in
    let t : take {A = Block} first [] ≡ [] = take_all first [] (omega arith) in
    rw (d, t) refl
turned_none first (x ∷ a) h = absurd (omega arith)

take_none : (n : ℕ) → take {A = Block} n [] ≡ []
take_none n = take_all n [] (omega arith)

-- an area without places holds nothing
pub nothing_without_places : (w k : ℕ) (memory : List Block) (rings : List Ring) → width_of w (length memory) k ≡ 0 → blocks_in w memory rings k ≡ []
nothing_without_places w k memory rings z =
    let l : length (area_of w memory k) ≤ 0 = rw z (omega arith) in
    let e : ring_order (ring_of rings k).first (area_of w memory k) ≡ [] = turned_none (ring_of rings k).first (area_of w memory k) l in
    rw e (take_none (ring_of rings k).count)

-- a bank's contents by what it holds
abbrev pub held_by : ℕ → GName → Holding → BankContents
held_by n g h = record { holding = h; areas = n; lender = g }

pub contents_by : (n m : ℕ) (g : GName) (h j : Holding) → n ≡ m → h ≡ j → held_by n g h ≡ held_by m g j
contents_by n m g h j e q = ap (λ k. held_by k g h) e ∙ ap (held_by m g) q

-- a bank by its memory and its rings
abbrev bank_with : Bank → List Block → List Ring → Bank
bank_with bank memory rings = record bank { memory = record bank.memory { now = memory }; rings = rings }

pub bank_by : (bank : Bank) (l m : List Block) (r s : List Ring) → l ≡ m → r ≡ s → bank_with bank l r ≡ bank_with bank m s
bank_by bank l m r s e q = ap (λ k. bank_with bank k r) e ∙ ap (bank_with bank m) q

-- and no place is freed
pub none_freed : (lists : Lists) (f : ℕ → ℕ) (c : ℕ) → lists c ≡ [] → ◌≡◌ {A = Holding} (record { held = lists; free = f }) (bank_holding_after_next c (record { held = lists; free = f }))
none_freed lists f c e = holding_by lists (lists_after_next c lists) f _ (none_removed lists c e) (fun_ext (λ k. rw e (go k (eqb k c))))
  where
    go : (k : ℕ) (t : Bool) → f k ≡ f k + cond t 0 0
    go k true = omega arith
    go k false = omega arith

-- another client's list depends on its own area and ring
other_kept : (w : ℕ) (memory changed : List Block) (rings : List Ring) (r : Ring) (c k : ℕ) → 1 ≤ c → eqb k c ≡ false → length changed ≡ length memory → area_of w changed k ≡ area_of w memory k → blocks_in w changed (set rings (c - 1) r) k ≡ blocks_in w memory rings k
other_kept w memory changed rings r c zero o n l e = nothing_without_places w 0 changed (set rings (c - 1) r) refl ∙ sym (nothing_without_places w 0 memory rings refl)
other_kept w memory changed rings r c (suc j) o n l e =
    let d : suc j - 1 ≢ c - 1 = λ q. eqb-false (suc j) c n (omega arith) in
    let g : ring_of (set rings (c - 1) r) (suc j) ≡ ring_of rings (suc j) = get_or-set_other rings (c - 1) (suc j - 1) r (record { first = 0; count = 0 }) d in
    rw (g, e) refl

other_free : (w m : ℕ) (rings : List Ring) (r : Ring) (c k : ℕ) → 1 ≤ c → eqb k c ≡ false → free_in w m (set rings (c - 1) r) k ≡ free_in w m rings k
other_free w m rings r c zero o n = omega arith
other_free w m rings r c (suc j) o n =
    let d : suc j - 1 ≢ c - 1 = λ q. eqb-false (suc j) c n (omega arith) in
    let g : ring_of (set rings (c - 1) r) (suc j) ≡ ring_of rings (suc j) = get_or-set_other rings (c - 1) (suc j - 1) r (record { first = 0; count = 0 }) d in
    rw g refl

-- a ring moved on by one place, with one block less than n
abbrev moved_on : ℕ → ℕ → Ring → Ring
moved_on w n r = record { first = place_at r.first w 1; count = n - 1 }

-- a ring with two blocks more
abbrev grown : Ring → Ring
grown r = record { first = r.first; count = r.count + 2 }

-- the memory with a pair written behind the last block of the ring of an area
abbrev written : ℕ → ℕ → List Block → Ring → Pair → List Block
written w start memory r pair = set (set memory (start + place_at r.first w r.count) pair.first) (start + place_at r.first w (r.count + 1)) pair.second

abbrev holding_in : ℕ → List Block → List Ring → Holding
holding_in w memory rings = record { held = blocks_in w memory rings; free = free_in w (length memory) rings }

first_of_take : (n : ℕ) (l : List Block) (d : Block) → 0 < n → 0 < length l → Some (get_or l 0 d) ≡ first_of (take n l)
first_of_take zero l d h k = absurd (omega arith)
first_of_take (suc n) [] d h k = absurd (omega arith)
first_of_take (suc n) (x ∷ l) d h k = refl

one_given : (l : List Block) → 0 < length l → block_count_given (first_of l) ≡ 1
one_given [] h = absurd (omega arith)
one_given (x ∷ l) h = refl

rest_of_take : (n m : ℕ) (l : List Block) → 0 < n → 0 < length l → m ≡ min n (length l) → take (m - 1) (drop 1 l ++ take 1 l) ≡ rest_of (take n l)
rest_of_take zero m l h k e = absurd (omega arith)
rest_of_take (suc n) m [] h k e = absurd (omega arith)
rest_of_take (suc n) m (x ∷ l) h k e = take-append-le (m - 1) l (x ∷ []) (omega arith) ∙ ⊎_elim within past (cases_lt n (length l))
  where
    within : n < length l → take (m - 1) l ≡ take n l
    within lt = let q : m - 1 ≡ n = omega arith in rw q refl

    past : length l ≤ n → take (m - 1) l ≡ take n l
    past le = take_all (m - 1) l (omega arith) ∙ sym (take_all n l le)

module _ (w c start : ℕ) (memory : List Block) (rings : List Ring) (at : AreaAt w (length memory) c start) (one : 1 ≤ c) where
  -- the client's area in the order of its ring
  abbrev order : List Block
  order = ring_order (ring_of rings c).first (area_of w memory c)

  order_length : length order ≡ w
  order_length = length_turned (ring_of rings c).first (area_of w memory c) ∙ length_area w c start memory at

  own_ring : (r : Ring) → c - 1 < length rings → ring_of (set rings (c - 1) r) c ≡ r
  own_ring r among = get_or-set_same rings (c - 1) r (record { first = 0; count = 0 }) among

  -- no block is counted, or there is no place
  pub nothing_counted : (r : Ring) (n : ℕ) → r ≡ ring_of rings c → n ≡ min r.count w → n ≡ 0 → blocks_in w memory rings c ≡ []
  nothing_counted r n e m z = ⊎_elim counted wide (cases_lt 0 w)
    where
      same : (ring_of rings c).count ≡ r.count
      same = ap (λ (r : Ring). r.count) (sym e)

      wide : w ≤ 0 → blocks_in w memory rings c ≡ []
      wide h =
          let q : order ≡ [] = turned_none (ring_of rings c).first (area_of w memory c) (omega (arith, length_area w c start memory at)) in
          rw q (take_none (ring_of rings c).count)

      counted : 0 < w → blocks_in w memory rings c ≡ []
      counted h = let q : (ring_of rings c).count ≡ 0 = omega (arith, same) in rw q refl

  -- the block at the ring's first place is the client's first block
  first_read : (d : Block) → 0 < (ring_of rings c).count → 0 < w → Some (get_or memory (start + place_at (ring_of rings c).first w 0) d) ≡ first_of (blocks_in w memory rings c)
  first_read d n h =
      let p : place_at (ring_of rings c).first w 0 < w = place_below (ring_of rings c).first w 0 h in
      let g : get_or order 0 d ≡ get_or memory (start + place_at (ring_of rings c).first w 0) d =
      turned_get (area_of w memory c) w (length_area w c start memory at) (ring_of rings c).first 0 d h
      ∙ ap (λ (l : List Block). get_or l (place_at (ring_of rings c).first w 0) d) (area_is w c start memory at)
      ∙ get_or-take w (drop start memory) (place_at (ring_of rings c).first w 0) d p
      ∙ get_or-drop start memory (place_at (ring_of rings c).first w 0) d in
      ap Some (sym g) ∙ first_of_take (ring_of rings c).count order d n (omega (arith, order_length))

  -- a ring moved on by one, with one block less
  first_taken : c - 1 < length rings → (n : ℕ) → n ≡ min (ring_of rings c).count w → 0 < n → blocks_in w memory (set rings (c - 1) (moved_on w n (ring_of rings c))) ≡ lists_after_next c (blocks_in w memory rings)
  first_taken among n e h = by_client (blocks_in w memory (set rings (c - 1) (moved_on w n (ring_of rings c)))) (blocks_in w memory rings) c (rest_of (blocks_in w memory rings c)) own (λ k q. other_kept w memory memory rings (moved_on w n (ring_of rings c)) c k one q refl refl)
    where
      own : blocks_in w memory (set rings (c - 1) (moved_on w n (ring_of rings c))) c ≡ rest_of (blocks_in w memory rings c)
      own =
          let g = own_ring (moved_on w n (ring_of rings c)) among in
          let t : ring_order (place_at (ring_of rings c).first w 1) (area_of w memory c) ≡ drop 1 order ++ take 1 order = turned_next (area_of w memory c) w (length_area w c start memory at) (ring_of rings c).first (omega arith) in
          ap (λ (r : Ring). take r.count (ring_order r.first (area_of w memory c))) g
          ∙ ap (take (n - 1)) t
          ∙ rest_of_take (ring_of rings c).count n order (omega arith) (omega (arith, order_length)) (omega (arith, order_length))

  -- its place is free for the client
  first_freed : c - 1 < length rings → (n : ℕ) → n ≡ min (ring_of rings c).count w → 0 < n → holding_in w memory (set rings (c - 1) (moved_on w n (ring_of rings c))) ≡ bank_holding_after_next c (holding_in w memory rings)
  first_freed among n e h = holding_by _ _ _ _ (first_taken among n e h) (fun_ext (λ k. go k (eqb k c) refl))
    where
      some : block_count_given (first_of (blocks_in w memory rings c)) ≡ 1
      some = one_given (blocks_in w memory rings c) (simp length-take (omega (arith, order_length)))

      go : (k : ℕ) (t : Bool) → eqb k c ≡ t → free_in w (length memory) (set rings (c - 1) (moved_on w n (ring_of rings c))) k ≡ free_in w (length memory) rings k + cond (eqb k c) (block_count_given (first_of (blocks_in w memory rings c))) 0
      go k true q = rw (q, some, eqb-true k c q, own_ring (moved_on w n (ring_of rings c)) among, at.width) (omega arith)
      go k false q = rw q (other_free w (length memory) rings (moved_on w n (ring_of rings c)) c k one q ∙ omega arith)

  -- a pair written behind the client's last block, where two places are free
  pair_put : c - 1 < length rings → (pair : Pair) → (ring_of rings c).count + 2 ≤ w → PutAccepted c pair (holding_in w memory rings) (holding_in w (written w start memory (ring_of rings c) pair) (set rings (c - 1) (grown (ring_of rings c)))) × (holding_in w (written w start memory (ring_of rings c) pair) (set rings (c - 1) (grown (ring_of rings c))) ≡ bank_holding_after_put (Ok tt) c pair (holding_in w memory rings))
  pair_put among pair h = (
    record {
      room = rw at.width (omega arith);
      appended = lists;
      places = rw (own_ring (grown (ring_of rings c)) among, long, at.width) (omega arith);
    },
    holding_by _ _ _ _ lists (fun_ext (λ k. free k (eqb k c) refl)),
  )
    where
      long : length (written w start memory (ring_of rings c) pair) ≡ length memory
      long = simp length-set

      free : (k : ℕ) (t : Bool) → eqb k c ≡ t → free_in w (length (written w start memory (ring_of rings c) pair)) (set rings (c - 1) (grown (ring_of rings c))) k ≡ free_in w (length memory) rings k - cond (eqb k c) 2 0
      free k true q = rw (q, eqb-true k c q, own_ring (grown (ring_of rings c)) among, long, at.width) (omega arith)
      free k false q = rw (q, long) (other_free w (length memory) rings (grown (ring_of rings c)) c k one q ∙ omega arith)

      at_half : AreaAt w (length (set memory (start + place_at (ring_of rings c).first w (ring_of rings c).count) pair.first)) c start
      at_half = rw (length-set memory (start + place_at (ring_of rings c).first w (ring_of rings c).count) pair.first) at

      fit : place_at (ring_of rings c).first w (ring_of rings c).count < w
      fit = place_below (ring_of rings c).first w (ring_of rings c).count (omega arith)

      fit_next : place_at (ring_of rings c).first w ((ring_of rings c).count + 1) < w
      fit_next = place_below (ring_of rings c).first w ((ring_of rings c).count + 1) (omega arith)

      area : area_of w (written w start memory (ring_of rings c) pair) c ≡ set (set (area_of w memory c) (place_at (ring_of rings c).first w (ring_of rings c).count) pair.first) (place_at (ring_of rings c).first w ((ring_of rings c).count + 1)) pair.second
      area =
          area_set w c start (set memory (start + place_at (ring_of rings c).first w (ring_of rings c).count) pair.first) at_half (place_at (ring_of rings c).first w ((ring_of rings c).count + 1)) pair.second fit_next
          ∙ ap (λ (l : List Block). set l (place_at (ring_of rings c).first w ((ring_of rings c).count + 1)) pair.second) (area_set w c start memory at (place_at (ring_of rings c).first w (ring_of rings c).count) pair.first fit)

      half_area : length (set (area_of w memory c) (place_at (ring_of rings c).first w (ring_of rings c).count) pair.first) ≡ w
      half_area = simp length-set (length_area w c start memory at)

      in_order : ring_order (ring_of rings c).first (area_of w (written w start memory (ring_of rings c) pair) c) ≡ set (set order (ring_of rings c).count pair.first) ((ring_of rings c).count + 1) pair.second
      in_order =
          ap (ring_order (ring_of rings c).first) area
          ∙ turned_set (set (area_of w memory c) (place_at (ring_of rings c).first w (ring_of rings c).count) pair.first) w half_area (ring_of rings c).first ((ring_of rings c).count + 1) pair.second (omega arith)
          ∙ ap (λ (l : List Block). set l ((ring_of rings c).count + 1) pair.second) (turned_set (area_of w memory c) w (length_area w c start memory at) (ring_of rings c).first (ring_of rings c).count pair.first (omega arith))

      own : blocks_in w (written w start memory (ring_of rings c) pair) (set rings (c - 1) (grown (ring_of rings c))) c ≡ blocks_in w memory rings c ++ pair_blocks pair
      own =
          let two : (ring_of rings c).count + 2 ≡ ((ring_of rings c).count + 1) + 1 = omega arith in
          ap (λ (r : Ring). take r.count (ring_order r.first (area_of w (written w start memory (ring_of rings c) pair) c))) (own_ring (grown (ring_of rings c)) among)
          ∙ ap (take ((ring_of rings c).count + 2)) in_order
          ∙ ap (λ (m : ℕ). take m (set (set order (ring_of rings c).count pair.first) ((ring_of rings c).count + 1) pair.second)) two
          ∙ take_more_set (set order (ring_of rings c).count pair.first) ((ring_of rings c).count + 1) pair.second (simp length-set (omega (arith, order_length)))
          ∙ ap (λ (l : List Block). l ++ (pair.second ∷ [])) (take_more_set order (ring_of rings c).count pair.first (omega (arith, order_length)))
          ∙ append_assoc (take (ring_of rings c).count order) (pair.first ∷ []) (pair.second ∷ [])

      kept : (k : ℕ) → eqb k c ≡ false → area_of w (written w start memory (ring_of rings c) pair) k ≡ area_of w memory k
      kept k q =
          area_kept w c start (set memory (start + place_at (ring_of rings c).first w (ring_of rings c).count) pair.first) at_half (place_at (ring_of rings c).first w ((ring_of rings c).count + 1)) pair.second k fit_next one q
          ∙ area_kept w c start memory at (place_at (ring_of rings c).first w (ring_of rings c).count) pair.first k fit one q

      lists : blocks_in w (written w start memory (ring_of rings c) pair) (set rings (c - 1) (grown (ring_of rings c))) ≡ (λ k. cond (eqb k c) (blocks_in w memory rings c ++ pair_blocks pair) (blocks_in w memory rings k))
      lists = by_client (blocks_in w (written w start memory (ring_of rings c) pair) (set rings (c - 1) (grown (ring_of rings c)))) (blocks_in w memory rings) c (blocks_in w memory rings c ++ pair_blocks pair) own (λ k q. other_kept w memory (written w start memory (ring_of rings c) pair) rings (grown (ring_of rings c)) c k one q long (kept k q))

  -- the same, over what the calls answer
  pub first_read_by : (r : Ring) (i : ℕ) (d : Block) → r ≡ ring_of rings c → i ≡ place_at r.first w 0 → 0 < min r.count w → Some (get_or memory (start + i) d) ≡ first_of (blocks_in w memory rings c)
  first_read_by r i d e f h =
      let n : (ring_of rings c).count ≡ r.count = ap (λ (r : Ring). r.count) (sym e) in
      ap (λ (j : ℕ). Some (get_or memory (start + j) d)) (f ∙ ap (λ (r : Ring). place_at r.first w 0) e) ∙ first_read d (omega arith) (omega arith)

  -- the rings after a next
  pub next_rings : (r : Ring) (i j n : ℕ) → r ≡ ring_of rings c → i + 1 ≡ c → j ≡ place_at r.first w 1 → n ≡ min r.count w → set rings i (record { first = j; count = n - 1 }) ≡ set rings (c - 1) (moved_on w (min (ring_of rings c).count w) (ring_of rings c))
  next_rings r i j n e q f m =
      let at : i ≡ c - 1 = omega arith in
      let p : j ≡ place_at (ring_of rings c).first w 1 = f ∙ ap (λ (r : Ring). place_at r.first w 1) e in
      let k : n ≡ min (ring_of rings c).count w = m ∙ ap (λ (r : Ring). min r.count w) e in
      cc

  pub first_freed_by : c - 1 < length rings → (r : Ring) (n : ℕ) (left : List Ring) → r ≡ ring_of rings c → n ≡ min r.count w → 0 < n → left ≡ set rings (c - 1) (moved_on w (min (ring_of rings c).count w) (ring_of rings c)) → holding_in w memory left ≡ bank_holding_after_next c (holding_in w memory rings)
  first_freed_by among r n left e m h is =
      let k : n ≡ min (ring_of rings c).count w = m ∙ ap (λ (r : Ring). min r.count w) e in
      ap (holding_in w memory) is ∙ first_freed among (min (ring_of rings c).count w) refl (omega arith)

  -- the rings and the memory after a put
  pub put_rings : (r : Ring) (i : ℕ) → r ≡ ring_of rings c → i + 1 ≡ c → set rings i (grown r) ≡ set rings (c - 1) (grown (ring_of rings c))
  put_rings r i e s = let at : i ≡ c - 1 = omega arith in ap (λ (j : ℕ). set rings j (grown r)) at ∙ ap (λ (r : Ring). set rings (c - 1) (grown r)) e

  pub put_memory : (r : Ring) (p q : ℕ) (pair : Pair) → r ≡ ring_of rings c → p ≡ place_at r.first w r.count → q ≡ place_at r.first w (r.count + 1) → set (set memory (start + p) pair.first) (start + q) pair.second ≡ written w ((c - 1) * w) memory (ring_of rings c) pair
  put_memory r p q pair e f g =
      ap (λ (j : ℕ). set (set memory (start + j) pair.first) (start + q) pair.second) f
      ∙ ap (λ (j : ℕ). set (set memory (start + place_at r.first w r.count) pair.first) (start + j) pair.second) g
      ∙ ap (λ (r : Ring). written w start memory r pair) e
      ∙ ap (λ (j : ℕ). written w j memory (ring_of rings c) pair) at.begins

  pub pair_put_by : c - 1 < length rings → (r : Ring) (pair : Pair) (changed : List Block) (left : List Ring) → r ≡ ring_of rings c → r.count + 2 ≤ w → changed ≡ written w ((c - 1) * w) memory (ring_of rings c) pair → left ≡ set rings (c - 1) (grown (ring_of rings c)) → PutAccepted c pair (holding_in w memory rings) (holding_in w changed left) × (holding_in w changed left ≡ bank_holding_after_put (Ok tt) c pair (holding_in w memory rings))
  pair_put_by among r pair changed left e h is fits =
      let n : (ring_of rings c).count ≡ r.count = ap (λ (r : Ring). r.count) (sym e) in
      let z : holding_in w changed left ≡ holding_in w (written w start memory (ring_of rings c) pair) (set rings (c - 1) (grown (ring_of rings c))) =
      ap (λ (l : List Block). holding_in w l left) (is ∙ ap (λ (j : ℕ). written w j memory (ring_of rings c) pair) (sym at.begins))
      ∙ ap (holding_in w (written w start memory (ring_of rings c) pair)) fits in
      subst (λ (t : Holding). PutAccepted c pair (holding_in w memory rings) t × (t ≡ bank_holding_after_put (Ok tt) c pair (holding_in w memory rings))) (sym z) (pair_put among pair (omega arith))

-- no ring has a block yet
pub new_bank : (w : ℕ) (memory : List Block) → holding_in w memory (replicate 480 (record { first = 0; count = 0 })) ≡ empty_with (width_of w (length memory))
new_bank w memory = ap (λ (l : Lists). record { held = l; free = free_in w (length memory) (replicate 480 (record { first = 0; count = 0 })) }) lists ∙ ap (λ (f : ℕ → ℕ). record { held = λ _. []; free = f }) places
  where
    ring : (k : ℕ) → ring_of (replicate 480 (record { first = 0; count = 0 })) k ≡ record { first = 0; count = 0 }
    ring k = ⊎_elim (λ l. get_or-replicate 480 (k - 1) (record { first = 0; count = 0 }) (record { first = 0; count = 0 }) l) (λ l. get_or_past (replicate 480 (record { first = 0; count = 0 })) (k - 1) (record { first = 0; count = 0 }) (simp length-replicate l)) (cases_lt (k - 1) 480)

    lists : blocks_in w memory (replicate 480 (record { first = 0; count = 0 })) ≡ (λ _. [])
    lists = fun_ext (λ k. ap (λ (r : Ring). take r.count (ring_order r.first (area_of w memory k))) (ring k))

    places : free_in w (length memory) (replicate 480 (record { first = 0; count = 0 })) ≡ width_of w (length memory)
    places = fun_ext (λ k. ap (λ (r : Ring). width_of w (length memory) k - r.count) (ring k) ∙ omega arith)
