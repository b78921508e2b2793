-- The lists by client when one queue changes, and how many blocks they have together.
use Rattle.std.proofs.Common.{◌≡◌, ℕ, zero, suc, ◌+◌, ◌<◌, ◌≤◌, Bool, true, false, cond, eqb, List, [], ◌∷◌, ◌++◌, map, length, get_or, set, take, drop, replicate, Some, None, Global, sym, refl, ap, ◌∙◌, ⊎_elim, arith, add-one}
use Rattle.std.proofs.Math.Path.{fun_ext}
use Rattle.std.specs.List.{range_with_len, slice_get, sum_by}
use Rattle.std.proofs.lemmas.Option.{get_or_from_slice_get, slice_get-get_or, slice_get_within}
use Rattle.std.specs.VecDeque.{deque_items, deque_len}
use Rattle.std.specs.declared.collections.VecDeque.{VecDeque}
use Rattle.std.proofs.lemmas.List.{map-set, get_or-set_other, get_or-replicate, get_or_past, map-append, replicate_more, length-map, length-replicate, drop_all, get_or-map, nil_from_length, take_all, take_more}
use Rattle.std.proofs.lemmas.Grind.{get_or-set_at}
use Rattle.std.proofs.lemmas.Bool.{cases_lt, eqb-true, eqb-false}
use Rattle.std.proofs.lemmas.List.Sums.{sum_by-cons, sum_by-drop_more}
use Rattle.block.specs.declared.Block.{Block}
use Rattle.block.specs.Fixed.{idle_block}
use Rattle.numbers.specs.Range.{slots}
use Rattle.port.proofs.Lists.{updated_same}
use Rattle.port.specs.Model.{Lists, first_of, rest_of, lists_after_next, updated_lists}
use Rattle.client_queues.specs.Waiting.{blocks_waiting, none_wait, waiting_in}
use Rattle.client_queues.specs.declared.ClientQueues.{ClientQueues}

-- one queue has another list: that of its client
module _ (ls : List (List Block)) (i c : ℕ) (l : List Block) (at : i + 1 ≡ c) (within : i < length ls) where
  pub one_set : (λ k. get_or ([] ∷ set ls i l) k []) ≡ updated_lists (λ k. get_or ([] ∷ ls) k []) c l
  one_set = fun_ext (λ k. go k (eqb k c) refl)
    where
      go : (k : ℕ) (t : Bool) → eqb k c ≡ t → get_or ([] ∷ set ls i l) k [] ≡ cond t l (get_or ([] ∷ ls) k [])
      go zero true e = absurd (let z = eqb-true 0 c e in omega arith)
      go zero false e = refl
      go (suc j) true e = let z = eqb-true (suc j) c e in get_or-set_at ls i j l [] (omega arith) within
      go (suc j) false e = get_or-set_other ls i j l [] (λ s. eqb-false (suc j) c e (omega (arith, s)))

-- no queue has a list
abbrev no_list : List Block
no_list = []

pub none_set : (n : ℕ) → (λ k. get_or ([] ∷ replicate n []) k []) ≡ none_wait
none_set n = fun_ext go
  where
    within : (j : ℕ) → get_or (replicate n no_list) j [] ≡ []
    within j = ⊎_elim (λ l. get_or-replicate n j [] [] l) (λ l. get_or_past (replicate n []) j [] (omega (arith, length-replicate n no_list))) (cases_lt j n)

    go : (k : ℕ) → get_or ([] ∷ replicate n no_list) k [] ≡ []
    go zero = refl
    go (suc j) = within j

pub none_wait_in : (qs : List (VecDeque Block Global)) (n : ℕ) → map deque_items qs ≡ replicate n no_list → (λ k. get_or ([] ∷ map deque_items qs) k []) ≡ none_wait
none_wait_in qs n e = ap (λ ls k. get_or ([] ∷ ls) k []) e ∙ none_set n

-- one more queue is empty
pub empty_more : (qs rs : List (VecDeque Block Global)) (q : VecDeque Block Global) (n : ℕ) → map deque_items qs ≡ replicate n no_list → q.items ≡ no_list → rs ≡ qs ++ q ∷ [] → map deque_items rs ≡ replicate (n + 1) no_list
empty_more qs rs q n e f g =
    ap (map deque_items) g ∙ map-append deque_items qs (q ∷ []) ∙ rw (e, f) (replicate_more n no_list)

-- the lengths of the lists from place i on
lengths_from : (ls : List (List Block)) (n i : ℕ) → i + n ≡ length ls → sum_by (λ k. length (get_or ls k [])) (range_with_len i n) ≡ sum_by length (drop i ls)
lengths_from ls zero i e = sym (ap (sum_by length) (drop_all i ls (omega arith)))
lengths_from ls (suc n) i e =
    sum_by-cons (λ k. length (get_or ls k [])) i (range_with_len (i + 1) n)
    ∙ ap (λ s. length (get_or ls i []) + s) (lengths_from ls n (i + 1) (omega arith))
    ∙ sym (sum_by-drop_more length ls i [] (omega arith))

-- the lengths that the queues know
lengths_known : (qs : List (VecDeque Block Global)) → sum_by length (map deque_items qs) ≡ sum_by deque_len qs
lengths_known [] = refl
lengths_known (q ∷ qs) =
    sum_by-cons length q.items (map deque_items qs) ∙ rw (lengths_known qs, sym q.ok.0) (sym (sum_by-cons deque_len q qs))

module _ (q : ClientQueues) where
  many : length q.queues.items ≡ slots
  many = omega (arith, q.all, q.queues.ok.0)

  -- the count that the queues keep is that of the blocks that wait
  pub waiting_known : q.blocks ≡ blocks_waiting (waiting_in q)
  unfolding blocks_waiting
  waiting_known =
      q.counted
      ∙ sym (lengths_from ([] ∷ map deque_items q.queues.items) slots 1 (omega (arith, many, length-map q.queues.items (deque_items {X = Block} {Z = Global})))
      ∙ lengths_known q.queues.items)

  -- the queue at client c's place
  module _ (i : ℕ) (old : VecDeque Block Global) (here : old ≡ get_or q.queues.items i old) (c : ℕ) (at : i + 1 ≡ c) (within : i < slots) where
    inside : i < length q.queues.items
    inside = omega (arith, many, within)

    list_at : waiting_in q c ≡ old.items
    list_at = rw (sym at, add-one i) (get_or-map deque_items q.queues.items i old [] inside ∙ ap deque_items (sym here))

    pub given_first : (b : Block) (rest : List Block) → old.items ≡ b ∷ rest → Some b ≡ first_of (waiting_in q c)
    given_first b rest e = rw (list_at, e) refl

    pub none_first : deque_len old ≡ 0 → None ≡ first_of (waiting_in q c)
    none_first n = rw (list_at, nil_from_length old.items (sym old.ok.0 ∙ n)) refl

    -- and a queue in its place
    module _ (new : VecDeque Block Global) (after : List (VecDeque Block Global)) (there : after ≡ set q.queues.items i new) where
      list_set : (l : List Block) → new.items ≡ l → (λ k. get_or ([] ∷ map deque_items after) k []) ≡ updated_lists (waiting_in q) c l
      list_set l e =
          ap (λ ls k. get_or ([] ∷ ls) k [])
          (ap (map deque_items) there ∙ map-set deque_items q.queues.items i new ∙ ap (set (map deque_items q.queues.items) i) e)
          ∙ one_set (map deque_items q.queues.items) i c l at (omega (arith, inside, length-map q.queues.items (deque_items {X = Block} {Z = Global})))

      pub given_rest : (b : Block) → old.items ≡ b ∷ new.items → (λ k. get_or ([] ∷ map deque_items after) k []) ≡ lists_after_next c (waiting_in q)
      given_rest b e = list_set (rest_of (waiting_in q c)) (rw (list_at, e) refl)

      pub none_rest : deque_len old ≡ 0 → deque_len new ≡ 0 → (λ k. get_or ([] ∷ map deque_items after) k []) ≡ lists_after_next c (waiting_in q)
      none_rest n m =
          list_set (rest_of (waiting_in q c)) (rw (list_at, nil_from_length old.items (sym old.ok.0 ∙ n)) (nil_from_length new.items (sym new.ok.0 ∙ m)))

      pub same_wait : new.items ≡ old.items → (λ k. get_or ([] ∷ map deque_items after) k []) ≡ waiting_in q
      same_wait e = list_set old.items e ∙ ap (updated_lists (waiting_in q) c) (sym list_at) ∙ updated_same (waiting_in q) c

      pub more_wait : (l : List Block) → new.items ≡ old.items ++ l → (λ k. get_or ([] ∷ map deque_items after) k []) ≡ updated_lists (waiting_in q) c (waiting_in q c ++ l)
      more_wait l e = list_set (waiting_in q c ++ l) (e ∙ ap (λ w. w ++ l) (sym list_at))

-- nothing stands at a place behind the last
none_past : (xs : List Block) (k : ℕ) → None ≡ slice_get xs k → length xs ≤ k
none_past xs k e = ⊎_elim inside (λ l. l) (cases_lt k (length xs))
  where
    inside : k < length xs → length xs ≤ k
    inside l = absurd (let z : None ≡ Some (get_or xs k idle_block) = e ∙ slice_get-get_or xs k idle_block l in cc)

-- a queue that has the first of these blocks, when the next is looked for
module _ (xs : List Block) (q : VecDeque Block Global) (n : ℕ) (long : n ≡ deque_len q) (front : q.items ≡ take (deque_len q) xs) where
  pub one_more : (r : VecDeque Block Global) (b : Block) → Some b ≡ slice_get xs n → r.items ≡ q.items ++ b ∷ [] → deque_len r ≡ deque_len q + 1 → r.items ≡ take (deque_len r) xs
  one_more r b e more longer =
      let w = slice_get_within xs n b (sym e) in
      more ∙ ap (λ l. l ++ b ∷ []) (front ∙ ap (λ k. take k xs) (sym long))
      ∙ sym (take_more xs n b w ∙ ap (λ x. take n xs ++ x ∷ []) (get_or_from_slice_get xs n b b (sym e)))
      ∙ ap (λ k. take k xs) (omega (arith, long, longer))

  pub no_more : None ≡ slice_get xs n → q.items ≡ xs
  no_more e = front ∙ take_all (deque_len q) xs (omega (arith, none_past xs n e, long))
