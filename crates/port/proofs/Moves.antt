-- A move of pairs and a taking of blocks, step by step.
use Rattle.std.proofs.Common.{◌≡◌, ℕ, ◌+◌, ◌*◌, ◌<◌, List, [], ◌∷◌, ◌++◌, length, take, drop, set, Option, unwrap_or, sym, refl, ap, ◌∙◌, arith}
use Rattle.std.proofs.lemmas.List.{append_assoc, append-nil, take_all, take_more_set}
use Rattle.block.specs.declared.Block.{Block}
use Rattle.port.specs.Model.{PutAccepted, Holding, Lists, first_of, rest_of, lists_after_next, pair_blocks, updated_lists}
use Rattle.port.specs.Pairs.{first_pair, lists_after_pair, or_filler}
use Rattle.port.specs.Runs.{MovesAll, padded_blocks, without_first}
use Rattle.port.proofs.Lists.{updated_again, updated_here, updated_same}
use Rattle.port.proofs.Padded.{padded_more, padded_pair, rest_more}

pub moved_none : (c : ℕ) (f : Block) (w : Lists) (h : Holding) → MovesAll c 0 f w w h h
unfolding padded_blocks
moved_none c f w h = record {
  taken = sym (updated_same w c);
  appended = sym (ap (updated_lists h.held c) (append-nil (h.held c)) ∙ updated_same h.held c);
  places = omega arith;
}

taken_twice : (c : ℕ) (v : Lists) → lists_after_pair c v ≡ updated_lists v c (rest_of (rest_of (v c)))
taken_twice c v = ap (λ l. updated_lists (lists_after_next c v) c (rest_of l)) (updated_here v c (rest_of (v c))) ∙ updated_again v c (rest_of (v c)) (rest_of (rest_of (v c)))

pub here_is : (c n : ℕ) (w v : Lists) → v ≡ without_first n c w → v c ≡ drop n (w c)
here_is c n w v e = ap (λ (k : Lists). k c) e ∙ updated_here w c (drop n (w c))

-- blocks taken again: n and then those that leave l of the rest
left_again : (c n : ℕ) (w v : Lists) (l : List Block) → v ≡ without_first n c w → updated_lists v c l ≡ updated_lists w c l
left_again c n w v l e = ap (λ (k : Lists). updated_lists k c l) e ∙ updated_again w c (drop n (w c)) l

-- one block more is taken
pub one_left : (c n : ℕ) (w v : Lists) → v ≡ without_first n c w → lists_after_next c v ≡ without_first (n + 1) c w
one_left c n w v e =
    left_again c n w v (rest_of (v c)) e
    ∙ ap (λ d. updated_lists w c (rest_of d)) (here_is c n w v e)
    ∙ ap (updated_lists w c) (rest_more n (w c))

rest_pair : (n : ℕ) (l : List Block) → rest_of (rest_of (drop (2 * n) l)) ≡ drop (2 * (n + 1)) l
rest_pair n l =
    let e : 2 * n + 1 + 1 ≡ 2 * (n + 1) = omega arith in
    ap rest_of (rest_more (2 * n) l) ∙ rest_more (2 * n + 1) l ∙ ap (λ k. drop k l) e

-- one pair more
pub moved_more :
    (c n : ℕ) (f : Block) (w v u : Lists) (h i j : Holding) → MovesAll c n f w v h i → u ≡ lists_after_pair c v →
    PutAccepted c (first_pair f (v c)) i j → MovesAll c (n + 1) f w u h j
moved_more c n f w v u h i j one left put =
    let here : v c ≡ drop (2 * n) (w c) = here_is c (2 * n) w v one.taken in
    let front : i.held c ≡ h.held c ++ padded_blocks f (2 * n) (w c) = ap (λ (k : Lists). k c) one.appended ∙ updated_here h.held c (h.held c ++ padded_blocks f (2 * n) (w c)) in
    let two : 2 * (n + 1) ≡ 2 * n + 2 = omega arith in
    let pair : List Block = pair_blocks (first_pair f (v c)) in
    let grown : padded_blocks f (2 * n) (w c) ++ pair ≡ padded_blocks f (2 * (n + 1)) (w c) =
    ap (λ d. padded_blocks f (2 * n) (w c) ++ pair_blocks (first_pair f d)) here
    ∙ sym (padded_pair f (2 * n) (2 * (n + 1)) (w c) two) in
    record {
      taken =
          left ∙ taken_twice c v
          ∙ left_again c (2 * n) w v (rest_of (rest_of (v c))) one.taken
          ∙ ap (λ d. updated_lists w c (rest_of (rest_of d))) here
          ∙ ap (updated_lists w c) (rest_pair n (w c));
      appended =
          put.appended
          ∙ ap (λ (k : Lists). updated_lists k c (i.held c ++ pair)) one.appended
          ∙ updated_again h.held c (h.held c ++ padded_blocks f (2 * n) (w c)) (i.held c ++ pair)
          ∙ ap (λ l. updated_lists h.held c (l ++ pair)) front
          ∙ ap (updated_lists h.held c) (append_assoc (h.held c) (padded_blocks f (2 * n) (w c)) pair ∙ ap (λ l. h.held c ++ l) grown);
      places = omega (arith, put.places, one.places);
    }

pub moved_all : (c n m : ℕ) (f : Block) (w v : Lists) (h i : Holding) → n ≡ m → MovesAll c n f w v h i → MovesAll c m f w v h i
moved_all c n m f w v h i e all = rw e at all

-- the first n blocks taken, n places of the output filled
pub record Taking (f : Block) (c n : ℕ) (w v : Lists) (out : List Block) : Type 0 where
  pub blocks : take n out ≡ padded_blocks f n (w c)
  pub left : v ≡ without_first n c w

pub taking_none : (f : Block) (c : ℕ) (w : Lists) (out : List Block) → Taking f c 0 w w out
unfolding padded_blocks
taking_none f c w out = record { blocks = refl; left = sym (updated_same w c) }

-- one block more
pub taking_more :
    (f : Block) (c n at : ℕ) (w v u : Lists) (out : List Block) (o : Option Block) (x : Block) → at ≡ n → n < length out → Taking f c n w v out →
    o ≡ first_of (v c) → x ≡ unwrap_or o f → u ≡ lists_after_next c v → Taking f c (n + 1) w u (set out at x)
taking_more f c n at w v u out o x here low one first is left =
    let next : x ≡ or_filler f (first_of (drop n (w c))) = is ∙ ap (or_filler f) first ∙ ap (λ d. or_filler f (first_of d)) (here_is c n w v one.left) in
    record {
      blocks =
          ap (λ (k : ℕ). take (n + 1) (set out k x)) here
          ∙ take_more_set out n x low
          ∙ ap (λ l. l ++ (x ∷ [])) one.blocks
          ∙ ap (λ b. padded_blocks f n (w c) ++ (b ∷ [])) next
          ∙ sym (padded_more f n (w c));
      left = left ∙ one_left c n w v one.left;
    }

pub taking_all :
    (f : Block) (c n m : ℕ) (w v : Lists) (out : List Block) → n ≡ m → length out ≡ m → Taking f c n w v out →
    (out ≡ padded_blocks f m (w c)) × (v ≡ without_first m c w)
taking_all f c n m w v out all long one = (
  sym (take_all n out (omega arith)) ∙ one.blocks ∙ ap (λ k. padded_blocks f k (w c)) all,
  one.left ∙ ap (λ k. without_first k c w) all,
)
