-- Stretches of the line.
use Rattle.std.proofs.Common.{◌≡◌, ◌≢◌, ℕ, ◌+◌, ◌*◌, ◌<◌, ◌≤◌, Bool, true, false, cond, List, [], ◌∷◌, ◌++◌, map, length, take, drop, sym, refl, ap, ◌∙◌, inl, inr, append_assoc, arith, length-drop, length-take}
use Rattle.std.proofs.lemmas.List.{map-append, take-append-drop, take-append-le, drop-append-le, drop_at, take_at, length_push}
use Rattle.block.specs.declared.Block.{Block}
use Rattle.block.specs.Fixed.{start_block}
use Rattle.block.specs.Classes.{lawful_or_error}
use Rattle.sending.specs.Blocks.{is_idle_block, without_idles}
use Rattle.sending.specs.Laid.{blocks_laid_for}
use Rattle.sending.specs.Sender.{SenderSetup}
use Rattle.sending.specs.Life.{Life, LineItem, frame, gap, items, blocks, state_of}
use Rattle.sending.specs.LineLaws.{Each, StandsInPlace, blocks_of_item, blocks_of_items, AreOnLine, blocks_from, RunsLined, CycleBlocks}
use Rattle.sending.specs.ClientLaws.{Carries, blocks_given_for, blocks_laid_in, StretchesCarry}
use Rattle.sending.proofs.Lines.{lined}
use Rattle.sending.proofs.Places.{standing, frames_carry, each_drop, each_take, cycles_whole, counted_frames, counted_blocks}

without_append : (xs ys : List Block) → without_idles (xs ++ ys) ≡ without_idles xs ++ without_idles ys
unfolding without_idles
without_append [] ys = refl
without_append (x ∷ xs) ys = rw (without_append xs ys) (go (is_idle_block x))
  where
    go : (t : Bool) → cond t (without_idles xs ++ without_idles ys) (x ∷ (without_idles xs ++ without_idles ys)) ≡ cond t (without_idles xs) (x ∷ without_idles xs) ++ without_idles ys
    go true = refl
    go false = refl

over : (m : SenderSetup) (i : ℕ) (xs : List LineItem) (k : ℕ) → k ≢ 0 → Each (λ j x. Carries m x) i xs → without_idles (blocks_laid_in m xs k) ≡ map lawful_or_error (without_idles (blocks_given_for xs k))
unfolding Each without_idles
over m i [] k z u = refl
over m i (frame f ∷ xs) k z (p, u) =
    without_append (blocks_laid_for m.calendar f.pairs k) (blocks_laid_in m xs k)
    ∙ ap (λ l. l ++ without_idles (blocks_laid_in m xs k)) (p k z)
    ∙ ap (λ l. map lawful_or_error (without_idles (f.given k)) ++ l) (over m (i + 1) xs k z u)
    ∙ sym (map-append lawful_or_error (without_idles (f.given k)) (without_idles (blocks_given_for xs k)))
    ∙ ap (map lawful_or_error) (sym (without_append (f.given k) (blocks_given_for xs k)))
over m i (gap b ∷ xs) k z (p, u) = over m (i + 1) xs k z u

pub stretches_carry : StretchesCarry
stretches_carry m l i n k z =
    over m (0 + i) (take n (drop i (items m l))) k z
    (each_take (λ j x. Carries m x) (0 + i) n (drop i (items m l)) (each_drop (λ j x. Carries m x) 0 i (items m l) (frames_carry m l)))

pub joined_append : (xs ys : List LineItem) → blocks_of_items (xs ++ ys) ≡ blocks_of_items xs ++ blocks_of_items ys
unfolding blocks_of_items
joined_append [] ys = refl
joined_append (x ∷ xs) ys = ap (λ l. blocks_of_item x ++ l) (joined_append xs ys) ∙ sym (append_assoc (blocks_of_item x) (blocks_of_items xs) (blocks_of_items ys))

split_joined : (i : ℕ) (xs : List LineItem) → blocks_of_items xs ≡ blocks_of_items (take i xs) ++ blocks_of_items (drop i xs)
split_joined i xs = ap blocks_of_items (sym (take-append-drop i xs)) ∙ joined_append (take i xs) (drop i xs)

from : (is : List LineItem) (bs rest : List Block) (i : ℕ) → i < length is → AreOnLine is bs rest → AreOnLine (drop i is) (drop (length (blocks_of_items (take i is))) bs) rest
from is bs rest i h (inl (e, z)) = inl (ap (drop (length (blocks_of_items (take i is)))) (e ∙ split_joined i is) ∙ drop_at (blocks_of_items (take i is)) (blocks_of_items (drop i is)) (length (blocks_of_items (take i is))) refl, z)
from is bs rest i h (inr (before, (f, (front, (p, q, r))))) =
    let k : i ≤ length before = omega (arith, ap (λ (l : List LineItem). length l) p ∙ length_push before (frame f)) in
    let same : take i is ≡ take i before = ap (take i) p ∙ take-append-le i before (frame f ∷ []) k in
    inr (
      drop i before,
      (
        f,
        (
          front,
          (
            ap (drop i) p ∙ drop-append-le i before (frame f ∷ []) k,
            ap (λ (l : List LineItem). drop (length (blocks_of_items l)) bs) same
                ∙ ap (drop (length (blocks_of_items (take i before)))) (q ∙ ap (λ l. l ++ (start_block ∷ front)) (split_joined i before) ∙ append_assoc (blocks_of_items (take i before)) (blocks_of_items (drop i before)) (start_block ∷ front))
                ∙ drop_at (blocks_of_items (take i before)) (blocks_of_items (drop i before) ++ (start_block ∷ front)) (length (blocks_of_items (take i before))) refl,
            r,
          ),
        ),
      ),
    )

pub runs_lined : RunsLined
runs_lined m l i h = from (items m l) (blocks m l) (state_of m l).rest i h (lined m l)

-- whole items at the front of a line are sent whole
front_whole : (is : List LineItem) (bs rest : List Block) (n : ℕ) → n < length is → AreOnLine is bs rest → (tail : List Block) × (bs ≡ blocks_of_items (take n is) ++ tail)
front_whole is bs rest n h (inl (e, z)) = (blocks_of_items (drop n is), e ∙ split_joined n is)
front_whole is bs rest n h (inr (before, (f, (front, (p, q, r))))) =
    let k : n ≤ length before = omega (arith, ap (λ (l : List LineItem). length l) p ∙ length_push before (frame f)) in
    let same : take n before ≡ take n is = sym (ap (take n) p ∙ take-append-le n before (frame f ∷ []) k) in (
      blocks_of_items (drop n before) ++ (start_block ∷ front),
      q ∙ ap (λ l. l ++ (start_block ∷ front)) (split_joined n before) ∙ append_assoc (blocks_of_items (take n before)) (blocks_of_items (drop n before)) (start_block ∷ front)
          ∙ ap (λ (l : List LineItem). blocks_of_items l ++ (blocks_of_items (drop n before) ++ (start_block ∷ front))) same,
    )

take_front : (n : ℕ) (xs ys tail : List Block) → ys ≡ xs ++ tail → length xs ≡ n → take n ys ≡ xs
take_front n xs ys tail e h = ap (take n) e ∙ take_at xs tail n h

before_cycle : (m : SenderSetup) (l : Life) (c : ℕ) → 65 * c ≤ length (items m l) → length (blocks_of_items (take (65 * c) (items m l))) ≡ 32768 * c
before_cycle m l c h =
    let long : length (take (65 * c) (items m l)) ≡ 65 * c = simp length-take (omega arith) in
    let f = counted_frames m 0 (take (65 * c) (items m l)) (each_take (StandsInPlace m) 0 (65 * c) (items m l) (standing m l).stands) in
    let b = counted_blocks (take (65 * c) (items m l)) in
    omega (arith, long, f, b)

pub cycle_blocks : CycleBlocks
cycle_blocks m l c h =
    let start : length (blocks_of_items (take (65 * c) (items m l))) ≡ 32768 * c = before_cycle m l c (omega arith) in
    let run = runs_lined m l (65 * c) (omega arith) in
    let whole = front_whole (drop (65 * c) (items m l)) (blocks_from m l (65 * c)) (state_of m l).rest 65 (simp length-drop (omega arith)) run in
    let size : length (blocks_of_items (take 65 (drop (65 * c) (items m l)))) ≡ 32768 = (cycles_whole m l c (omega arith)).1 in
    ap (λ k. take 32768 (drop k (blocks m l))) (sym start)
    ∙ take_front 32768 (blocks_of_items (take 65 (drop (65 * c) (items m l)))) (blocks_from m l (65 * c)) whole.0 whole.1 size
