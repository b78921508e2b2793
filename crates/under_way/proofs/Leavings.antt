-- What is left of a frame's blocks, beside the pairs in its slots.
use Rattle.std.proofs.Common.{◌≡◌, ℕ, ◌+◌, ◌-◌, ◌<◌, ◌≤◌, List, [], ◌∷◌, ◌++◌, length, drop, Ok, Err, Result, Some, None, refl, sym, ap, ◌∙◌, subst, arith}
use Rattle.std.specs.Prelude.{slice_get, slice_set}
use Rattle.std.proofs.lemmas.List.{drop_all}
use Rattle.std.proofs.lemmas.Bool.Decides.{nat_tests}
use Rattle.block.specs.declared.Block.{Block}
use Rattle.block.specs.declared.Pair.{Pair}
use Rattle.block.specs.Whole.{Bytes}
use Rattle.overhead.specs.Format.{Fields, overhead_bytes}
use Rattle.payload.specs.Payloads.{pairs_of}
use Rattle.payload.proofs.Slots.{pairs_length, unpacking_undone}
use Rattle.frame.specs.Frames.{frame_block, frame_of}
use Rattle.frame.specs.Places.{place_behind}
use Rattle.frame.proofs.Frames.{frame_length}
use Rattle.frame.proofs.Steps.{leaves}
use Rattle.whole_frame.specs.Meaning.{frame_written}
use Rattle.under_way.specs.Departure.{Departure}
use Rattle.under_way.specs.Leaving.{slots_answer, with_pair}
use Rattle.under_way.specs.declared.outgoing.SlotsRefusal.{SlotsRefusal}
use Rattle.under_way.specs.declared.outgoing.SlotsRefusal.TheVariants.{StillSending}

-- a frame of which n blocks are gone
abbrev pub departure : List ℕ → List ℕ → ℕ → Departure
departure o p n = record { pairs = pairs_of p; rest = drop n (frame_of (o ++ p)) }

abbrev of_pairs : List Pair → List Block → Departure
of_pairs pairs rest = record { pairs = pairs; rest = rest }

-- none is left, where all are gone
pub all_gone : (F : List ℕ) (n : ℕ) → 992 ≤ n → drop n (frame_of F) ≡ []
all_gone F n h = drop_all n (frame_of F) (omega (arith, frame_length F))

pub between : (o p : List ℕ) (n : ℕ) (d : Departure) → 992 ≤ n → departure o p n ≡ d → d.rest ≡ []
between o p n d h e = ap (λ (x : Departure). x.rest) (sym e) ∙ all_gone (o ++ p) n h

pub some_left : (o p : List ℕ) (n : ℕ) (d : Departure) → n < 992 → departure o p n ≡ d → d.rest ≡ frame_block (o ++ p) (n + 1) ∷ drop (n + 1) (frame_of (o ++ p))
some_left o p n d h e = ap (λ (x : Departure). x.rest) (sym e) ∙ leaves (o ++ p) n h

-- ---- writing the slots
pub sending_answer : (o p : List ℕ) (n : ℕ) (d : Departure) → n < 992 → departure o p n ≡ d → Err StillSending ≡ slots_answer d.rest
sending_answer o p n d h e = sym (ap slots_answer (some_left o p n d h e))

pub sending_kept : (k : ℕ) (q : Pair) (o p : List ℕ) (n : ℕ) (d : Departure) → n < 992 → departure o p n ≡ d → d ≡ with_pair (slots_answer d.rest) k q d
sending_kept k q o p n d h e = ap (λ (r : Result Unit SlotsRefusal). with_pair r k q d) (sending_answer o p n d h e)

pub free_answer : (o p : List ℕ) (n : ℕ) (d : Departure) → 992 ≤ n → departure o p n ≡ d → Ok tt ≡ slots_answer d.rest
free_answer o p n d h e = sym (ap slots_answer (between o p n d h e))

pub pair_written : (k : ℕ) (q : Pair) (o p r : List ℕ) (n : ℕ) (d : Departure) → 992 ≤ n → departure o p n ≡ d
    → pairs_of r ≡ slice_set (pairs_of p) (k - 1) q → departure o r n ≡ with_pair (slots_answer d.rest) k q d
pair_written k q o p r n d h e w =
    ap (of_pairs (pairs_of r)) (all_gone (o ++ r) n h ∙ sym (between o p n d h e))
    ∙ ap (λ (l : List Pair). of_pairs l d.rest) (w ∙ ap (λ (x : Departure). slice_set x.pairs (k - 1) q) e)
    ∙ ap (λ (r : Result Unit SlotsRefusal). with_pair r k q d) (free_answer o p n d h e)

-- ---- sending
-- the frame that the slots hold, with its overhead
pub begun : (f : Fields) (w o p : List ℕ) (n : ℕ) (d : Departure) → length p ≡ 7920 → Bytes p → w ≡ overhead_bytes f → departure o p n ≡ d
    → departure w p 0 ≡ record { pairs = d.pairs; rest = frame_written f d.pairs }
unfolding frame_written
begun f w o p n d h t g e =
    let same : pairs_of p ≡ d.pairs = ap (λ (x : Departure). x.pairs) e in
    ap (λ (l : List ℕ). of_pairs (pairs_of p) (frame_of (l ++ p))) g
    ∙ ap (λ (l : List ℕ). of_pairs (pairs_of p) (frame_of (overhead_bytes f ++ l))) (sym (unpacking_undone p h t))
    ∙ ap (λ (l : List Pair). of_pairs l (frame_written f l)) same

pub none_next : (o p : List ℕ) (n : ℕ) (d : Departure) → 992 ≤ n → departure o p n ≡ d → None ≡ slice_get d.rest 0
none_next o p n d h e = sym (ap (λ (l : List Block). slice_get l 0) (between o p n d h e))

pub none_less : (o p : List ℕ) (n : ℕ) (d : Departure) → 992 ≤ n → departure o p n ≡ d → d ≡ record { pairs = d.pairs; rest = drop 1 d.rest }
none_less o p n d h e =
    let none : d.rest ≡ [] = between o p n d h e in
    let P : List Block → Type 0 = λ (r : List Block). of_pairs d.pairs r ≡ of_pairs d.pairs (drop 1 r) in
    subst P (sym none) refl

pub one_next : (o p : List ℕ) (n : ℕ) (d : Departure) → n < 992 → departure o p n ≡ d → Some (frame_block (o ++ p) (n + 1)) ≡ slice_get d.rest 0
one_next o p n d h e = sym (ap (λ (l : List Block). slice_get l 0) (some_left o p n d h e))

pub one_less : (o p : List ℕ) (n : ℕ) (d : Departure) → n < 992 → departure o p n ≡ d → departure o p (n + 1) ≡ record { pairs = d.pairs; rest = drop 1 d.rest }
one_less o p n d h e =
    ap (λ (l : List Pair). of_pairs l (drop (n + 1) (frame_of (o ++ p)))) (ap (λ (x : Departure). x.pairs) e)
    ∙ ap (of_pairs d.pairs) (sym (ap (λ (l : List Block). drop 1 l) (some_left o p n d h e)))

-- whether a place is behind n blocks tells whether a block is left
pub none_behind : (n : ℕ) → place_behind n ≡ None → 992 ≤ n
none_behind n e = grind (arith, nat_tests)

pub some_behind : (n k : ℕ) → place_behind n ≡ Some k → (n < 992) × (k ≡ n + 1)
some_behind n k e = (grind (arith, nat_tests), grind (arith, nat_tests))

-- ---- a payload that is lent
pub lent : (o w : List ℕ) (n : ℕ) → 992 ≤ n → departure o w n ≡ record { pairs = pairs_of w; rest = [] }
lent o w n h = ap (of_pairs (pairs_of w)) (all_gone (o ++ w) n h)

pub none_while : (o p : List ℕ) (n : ℕ) (d : Departure) → n < 992 → departure o p n ≡ d → d.rest ≡ [] → ⊥
none_while o p n d h e z = let f : [] ≡ frame_block (o ++ p) (n + 1) ∷ drop (n + 1) (frame_of (o ++ p)) = sym z ∙ some_left o p n d h e in cc

-- there is a pair for each slot
pub slots_there : (o p : List ℕ) (n : ℕ) (d : Departure) → departure o p n ≡ d → length d.pairs ≡ 480
slots_there o p n d e = ap (λ (x : Departure). length x.pairs) (sym e) ∙ pairs_length p
