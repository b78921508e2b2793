-- Whole blocks make whole pairs.
use Rattle.std.proofs.Common.{Option, ℕ, zero, suc, ◌<◌, Bool, true, false, cond, eqb, List, [], ◌∷◌, refl, lit<, arith}
use Rattle.std.specs.List.{All, AllByRecursion}
use Rattle.std.proofs.lemmas.List.Elements.{All-from_recursion, All-head, All-tail}
use Rattle.block.specs.declared.Block.{Block}
use Rattle.block.specs.Whole.{Bytes, Whole, WholePair}
use Rattle.block.specs.Classes.{class_of, is_lawful, lawful_or_error}
use Rattle.block.specs.Fixed.{idle_block, error_block}
use Rattle.port.specs.Model.{Lists, first_of, rest_of, lists_after_next}
use Rattle.port.specs.Pairs.{or_filler}
use Rattle.sending.specs.Laid.{pair_for, lists_after_slot, pairs_for}
use Rattle.sending.specs.ClientLaws.{LaidWhole}

AllWhole : Lists → Type 0
AllWhole w = (k : ℕ) → All Whole (w k)

each_byte : (l : List ℕ) → AllByRecursion (λ x. x < 256) l → Bytes l
each_byte [] h i = omega arith
each_byte (x ∷ l) h zero = h.0
each_byte (x ∷ l) h (suc i) = each_byte l h.1 i

whole_idle : Whole idle_block
whole_idle = (refl, each_byte idle_block.bytes (lit< tt, (lit< tt, (lit< tt, (lit< tt, (lit< tt, (lit< tt, (lit< tt, (lit< tt, tt)))))))))

whole_error : Whole error_block
whole_error = (refl, each_byte error_block.bytes (lit< tt, (lit< tt, (lit< tt, (lit< tt, (lit< tt, (lit< tt, (lit< tt, (lit< tt, tt)))))))))

whole_lawful : (b : Block) → Whole b → Whole (lawful_or_error b)
whole_lawful b h = go (is_lawful (class_of b))
  where
    go : (t : Bool) → Whole (cond t b error_block)
    go true = h
    go false = whole_error

abbrev block_for : Option Block → Block
block_for o = lawful_or_error (or_filler idle_block o)

whole_first : (l : List Block) → All Whole l → Whole (block_for (first_of l))
whole_first [] h = whole_idle
whole_first (b ∷ l) h = whole_lawful b (All-head Whole b l h)

whole_rest : (l : List Block) → All Whole l → All Whole (rest_of l)
whole_rest [] h = h
whole_rest (b ∷ l) h = All-tail Whole b l h

whole_pair : (c : ℕ) (w : Lists) → AllWhole w → WholePair (pair_for c w)
unfolding AllWhole
whole_pair c w h = go (eqb c 0)
  where
    go : (t : Bool) → WholePair (cond t (record { first = error_block; second = error_block }) (record { first = block_for (first_of (w c)); second = block_for (first_of (rest_of (w c))) }))
    go true = (whole_error, whole_error)
    go false = (whole_first (w c) (h c), whole_first (rest_of (w c)) (whole_rest (w c) (h c)))

whole_next : (c : ℕ) (w : Lists) → AllWhole w → AllWhole (lists_after_next c w)
unfolding AllWhole
whole_next c w h k = go (eqb k c)
  where
    go : (t : Bool) → All Whole (cond t (rest_of (w c)) (w k))
    go true = whole_rest (w c) (h c)
    go false = h k

whole_slot : (c : ℕ) (w : Lists) → AllWhole w → AllWhole (lists_after_slot c w)
whole_slot c w h = go (eqb c 0)
  where
    go : (t : Bool) → AllWhole (cond t w (lists_after_next c (lists_after_next c w)))
    go true = h
    go false = whole_next c (lists_after_next c w) (whole_next c w h)

pairs_whole : (cal : List ℕ) (w : Lists) → AllWhole w → AllByRecursion WholePair (pairs_for cal w)
unfolding pairs_for
pairs_whole [] w h = tt
pairs_whole (c ∷ cs) w h = (whole_pair c w h, pairs_whole cs (lists_after_slot c w) (whole_slot c w h))

pub laid_whole : LaidWhole
unfolding AllWhole
laid_whole m w h = All-from_recursion WholePair (pairs_for m.calendar w) (pairs_whole m.calendar w h)
