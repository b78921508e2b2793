-- When the slots of the frame that leaves may be written.
use Rattle.std.specs.Prelude.{ℕ, ◌-◌, List, [], ◌∷◌, Ok, Err, Result, slice_set}
use Rattle.block.specs.declared.Block.{Block}
use Rattle.block.specs.declared.Pair.{Pair}
use Rattle.under_way.specs.Departure.{Departure}
use Rattle.under_way.specs.declared.outgoing.SlotsRefusal.{SlotsRefusal}
use Rattle.under_way.specs.declared.outgoing.SlotsRefusal.TheVariants.{StillSending}

-- not while blocks are still to be sent
abbrev pub slots_answer : List Block → Result Unit SlotsRefusal
slots_answer [] = Ok tt
slots_answer (b ∷ rest) = Err StillSending

-- the pair in its slot, if it may be written
abbrev pub with_pair : Result Unit SlotsRefusal → ℕ → Pair → Departure → Departure
with_pair (Ok u) k pair d = record d { pairs = slice_set d.pairs (k - 1) pair }
with_pair (Err e) k pair d = d
