-- Two blocks at a time: taken from an inlet, and moved from an inlet to an outlet.
use Rattle.std.specs.Prelude.{ℕ, List, Ok, Err, Option, unwrap_or}
use Rattle.block.specs.declared.Block.{Block}
use Rattle.block.specs.declared.Pair.{Pair}
use Rattle.port.specs.Model.{Answer, Lists, first_of, rest_of, lists_after_next}

-- the block, or the filler where there is none
abbrev pub or_filler : Block → Option Block → Block
or_filler filler b = unwrap_or b filler

-- the first two blocks of a list, with the filler for one that is missing
abbrev pub first_pair : Block → List Block → Pair
first_pair filler l = record { first = or_filler filler (first_of l); second = or_filler filler (first_of (rest_of l)) }

-- the lists after client c's first two blocks, or all if there are fewer, are removed
abbrev pub lists_after_pair : ℕ → Lists → Lists
lists_after_pair c lists = lists_after_next c (lists_after_next c lists)

-- what a move leaves waiting, by its answer: a refused one takes nothing
abbrev pub lists_left_by : Answer → ℕ → Lists → Lists
lists_left_by (Ok _) c lists = lists_after_pair c lists
lists_left_by (Err _) c lists = lists
