-- The messages that a sender writes of itself, and the sorts of those that may be left with it.
use Rattle.std.specs.Prelude.{ℕ, Bool, true, false, List, [], ◌∷◌, ◌++◌, Some, None, slice_index_or}
use Rattle.block.specs.declared.Block.{Block}
use Rattle.block.specs.Fixed.{idle_block}
use Rattle.message.specs.declared.Kind.TheVariants.{Cv, Cs}
use Rattle.message.specs.Blocks.{read_of}
use Rattle.waiting.specs.declared.Sort.{Sort}
use Rattle.waiting.specs.declared.Sort.TheVariants.{Delay as delays, Protection as protections}
use Rattle.message.specs.Values.{filled_values}
use Rattle.message.specs.Written.{message_blocks}

-- block i, 0 to 16, of the CV message over a trail of 32 bytes
unfoldable pub cv_block : List ℕ → ℕ → Block
cv_block trail i = slice_index_or (message_blocks Cv (filled_values (trail ++ 0 ∷ 0 ∷ []))) i idle_block

-- the CS message, with payload type 11 (two bits)
unfoldable pub cs_block : Block
cs_block = slice_index_or (message_blocks Cs (filled_values (3 ∷ 0 ∷ []))) 0 idle_block

-- whether two sorts are the same
abbrev pub same_sort : Sort → Sort → Bool
same_sort delays delays = true
same_sort delays protections = false
same_sort protections delays = false
same_sort protections protections = true

unfoldable pub is_message : Block → Bool
is_message b = elim (read_of b) [ None ↦ false | Some m ↦ true ]
