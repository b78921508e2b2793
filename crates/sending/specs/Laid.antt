-- What a frame takes from the clients' lists, and lays into its slots: two blocks to a slot, slots 1 to 480 in order.
use Rattle.std.specs.Prelude.{ℕ, ◌*◌, if◌then◌else◌, List, [], ◌∷◌, ◌==◌, take}
use Rattle.block.specs.declared.Block.{Block}
use Rattle.block.specs.declared.Pair.{Pair}
use Rattle.block.specs.Classes.{lawful_or_error}
use Rattle.block.specs.Fixed.{idle_block, error_block}
use Rattle.port.specs.Model.{Lists}
use Rattle.port.specs.Pairs.{first_pair, lists_after_pair}
use Rattle.calendar.specs.Share.{slot_count}

-- with an unlawful block replaced
abbrev pub lawful_pair : Pair → Pair
lawful_pair p = record { first = lawful_or_error p.first; second = lawful_or_error p.second }

-- a slot's pair, by its entry in the calendar: two error blocks where it is empty, else its client's first two blocks, with an idle for each that
-- is missing
abbrev pub pair_for : ℕ → Lists → Pair
pair_for entry waiting =
    if entry == 0 then record { first = error_block; second = error_block } else lawful_pair (first_pair idle_block (waiting entry))

-- and the lists that it leaves
abbrev pub lists_after_slot : ℕ → Lists → Lists
lists_after_slot entry waiting = if entry == 0 then waiting else lists_after_pair entry waiting

-- over the slots, in order
unfoldable pub pairs_for : List ℕ → Lists → List Pair
pairs_for [] waiting = []
pairs_for (entry ∷ entries) waiting = pair_for entry waiting ∷ pairs_for entries (lists_after_slot entry waiting)

unfoldable pub lists_after_frame : List ℕ → Lists → Lists
lists_after_frame [] waiting = waiting
lists_after_frame (entry ∷ entries) waiting = lists_after_frame entries (lists_after_slot entry waiting)

-- how many blocks a frame has room for, of a client; 0 is no client
abbrev pub room_for : ℕ → List ℕ → ℕ
room_for client calendar = if client == 0 then 0 else 2 * slot_count client calendar

-- what each client's inlet gives for a frame: all that waits, up to this many
abbrev pub blocks_given : List ℕ → Lists → Lists
blocks_given calendar waiting client = take (room_for client calendar) (waiting client)

-- the blocks that pairs have in a client's slots
unfoldable pub blocks_laid_for : List ℕ → List Pair → ℕ → List Block
blocks_laid_for [] pairs client = []
blocks_laid_for (entry ∷ entries) [] client = []
blocks_laid_for (entry ∷ entries) (p ∷ pairs) client =
    if client == entry then p.first ∷ p.second ∷ blocks_laid_for entries pairs client else blocks_laid_for entries pairs client
