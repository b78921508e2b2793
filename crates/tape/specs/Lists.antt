-- What a tape means: each client's blocks, in the order of its entries, and the places free for all.
use Rattle.std.specs.Prelude.{ℕ, ◌+◌, ◌-◌, if◌then◌else◌, List, [], ◌∷◌, ◌++◌, Ok, Err, ◌==◌}
use Rattle.block.specs.declared.Pair.{Pair}
use Rattle.port.specs.Model.{Answer, Lists, Holding, block_count_given, first_of, lists_after_next, pair_blocks, updated_lists}
use Rattle.queue.specs.Entries.{QueueContents, entries, free_places, queue_contents}
use Rattle.tape.specs.declared.TaggedBlock.{TaggedBlock}
use Rattle.tape.specs.declared.Tape.{Tape}

abbrev pub client_of : TaggedBlock → ℕ
client_of e = e.client

-- the blocks that are tagged with client k
abbrev pub client_blocks : List TaggedBlock → Lists
client_blocks [] k = []
client_blocks (e ∷ es) k = if client_of e == k then e.block ∷ client_blocks es k else client_blocks es k

-- the entries of a pair for client c
abbrev pub pair_entries : ℕ → Pair → List TaggedBlock
pair_entries c pair = record { client = c; block = pair.first } ∷ record { client = c; block = pair.second } ∷ []

-- the entries, first to last
abbrev pub tape_entries : Tape → List TaggedBlock
tape_entries tape = entries tape.queue

abbrev pub tape_lists : Tape → Lists
tape_lists tape = client_blocks (tape_entries tape)

-- the free places are the same for every client
abbrev pub tape_holding : Tape → Holding
tape_holding tape = record { held = tape_lists tape; free = λ _. free_places tape.queue }

-- what a tape is to its callers: its entries, the number of its places, and the name of the loan that these are
abbrev pub tape_contents : Tape → QueueContents TaggedBlock
tape_contents tape = queue_contents tape.queue

-- the entries after a put for client c, by its answer: the others keep their order
abbrev pub entries_after_put : Answer → ℕ → Pair → List TaggedBlock → List TaggedBlock
entries_after_put (Ok _) c pair es = es ++ pair_entries c pair
entries_after_put (Err _) c pair es = es

-- after a next for client c: the place of the block that is given is free, for every client
abbrev pub tape_holding_after_next : ℕ → Holding → Holding
tape_holding_after_next c h = record { held = lists_after_next c h.held; free = λ k. h.free k + block_count_given (first_of (h.held c)) }

-- after a put for client c, by its answer: two places fewer are free, for every client
abbrev pub tape_holding_after_put : Answer → ℕ → Pair → Holding → Holding
tape_holding_after_put (Ok _) c pair h = record { held = updated_lists h.held c (h.held c ++ pair_blocks pair); free = λ k. h.free k - 2 }
tape_holding_after_put (Err _) c pair h = h
