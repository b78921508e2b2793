-- A bank as a whole: its memory, block by block, and the ring of each client, after each call.
use Rattle.std.specs.Prelude.{ℕ, ◌+◌, ◌-◌, ◌*◌, min, List, Some, None, Ok, Err, Option, replicate, slice_set}
use Rattle.std.specs.Borrow.{MutBor}
use Rattle.numbers.specs.Range.{slots}
use Rattle.block.specs.declared.Block.{Block}
use Rattle.block.specs.declared.Pair.{Pair}
use Rattle.port.specs.Model.{Answer}
use Rattle.bank.specs.declared.Ring.{Ring}
use Rattle.bank.specs.declared.Bank.{Bank}
use Rattle.bank.specs.Lists.{ring_of}
use Rattle.bank.specs.Ring.{place_at}

-- over lent memory, with areas of w places: every ring is empty
abbrev pub new_bank : MutBor (List Block) → ℕ → Bank
new_bank memory w = record { memory = memory; width = w; rings = replicate slots (record { first = 0; count = 0 }) }

-- the bank with another ring for client c
abbrev pub with_ring : ℕ → Ring → Bank → Bank
with_ring c ring bank = record bank { rings = slice_set bank.rings (c - 1) ring }

-- after a next for client c, by its answer: where a block is given, the ring begins one place later; the memory stays
abbrev pub bank_after_next : Option Block → ℕ → Bank → Bank
bank_after_next None c bank = bank
bank_after_next (Some _) c bank =
    let ring : Ring = ring_of bank.rings c in
    with_ring c (record { first = place_at ring.first bank.width 1; count = min ring.count bank.width - 1 }) bank

-- the place in the memory that is at index i of the ring of client c, whether or not a block stands there
abbrev pub memory_place : Bank → ℕ → ℕ → ℕ
memory_place bank c i = (c - 1) * bank.width + place_at (ring_of bank.rings c).first bank.width i

-- the memory with a pair in the two places behind the blocks of client c
abbrev pub memory_after_put : ℕ → Pair → Bank → List Block
memory_after_put c pair bank =
    let count : ℕ = (ring_of bank.rings c).count in
    slice_set (slice_set bank.memory.now (memory_place bank c count) pair.first) (memory_place bank c (count + 1)) pair.second

-- after a put for client c, by its answer: where it is refused, nothing changes
abbrev pub bank_after_put : Answer → ℕ → Pair → Bank → Bank
bank_after_put (Err _) c pair bank = bank
bank_after_put (Ok _) c pair bank =
    let ring : Ring = ring_of bank.rings c in
    with_ring c (record { first = ring.first; count = ring.count + 2 }) (record bank { memory = record bank.memory { now = memory_after_put c pair bank } })
