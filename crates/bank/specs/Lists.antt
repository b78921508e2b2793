-- What a bank means: an area of w places for each of the first clients, as many as fit.
use Rattle.std.specs.Prelude.{◌≡◌, ℕ, ◌+◌, ◌-◌, ◌*◌, ◌/◌, ◌≤◌, min, if◌then◌else◌, List, ◌++◌, length, take, drop, Ok, Err, ◌==◌, nat_le, slice_index_or}
use Rattle.std.specs.Borrow.{GName}
use Rattle.numbers.specs.Range.{slots}
use Rattle.block.specs.declared.Block.{Block}
use Rattle.block.specs.declared.Pair.{Pair}
use Rattle.port.specs.Model.{Answer, Lists, Holding, block_count_given, first_of, lists_after_next, pair_blocks, updated_lists}
use Rattle.bank.specs.declared.Ring.{Ring}
use Rattle.bank.specs.declared.Bank.{Bank}
use Rattle.bank.specs.Ring.{ring_order}

-- areas of w places over m lent blocks: as many as fit, none of width 0, and no more than there can be clients
abbrev pub area_count : ℕ → ℕ → ℕ
area_count w m = if w == 0 then 0 else min slots (m / w)

-- the places of client k's area, 0 where it has none
abbrev pub width_of : ℕ → ℕ → ℕ → ℕ
width_of w m k = if nat_le 1 k then (if nat_le k (area_count w m) then w else 0) else 0

-- client k has an area, which begins at a place of the memory and lies within it
pub record AreaAt (w m k start : ℕ) : Type 0 where
  pub begins : start ≡ (k - 1) * w
  pub within : start + w ≤ m
  pub width : width_of w m k ≡ w

-- the part of the memory that is client k's area
abbrev pub area_of : ℕ → List Block → ℕ → List Block
area_of w memory k = take (width_of w (length memory) k) (drop ((k - 1) * w) memory)

-- client k's ring
abbrev pub ring_of : List Ring → ℕ → Ring
ring_of rings k = slice_index_or rings (k - 1) (record { first = 0; count = 0 })

-- client k's blocks, with areas of w places
abbrev pub blocks_in : ℕ → List Block → List Ring → Lists
blocks_in w memory rings k = take (ring_of rings k).count (ring_order (ring_of rings k).first (area_of w memory k))

-- client k's free places
abbrev pub free_in : ℕ → ℕ → List Ring → ℕ → ℕ
free_in w m rings k = width_of w m k - (ring_of rings k).count

abbrev pub bank_areas : Bank → ℕ
bank_areas bank = area_count bank.width (length bank.memory.now)

abbrev pub bank_lists : Bank → Lists
bank_lists bank = blocks_in bank.width bank.memory.now bank.rings

abbrev pub bank_holding : Bank → Holding
bank_holding bank = record { held = bank_lists bank; free = free_in bank.width (length bank.memory.now) bank.rings }

-- what a bank is to its callers: what it holds, its number of areas, and the name of the loan that its memory is
pub record BankContents : Type 0 where
  pub holding : Holding
  pub areas : ℕ
  pub lender : GName

abbrev pub bank_contents : Bank → BankContents
bank_contents bank = record { holding = bank_holding bank; areas = bank_areas bank; lender = bank.memory.ghost_name }

-- what it holds after a next for client c: the place of the block that is given is free, for this client
abbrev pub bank_holding_after_next : ℕ → Holding → Holding
bank_holding_after_next c h = record { held = lists_after_next c h.held; free = λ k. h.free k + (if k == c then block_count_given (first_of (h.held c)) else 0) }

-- and after a put for client c, by its answer: two places fewer are free, for this client
abbrev pub bank_holding_after_put : Answer → ℕ → Pair → Holding → Holding
bank_holding_after_put (Ok _) c pair h = record { held = updated_lists h.held c (h.held c ++ pair_blocks pair); free = λ k. h.free k - (if k == c then 2 else 0) }
bank_holding_after_put (Err _) c pair h = h
