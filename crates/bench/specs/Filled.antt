-- What is packed first: blocks of a sequence of numbers of many bits.
use Rattle.std.specs.Prelude.{ℕ, zero, suc, ◌*◌, ◌/◌, ◌%◌, ◌^◌, List, [], ◌∷◌, bit_xor}
use Rattle.std.specs.Int.{to_le_bytes, w64}
use Rattle.block.specs.declared.Block.{Block}
use Rattle.block.specs.declared.Pair.{Pair}
use Rattle.block.specs.Syncs.{sync_of}

-- the next number, by shifts at 64 bits
abbrev pub left : ℕ → ℕ → ℕ
left k x = bit_xor x (x * 2 ^ k % 2 ^ 64)

abbrev pub right : ℕ → ℕ → ℕ
right k x = bit_xor x (x / 2 ^ k)

unfoldable pub next : ℕ → ℕ
next x = left 17 (right 7 (left 13 x))

-- a block of a number's bits
unfoldable pub counted_block : ℕ → Block
counted_block x = record { sync = sync_of (x / 8 % 4); bytes = to_le_bytes w64 x }

-- n pairs, of the numbers that follow one
unfoldable pub pairs_from : ℕ → ℕ → List Pair
pairs_from x zero = []
pairs_from x (suc n) = record { first = counted_block (next x); second = counted_block (next (next x)) } ∷ pairs_from (next (next x)) n
