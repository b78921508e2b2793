-- The places of a frame's blocks: 1 the start block, 2 to 991 data blocks 1 to 990, 992 the end block.
use Rattle.std.specs.Prelude.{ℕ, ◌+◌, ◌≤◌, Bool, false, if◌then◌else◌, Some, None, Ok, Err, Option, Result, ◌==◌, nat_le, nat_lt}
use Rattle.refusal.specs.declared.Refusal.{Refusal}
use Rattle.refusal.specs.declared.Refusal.TheVariants.{OutOfRange}

-- blocks of a frame
abbrev pub frame_blocks : ℕ
frame_blocks = 992

-- what every place is
abbrev pub IsPlace : ℕ → Type 0
IsPlace n = (1 ≤ n) × (n ≤ frame_blocks)

-- what the conversion to a place answers
abbrev pub checked_place : ℕ → Result ℕ Refusal
checked_place n = if (if nat_le 1 n then nat_le n frame_blocks else false) then Ok n else Err OutOfRange

-- the place after this one, none after the last
abbrev pub next_place : ℕ → Option ℕ
next_place n = if n == frame_blocks then None else Some (n + 1)

-- the place behind n blocks, none behind all of them
abbrev pub place_behind : ℕ → Option ℕ
place_behind n = if nat_lt n frame_blocks then Some (n + 1) else None

-- the places of the 990 data blocks
abbrev pub is_data_place : ℕ → Bool
is_data_place n = if nat_le 2 n then nat_lt n frame_blocks else false
