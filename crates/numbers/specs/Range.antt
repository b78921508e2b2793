-- Which numbers are client and slot numbers, and which are frame numbers.
use Rattle.std.specs.Prelude.{ℕ, ◌+◌, ◌≤◌, Bool, false, if◌then◌else◌, Some, None, Ok, Err, Option, Result, nat_le, nat_lt}
use Rattle.refusal.specs.declared.Refusal.{Refusal}
use Rattle.refusal.specs.declared.Refusal.TheVariants.{OutOfRange}

-- slots of a frame and of a calendar, frames of a multiframe, and so clients at most
abbrev pub slots : ℕ
slots = 480

-- what every client or slot number is
abbrev pub IsOneTo480 : ℕ → Type 0
IsOneTo480 n = (1 ≤ n) × (n ≤ slots)

abbrev pub is_one_to_480 : ℕ → Bool
is_one_to_480 n = if nat_le 1 n then nat_le n slots else false

-- what the conversion to a client or slot number answers
abbrev pub checked_number : ℕ → Result ℕ Refusal
checked_number n = if is_one_to_480 n then Ok n else Err OutOfRange

-- what the conversion to a frame number answers: frames are numbered from 0
abbrev pub checked_frame_number : ℕ → Result ℕ Refusal
checked_frame_number n = if nat_le slots n then Err OutOfRange else Ok n

-- the client or slot number at a place, counted from 0
abbrev pub number_at : ℕ → Option ℕ
number_at i = if nat_lt i slots then Some (i + 1) else None
