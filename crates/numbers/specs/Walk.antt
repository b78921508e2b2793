-- Numbers one after the other.
use Rattle.std.specs.Prelude.{ℕ, ◌+◌, ◌-◌, ◌%◌, List}
use Rattle.std.specs.List.{range_with_len}
use Rattle.numbers.specs.Range.{slots}

-- the numbers from one to another, both included, by rising number; none where the other is lower
unfoldable pub numbers_between : ℕ → ℕ → List ℕ
numbers_between first last = range_with_len first (last + 1 - first)

-- the frame number behind one: after the last of a multiframe comes 0
abbrev pub next_frame_number : ℕ → ℕ
next_frame_number n = (n + 1) % slots
