-- A calendar as a list of 480 numbers: for each slot its client's number, 0 for an empty slot.
use Rattle.std.specs.Prelude.{◌≡◌, ℕ, ◌≤◌, List, map, length, slice_index}
use Rattle.numbers.specs.Entries.{entry_of}
use Rattle.numbers.specs.Range.{slots}
use Rattle.calendar.specs.declared.Calendar.{Calendar}

-- the entries by rising slot
abbrev pub entries_of : Calendar → List ℕ
entries_of c = map entry_of c.entries

-- every calendar has 480 entries, each a client number or 0
abbrev pub EntriesInRange : Type 0
EntriesInRange = (c : Calendar) → (length (entries_of c) ≡ slots) × ((k : ℕ) → slice_index (entries_of c) k ≤ slots)
