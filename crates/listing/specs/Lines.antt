-- The bytes of a calendar's listing, and of the line that says why a sheet was refused.
use Rattle.std.specs.Prelude.{◌≡◌, ℕ, ◌^◌, ◌<◌, if◌then◌else◌, List, [], ◌++◌, codes, decimal, ◌==◌, slice_index}
use Rattle.std.specs.List.{flat_map}
use Rattle.std.specs.Str.Parse.{IsNumeral, digits_value}
use Rattle.refusal.specs.declared.Refusal.{Refusal}
use Rattle.refusal.specs.Numbers.{number_of}
use Rattle.numbers.specs.Range.{slots}
use Rattle.numbers.specs.Walk.{numbers_between}
use Rattle.calendar.specs.Share.{slot_count, first_slot}

-- client, slot count and first slot, with single blanks, and a newline
abbrev pub client_count_line : ℕ → ℕ → ℕ → List ℕ
client_count_line client count first = decimal client ++ (codes " " ++ (decimal count ++ (codes " " ++ (decimal first ++ codes "\n"))))

-- a client's line; none if it has no slot
abbrev pub client_line : List ℕ → ℕ → List ℕ
client_line es c = if slot_count c es == 0 then [] else client_count_line c (slot_count c es) (first_slot c es)

-- the lines of all clients, by rising client
abbrev pub listing_of : List ℕ → List ℕ
listing_of es = flat_map (client_line es) (numbers_between 1 slots)

-- the cause's number and the line's, from 1
abbrev pub refused_line : Refusal → ℕ → List ℕ
refused_line cause line = codes "refused " ++ (decimal (number_of cause) ++ (codes " line " ++ (decimal line ++ codes "\n")))

-- a number is written in decimal digits that read back as it, with no needless zero
pub record PlainDecimal (n : ℕ) : Type 0 where
  pub digits : IsNumeral 10 (decimal n)
  pub reads : digits_value 10 (decimal n) ≡ n
  pub lead : 0 < n → 48 < slice_index (decimal n) 0
  pub nought : n ≡ 0 → decimal n ≡ codes "0"

-- so is every number that a program prints
abbrev pub PlainDecimals : Type 0
PlainDecimals = (n : ℕ) → n < 2 ^ 64 → PlainDecimal n
