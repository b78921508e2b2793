-- What holds of every calendar: it has 480 entries, and each is a client number or 0.
use Rattle.std.proofs.Common.{◌≡◌, ℕ, zero, suc, ◌≤◌, true, List, [], ◌∷◌, map, length, get_or, Some, None, Option, ◌∙◌, arith}
use Rattle.std.proofs.lemmas.List.{length-map}
use Rattle.std.proofs.lemmas.Bool.Decides.{nat_tests}
use Rattle.std.specs.List.{AllPass}
use Rattle.numbers.specs.Entries.{entry_of, is_entry}
use Rattle.calendar.specs.declared.Calendar.{Calendar}
use Rattle.calendar.specs.Entries.{entries_of}

pub entries_length : (c : Calendar) → length (entries_of c) ≡ 480
entries_length c = length-map c.entries entry_of ∙ c.full

pub entry_high : (o : Option ℕ) → is_entry o ≡ true → entry_of o ≤ 480
entry_high (Some n) h = grind (arith, nat_tests)
entry_high None h = omega arith

all_high : (os : List (Option ℕ)) (k : ℕ) → AllPass is_entry os → get_or (map entry_of os) k 0 ≤ 480
all_high [] k h = omega arith
all_high (o ∷ os) zero h = entry_high o (h 0 None (omega arith))
all_high (o ∷ os) (suc k) h = all_high os k (λ i d below. h (suc i) d (omega (arith, below)))

pub entries_high : (c : Calendar) (k : ℕ) → get_or (entries_of c) k 0 ≤ 480
entries_high c k = all_high c.entries k c.in_range
