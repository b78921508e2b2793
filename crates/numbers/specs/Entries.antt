-- An entry, of a calendar or an overhead, as a number: a client's, or 0 for none.
use Rattle.std.specs.Prelude.{ℕ, Bool, true, if◌then◌else◌, Some, None, Ok, Err, Option, Result, ◌==◌}
use Rattle.refusal.specs.declared.Refusal.{Refusal}
use Rattle.refusal.specs.declared.Refusal.TheVariants.{OutOfRange}
use Rattle.numbers.specs.Range.{is_one_to_480}

abbrev pub entry_of : Option ℕ → ℕ
entry_of (Some client) = client
entry_of None = 0

-- none, or a client's number
abbrev pub is_entry : Option ℕ → Bool
is_entry (Some client) = is_one_to_480 client
is_entry None = true

-- what a number is read as: 0 is no client, and a number above 480 is refused
abbrev pub checked_entry : ℕ → Result (Option ℕ) Refusal
checked_entry n = if n == 0 then Ok None else (if is_one_to_480 n then Ok (Some n) else Err OutOfRange)
