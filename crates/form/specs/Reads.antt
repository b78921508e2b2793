-- What a reader of one of the two levels answers, by the definition of what it reads.
use Rattle.std.specs.Prelude.{◌≡◌, true, false, List, ℕ, Option, Some, None, Result, Ok, Err}
use Rattle.form.specs.declared.FormError.{FormError}
use Rattle.form.specs.Marks.{LineOf}

-- a piece as it is read, seen by `view`; an error exactly where there is none
abbrev pub Reads : {X Y : Type 0} → (X → Y) → Result X FormError → Option Y → Type 0
Reads view (Ok x) piece = piece ≡ Some (view x)
Reads view (Err e) piece = piece ≡ None

-- the line that a newline ends, or all of the sheet
abbrev pub line_by : List ℕ → Option (List ℕ) → LineOf
line_by sheet None = record { text = sheet; ended = false }
line_by sheet (Some text) = record { text = text; ended = true }
