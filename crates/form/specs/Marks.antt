-- The marks that a sheet may hold, and the sheet's lines.
use Rattle.std.specs.Prelude.{ℕ, Bool, true, false, if◌then◌else◌, List, [], ◌∷◌, is_some, not, Some, None, Option, ◌==◌, nat_le}
use Rattle.form.specs.declared.Mark.{Mark}
use Rattle.form.specs.declared.Mark.TheVariants.{Open, Close, Blank, Digit, Letter, LineEnd}

abbrev pub is_between : ℕ → ℕ → ℕ → Bool
is_between a b c = if nat_le a c then nat_le c b else false

abbrev pub digit : ℕ → Bool
digit c = is_between 48 57 c

-- which mark a byte is: brackets, blank, digits, small letters, newline
abbrev pub mark_of : ℕ → Option Mark
mark_of c =
    if c == 40 then Some Open
    else if c == 41 then Some Close
    else if c == 32 then Some Blank
    else if digit c then Some Digit
    else if is_between 97 122 c then Some Letter
    else if c == 10 then Some LineEnd
    else None

-- every byte is a mark
abbrev pub all_marks : List ℕ → Bool
all_marks [] = true
all_marks (c ∷ cs) = if is_some (mark_of c) then all_marks cs else false

-- whether the reading of a line stops at a byte: at a newline, and at a byte that is no mark
abbrev pub stops_line : ℕ → Bool
stops_line c = if c == 10 then true else not (is_some (mark_of c))

-- a line: its bytes before the newline, and whether a newline ends it
pub record LineOf : Type 0 where
  pub text : List ℕ
  pub ended : Bool

-- the lines of a sheet with one more byte in front
abbrev pub lines_with_byte : ℕ → List LineOf → List LineOf
lines_with_byte c [] = record { text = c ∷ []; ended = false } ∷ []
lines_with_byte c (l ∷ ls) = record { text = c ∷ l.text; ended = l.ended } ∷ ls

-- the lines of a sheet
abbrev pub lines : List ℕ → List LineOf
lines [] = []
lines (c ∷ cs) = if c == 10 then record { text = []; ended = true } ∷ lines cs else lines_with_byte c (lines cs)

-- the first line of a sheet, and what follows it
abbrev pub first_line_with_byte : ℕ → LineOf × List ℕ → LineOf × List ℕ
first_line_with_byte c p = (record { text = c ∷ p.0.text; ended = p.0.ended }, p.1)

abbrev pub first_line : List ℕ → LineOf × List ℕ
first_line [] = (record { text = []; ended = false }, [])
first_line (c ∷ cs) = if c == 10 then (record { text = []; ended = true }, cs) else first_line_with_byte c (first_line cs)
