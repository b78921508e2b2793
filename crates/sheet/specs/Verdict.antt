-- What the reader makes of a sheet: the calendar that it gives, or the cause, level and line of its refusal.
use Rattle.std.specs.Prelude.{ℕ, ◌+◌, ◌-◌, Bool, true, false, if◌then◌else◌, List, [], ◌∷◌, length, take, drop, replicate, Some, None, Ok, Err, Option, Result, ◌==◌, nat_le, nat_lt}
use Rattle.bits.specs.Splices.{splice}
use Rattle.refusal.specs.declared.Refusal.{Refusal}
use Rattle.refusal.specs.declared.Refusal.TheVariants.{MarkNotAllowed, FormBroken, OutOfRange, SlotTwice, ClientTwice}
use Rattle.refusal.specs.declared.Level.{Level}
use Rattle.refusal.specs.declared.Level.TheVariants.{Marks, Forms, Calendar}
use Rattle.refusal.specs.declared.SheetRefusal.{SheetRefusal}
use Rattle.numbers.specs.Range.{is_one_to_480, slots}
use Rattle.calendar.specs.Share.{slot_count}
use Rattle.form.specs.Lease.{Group, Lease}
use Rattle.form.specs.Marks.{LineOf, all_marks, lines}
use Rattle.form.specs.Form.{bind, form, groups}

-- slot numbers in range, and the last not before the first
abbrev pub is_in_order : Group → Bool
is_in_order g = if is_one_to_480 g.first then (if is_one_to_480 g.last then nat_le g.first g.last else false) else false

-- a group of client c is in range
abbrev pub fits : ℕ → Group → Bool
fits c g = if is_one_to_480 c then is_in_order g else false

-- how many slots a group has
abbrev pub size : Group → ℕ
size g = g.last + 1 - g.first

-- the entries with n slots, behind the first a, given to client c
abbrev pub entries_with_slots : ℕ → ℕ → ℕ → List ℕ → List ℕ
entries_with_slots c a n es = splice a (replicate n c) es

-- the entries with the slots of a group given to client c
abbrev pub entries_with_group : ℕ → Group → List ℕ → List ℕ
entries_with_group c g es = entries_with_slots c (g.first - 1) (size g) es

-- an entry is not empty
abbrev pub has_filled_entry : List ℕ → Bool
has_filled_entry [] = false
has_filled_entry (e ∷ es) = if e == 0 then has_filled_entry es else true

-- a slot of the group has a client
abbrev pub has_used_slot : Group → List ℕ → Bool
has_used_slot g es = has_filled_entry (take (size g) (drop (g.first - 1) es))

-- a line's groups so far: the entries with them, whether all are in order, and whether a slot was given twice
pub record Claim : Type 0 where
  pub entries : List ℕ
  pub lawful : Bool
  pub twice : Bool

-- one group more
abbrev pub claim_with_group : ℕ → Group → Claim → Claim
claim_with_group c g s =
    if fits c g then record { entries = entries_with_group c g s.entries; lawful = s.lawful; twice = if s.twice then true else has_used_slot g s.entries }
    else record { entries = s.entries; lawful = false; twice = s.twice }

abbrev pub claims : ℕ → List Group → Claim → Claim
claims c [] s = s
claims c (g ∷ gs) s = claims c gs (claim_with_group c g s)

-- the client has a slot already
abbrev pub is_named : ℕ → List ℕ → Bool
is_named c es = if is_one_to_480 c then nat_lt 0 (slot_count c es) else false

abbrev pub refusal_at : Refusal → Level → ℕ → SheetRefusal
refusal_at cause level line = record { cause = cause; level = level; line = line }

-- a lease's claims, weighed: a number out of range first, then the client, then its slots
abbrev pub claim_verdict : ℕ → Bool → Claim → Result (List ℕ) SheetRefusal
claim_verdict n known s =
    if s.lawful then
    (if known then Err (refusal_at ClientTwice Calendar n)
    else if s.twice then Err (refusal_at SlotTwice Calendar n)
    else Ok s.entries)
    else Err (refusal_at OutOfRange Calendar n)

abbrev pub start : List ℕ → Claim
start es = record { entries = es; lawful = true; twice = false }

-- the claims of the groups that a text writes, up to its closing bracket
abbrev pub claims_of : ℕ → List ℕ → List ℕ → Option Claim
claims_of c text es = bind (groups (length text) text) λ gs. Some (claims c gs (start es))

-- line n read as a lease: the entries with it
abbrev pub lease_verdict : ℕ → List ℕ → Option Lease → Result (List ℕ) SheetRefusal
lease_verdict n es None = Err (refusal_at FormBroken Forms n)
lease_verdict n es (Some l) = claim_verdict n (is_named l.client es) (claims l.client l.groups (start es))

-- the lease that a line writes, which a newline must end
abbrev pub lease_line_form : LineOf → Option Lease
lease_line_form l = if l.ended then form l.text else None

-- line n behind lines that gave the entries: first its marks, then its form, then its lease
abbrev pub line_verdict : ℕ → List ℕ → LineOf → Result (List ℕ) SheetRefusal
line_verdict n es l = if all_marks l.text then lease_verdict n es (lease_line_form l) else Err (refusal_at MarkNotAllowed Marks n)

abbrev pub chain : Result (List ℕ) SheetRefusal → (List ℕ → Result (List ℕ) SheetRefusal) → Result (List ℕ) SheetRefusal
chain (Ok es) f = f es
chain (Err e) f = Err e

-- the lines from line n on
abbrev pub lines_verdict : ℕ → List ℕ → List LineOf → Result (List ℕ) SheetRefusal
lines_verdict n es [] = Ok es
lines_verdict n es (l ∷ ls) = chain (line_verdict n es l) λ after. lines_verdict (n + 1) after ls

-- bytes of the longest sheet
abbrev pub longest_sheet : ℕ
longest_sheet = 16384

-- the whole sheet
abbrev pub verdict : List ℕ → Result (List ℕ) SheetRefusal
verdict sheet = if nat_lt longest_sheet (length sheet) then Err (refusal_at FormBroken Forms 1) else lines_verdict 1 (replicate slots 0) (lines sheet)
