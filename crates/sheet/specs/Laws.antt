-- Which sheets are accepted and which are refused, in words of leases and slots.
use Rattle.std.specs.Prelude.{◌≡◌, ℕ, ◌+◌, ◌-◌, ◌<◌, ◌≤◌, true, ◌⊎◌, List, [], ◌∷◌, ◌++◌, length, None, ◌≢◌, slice_index}
use Rattle.refusal.specs.declared.Refusal.{Refusal}
use Rattle.refusal.specs.declared.Refusal.TheVariants.{MarkNotAllowed, FormBroken, OutOfRange, SlotTwice, ClientTwice}
use Rattle.refusal.specs.declared.Level.{Level}
use Rattle.refusal.specs.declared.Level.TheVariants.{Marks, Forms, Calendar}
use Rattle.refusal.specs.declared.SheetRefusal.{SheetRefusal}
use Rattle.numbers.specs.Range.{slots}
use Rattle.form.specs.Lease.{Group, Lease, lease_text, SomeGroup, Writable}
use Rattle.form.specs.Marks.{LineOf, lines, mark_of}
use Rattle.sheet.specs.Verdict.{longest_sheet, refusal_at}

-- slot k is in the group
abbrev pub Holds : Group → ℕ → Type 0
Holds g k = (g.first ≤ k) × (k ≤ g.last)

-- slot k is in one of the groups
abbrev pub HeldBy : List Group → ℕ → Type 0
HeldBy [] k = ⊥
HeldBy (g ∷ gs) k = Holds g k ⊎ HeldBy gs k

-- no slot is in two of the groups
abbrev pub Apart : List Group → Type 0
Apart [] = Unit {0}
Apart (g ∷ gs) = ((k : ℕ) → Holds g k → HeldBy gs k → ⊥) × Apart gs

-- the groups are of slots 1 to 480, and none falls
abbrev pub GroupsInRange : List Group → Type 0
GroupsInRange [] = Unit {0}
GroupsInRange (g ∷ gs) = (1 ≤ g.first) × (g.first ≤ g.last) × (g.last ≤ slots) × GroupsInRange gs

abbrev pub InRange : Lease → Type 0
InRange l = (1 ≤ l.client) × (l.client ≤ slots) × GroupsInRange l.groups

-- the groups of all leases, and whether a client has a lease
abbrev pub groups_of : List Lease → List Group
groups_of [] = []
groups_of (l ∷ ls) = l.groups ++ groups_of ls

abbrev pub Leases : ℕ → List Lease → Type 0
Leases c [] = ⊥
Leases c (l ∷ ls) = (l.client ≡ c) ⊎ Leases c ls

-- each lease has a group and is in range, and no client has two leases
abbrev pub EachLawful : List Lease → Type 0
EachLawful [] = Unit {0}
EachLawful (l ∷ ls) = SomeGroup l.groups × InRange l × (Leases l.client ls → ⊥) × EachLawful ls

-- a lawful list of leases
abbrev pub Lawful : List Lease → Type 0
Lawful ls = EachLawful ls × Apart (groups_of ls)

-- the leases written out as a sheet, and as lines
abbrev pub sheet_text : List Lease → List ℕ
sheet_text [] = []
sheet_text (l ∷ ls) = lease_text l ++ (10 ∷ sheet_text ls)

abbrev pub lease_line : Lease → LineOf
lease_line l = record { text = lease_text l; ended = true }

abbrev pub lease_lines : List Lease → List LineOf
lease_lines [] = []
lease_lines (l ∷ ls) = lease_line l ∷ lease_lines ls

-- slot k belongs to c: the client of the lease whose groups hold k, or 0 if none does
abbrev pub Belongs : List Lease → ℕ → ℕ → Type 0
Belongs [] k c = c ≡ 0
Belongs (l ∷ ls) k c = (HeldBy l.groups k × (l.client ≡ c)) ⊎ ((HeldBy l.groups k → ⊥) × Belongs ls k c)

-- the entries of the calendar that the leases give
abbrev pub Gives : List Lease → List ℕ → Type 0
Gives ls es = (length es ≡ slots) × ((k : ℕ) → 1 ≤ k → k ≤ slots → Belongs ls k (slice_index es (k - 1)))

-- a sheet writes out lawful leases, which give the entries
abbrev pub WritesOut : List ℕ → List ℕ → Type 0
WritesOut sheet es = (ls : List Lease) × Lawful ls × (sheet ≡ sheet_text ls) × Gives ls es

-- the rules of a line, in the order in which they are tested
pub data Rule : Type 0 where
  marks : Rule
  form : Rule
  range : Rule
  client : Rule
  slot : Rule

abbrev pub order : Rule → ℕ
order marks = 0
order form = 1
order range = 2
order client = 3
order slot = 4

abbrev pub cause_of : Rule → Refusal
cause_of marks = MarkNotAllowed
cause_of form = FormBroken
cause_of range = OutOfRange
cause_of client = ClientTwice
cause_of slot = SlotTwice

abbrev pub level_of : Rule → Level
level_of marks = Marks
level_of form = Forms
level_of range = Calendar
level_of client = Calendar
level_of slot = Calendar

-- a byte stands in the text
abbrev pub StandsAt : ℕ → List ℕ → Type 0
StandsAt c [] = ⊥
StandsAt c (x ∷ xs) = (x ≡ c) ⊎ StandsAt c xs

-- a line, behind lines that write out leases, breaks a rule:
-- a byte is no mark; the line writes out no lease; a number of its lease is out of range or its slots fall;
-- its client has a lease already; one of its slots is given twice
abbrev pub Breaks : List Lease → LineOf → Rule → Type 0
Breaks ls l marks = (c : ℕ) × StandsAt c l.text × (mark_of c ≡ None)
Breaks ls l form = (m : Lease) → Writable m → l ≢ lease_line m
Breaks ls l range = (m : Lease) × Writable m × (l ≡ lease_line m) × (InRange m → ⊥)
Breaks ls l client = (m : Lease) × Writable m × (l ≡ lease_line m) × Leases m.client ls
Breaks ls l slot = (m : Lease) × Writable m × (l ≡ lease_line m) × (Apart (groups_of (ls ++ (m ∷ []))) → ⊥)

-- the refused line is the first that breaks a rule, and its cause the first rule that it breaks
pub record FirstFault (sheet : List ℕ) (e : SheetRefusal) : Type 0 where
  pub leases : List Lease
  pub line : LineOf
  pub behind : List LineOf
  pub rule : Rule
  pub lawful : Lawful leases
  pub sheet_is : lines sheet ≡ lease_lines leases ++ (line ∷ behind)
  pub refusal_is : e ≡ refusal_at (cause_of rule) (level_of rule) (length leases + 1)
  pub breaks : Breaks leases line rule
  pub first : (r : Rule) → order r < order rule → Breaks leases line r → ⊥

-- a refused sheet is too long, or its first fault refuses it
abbrev pub RefusedSheet : List ℕ → SheetRefusal → Type 0
RefusedSheet sheet e = ((longest_sheet < length sheet) × (e ≡ refusal_at FormBroken Forms 1)) ⊎ ((length sheet ≤ longest_sheet) × FirstFault sheet e)
