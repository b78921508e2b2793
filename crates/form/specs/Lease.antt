-- A lease, and how it is written out as a line of the sheet.
use Rattle.std.specs.Prelude.{ℕ, ◌+◌, ◌/◌, ◌%◌, ◌<◌, if◌then◌else◌, List, [], ◌∷◌, ◌++◌, codes, nat_lt}

-- a group of slots, from the first to the last
pub record Group : Type 0 where
  pub first : ℕ
  pub last : ℕ

-- what one line says: a client and the groups of its slots
pub record Lease : Type 0 where
  pub client : ℕ
  pub groups : List Group

-- a number below 1,000 in decimal, with no needless zero
abbrev pub short_decimal : ℕ → List ℕ
short_decimal n =
    if nat_lt n 10 then (48 + n) ∷ []
    else if nat_lt n 100 then (48 + n / 10) ∷ (48 + n % 10) ∷ []
    else (48 + n / 100) ∷ (48 + n / 10 % 10) ∷ (48 + n % 10) ∷ []

abbrev pub group_text : Group → List ℕ
group_text g = codes " (slots " ++ (short_decimal g.first ++ (codes " " ++ (short_decimal g.last ++ codes ")")))

abbrev pub groups_text : List Group → List ℕ
groups_text [] = []
groups_text (g ∷ gs) = group_text g ++ groups_text gs

-- a lease as a line, without its newline
abbrev pub lease_text : Lease → List ℕ
lease_text l = codes "(client " ++ (short_decimal l.client ++ (groups_text l.groups ++ codes ")"))

-- the numbers have at most three digits
abbrev pub ShortGroups : List Group → Type 0
ShortGroups [] = Unit {0}
ShortGroups (g ∷ gs) = (g.first < 1000) × (g.last < 1000) × ShortGroups gs

-- there is at least one group
abbrev pub SomeGroup : List Group → Type 0
SomeGroup [] = ⊥
SomeGroup (g ∷ gs) = Unit {0}

-- a lease that can be written out as a line
abbrev pub Writable : Lease → Type 0
Writable l = (l.client < 1000) × SomeGroup l.groups × ShortGroups l.groups
