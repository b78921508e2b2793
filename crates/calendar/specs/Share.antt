-- A client's share of a calendar: how many slots it has, and which is its first.
use Rattle.std.specs.Prelude.{◌≡◌, ℕ, ◌+◌, ◌-◌, ◌<◌, ◌≤◌, Bool, false, Some, None, Option, if◌then◌else◌, List, [], ◌∷◌, length, ◌==◌, ◌≢◌, slice_index}

-- how many entries are the client's
abbrev pub slot_count : ℕ → List ℕ → ℕ
slot_count c [] = 0
slot_count c (e ∷ es) = if e == c then slot_count c es + 1 else slot_count c es

-- the slot of the first entry that is the client's, if the entries begin at slot s; 0 if none is
abbrev pub first_from : ℕ → ℕ → List ℕ → ℕ
first_from s c [] = 0
first_from s c (e ∷ es) = if e == c then s else first_from (s + 1) c es

-- the client's first slot; slots are numbered from 1
abbrev pub first_slot : ℕ → List ℕ → ℕ
first_slot c es = first_from 1 c es

-- slot s, numbered from 1, is the client's
abbrev pub HasSlot : ℕ → List ℕ → ℕ → Type 0
HasSlot c es s = (1 ≤ s) × (s ≤ length es) × (slice_index es (s - 1) ≡ c)

-- what count and first slot say of a client's slots
pub record ShareLaw (c : ℕ) (es : List ℕ) (count first : ℕ) : Type 0 where
  -- first slot 0 says that the client has no slot
  pub none : first ≡ 0 → (s : ℕ) → HasSlot c es s → ⊥
  -- any other is a slot of the client
  pub own : (first ≢ 0) → HasSlot c es first
  -- and no lower slot is
  pub lowest : (s : ℕ) → s < first → HasSlot c es s → ⊥
  -- count and first slot are 0 together
  pub together : (count ≡ 0 → first ≡ 0) × (first ≡ 0 → count ≡ 0)

-- the entry is the client's
abbrev pub is_client : ℕ → Option ℕ → Bool
is_client c (Some e) = e == c
is_client c None = false
