-- A ring of blocks in an area: the blocks stand one behind the other, and go on at the front of the area.
use Rattle.std.specs.Prelude.{ℕ, ◌+◌, ◌-◌, if◌then◌else◌, List, ◌++◌, take, drop, nat_lt}

-- an area's places in the order of the ring, whose first place is given
abbrev pub ring_order : {X : Type 0} → ℕ → List X → List X
ring_order first places = drop first places ++ take first places

-- the first place of a ring of w places; a number that is no place stands for 0
abbrev pub start_of : ℕ → ℕ → ℕ
start_of first w = if nat_lt first w then first else 0

-- the place of the ring's entry at index i, from a start s
abbrev pub place_from : ℕ → ℕ → ℕ → ℕ
place_from s w i = if nat_lt i (w - s) then s + i else i - (w - s)

abbrev pub place_at : ℕ → ℕ → ℕ → ℕ
place_at first w i = place_from (start_of first w) w i
