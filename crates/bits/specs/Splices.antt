-- Overwriting a part of a list, of bytes or of bits.
use Rattle.std.specs.Prelude.{ℕ, ◌+◌, List, ◌++◌, length, take, drop}

-- `old`, with `new` in the place of as many entries from place s on
abbrev pub splice : {A : Type 0} → ℕ → List A → List A → List A
splice s new old = take s old ++ (new ++ drop (s + length new) old)
