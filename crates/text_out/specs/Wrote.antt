-- A text written into a buffer from a place on.
use Rattle.std.specs.Prelude.{◌≡◌, ℕ, ◌+◌, ◌-◌, List, length, take}
use Rattle.bits.specs.Splices.{splice}
use Rattle.text_out.specs.declared.TextOut.{TextOut}

-- a text was written from place `at` on: what the buffer holds after, its other bytes as before, and the place after the text
pub record Wrote (at : ℕ) (text before after : List ℕ) (end : ℕ) : Type 0 where
  pub bytes : after ≡ splice at text before
  pub end_is : end ≡ at + length text

-- as much of a text as fits was written from place `at` on
pub record Puts (at : ℕ) (text before after : List ℕ) (end : ℕ) : Type 0 where
  pub wrote : Wrote at (take (length before - at) text) before after end

-- a text was written behind what was there, as much of it as fits, in the same memory
pub record Writes (old new : TextOut) (text : List ℕ) : Type 0 where
  pub same : new.places.ghost_name ≡ old.places.ghost_name
  pub puts : Puts old.len text old.places.now new.places.now new.len
