-- Where in the payload a slot begins.
use Rattle.std.specs.Prelude.{ℕ, ◌+◌, ◌*◌}
use Rattle.payload.specs.declared.slot_place.Place.{Place}
use Rattle.payload.specs.declared.slot_place.Place.TheVariants.{Low, High}

-- the bit at which it begins
abbrev pub place_bit : Place → ℕ
place_bit (Low start) = 8 * start.byte
place_bit (High start) = 8 * start.byte + 4
