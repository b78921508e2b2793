use Rattle.std.proofs.Common.{◌≡◌, ℕ, ◌*◌, ◌<◌, length, get_or, take}
use Rattle.std.specs.List.{flat_map}
use Rattle.bits.specs.Bits.{bits}
use Rattle.block.specs.Whole.{WholePair}
use Rattle.payload.specs.Pairs.{pair_bits}
use Rattle.payload.proofs.Slots.{blank}
use Rattle.payload.proofs.pack.Given as goal

abbrev pub invariant-loop-two : goal.invariant-loop-two
invariant-loop-two l =
    (take (132 * (2 * l.two)) (bits l.payload) ≡ flat_map pair_bits (take (2 * l.two) l.pairs))
    × (length l.payload ≡ 7920)
    × ((j : ℕ) → j < 2 * l.two → WholePair (get_or l.pairs j blank))
