use Rattle.std.proofs.Common.{◌≡◌, ℕ, ◌+◌, ◌*◌, ◌<◌, length, get_or}
use Rattle.payload.specs.Payloads.{pair_at}
use Rattle.payload.proofs.Slots.{blank}
use Rattle.payload.proofs.unpack.Given as goal

abbrev pub invariant-loop-two : goal.invariant-loop-two
invariant-loop-two l = (length l.pairs ≡ 480) × ((j : ℕ) → j < 2 * l.two → get_or l.pairs j blank ≡ pair_at (j + 1) l.payload)
