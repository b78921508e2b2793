use Rattle.std.proofs.Common.{◌≡◌, ◌*◌}
use Rattle.payload.specs.Payloads.{pairs_of}
use Rattle.bench.proofs.unpack_rounds.Given as goal

abbrev pub invariant-loop-round : goal.invariant-loop-round
invariant-loop-round l = (l.moved ≡ 960 * l.round) × (l.pairs ≡ pairs_of l.payload)
