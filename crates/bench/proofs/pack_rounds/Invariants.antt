use Rattle.std.proofs.Common.{◌≡◌, ◌*◌}
use Rattle.payload.specs.Payloads.{payload_of}
use Rattle.bench.proofs.pack_rounds.Given as goal

abbrev pub invariant-loop-round : goal.invariant-loop-round
invariant-loop-round l = (l.moved ≡ 960 * l.round) × (l.payload ≡ payload_of l.pairs)
