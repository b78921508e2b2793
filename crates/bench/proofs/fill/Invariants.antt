use Rattle.std.proofs.Common.{◌≡◌, ◌-◌, ◌++◌, length, take}
use Rattle.bench.specs.Filled.{pairs_from}
use Rattle.bench.proofs.fill.Given as goal

-- what is filled and what is still to come are all pairs
abbrev pub invariant-loop-pair : goal.invariant-loop-pair
invariant-loop-pair l = record {
  long : length l.pairs ≡ 480;
  so_far : take l.pair-index l.pairs ++ pairs_from l.x (480 - l.pair-index) ≡ pairs_from l.initial.x 480;
}
