-- Sizes of messages.
use Rattle.std.proofs.Common.{◌≤◌, arith}
use Rattle.message.specs.declared.Kind.{Kind}
use Rattle.message.specs.declared.Kind.TheVariants.{Basic, Aps, Cv, OneDm, TwoDmm, TwoDmr, Cs}
use Rattle.message.specs.Kinds.{block_count_of}

pub few_blocks : (k : Kind) → block_count_of k ≤ 17
few_blocks Basic = omega arith
few_blocks Aps = omega arith
few_blocks Cv = omega arith
few_blocks OneDm = omega arith
few_blocks TwoDmm = omega arith
few_blocks TwoDmr = omega arith
few_blocks Cs = omega arith
