use Rattle.std.proofs.Common.{List, ◌++◌, replicate, ap, arith}
use Rattle.block.specs.declared.Block.{Block}
use Rattle.payload.specs.Payloads.{pairs_of}
use Rattle.under_way.specs.Departure.{Departure}
use Rattle.under_way.proofs.Leavings.{all_gone}
use Rattle.under_way.proofs.outgoing.Outgoing.new.Goals as goal

abbrev with_rest : List Block → Departure
with_rest bs = record { pairs = pairs_of (replicate 7920 0); rest = bs }

pub returns : goal.returns
returns c = ap with_rest (all_gone (replicate 7 0 ++ replicate 7920 0) 992 (omega arith))
