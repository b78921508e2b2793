use Rattle.std.proofs.Common.{◌∙◌, arith}
use Rattle.std.proofs.lemmas.List.{length-set}
use Rattle.bench.proofs.Filling.{filled_more, filled_all}
use Rattle.bench.proofs.fill.Goals as goal

pub loop-pair-preserved : goal.loop-pair-preserved
loop-pair-preserved c = record {
  long = length-set _ _ _ ∙ c.loop-pair.invariant.long;
  so_far = filled_more c.loop-pair.pairs _ c.loop-pair.pair-index c.loop-pair.x _ _ _ _ (omega arith) (omega arith)
      c.next-first.ensures c.next-x.ensures c.block.ensures c.block-in-loop-pair.ensures c.loop-pair.invariant.so_far;
}

pub returns : goal.returns
returns c = filled_all c.loop-pair.pairs _ c.loop-pair.pair-index c.loop-pair.x (omega arith) (omega arith) c.loop-pair.invariant.so_far
