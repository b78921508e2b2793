use Rattle.std.proofs.Common.{arith}
use Rattle.bits.specs.Bits.{bits}
use Rattle.payload.proofs.Halves.{half_low}
use Rattle.payload.proofs.Reading.{low_pair}
use Rattle.payload.proofs.read_low.Goals as goal

pub returns-clause-sent : goal.returns-clause-sent
returns-clause-sent c =
    low_pair (bits c.args.payload.now) _ _ c.args.start.byte c.word_at-low.result c.word_at-high.result _
    c.word_at-low.type_inv c.word_at-high.type_inv c.word_at-low.ensures c.word_at-high.ensures
    (half_low c.args.payload.now _ (omega arith)) c.block.ensures.sent c.block-2.ensures.sent
