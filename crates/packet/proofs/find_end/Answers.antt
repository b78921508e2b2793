use Rattle.std.proofs.Common.{◌∙◌, arith}
use Rattle.packet.proofs.Carried.{walked_more, extent_there, none_other, none_long, none_ended}
use Rattle.packet.proofs.find_end.Goals as goal

pub loop-whole-preserved : goal.loop-whole-preserved
loop-whole-preserved c = walked_more c.args.blocks.now c.loop-whole.whole _ (omega arith) c.loop-whole.invariant c.in-Data.ensures.class c.in-Data.ensures.eight

pub returns-then-whole : goal.returns-then-whole
returns-then-whole c = none_long c.args.blocks.now _ (walked_more c.args.blocks.now c.loop-whole.whole _ (omega arith) c.loop-whole.invariant c.in-Data.ensures.class c.in-Data.ensures.eight) (omega arith)

pub returns-in-End : goal.returns-in-End
returns-in-End c = rw c.then_some.ensures (extent_there c.args.blocks.now c.loop-whole.whole c.in-End.left _ (omega arith) c.loop-whole.invariant c.in-End.ensures.class c.in-End.ensures.eight _ c.is_packet_length.ensures)

pub returns-in_default : goal.returns-in_default
returns-in_default c = none_other c.args.blocks.now c.loop-whole.whole _ (omega arith) c.loop-whole.invariant (λ e. c.in_default.not-Data (c.class_of.ensures.class ∙ e)) (λ n e. c.in_default.not-End n (c.class_of.ensures.class ∙ e))

pub returns : goal.returns
returns c = none_ended c.args.blocks.now c.loop-whole.whole c.loop-whole.invariant (omega arith)
