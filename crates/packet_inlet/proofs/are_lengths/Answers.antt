use Rattle.std.proofs.Common.{sym, ◌∙◌, ⊎_elim}
use Rattle.packet_inlet.proofs.Lengths.{lengths_more, lengths_out, lengths_short, lengths_all}
use Rattle.packet_inlet.proofs.are_lengths.Goals as goal

pub returns-then-not-is_packet_length : goal.returns-then-not-is_packet_length
returns-then-not-is_packet_length c =
    ⊎_elim
    (λ out. lengths_out c.args.lengths.now c.loop-length.length-index c.loop-length.left c.args.bytes c.loop-length.invariant c.loop-length-test.true (sym out ∙ c.is_packet_length.ensures))
    (λ short. lengths_short c.args.lengths.now c.loop-length.length-index c.loop-length.left c.args.bytes c.loop-length.invariant c.loop-length-test.true short.1)
    c.then-not-is_packet_length.either

pub loop-length-preserved : goal.loop-length-preserved
loop-length-preserved c =
    lengths_more c.args.lengths.now c.loop-length.length-index c.loop-length.left c.args.bytes c.loop-length.invariant c.loop-length-test.true
    c.if-not-is_packet_length.ensures c.if-left-length.false

pub returns : goal.returns
returns c =
    lengths_all c.args.lengths.now c.loop-length.length-index c.loop-length.left c.args.bytes c.loop-length.invariant c.loop-length-test.false
