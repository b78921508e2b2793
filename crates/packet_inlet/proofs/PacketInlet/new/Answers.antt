use Rattle.std.proofs.Common.{[], refl, rules}
use Rattle.packet_inlet.proofs.Left.{new_made}
use Rattle.packet_inlet.proofs.Lengths.{cut_lawful}
use Rattle.packet_inlet.proofs.PacketInlet.new.Goals as goal

pub returns-then-not-are_lengths : goal.returns-then-not-are_lengths
returns-then-not-are_lengths c = record { answer = search rules; whole = cut_lawful c.args.lengths.now c.args.bytes.now }

pub returns : goal.returns
returns c = record {
  answer =
      new_made c.args.client c.number.result c.block_count.result c.args.lengths.now c.args.bytes.now
      c.number.ensures.value (c.block_count.ensures.blocks [] refl) c.if-not-are_lengths.ensures;
  whole = cut_lawful c.args.lengths.now c.args.bytes.now;
}
