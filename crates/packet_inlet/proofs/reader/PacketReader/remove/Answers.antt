use Rattle.std.proofs.Common.{arith, length-take}
use Rattle.packet_inlet.proofs.Held.{front_removed}
use Rattle.packet_inlet.proofs.reader.PacketReader.remove.Goals as goal

pub returns : goal.returns
returns c =
    let reader = c.args.self.now in
    let removed = front_removed reader.places.now reader.held c.args.count (omega (arith, length-take reader.held reader.places.now)) reader.within in
    let len = c.copy_within.ensures.len in
    let after = c.copy_within.ensures.after in
    cc
