use Rattle.std.proofs.Common.{◌≡◌, drop}
use Rattle.packet_inlet.specs.Packets.{are_lengths}
use Rattle.packet_inlet.proofs.are_lengths.Given as goal

abbrev pub invariant-loop-length : goal.invariant-loop-length
invariant-loop-length l = are_lengths (drop l.length-index l.lengths) l.left ≡ are_lengths l.lengths l.bytes
