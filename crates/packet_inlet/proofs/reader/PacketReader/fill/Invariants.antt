use Rattle.packet_inlet.proofs.Held.{Filling}
use Rattle.packet_inlet.proofs.reader.PacketReader.fill.Given as goal

-- the places before this one are filled
abbrev pub invariant-loop-place : goal.invariant-loop-place
invariant-loop-place g l = Filling l.place l.initial.self l.self (g.I.Inlet.waiting l.initial.inlet) (g.I.Inlet.waiting l.inlet)
