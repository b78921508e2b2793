use Rattle.packet.proofs.Carried.{Walked}
use Rattle.packet.proofs.find_end.Given as goal

abbrev pub invariant-loop-whole : goal.invariant-loop-whole
invariant-loop-whole l = Walked l.blocks l.whole
