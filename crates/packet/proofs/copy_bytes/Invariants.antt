use Rattle.packet.proofs.Copies.{Copied}
use Rattle.packet.proofs.copy_bytes.Given as goal

abbrev pub invariant-loop-i : goal.invariant-loop-i
invariant-loop-i l = Copied l.blocks l.i l.out l.initial.out
