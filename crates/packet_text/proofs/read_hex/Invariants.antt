use Rattle.packet_text.proofs.Hex.{ReadUpTo}
use Rattle.packet_text.proofs.read_hex.Given as goal

abbrev pub invariant-loop-i : goal.invariant-loop-i
invariant-loop-i l = ReadUpTo l.digits l.initial.out l.out l.i
