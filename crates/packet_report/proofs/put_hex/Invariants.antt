use Rattle.packet_report.proofs.Writes.{HexWritten}
use Rattle.packet_report.proofs.put_hex.Given as goal

-- so many bytes are written
abbrev pub invariant-loop-byte : goal.invariant-loop-byte
invariant-loop-byte l = HexWritten l.at l.end l.byte-index l.bytes l.initial.out l.out
