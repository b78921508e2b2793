use Rattle.port.proofs.Moves.{Taking}
use Rattle.port.proofs.runs.take_blocks.Given as goal

-- so many blocks are taken
abbrev pub invariant-loop-i : goal.invariant-loop-i
invariant-loop-i g l = Taking l.filler l.client l.i (g.I.Inlet.waiting l.initial.inlet) (g.I.Inlet.waiting l.inlet) l.out
