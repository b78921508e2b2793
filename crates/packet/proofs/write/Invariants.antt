use Rattle.std.proofs.Common.{◌≡◌, ◌+◌, ◌∷◌, ◌++◌, drop}
use Rattle.packet.specs.Format.{opening_block, data_blocks}
use Rattle.packet.proofs.write.Given as goal

abbrev pub invariant-loop-i : goal.invariant-loop-i
invariant-loop-i l = l.out ≡ (opening_block ∷ data_blocks l.i l.packet) ++ drop (l.i + 1) l.initial.out
