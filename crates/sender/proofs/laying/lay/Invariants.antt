use Rattle.std.proofs.Common.{length}
use Rattle.calendar.specs.Entries.{entries_of}
use Rattle.sender.proofs.SlotsLaid.{Laid}
use Rattle.sender.proofs.laying.lay.Given as goal

abbrev pub invariant-loop-slot : goal.invariant-loop-slot
invariant-loop-slot g l =
    Laid (entries_of l.calendar) (length l.yielded) (g.I.Inlet.waiting l.initial.inlet) (g.I.Inlet.waiting l.inlet) l.frame l.slot-iterator
