use Rattle.port.specs.Runs.{MovesAll}
use Rattle.port.proofs.runs.move_pairs.Given as goal

-- so many pairs are moved
abbrev pub invariant-loop : goal.invariant-loop
invariant-loop g l = MovesAll l.client l.counter l.filler (g.I.Inlet.waiting l.initial.inlet) (g.I.Inlet.waiting l.inlet) (g.O.Outlet.holding l.initial.outlet) (g.O.Outlet.holding l.outlet)
