use Rattle.std.proofs.Common.{◌≤◌, take}
use Rattle.port.specs.Chain.{OffersPut}
use Rattle.port.proofs.chain.put_offers.Given as goal

abbrev pub invariant-loop-offer : goal.invariant-loop-offer
invariant-loop-offer g l = record {
  few : l.refused ≤ l.offer-index;
  so_far : OffersPut (take l.offer-index l.offers) l.refused (g.O.Outlet.holding l.initial.outlet) (g.O.Outlet.holding l.outlet);
}
