-- What a frame between frames is, once its payload was lent.
use Rattle.std.specs.Prelude.{ℕ, List, [], Option}
use Rattle.std.specs.Borrow.{LendsIf, MutBor, Fml, Array, u8}
use Rattle.payload.specs.Payloads.{pairs_of}
use Rattle.under_way.specs.Departure.{Departure}
use Rattle.under_way.specs.contracts.outgoing.Outgoing.{the_row}

-- its pairs are those of what was left behind the reference; unchanged where it was not lent
abbrev pub LendsPayload : MutBor Departure → Option (MutBor (List ℕ)) → Fml
LendsPayload o r = LendsIf the_row (Array u8 7920) o r (λ w. record { pairs = pairs_of w; rest = [] }) o.now
