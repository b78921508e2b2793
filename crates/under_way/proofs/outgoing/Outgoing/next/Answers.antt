use Rattle.std.proofs.Common.{◌≡◌, ℕ, ◌+◌, ◌<◌, ◌++◌, Some, sym, ap, ◌∙◌, arith}
use Rattle.frame.specs.Frames.{frame_block}
use Rattle.under_way.proofs.Leavings.{one_less, one_next, some_behind}
use Rattle.under_way.proofs.outgoing.Outgoing.next.Goals as goal

pub returns-clause-first : goal.returns-clause-first
returns-clause-first c =
    let at : (c.self.inside.gone < 992) × (c.in_ok-place.place ≡ c.self.inside.gone + 1)
    = some_behind c.self.inside.gone c.in_ok-place.place (sym c.behind.ensures ∙ c.in_ok-place.was) in
    ap Some (c.block_at.ensures.made ∙ ap (frame_block (c.self.inside.overhead ++ c.self.inside.payload)) at.1)
    ∙ one_next c.self.inside.overhead c.self.inside.payload c.self.inside.gone c.args.self.now at.0 c.self.view_is

pub returns-clause-rest : goal.returns-clause-rest
returns-clause-rest c =
    let at : (c.self.inside.gone < 992) × (c.in_ok-place.place ≡ c.self.inside.gone + 1)
    = some_behind c.self.inside.gone c.in_ok-place.place (sym c.behind.ensures ∙ c.in_ok-place.was) in
    one_less c.self.inside.overhead c.self.inside.payload c.self.inside.gone c.args.self.now at.0 c.self.view_is
