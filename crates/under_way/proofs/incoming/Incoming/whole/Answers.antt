use Rattle.std.proofs.Common.{◌++◌, Some, ap, ◌∙◌, arith}
use Rattle.under_way.proofs.Comings.{is_whole}
use Rattle.under_way.proofs.incoming.Incoming.whole.Goals as goal

pub returns : goal.returns
returns c =
    ap Some c.over.ensures
    ∙ is_whole (c.self.inside.overhead ++ c.self.inside.payload) c.self.inside.count c.args.self.now c.self.invariant (omega arith) c.self.view_is
