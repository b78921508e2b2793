use Rattle.std.proofs.Common.{◌++◌, sym, ◌∙◌, arith, length-append}
use Rattle.under_way.proofs.Comings.{grown}
use Rattle.under_way.proofs.incoming.Incoming.grow.Goals as goal

pub returns-clause-blocks : goal.returns-clause-blocks
returns-clause-blocks c =
    grown (c.self.inside.overhead ++ c.self.inside.payload) (c.store_data.new.overhead ++ c.store_data.new.payload) c.self.inside.count
    c.args.self.now c.args.block.now (length-append c.self.inside.overhead c.self.inside.payload ∙ omega (arith, c.self.told.0, c.self.told.1))
    c.self.invariant c.self.view_is
    (sym c.is_data.ensures ∙ c.if-not-is_data.false) (sym c.store_data.ensures.answer ∙ c.if-not-store_data.false)
    c.store_data.ensures.eight c.store_data.ensures.kept
