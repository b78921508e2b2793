use Rattle.std.proofs.Common.{ℕ, List, ◌++◌, sym, ap, ◌∙◌, arith, length-append}
use Rattle.frame.specs.Frames.{carried_after}
use Rattle.under_way.proofs.Comings.{finished}
use Rattle.under_way.proofs.incoming.Incoming.finish.Goals as goal

pub returns-clause-blocks : goal.returns-clause-blocks
returns-clause-blocks c =
    let F : List ℕ = c.self.inside.overhead ++ c.self.inside.payload in
    finished F (c.store_block.new.overhead ++ c.store_block.new.payload) c.self.inside.count c.args.self.now c.args.block.now
    (length-append c.self.inside.overhead c.self.inside.payload ∙ omega (arith, c.self.told.0, c.self.told.1))
    (omega arith) c.self.view_is (sym c.is_full_end.ensures ∙ c.if-not-is_full_end.false) c.store_block.ensures.eight
    (c.store_block.ensures.kept ∙ ap (λ (n : ℕ). carried_after n c.args.block.now.bytes F) c.last.ensures)
