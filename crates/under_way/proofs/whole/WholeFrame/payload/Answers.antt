use Rattle.std.proofs.Common.{sym, ap, ◌∙◌, ◌++◌, drop, List, ℕ}
use Rattle.std.proofs.lemmas.List.{drop_at}
use Rattle.block.specs.declared.Block.{Block}
use Rattle.frame.specs.Frames.{carried_by}
use Rattle.frame.proofs.Frames.{frame_carries}
use Rattle.under_way.proofs.whole.WholeFrame.payload.Goals as goal

pub returns : goal.returns
returns c =
    sym (drop_at c.self.inside.overhead.now c.self.inside.payload.now 7 c.self.invariant)
    ∙ sym (ap (λ (F : List ℕ). drop 7 F) (frame_carries (c.self.inside.overhead.now ++ c.self.inside.payload.now)))
    ∙ ap (λ (bs : List Block). drop 7 (carried_by bs)) c.self.view_is
