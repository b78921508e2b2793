use Rattle.std.proofs.Common.{sym, ap, ◌∙◌}
use Rattle.whole_frame.specs.Meaning.{overhead_read}
use Rattle.whole_frame.proofs.Back.{overhead_there}
use Rattle.under_way.proofs.whole.WholeFrame.overhead.Goals as goal

pub returns-clause-read : goal.returns-clause-read
returns-clause-read c =
    c.read.ensures.read
    ∙ sym (overhead_there c.self.inside.overhead.now c.self.inside.payload.now c.self.invariant)
    ∙ ap overhead_read c.self.view_is
