use Rattle.std.proofs.Common.{◌-◌, List, Some, sym, ap, ◌∙◌}
use Rattle.std.specs.Prelude.{slice_get}
use Rattle.block.specs.declared.Pair.{Pair}
use Rattle.whole_frame.specs.Meaning.{pairs_read}
use Rattle.whole_frame.proofs.Back.{pairs_there}
use Rattle.under_way.proofs.Wholes.{pair_among}
use Rattle.under_way.proofs.whole.WholeFrame.pair.Goals as goal

pub returns-clause-read : goal.returns-clause-read
returns-clause-read c =
    ap (λ (l : List Pair). slice_get l (c.args.slot - 1))
    (ap pairs_read (sym c.self.view_is) ∙ pairs_there c.self.inside.overhead.now c.self.inside.payload.now c.self.invariant)
    ∙ pair_among c.self.inside.payload.now c.args.slot c.read_pair.ensures.range
    ∙ ap Some (sym c.read_pair.ensures.made)
