use Rattle.std.proofs.Common.{List, [], ◌∷◌, get_or, refl, ap, ◌∙◌}
use Rattle.block.specs.declared.Block.{Block}
use Rattle.sender.proofs.Own.{cs_is}
use Rattle.sender.proofs.calls.client_signal_block.Goals as goal

pub returns : goal.returns
returns c = ap (λ (bs : List Block). get_or bs 0 _) c.write.ensures.output ∙ cs_is (c.idle.result ∷ []) _ refl
