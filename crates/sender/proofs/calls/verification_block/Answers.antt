use Rattle.std.proofs.Common.{List, get_or, replicate, refl, ap, ◌∙◌}
use Rattle.block.specs.declared.Block.{Block}
use Rattle.sender.proofs.Own.{cv_is}
use Rattle.sender.proofs.calls.verification_block.Goals as goal

pub returns : goal.returns
returns c =
    ap (λ (bs : List Block). get_or bs c.args.block _) c.write.ensures.output
    ∙ cv_is c.args.trail.now c.verification_values.result (replicate 17 c.idle-blocks.result) c.args.block _ c.verification_values.ensures c.told-trail refl c.requires
