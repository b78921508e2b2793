use Rattle.std.proofs.Common.{◌∙◌, rules}
use Rattle.std.proofs.lemmas.Result.{IfOk-weaker}
use Rattle.vector_values.proofs.Counts.{place_is}
use Rattle.vector_values.proofs.message_text.Goals as goal

pub returns-in-Ok : goal.returns-in-Ok
returns-in-Ok c =
    IfOk-weaker c.block_text.result _ _
    (λ t f. f ∙ place_is c.args.kind c.args.values.now c.write.result c.in-Ok.count c.args.place c.write.new.output c.idle-blocks.result _
    c.write.ensures.answer c.in-Ok.is c.idle-blocks.ensures c.write.ensures.output c.if-place-count.true (search rules))
    c.block_text.ensures
