use Rattle.std.proofs.Common.{sym, ◌∙◌, rules}
use Rattle.std.proofs.lemmas.Result.{IfOk-weaker}
use Rattle.vector_values.proofs.Counts.{packet_is, two_at_least}
use Rattle.vector_values.proofs.packet_text.Goals as goal

pub end_type-requires : goal.end_type-requires
end_type-requires c =
    record { least = two_at_least c.args.packet.now 253 c.in-Ok.count (sym c.write.ensures.answer ∙ c.in-Ok.is); most = search rules }

pub returns-in-Ok : goal.returns-in-Ok
returns-in-Ok c =
    IfOk-weaker c.packet_made.result _ _
    (λ t f. f ∙ packet_is c.args.packet.now c.write.result c.in-Ok.count c.end_type.result c.write.new.out c.idle-blocks.result
    c.write.ensures.answer c.in-Ok.is c.idle-blocks.ensures c.write.ensures.output c.end_type.ensures)
    c.packet_made.ensures
