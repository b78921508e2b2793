use Rattle.std.proofs.Common.{ℕ, ◌*◌, take, ap, ◌∙◌}
use Rattle.bits.specs.Bits.{bits}
use Rattle.message.specs.Values.{crc12}
use Rattle.collector.specs.Content.{MessageContent}
use Rattle.collector.proofs.Extends.{remainder_is, is_whole, is_wrong}
use Rattle.collector.proofs.assembly.Message.test.Goals as goal

pub returns-then-remainder-eq0 : goal.returns-then-remainder-eq0
returns-then-remainder-eq0 c =
    is_whole c.args.self c.remainder.result
    (remainder_is c.self.inside.values c.remainder.result c.blocks-bits.result c.degree_twelve.result.degree c.degree_twelve.result.terms
    c.remainder.ensures.value c.degree_twelve.ensures.degree c.degree_twelve.ensures.terms
    ∙ ap (λ (n : ℕ). crc12 (bits (take (2 * n) c.self.inside.values))) c.blocks-bits.ensures
    ∙ ap (λ (u : MessageContent). crc12 (bits u.values)) c.self.view_is)
    c.if-remainder-eq0.true

pub returns-else-remainder-eq0 : goal.returns-else-remainder-eq0
returns-else-remainder-eq0 c =
    is_wrong c.args.self c.remainder.result
    (remainder_is c.self.inside.values c.remainder.result c.blocks-bits.result c.degree_twelve.result.degree c.degree_twelve.result.terms
    c.remainder.ensures.value c.degree_twelve.ensures.degree c.degree_twelve.ensures.terms
    ∙ ap (λ (n : ℕ). crc12 (bits (take (2 * n) c.self.inside.values))) c.blocks-bits.ensures
    ∙ ap (λ (u : MessageContent). crc12 (bits u.values)) c.self.view_is)
    c.if-remainder-eq0.false
