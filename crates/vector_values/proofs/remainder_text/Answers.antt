use Rattle.std.proofs.Common.{◌≡◌, ℕ, ◌^◌, ◌<◌, subst, ◌∙◌, ap₂}
use Rattle.bits.specs.Bits.{field}
use Rattle.crc.specs.Remainder.{remainder}
use Rattle.vector_values.proofs.Sevens.{seven_output}
use Rattle.vector_values.proofs.remainder_text.Goals as goal

pub returns : goal.returns
returns c =
    let low : c.remainder-n.result < 128 = subst (λ (d : ℕ). c.remainder-n.result < 2 ^ d) c.degree_seven.ensures.degree c.remainder-n.ensures.below in
    let value : c.remainder-n.result ≡ remainder 7 0xB7 (field c.args.bytes.now c.args.from c.args.to)
    = c.remainder-n.ensures.value
    ∙ ap₂ (λ (w G : ℕ). remainder w G (field c.args.bytes.now c.args.from c.args.to)) c.degree_seven.ensures.degree c.degree_seven.ensures.terms in
    let output = seven_output _ c.remainder-n.result low c.in_radix.ensures in
    rw (c.laid_out.ensures, output, value) at c.format.ensures.ok
