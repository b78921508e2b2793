use Rattle.std.proofs.Common.{◌≡◌, ℕ, ◌^◌, ◌<◌, ◌∙◌, subst, ap₂, arith, rules}
use Rattle.crc.specs.Remainder.{remainder}
use Rattle.message.specs.Values.{covered_value_bits, crc12}
use Rattle.message.proofs.Tails.{last_filled, tail_fits}
use Rattle.message.proofs.last_values.Goals as goal

pub overflow_mul-count : goal.overflow_mul-count
overflow_mul-count c = search (rules, c.requires.most)

pub overflow_add-reverse_bits : goal.overflow_add-reverse_bits
overflow_add-reverse_bits c =
    let low : c.remainder-remainder.result < 4096 = subst (λ (d : ℕ). c.remainder-remainder.result < 2 ^ d) c.degree_twelve.ensures.degree c.remainder-remainder.ensures.below in
    let free : c.from-free.result < 16 = omega (arith, c.from-free.ensures, c.requires.free) in
    let sum = tail_fits c.remainder-remainder.result c.from-free.result c.reverse_bits.result low free c.reverse_bits.type_inv c.reverse_bits.ensures in
    search rules

pub returns : goal.returns
returns c =
    let low : c.remainder-remainder.result < 4096 = subst (λ (d : ℕ). c.remainder-remainder.result < 2 ^ d) c.degree_twelve.ensures.degree c.remainder-remainder.ensures.below in
    let free : c.from-free.result < 16 = omega (arith, c.from-free.ensures, c.requires.free) in
    let raw : c.remainder-remainder.result ≡ remainder c.degree_twelve.result.degree c.degree_twelve.result.terms (covered_value_bits c.args.values.now)
    = c.remainder-remainder.ensures.value in
    let value : c.remainder-remainder.result ≡ crc12 (covered_value_bits c.args.values.now)
    = raw ∙ ap₂ (λ (w G : ℕ). remainder w G (covered_value_bits c.args.values.now)) c.degree_twelve.ensures.degree c.degree_twelve.ensures.terms in
    last_filled c.args.values.now c.remainder-remainder.result c.reverse_bits.result c.from-free.result c.to_le_bytes.result
    c.requires.two c.from-free.ensures free low value c.reverse_bits.type_inv c.reverse_bits.ensures c.to_le_bytes.ensures
