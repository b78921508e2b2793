use Rattle.std.proofs.Common.{ℕ, ◌+◌, ◌/◌, ◌%◌, ◌^◌, List, length, get_or, sym, ap, ◌∙◌, arith, pow_pos}
use Rattle.bits.specs.Bits.{field}
use Rattle.crc.specs.Remainder.{remainder_onto, step}
use Rattle.bits.proofs.Places.{field_step, field_none, field_cut, cut_at}
use Rattle.crc.proofs.Stepping.{code_bit}
use Rattle.crc.proofs.Generator.remainder.Goals as goal

pub loop-i-init : goal.loop-i-init
loop-i-init c = (
  pow_pos c.args.self.now.degree,
  ap (remainder_onto c.args.self.now.degree c.args.self.now.terms 0)
      (field_cut c.args.bytes.now c.args.from c.args.to c.min-end.result
      (cut_at (length c.args.bytes.now) c.args.to c.min-end.result (omega arith) c.ranges.to.fits)),
)

pub loop-i-preserved : goal.loop-i-preserved
loop-i-preserved c =
    let G : ℕ = c.args.self.now.terms in
    let w : ℕ = c.args.self.now.degree in
    let bs : List ℕ = c.args.bytes.now in
    let i : ℕ = c.loop-i.i in
    let end : ℕ = c.min-end.result in (
      c.advance-register.ensures.below,
      ap (λ (x : ℕ). remainder_onto w G x (field bs (i + 1) end))
          (c.advance-register.ensures.value ∙ ap (step w G c.loop-i.register) (code_bit (get_or bs (i / 8) 0 / 2 ^ (i % 8))))
          ∙ sym (ap (remainder_onto w G c.loop-i.register) (field_step bs i end (omega arith) (omega arith)))
          ∙ c.loop-i.invariant.1,
    )

pub returns : goal.returns
returns c =
    let G : ℕ = c.args.self.now.terms in
    let w : ℕ = c.args.self.now.degree in
    record {
      value =
          sym (ap (remainder_onto w G c.loop-i.register) (field_none c.args.bytes.now c.loop-i.i c.min-end.result (omega arith)))
          ∙ c.loop-i.invariant.1;
      below = c.loop-i.invariant.0;
    }
