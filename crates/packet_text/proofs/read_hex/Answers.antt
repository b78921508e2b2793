use Rattle.std.proofs.Common.{ℕ, ◌+◌, ◌*◌, ◌/◌, [], length, get_or, ap, ap₂, ◌∙◌, arith}
use Rattle.packet_text.specs.Hex.{hex_value}
use Rattle.packet_text.proofs.Hex.{answer_fits, answer_long, high_is, low_is, pair_is, read_all, read_more, read_none}
use Rattle.packet_text.proofs.read_hex.Goals as goal

pub loop-i-init : goal.loop-i-init
loop-i-init c = read_none c.args.digits.now c.args.out.now

pub loop-i-preserved : goal.loop-i-preserved
loop-i-preserved c =
    let digits = c.args.digits.now in
    let i = c.loop-i.i in
    let count = c.as_chunks.ensures.front_len in
    let pair = ap (λ t. get_or t i []) c.as_chunks.ensures.front ∙ pair_is (length digits / 2) i digits [] (omega (arith, count)) in
    let high = c.hex_value.ensures.value ∙ ap (λ t. hex_value (get_or t 0 0)) pair ∙ ap hex_value (high_is digits i) in
    let low = c.hex_value-in-loop-i.ensures.value ∙ ap (λ t. hex_value (get_or t 1 0)) pair ∙ ap hex_value (low_is digits i) in
    read_more digits c.args.out.now c.loop-i.out i _ (omega (arith, count)) (omega arith)
    (ap₂ (λ (a b : ℕ). 16 * a + b) high low) c.loop-i.invariant

pub returns-then-out-pairs-clause-answer : goal.returns-then-out-pairs-clause-answer
returns-then-out-pairs-clause-answer c = answer_long c.args.digits.now (length c.args.out.now) (omega (arith, c.as_chunks.ensures.front_len))

pub returns-clause-answer : goal.returns-clause-answer
returns-clause-answer c =
    let count = c.as_chunks.ensures.front_len in
    rw count (answer_fits c.args.digits.now (length c.args.out.now) (omega (arith, count)))

pub returns-clause-output : goal.returns-clause-output
returns-clause-output c =
    read_all c.args.digits.now c.args.out.now c.loop-i.out c.loop-i.i (omega (arith, c.as_chunks.ensures.front_len)) (omega arith) c.loop-i.invariant
