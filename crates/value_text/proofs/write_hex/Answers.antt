use Rattle.std.proofs.Common.{◌≡◌, ℕ, ◌/◌, List, [], ◌∷◌, get_or, refl, ap, rules}
use Rattle.std.proofs.lemmas.List.{take_all}
use Rattle.std.proofs.Output.{has_written_append, has_written_of_eq, writes_in_calls_nil}
use Rattle.value_text.specs.Texts.{capital_digit, hex_of}
use Rattle.value_text.proofs.HexTexts.{digits_more}
use Rattle.value_text.proofs.write_hex.Goals as goal

pub loop-i-init : goal.loop-i-init
loop-i-init g c = λ plain. record { wrote = writes_in_calls_nil _ _; plain = plain }

pub loop-i-preserved : goal.loop-i-preserved
loop-i-preserved g c = λ plain.
    let so_far = c.loop-i.invariant plain in
    let high : List ℕ = c.if-i-eq0.first.now in
    let none : c.loop-i.i ≡ 0 → high ≡ capital_digit (get_or c.args.bytes.now c.loop-i.i 0 / 16) ∷ [] = search rules in
    let one : (c.loop-i.i ≡ 0 → ⊥) → high ≡ 32 ∷ capital_digit (get_or c.args.bytes.now c.loop-i.i 0 / 16) ∷ [] = search rules in
    let first = c.in_ok-write_str.ensures.writes so_far.plain refl in
    let with_high = has_written_append _ _ _ _ _ _ so_far first in
    let second = rw c.digit_text.ensures at (c.in_ok-write_str-2.ensures.writes with_high.plain refl) in
    let all = has_written_append _ _ _ _ _ _ with_high second in
    has_written_of_eq _ _ _ _ _ (digits_more c.args.bytes.now c.loop-i.i high _ c.loop-i-test.true none one refl) all

pub returns : goal.returns
returns g c = λ plain _. has_written_of_eq _ _ _ _ _ (ap hex_of (take_all c.loop-i.i c.args.bytes.now c.loop-i-test.false)) (c.loop-i.invariant plain)
