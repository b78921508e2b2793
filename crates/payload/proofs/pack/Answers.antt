use Rattle.std.proofs.Common.{◌≡◌, ℕ, ◌+◌, ◌*◌, List, get_or, sym, ap, ◌∙◌, subst, arith}
use Rattle.std.specs.List.{flat_map}
use Rattle.std.proofs.lemmas.List.{get_or_default, take_all}
use Rattle.block.specs.declared.Pair.{Pair}
use Rattle.bits.specs.Bits.{bits}
use Rattle.bits.specs.Splices.{splice}
use Rattle.block.specs.Whole.{WholePair}
use Rattle.payload.specs.Pairs.{pair_bits}
use Rattle.bits.proofs.Places.{length_bits}
use Rattle.payload.proofs.Slots.{below_two, blank, packed_two, pairs_packed, payload_is}
use Rattle.payload.proofs.pack.Goals as goal

pub loop-two-preserved : goal.loop-two-preserved
loop-two-preserved c =
    let t : ℕ = c.loop-two.two in
    let ps : List Pair = c.args.pairs.now in
    let p : List ℕ = c.loop-two.payload in
    let q : List ℕ = c.write_at.new.payload in
    let r : List ℕ = c.write_at-in-loop-two.new.payload in
    let a : bits q ≡ splice (132 * (2 * t)) (pair_bits (get_or ps (2 * t) blank)) (bits p) =
    c.write_at.ensures.sent ∙ ap (λ (n : ℕ). splice n (pair_bits (get_or ps (2 * t) blank)) (bits p)) c.of_slot.ensures in
    let b : bits r ≡ splice (132 * (2 * t + 1)) (pair_bits (get_or ps (2 * t + 1) blank)) (bits q) =
    c.write_at-in-loop-two.ensures.sent
    ∙ ap (λ (n : ℕ). splice n (pair_bits (get_or ps (2 * t + 1) blank)) (bits q)) c.of_slot-in-loop-two.ensures in (
      packed_two ps t p q r c.told-pairs c.loop-two-test.true c.loop-two.invariant.1 c.write_at.array_long
          c.write_at.ensures.whole c.write_at-in-loop-two.ensures.whole a b c.loop-two.invariant.0,
      c.write_at-in-loop-two.array_long,
      below_two (λ j. WholePair (get_or ps j blank)) t c.loop-two.invariant.2 c.write_at.ensures.whole c.write_at-in-loop-two.ensures.whole,
    )

pub returns : goal.returns
returns c =
    let p : List ℕ = c.loop-two.payload in
    let ps : List Pair = c.args.pairs.now in
    let h = c.loop-two.invariant.1 in
    let sent : bits c.loop-two.payload ≡ flat_map pair_bits c.args.pairs.now =
    sym (take_all (132 * (2 * c.loop-two.two)) (bits p) (omega (arith, length_bits c.loop-two.payload))) ∙ c.loop-two.invariant.0
    ∙ ap (λ (z : List Pair). flat_map pair_bits z) (take_all (2 * c.loop-two.two) ps (omega arith)) in
    record {
      made = payload_is p ps h c.hold_bytes.ensures sent;
      sent = sent;
      whole = λ j d l. subst WholePair (get_or_default ps j blank d l) (c.loop-two.invariant.2 j (omega arith));
      undone = pairs_packed p ps blank c.told-pairs (λ j l. c.loop-two.invariant.2 j (omega arith)) sent;
    }
