use Rattle.std.proofs.Common.{◌≡◌, ℕ, List, sym, ap, ◌∙◌, subst, arith}
use Rattle.std.specs.List.{All}
use Rattle.block.specs.Whole.{WholePair}
use Rattle.payload.proofs.Payloads.{pairs_whole}
use Rattle.payload.specs.Payloads.{pairs_of, payload_of}
use Rattle.std.proofs.lemmas.List.{length-set}
use Rattle.payload.proofs.Slots.{blank, pair_at_is, pairs_are, unpacked_two, unpacking_undone}
use Rattle.payload.proofs.unpack.Goals as goal

pub loop-two-preserved : goal.loop-two-preserved
loop-two-preserved c =
    let t : ℕ = c.loop-two.two in
    let p : List ℕ = c.args.payload.now in (
      length-set _ _ _ ∙ length-set _ _ _ ∙ c.loop-two.invariant.0,
      unpacked_two c.loop-two.pairs t p c.read_at.result c.read_at-in-loop-two.result c.loop-two.invariant.0 c.loop-two-test.true
          c.loop-two.invariant.1
          (pair_at_is p _ _ c.read_at.result (c.of_slot.ensures ∙ omega arith) c.read_at.ensures.whole c.read_at.ensures.sent)
          (pair_at_is p _ _ c.read_at-in-loop-two.result (c.of_slot-in-loop-two.ensures ∙ omega arith)
          c.read_at-in-loop-two.ensures.whole c.read_at-in-loop-two.ensures.sent),
    )

pub returns : goal.returns
returns c =
    let p : List ℕ = c.args.payload.now in
    let made : c.loop-two.pairs ≡ pairs_of c.args.payload.now =
    pairs_are c.loop-two.pairs p blank c.loop-two.invariant.0 (λ i l. c.loop-two.invariant.1 i (omega arith)) in
    record {
      made = made;
      whole = subst (All WholePair) (sym made) (pairs_whole p);
      undone = ap payload_of made ∙ unpacking_undone p c.told-payload c.fits-payload;
    }
