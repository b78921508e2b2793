use Rattle.std.proofs.Common.{◌≡◌, true, false, is_err, sym, ◌∙◌, add-zero, arith}
use Rattle.port.proofs.Chains.{offers_none, offers_more}
use Rattle.port.proofs.chain.put_offers.Goals as goal
use Rattle.port.proofs.chain.put_offers.Goals.{then-is_err, else-is_err}

pub loop-offer-init : goal.loop-offer-init
loop-offer-init g c = record { few = omega arith; so_far = offers_none }

pub loop-offer-preserved : goal.loop-offer-preserved
loop-offer-preserved g c =
    let so_far = offers_more c.args.offers.now c.loop-offer.offer-index _ _ (omega arith) c.offer-item.is c.loop-offer.invariant.so_far c.put.ensures.put in
    elim c.if-is_err.branch [
      | then-is_err w ↦
          let e : is_err c.put.result ≡ true = sym c.is_err.ensures.value ∙ w.if-is_err.true in
          rw w.refused-is (record { few = omega (arith, c.loop-offer.invariant.few); so_far = rw e at so_far })
      | else-is_err w ↦
          let e : is_err c.put.result ≡ false = sym c.is_err.ensures.value ∙ w.if-is_err.false in
          rw w.refused-is (record { few = omega (arith, c.loop-offer.invariant.few); so_far = rw (e, add-zero) at so_far })
    ]
