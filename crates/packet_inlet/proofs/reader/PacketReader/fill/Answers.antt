use Rattle.std.proofs.Common.{refl, arith}
use Rattle.packet_inlet.proofs.Held.{filling_all, filling_more, filling_none, filling_out}
use Rattle.packet_inlet.proofs.reader.PacketReader.fill.Goals as goal

pub loop-place-init : goal.loop-place-init
loop-place-init g c = filling_none _ _ _ (omega arith)

pub loop-place-preserved : goal.loop-place-preserved
loop-place-preserved g c =
    filling_more c.loop-place.place _ c.args.self.now c.loop-place.self _ _ _ _ _ c.loop-place.invariant (omega (arith, c.loop-place.invariant.places))
    c.in-Some.ensures.first c.next.ensures.rest (omega arith) refl refl refl (omega (arith, c.loop-place.invariant.places))

pub returns-in_default : goal.returns-in_default
returns-in_default g c =
    let out = filling_out c.loop-place.place c.args.self.now c.loop-place.self _ _ c.loop-place.invariant _ (omega arith) c.in_default.ensures.first c.next.ensures.rest in
    record { contents = out.0; left = out.1 }

pub returns : goal.returns
returns g c =
    let all = filling_all c.loop-place.place c.args.self.now c.loop-place.self _ _ c.loop-place.invariant (omega (arith, c.args.self.now.within)) in
    record { contents = all.0; left = all.1 }
