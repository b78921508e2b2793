use Rattle.std.proofs.Common.{◌≡◌, length, take, sym, refl, inr, ◌∙◌, arith}
use Rattle.std.proofs.lemmas.List.{length-take-le}
use Rattle.std.proofs.lemmas.Result.{err_from_is_err_and}
use Rattle.packets.proofs.Printed.{carried_by, fresh_left, fresh_reach, places_are, refused_by}
use Rattle.packets.proofs.carry_line.Goals as goal

pub returns : goal.returns
returns g c =
    let packet = take c.in_ok-client.length c.read_packet.new.bytes in
    let long : length packet ≡ c.in_ok-client.length = length-take-le c.in_ok-client.length c.read_packet.new.bytes c.in_ok-client.ensures.within in
    let fresh = c.new-reader.ensures in
    let waits = g.I.Inlet.waiting c.args.inlet.now in
    rw c.in_ok-count.was
    (inr (
      c.in_ok-client.client,
      packet,
      c.in_ok-client.ensures.read,
      rw long
          (carried_by _ (omega arith) (places_are c.in_ok-count.count c.min-places.result _ c.min-places.ensures refl) (c.take_packet.ensures.left ∙ fresh_left c.new-reader.result _ _ _ waits fresh) (fresh_reach c.new-reader.result _ _ _ waits fresh)
          (sym c.in_ok-read.was ∙ c.take_packet.ensures.answer) c.in_ok-read.ensures.output c.carried_line.ensures.answer c.carried_line.ensures.output),
    ))

-- no packet is read
pub returns-in_err-read : goal.returns-in_err-read
returns-in_err-read g c =
    let packet = take c.in_ok-client.length c.read_packet.new.bytes in
    let fresh = c.new-reader.ensures in
    let waits = g.I.Inlet.waiting c.args.inlet.now in
    let p = err_from_is_err_and c.from_residual-in_err-read.result c.from_residual-in_err-read.ensures.1 in
    rw (c.in_ok-count.was, p.1, p.2)
    (inr (
      c.in_ok-client.client,
      packet,
      c.in_ok-client.ensures.read,
      refused_by (places_are c.in_ok-count.count c.min-places.result _ c.min-places.ensures refl) (c.take_packet.ensures.left ∙ fresh_left c.new-reader.result _ _ _ waits fresh) (fresh_reach c.new-reader.result _ _ _ waits fresh)
          c.in_err-read.ensures.answer,
    ))
