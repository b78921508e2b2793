-- The frame that is begun, its first block, and the sender behind that.
use Rattle.std.proofs.Common.{◌≡◌, ℕ, List, Some, Option, IsSome, refl, sym, subst, ap, ◌∙◌}
use Rattle.std.proofs.lemmas.Option.{same_Some}
use Rattle.block.specs.declared.Block.{Block}
use Rattle.block.specs.declared.Pair.{Pair}
use Rattle.block.specs.Fixed.{start_block}
use Rattle.calendar.specs.Entries.{entries_of}
use Rattle.numbers.specs.Entries.{entry_of}
use Rattle.overhead.specs.Format.{Fields}
use Rattle.whole_frame.specs.Meaning.{frame_written}
use Rattle.under_way.specs.Departure.{Departure}
use Rattle.sending.specs.Laid.{pairs_for}
use Rattle.sending.specs.Sender.{Sender, with_state}
use Rattle.sender.proofs.Behind.{announced_fields, frame_behind, start_comes}
use Rattle.sender.proofs.sender.Sender.begin_frame.Goals as goal

pub unwrap-requires : goal.unwrap-requires
unwrap-requires g c =
    let f = announced_fields (entries_of c.self.inside.calendar) _ _ _ c.client-announced.ensures.value c.slot.ensures.value in
    let begun = ap (λ (d : Departure). d.rest) c.begin.ensures.begun in
    let e : c.next.result ≡ Some start_block = start_comes _ _ _ c.next.result _ _ f begun c.next.ensures.first in
    let P : Option Block → Type 0 = λ o. IsSome o in
    subst P (sym e) refl

pub returns-clause-block : goal.returns-clause-block
returns-clause-block g c =
    let f = announced_fields (entries_of c.self.inside.calendar) _ _ _ c.client-announced.ensures.value c.slot.ensures.value in
    let begun = ap (λ (d : Departure). d.rest) c.begin.ensures.begun in
    let e : c.next.result ≡ Some start_block = start_comes _ _ _ c.next.result _ _ f begun c.next.ensures.first in
    same_Some _ _ (sym c.unwrap.ensures ∙ e)

pub returns-clause-sender : goal.returns-clause-sender
returns-clause-sender g c =
    let cal : List ℕ = entries_of c.self.inside.calendar in
    let f = announced_fields cal _ _ _ c.client-announced.ensures.value c.slot.ensures.value in
    let fields_then : Fields = record { entry = entry_of c.client-announced.result; frame = c.self.inside.number } in
    let begun : c.begin.new.self.rest ≡ frame_written fields_then (pairs_for cal (g.I.Inlet.waiting c.args.inlet.now)) =
    ap (λ (d : Departure). d.rest) c.begin.ensures.begun
    ∙ ap (λ (d : Departure). frame_written fields_then d.pairs) c.lay.ensures.laid in
    let v : Sender = record {
      made = record { calendar = cal; trail = c.self.inside.trail };
      state = record { rest = c.self.inside.frame.rest; position = c.self.inside.position; number = c.self.inside.number; left = c.self.inside.messages };
    } in
    ap (λ (d : Departure). with_state v (record v.state { rest = d.rest; number = c.next-self-inside.result })) c.next.ensures.rest
    ∙ frame_behind v c.args.self.now (g.I.Inlet.waiting c.args.inlet.now) fields_then c.begin.new.self.rest c.next-self-inside.result c.self.view_is f begun
    c.next-self-inside.ensures.value
