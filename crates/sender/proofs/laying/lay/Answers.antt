-- Slot by slot, the pairs laid and the lists left are those of the calendar's entries so far.
use Rattle.std.proofs.Common.{◌≡◌, ℕ, ◌+◌, List, [], ◌∷◌, length, sym, ap, ◌∙◌, arith, length-append}
use Rattle.std.proofs.lemmas.List.{length-map}
use Rattle.port.specs.Model.{Lists}
use Rattle.numbers.specs.Entries.{entry_of}
use Rattle.calendar.specs.Entries.{entries_of}
use Rattle.sending.specs.Laid.{lists_after_slot, pair_for}
use Rattle.sender.proofs.SlotsLaid.{all_laid, none_laid, next_laid}
use Rattle.sender.proofs.laying.lay.Goals as goal

pub loop-slot-init : goal.loop-slot-init
loop-slot-init g c = none_laid _ _ _ _ (c.into_iter-slot-iterator.ensures.into_iter_gives ∙ c.all-slot-items.ensures) c.requires

pub loop-slot-preserved : goal.loop-slot-preserved
loop-slot-preserved g c =
    let v : Lists = g.I.Inlet.waiting c.loop-slot.inlet in
    next_laid (entries_of c.args.calendar.now) (length c.loop-slot.yielded) _ _ v _ c.loop-slot.frame _ c.loop-slot.slot-iterator _ c.in-Some.slot c.pair_for-pair.result
    (length-append c.loop-slot.yielded (c.in-Some.slot ∷ []))
    (length-map c.args.calendar.now.entries entry_of ∙ c.args.calendar.now.full)
    c.loop-slot.invariant
    c.in-Some.ensures.steps
    (c.pair_for-pair.ensures.pair ∙ ap (λ (e : ℕ). pair_for e v) c.client.ensures.value)
    (c.pair_for-pair.ensures.left ∙ ap (λ (e : ℕ). lists_after_slot e v) c.client.ensures.value)
    c.write_pair.ensures.written
    c.write_pair.ensures.slots

pub returns-clause-laid : goal.returns-clause-laid
returns-clause-laid g c =
    (all_laid _ _ _ _ _ _ (length-map c.args.calendar.now.entries entry_of ∙ c.args.calendar.now.full) c.loop-slot.invariant c.in-None.ensures.steps.0).0

pub returns-clause-left : goal.returns-clause-left
returns-clause-left g c =
    (all_laid _ _ _ _ _ _ (length-map c.args.calendar.now.entries entry_of ∙ c.args.calendar.now.full) c.loop-slot.invariant c.in-None.ensures.steps.0).1
