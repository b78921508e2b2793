use Rattle.std.proofs.Common.{◌≡◌, ℕ, ◌+◌, ◌-◌, ◌<◌, false, true, cond, eqb, List, [], ◌∷◌, ◌++◌, length, get_or, take, drop, length-append, refl, ap, sym, ◌∙◌, arith}
use Rattle.calendar.specs.Entries.{entries_of}
use Rattle.calendar.proofs.Facts.{entries_length}
use Rattle.numbers.proofs.Walks.{length-numbers_between, walk_end, walk_turn}
use Rattle.sheet.specs.Verdict.{has_filled_entry, entries_with_slots}
use Rattle.sheet.proofs.Gives.{gave_none, filled_more, slot_given, slot_read, some_entry, again_then, again_else}
use Rattle.sheet.proofs.give.Goals as goal
use Rattle.sheet.proofs.give.Goals.{then-is_some, else-is_some}

pub loop-slot-init : goal.loop-slot-init
loop-slot-init c = record { entries = gave_none c.args.client (c.args.first - 1) (entries_of c.args.draft.now); again = refl }

pub loop-slot-preserved : goal.loop-slot-preserved
loop-slot-preserved c =
    let es : List ℕ = entries_of c.args.draft.now in
    let now : List ℕ = entries_of c.loop-slot.draft in
    let a : ℕ = c.args.first - 1 in
    let n : ℕ = length c.loop-slot.yielded in
    let all = c.into_iter-slot-iterator.ensures.into_iter_gives ∙ c.to-slot-items.ensures.value in
    let turn = walk_turn c.args.first c.args.last all c.loop-slot.yielded _ c.loop-slot.yielded_by _ _ c.in-Some.slot c.in-Some.is c.next.ensures.steps in
    let place : c.in-Some.slot - 1 ≡ a + n = omega (arith, turn.place, c.to-slot-items.ensures.range) in
    let within : a + n < length es = omega (arith, turn.place, turn.high, c.to-slot-items.ensures.range, entries_length c.args.draft.now) in
    let more : n + 1 ≡ length (c.loop-slot.yielded ++ c.in-Some.slot ∷ []) = sym (length-append c.loop-slot.yielded (c.in-Some.slot ∷ [])) in
    let held : c.is_some.result ≡ cond (eqb (get_or es (a + n) 0) 0) false true =
    c.is_some.ensures ∙ some_entry c.client.result c.client.ensures.range
    ∙ ap (λ e. cond (eqb e 0) false true) (c.client.ensures.value ∙ slot_read c.args.client a n c.in-Some.slot es now place within c.loop-slot.invariant.entries) in
    let or : has_filled_entry (take (n + 1) (drop a es)) ≡ cond c.loop-slot.again true c.is_some.result =
    rw (c.loop-slot.invariant.again, held) (filled_more c.args.client a n es within) in
    record {
      entries =
          c.assign.ensures.value ∙ slot_given c.args.client a n c.in-Some.slot es now place within c.loop-slot.invariant.entries
          ∙ ap (λ m. entries_with_slots c.args.client a m es) more;
      again =
          elim c.if-is_some.branch [
            | then-is_some w ↦ w.again-is ∙ again_then c.loop-slot.again c.is_some.result _ or w.if-is_some.true
            | else-is_some w ↦ w.again-is ∙ again_else c.loop-slot.again c.is_some.result _ or w.if-is_some.false
          ]
          ∙ ap (λ m. has_filled_entry (take m (drop a es))) more;
    }

pub returns : goal.returns
returns c =
    let es : List ℕ = entries_of c.args.draft.now in
    let all = c.into_iter-slot-iterator.ensures.into_iter_gives ∙ c.to-slot-items.ensures.value in
    let yielded = walk_end c.args.first c.args.last all c.loop-slot.yielded _ c.loop-slot.yielded_by _ _ c.in-None.is c.next.ensures.steps in
    let long : length c.loop-slot.yielded ≡ c.args.last + 1 - c.args.first = ap length yielded ∙ length-numbers_between c.args.first c.args.last in
    record {
      entries = c.loop-slot.invariant.entries ∙ ap (λ n. entries_with_slots c.args.client (c.args.first - 1) n es) long;
      again = c.loop-slot.invariant.again ∙ ap (λ n. has_filled_entry (take n (drop (c.args.first - 1) es))) long;
    }
