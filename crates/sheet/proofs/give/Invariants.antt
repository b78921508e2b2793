use Rattle.std.proofs.Common.{◌≡◌, ◌-◌, length, take, drop}
use Rattle.calendar.specs.Entries.{entries_of}
use Rattle.sheet.specs.Verdict.{entries_with_slots, has_filled_entry}
use Rattle.sheet.proofs.give.Given as goal

-- the slots so far are given
abbrev pub invariant-loop-slot : goal.invariant-loop-slot
invariant-loop-slot l = record {
  entries : entries_of l.draft ≡ entries_with_slots l.client (l.fn.first - 1) (length l.yielded) (entries_of l.initial.draft);
  again : l.again ≡ has_filled_entry (take (length l.yielded) (drop (l.fn.first - 1) (entries_of l.initial.draft)));
}
