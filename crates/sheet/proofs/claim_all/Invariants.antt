use Rattle.std.proofs.Common.{◌≡◌, ℕ, ◌≤◌, length}
use Rattle.calendar.specs.Entries.{entries_of}
use Rattle.sheet.specs.Verdict.{claims_of}
use Rattle.sheet.specs.Groups.{claim_of}
use Rattle.sheet.proofs.Behind.{behind}
use Rattle.sheet.proofs.claim_all.Given as goal

abbrev pub invariant-loop-group : goal.invariant-loop-group
invariant-loop-group l =
    (k : ℕ) × (length l.rest ≤ k)
    × (claims_of l.client l.text (entries_of l.initial.draft) ≡ behind k l.client l.rest (claim_of (entries_of l.draft) l.claims))

abbrev pub decreases-loop-group : goal.decreases-loop-group
decreases-loop-group l = length l.rest
