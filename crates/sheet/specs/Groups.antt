-- How the reader's own values stand for groups and claims.
use Rattle.std.specs.Prelude.{ℕ, List}
use Rattle.form.specs.declared.Group.{Group}
use Rattle.form.specs.Lease as lease
use Rattle.sheet.specs.declared.Claims.{Claims}
use Rattle.sheet.specs.Verdict.{Claim}

-- a group as the form level reads it
abbrev pub group_of : Group → lease.Group
group_of g = record { first = g.first; last = g.last }

-- a draft calendar's entries with the claims of a line's groups
abbrev pub claim_of : List ℕ → Claims → Claim
claim_of es k = record { entries = es; lawful = k.lawful; twice = k.twice }
