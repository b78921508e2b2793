use Rattle.std.proofs.Common.{◌≡◌, true, refl, arith}
use Rattle.std.proofs.lemmas.Bool.Decides.{nat_tests}
use Rattle.std.proofs.lemmas.List.Elements.{All-replicate}
use Rattle.numbers.specs.Entries.{is_entry}
use Rattle.calendar.proofs.Calendar.empty.Goals as goal

pub invariant_of-result : goal.invariant_of-result
invariant_of-result c = record { full = refl; in_range = All-replicate (λ o. is_entry o ≡ true) 480 _ (grind (arith, nat_tests)) }
