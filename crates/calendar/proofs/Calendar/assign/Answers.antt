use Rattle.std.proofs.Common.{◌≡◌, ◌-◌, Some, arith}
use Rattle.std.proofs.lemmas.List.{map-set}
use Rattle.numbers.specs.Entries.{entry_of}
use Rattle.calendar.proofs.Calendar.assign.Goals as goal

pub returns-clause-value : goal.returns-clause-value
returns-clause-value c =
    let e : c.args.slot - 1 ≡ c.index-i.result = omega arith in
    rw e (map-set entry_of c.args.self.now.entries c.index-i.result (Some c.args.client))
