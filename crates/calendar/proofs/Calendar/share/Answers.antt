use Rattle.std.proofs.Common.{sym, ◌∙◌}
use Rattle.calendar.proofs.Shares.{no_share, some_share}
use Rattle.calendar.proofs.Calendar.share.Goals as goal

pub returns-in-Some : goal.returns-in-Some
returns-in-Some c =
    let s = some_share c.args.client c.in-Some.first c.count_from.result c.number.ensures.range.0 c.args.self.now.entries (sym c.first_index.ensures.value ∙ c.in-Some.is) c.count_from.ensures in
    record { count = s.0; first = s.1; law = s.2; client_range = c.number.ensures.range }

pub returns-in-None : goal.returns-in-None
returns-in-None c =
    let n = no_share c.args.client c.number.ensures.range.0 c.args.self.now.entries (sym c.first_index.ensures.value ∙ c.in-None.is) in
    record { count = n.0; first = n.1; law = n.2; client_range = c.number.ensures.range }
