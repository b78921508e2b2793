use Rattle.calendar.proofs.Facts.{entries_length, entries_high}
use Rattle.calendar.proofs.Calendar.entries_in_range.Goals as goal

pub returns : goal.returns
returns c = λ calendar. (entries_length calendar, entries_high calendar)
