use Rattle.std.proofs.Common.{◌≡◌}
use Rattle.calendar.specs.Entries.{entries_of}
use Rattle.sheet.proofs.Verdicts.{read_every, read_only}
use Rattle.sheet.proofs.read.Goals as goal

pub returns : goal.returns
returns c =
    record {
      equals = c.read_lines.ensures;
      only = read_only (c.read_lines.new.calendar ≡ c.args.calendar.now) c.read_lines.result c.args.sheet.now (entries_of c.read_lines.new.calendar) c.read_lines.ensures;
      every = read_every (c.read_lines.new.calendar ≡ c.args.calendar.now) c.read_lines.result c.args.sheet.now (entries_of c.read_lines.new.calendar) c.read_lines.ensures;
    }
