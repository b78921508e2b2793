use Rattle.std.proofs.Common.{◌≡◌, ◌+◌, ◌≤◌, length, replicate}
use Rattle.calendar.specs.Entries.{entries_of}
use Rattle.form.specs.Marks.{lines}
use Rattle.sheet.specs.Verdict.{lines_verdict}
use Rattle.sheet.proofs.read_lines.Given as goal

abbrev pub invariant-loop-rest : goal.invariant-loop-rest
invariant-loop-rest l = record {
  lines_verdict : lines_verdict 1 (replicate 480 0) (lines l.sheet) ≡ lines_verdict l.number (entries_of l.draft) (lines l.rest);
  short : l.number + length l.rest ≤ length l.sheet + 1;
}

abbrev pub decreases-loop-rest : goal.decreases-loop-rest
decreases-loop-rest l = length l.rest
