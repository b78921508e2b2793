-- What waits, and what the lines that are left bring, is what all lines bring; and the first line that is not taken is among them.
use Rattle.std.proofs.Common.{◌≡◌, ◌+◌, ◌≤◌, length}
use Rattle.calendar.specs.Entries.{entries_of}
use Rattle.client_queues.specs.Waiting.{waiting_in}
use Rattle.packet_lines.specs.Lines.{text_lines}
use Rattle.packet_lines.specs.Reading.{first_bad, joined_lists, lists_of}
use Rattle.packet_lines.proofs.read.Given as goal

abbrev pub invariant-loop-rest : goal.invariant-loop-rest
invariant-loop-rest l =
    record {
      lists : joined_lists (waiting_in l.queues) (lists_of (entries_of l.calendar) (text_lines l.rest)) ≡ lists_of (entries_of l.calendar) (text_lines l.fn.text);
      bad : first_bad (entries_of l.calendar) (l.number + 1) (text_lines l.rest) ≡ first_bad (entries_of l.calendar) 1 (text_lines l.fn.text);
      short : l.number + length l.rest ≤ length l.fn.text;
    }

abbrev pub decreases-loop-rest : goal.decreases-loop-rest
decreases-loop-rest l = length l.rest
