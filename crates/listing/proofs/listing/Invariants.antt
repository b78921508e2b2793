use Rattle.std.proofs.Common.{◌≡◌}
use Rattle.std.specs.List.{flat_map}
use Rattle.calendar.specs.Entries.{entries_of}
use Rattle.listing.specs.Lines.{client_line}
use Rattle.text_out.specs.Wrote.{Puts}
use Rattle.listing.proofs.listing.Given as goal

-- the lines of the clients so far are written
abbrev pub invariant-loop-client : goal.invariant-loop-client
invariant-loop-client l = record {
  same : l.text.places.ghost_name ≡ l.initial.text.places.ghost_name;
  so_far :
      Puts l.initial.text.len (flat_map (client_line (entries_of l.calendar)) l.yielded)
      l.initial.text.places.now l.text.places.now l.text.len;
}
