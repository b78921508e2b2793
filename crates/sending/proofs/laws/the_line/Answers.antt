use Rattle.sending.proofs.Lines.{lined}
use Rattle.sending.proofs.Places.{items_in_place, gaps_never_start, gaps_never_end, cycles_whole}
use Rattle.sending.proofs.Runs.{runs_lined, cycle_blocks}
use Rattle.sending.proofs.laws.the_line.Goals as goal

pub returns : goal.returns
returns c = record {
  blocks = lined;
  runs = runs_lined;
  places = items_in_place;
  gaps = gaps_never_start;
  gaps_end = gaps_never_end;
  cycles = cycles_whole;
  cycle_blocks = cycle_blocks;
}
