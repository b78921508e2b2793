use Rattle.sending.proofs.Places.{slots_filled, frames_carry, takes_waiting, given_leaves, others_keep}
use Rattle.sending.proofs.Wholes.{laid_whole}
use Rattle.sending.proofs.Runs.{stretches_carry}
use Rattle.sending.proofs.laws.the_clients.Goals as goal

pub returns : goal.returns
returns c = record {
  slots = slots_filled;
  whole = laid_whole;
  carries = frames_carry;
  stretches = stretches_carry;
  waiting = takes_waiting;
  given = given_leaves;
  others = others_keep;
}
