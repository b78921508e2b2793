use Rattle.sending.proofs.Lives.{refused_keeps}
use Rattle.sending.proofs.Accepted.{accepted_left, refused_not_left}
use Rattle.sending.proofs.Deliveries.{messages_sent, messages_on_time}
use Rattle.sending.proofs.Lefts.{only_left_messages}
use Rattle.sending.proofs.Opportunities.{first_starts}
use Rattle.sending.proofs.Ends.{messages_end}
use Rattle.sending.proofs.laws.the_messages.Goals as goal

pub returns : goal.returns
returns c = record {
  refused = refused_keeps;
  accepted = accepted_left;
  not_left = refused_not_left;
  sent = messages_sent;
  on_time = messages_on_time;
  only = only_left_messages;
  first = first_starts;
  end = messages_end;
}
