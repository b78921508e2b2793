use Rattle.sending.proofs.Lives.{calls_lengthen}
use Rattle.sending.proofs.laws.the_calls.Goals as goal

pub returns : goal.returns
returns c = calls_lengthen
