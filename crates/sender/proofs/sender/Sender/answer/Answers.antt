-- An answer makes a life longer by one, and is refused only where a delay message waits.
use Rattle.std.proofs.Common.{Some, rules}
use Rattle.message.specs.declared.Kind.TheVariants.{TwoDmr}
use Rattle.collector.specs.Reply.{reply_values}
use Rattle.sender.proofs.Behind.{leave_lengthens}
use Rattle.sender.proofs.Refused.{only_waits}
use Rattle.sender.proofs.sender.Sender.answer.Goals as goal

pub returns-clause-only : goal.returns-clause-only
returns-clause-only c =
    only_waits _ c.args.question.time c.args.received c.args.sent _ (c.answer.ensures.lawful c.args.question.time c.args.received c.args.sent c.answer.ensures.long (search rules) (search rules)) c.answer.ensures.answer

pub returns-clause-life : goal.returns-clause-life
returns-clause-life c =
    leave_lengthens c.args.self.now _ (Some TwoDmr) (reply_values c.args.question.time c.args.received c.args.sent) c.self.view_is c.answer.ensures.left
