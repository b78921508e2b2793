-- A send makes a life longer by one.
use Rattle.std.proofs.Common.{rules}
use Rattle.sending.proofs.Lives.{lengthens}
use Rattle.sender.proofs.sender.Sender.send.Goals as goal

pub returns-in-Some-clause-life : goal.returns-in-Some-clause-life
returns-in-Some-clause-life g c = lengthens c.args.self.now _ _ _ (search rules) (search rules)

pub returns-clause-life : goal.returns-clause-life
returns-clause-life g c = lengthens c.args.self.now _ _ _ (search rules) (search rules)
