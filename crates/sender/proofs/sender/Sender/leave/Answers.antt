-- A leaving makes a life longer by one.
use Rattle.std.proofs.Common.{Some, refl}
use Rattle.sender.proofs.Behind.{leave_lengthens}
use Rattle.sender.proofs.sender.Sender.leave.Goals as goal

pub returns-clause-life : goal.returns-clause-life
returns-clause-life c = leave_lengthens c.args.self.now _ (Some c.args.kind) c.args.values.now c.self.view_is c.leave.ensures.left
