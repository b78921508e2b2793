-- A leaving makes a life longer by one.
use Rattle.std.proofs.Common.{refl}
use Rattle.message.specs.Kinds.{kind_of}
use Rattle.sender.proofs.Behind.{leave_lengthens}
use Rattle.sender.proofs.sender.Sender.leave_code.Goals as goal

pub returns-clause-life : goal.returns-clause-life
returns-clause-life c = leave_lengthens c.args.self.now _ (kind_of c.args.code) c.args.values.now c.self.view_is c.leave_code.ensures.left
