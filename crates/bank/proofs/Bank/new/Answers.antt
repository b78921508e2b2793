use Rattle.std.proofs.Common.{ap, refl}
use Rattle.bank.proofs.Blocks.{held_by, new_bank}
use Rattle.bank.proofs.Bank.new.Goals as goal

pub returns : goal.returns
returns c = record { whole = refl; contents = ap (held_by _ _) (new_bank c.args.width c.args.memory.now) }
