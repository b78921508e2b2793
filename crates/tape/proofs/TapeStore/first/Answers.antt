use Rattle.std.proofs.Common.{◌∙◌, arith}
use Rattle.queue.specs.Entries.{entries}
use Rattle.tape.proofs.Tagged.{first_by}
use Rattle.tape.proofs.TapeStore.first.Goals as goal

pub returns : goal.returns
returns c = first_by (entries c.args.self.now.queue) c.args.client _ _ c.in_ok-entry.ensures (omega arith)

pub returns-in_err-entry : goal.returns-in_err-entry
returns-in_err-entry c = c.from_residual.ensures ∙ first_by (entries c.args.self.now.queue) c.args.client _ _ c.in_err-entry.ensures (omega arith)
