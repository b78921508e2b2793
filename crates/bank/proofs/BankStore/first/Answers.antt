use Rattle.std.proofs.Common.{◌∙◌, arith}
use Rattle.bank.specs.Lists.{bank_lists}
use Rattle.port.proofs.Lists.{none_first}
use Rattle.bank.proofs.Blocks.{nothing_without_places, nothing_counted, first_read_by}
use Rattle.bank.proofs.BankStore.first.Goals as goal

pub returns-in_err-start : goal.returns-in_err-start
returns-in_err-start c =
    let e = nothing_without_places c.args.self.now.width c.args.client c.args.self.now.memory.now c.args.self.now.rings c.in_err-start.ensures in
    c.from_residual.ensures ∙ none_first (bank_lists c.args.self.now) c.args.client e

pub returns-then-min-eq0 : goal.returns-then-min-eq0
returns-then-min-eq0 c =
    let e = nothing_counted c.args.self.now.width c.args.client c.in_ok-start.start c.args.self.now.memory.now c.args.self.now.rings c.in_ok-start.ensures c.ring-ring.ensures.range c.ring-ring.result c.min.result c.ring-ring.ensures.value c.min.ensures (omega arith) in
    none_first (bank_lists c.args.self.now) c.args.client e

pub returns : goal.returns
returns c = first_read_by c.args.self.now.width c.args.client c.in_ok-start.start c.args.self.now.memory.now c.args.self.now.rings c.in_ok-start.ensures c.ring-ring.ensures.range c.ring-ring.result c.place.result _ c.ring-ring.ensures.value c.place.ensures (omega arith)
