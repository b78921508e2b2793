use Rattle.std.proofs.Common.{arith}
use Rattle.bank.proofs.Areas.{row_end, area_at, area_none}
use Rattle.bank.proofs.Bank.area.Goals as goal

pub overflow_sub-result : goal.overflow_sub-result
overflow_sub-result c = omega (arith, row_end c.number.result c.args.self.now.width (omega arith))

pub returns-then-end-places : goal.returns-then-end-places
returns-then-end-places c = area_at c.args.client c.number.result c.args.self.now.width _ c.number.ensures.value c.number.ensures.range.0 c.number.ensures.range.1 c.if-end-places.true

pub returns-else-end-places : goal.returns-else-end-places
returns-else-end-places c = area_none c.args.client c.number.result c.args.self.now.width _ c.number.ensures.value c.if-end-places.false
