use Rattle.std.proofs.Common.{refl, arith, length-set, rules}
use Rattle.std.proofs.lemmas.Bool.{le-leb}
use Rattle.std.proofs.lemmas.Option.{MatchOption-at_some}
use Rattle.bank.proofs.Blocks.{bank_by, contents_by, pair_put_by, put_memory, put_rings}
use Rattle.bank.proofs.BankOutlet.put.Goals as goal

pub returns : goal.returns
returns c =
    let bank = c.args.self.now in
    let at = MatchOption-at_some _ _ _ c.in_ok-start.ensures.ok_part c.area.ensures in
    let memory = put_memory bank.width c.args.client c.in_ok-start.start bank.memory.now bank.rings at c.ring-ring.ensures.range c.ring-ring.result c.place-p.result c.place-q.result c.args.pair c.ring-ring.ensures.value c.place-p.ensures c.place-q.ensures in
    let rings = put_rings bank.width c.args.client c.in_ok-start.start bank.memory.now bank.rings at c.ring-ring.ensures.range c.ring-ring.result c.index.result c.ring-ring.ensures.value c.index.ensures.value in
    let m = pair_put_by bank.width c.args.client c.in_ok-start.start bank.memory.now bank.rings at c.ring-ring.ensures.range (search rules) c.ring-ring.result c.args.pair _ _ c.ring-ring.ensures.value (omega arith) memory rings in
    record {
      answer = rw (le-leb 2 _ m.0.room) refl;
      put = m.0;
      contents = contents_by _ _ _ _ _ (simp length-set) m.1;
      whole = bank_by bank _ _ _ _ memory rings;
    }
