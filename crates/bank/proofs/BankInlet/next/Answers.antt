use Rattle.std.proofs.Common.{length, sym, refl, ap, ◌∙◌, arith, rules}
use Rattle.port.specs.Model.{Holding}
use Rattle.bank.specs.Lists.{bank_lists, free_in}
use Rattle.port.proofs.Lists.{none_first}
use Rattle.bank.specs.Whole.{bank_after_next}
use Rattle.bank.proofs.Blocks.{bank_by, held_by, nothing_without_places, none_freed, nothing_counted, first_read_by, first_freed_by, next_rings}
use Rattle.bank.proofs.BankInlet.next.Goals as goal

pub returns-in_err-start : goal.returns-in_err-start
returns-in_err-start c =
    let e = nothing_without_places c.args.self.now.width c.args.client c.args.self.now.memory.now c.args.self.now.rings c.in_err-start.ensures in
    let h = none_freed (bank_lists c.args.self.now) (free_in c.args.self.now.width (length c.args.self.now.memory.now) c.args.self.now.rings) c.args.client e in
    record {
      first = c.from_residual.ensures ∙ none_first (bank_lists c.args.self.now) c.args.client e;
      rest = ap (λ (h : Holding). h.held) h;
      contents = ap (held_by _ _) h;
      whole = ap (λ answer. bank_after_next answer c.args.client c.args.self.now) (sym c.from_residual.ensures);
    }

pub returns-then-count-eq0 : goal.returns-then-count-eq0
returns-then-count-eq0 c =
    let e = nothing_counted c.args.self.now.width c.args.client c.in_ok-start.start c.args.self.now.memory.now c.args.self.now.rings c.in_ok-start.ensures c.ring-ring.ensures.range c.ring-ring.result c.min-count.result c.ring-ring.ensures.value c.min-count.ensures (omega arith) in
    let h = none_freed (bank_lists c.args.self.now) (free_in c.args.self.now.width (length c.args.self.now.memory.now) c.args.self.now.rings) c.args.client e in
    record {
      first = none_first (bank_lists c.args.self.now) c.args.client e;
      rest = ap (λ (h : Holding). h.held) h;
      contents = ap (held_by _ _) h;
      whole = refl;
    }

pub returns : goal.returns
returns c =
    let left = next_rings c.args.self.now.width c.args.client c.in_ok-start.start c.args.self.now.memory.now c.args.self.now.rings c.in_ok-start.ensures c.ring-ring.ensures.range c.ring-ring.result c.index.result c.place-2.result c.min-count.result c.ring-ring.ensures.value c.index.ensures.value c.place-2.ensures c.min-count.ensures in
    let h = first_freed_by c.args.self.now.width c.args.client c.in_ok-start.start c.args.self.now.memory.now c.args.self.now.rings c.in_ok-start.ensures c.ring-ring.ensures.range (search rules) c.ring-ring.result c.min-count.result _ c.ring-ring.ensures.value c.min-count.ensures (omega arith) left in
    record {
      first = first_read_by c.args.self.now.width c.args.client c.in_ok-start.start c.args.self.now.memory.now c.args.self.now.rings c.in_ok-start.ensures c.ring-ring.ensures.range c.ring-ring.result c.place.result _ c.ring-ring.ensures.value c.place.ensures (omega arith);
      rest = ap (λ (h : Holding). h.held) h;
      contents = ap (held_by _ _) h;
      whole = bank_by c.args.self.now _ _ _ _ refl left;
    }
