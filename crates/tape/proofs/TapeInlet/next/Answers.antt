use Rattle.std.proofs.Common.{◌∙◌, ap, arith, length-take, rules}
use Rattle.port.specs.Model.{Holding}
use Rattle.queue.specs.Entries.{entries, queue_contents}
use Rattle.tape.proofs.Tagged.{first_by, next_by}
use Rattle.tape.proofs.TapeInlet.next.Goals as goal

pub returns : goal.returns
returns c =
    let es = entries c.args.self.now.queue in
    let h = next_by es _ c.args.client c.number.result _ (queue_contents c.remove_first_with.new.self) c.number.ensures.value (omega (arith, length-take c.args.self.now.queue.len c.args.self.now.queue.places.now)) c.in_ok-entry.ensures.contents in
    record {
      first = first_by es c.args.client _ _ c.in_ok-entry.ensures.first (omega arith);
      rest = ap (λ (h : Holding). h.held) h;
      holding = h;
      contents = search rules;
    }

pub returns-in_err-entry : goal.returns-in_err-entry
returns-in_err-entry c =
    let es = entries c.args.self.now.queue in
    let h = next_by es _ c.args.client c.number.result _ (queue_contents c.remove_first_with.new.self) c.number.ensures.value (omega (arith, length-take c.args.self.now.queue.len c.args.self.now.queue.places.now)) c.in_err-entry.ensures.contents in
    record {
      first = c.from_residual.ensures ∙ first_by es c.args.client _ _ c.in_err-entry.ensures.first (omega arith);
      rest = ap (λ (h : Holding). h.held) h;
      holding = h;
      contents = search rules;
    }
