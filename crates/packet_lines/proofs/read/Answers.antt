-- Each line is taken, or is the first that is not.
use Rattle.std.proofs.Common.{◌+◌, ◌++◌, length, refl, sym, ap, subst, ◌∙◌, arith}
use Rattle.std.proofs.lemmas.Result.{err_from_is_err_and}
use Rattle.calendar.specs.Entries.{entries_of}
use Rattle.client_queues.specs.Waiting.{waiting_in}
use Rattle.packet_lines.specs.Lines.{text_lines}
use Rattle.packet_lines.specs.Reading.{IsReason, joined_lists, lists_of}
use Rattle.packet_lines.proofs.Lines.{long_is, next_is, none_left, some_left}
use Rattle.packet_lines.proofs.Reading.{bad_behind, lists_behind, lists_end, reason_here}
use Rattle.packet_lines.proofs.read.Goals as goal

pub loop-rest-init : goal.loop-rest-init
loop-rest-init c =
    record {
      lists = ap (λ w. joined_lists w (lists_of (entries_of c.args.calendar.now) (text_lines c.args.text.now))) c.in_ok-queues.ensures;
      bad = refl;
      short = omega arith;
    }

pub returns-in_err-add_line-clause-error : goal.returns-in_err-add_line-clause-error
returns-in_err-add_line-clause-error c =
    let es = entries_of c.args.calendar.now in
    let rest = c.loop-rest.rest.now in
    let left = some_left (length rest) c.is_empty.result c.is_empty.ensures c.loop-rest-test.true in
    let first = next_is rest c.cut_line.result.0.now c.cut_line.result.1.now c.cut_line.ensures left in
    let p = err_from_is_err_and c.from_residual-in_err-add_line.result c.from_residual-in_err-add_line.ensures.1 in
    let here = reason_here es rest c.cut_line.result.0.now c.cut_line.result.1.now (c.loop-rest.number + 1) first c.in_err-add_line.field-0.0 c.in_err-add_line.ensures.error in
    rw p.1 (subst (λ bad. IsReason bad p.0) c.loop-rest.invariant.bad (rw p.2 here))

pub loop-rest-smaller : goal.loop-rest-smaller
loop-rest-smaller c =
    let rest = c.loop-rest.rest.now in
    let left = some_left (length rest) c.is_empty.result c.is_empty.ensures c.loop-rest-test.true in
    let long = long_is rest c.cut_line.result.0.now c.cut_line.result.1.now c.cut_line.ensures left in
    omega (arith, long)

pub loop-rest-preserved : goal.loop-rest-preserved
loop-rest-preserved c =
    let es = entries_of c.args.calendar.now in
    let rest = c.loop-rest.rest.now in
    let left = some_left (length rest) c.is_empty.result c.is_empty.ensures c.loop-rest-test.true in
    let first = next_is rest c.cut_line.result.0.now c.cut_line.result.1.now c.cut_line.ensures left in
    let long = long_is rest c.cut_line.result.0.now c.cut_line.result.1.now c.cut_line.ensures left in
    record {
      lists =
          ap (λ w. joined_lists w (lists_of es (text_lines c.cut_line.result.1.now))) c.in_ok-add_line.ensures.lists
          ∙ lists_behind es rest c.cut_line.result.0.now c.cut_line.result.1.now (c.loop-rest.number + 1) first (waiting_in c.loop-rest.queues)
          ∙ c.loop-rest.invariant.lists;
      bad =
          sym (bad_behind es rest c.cut_line.result.0.now c.cut_line.result.1.now (c.loop-rest.number + 1) first c.in_ok-add_line.ensures.taken)
          ∙ c.loop-rest.invariant.bad;
      short = omega (arith, long, c.loop-rest.invariant.short);
    }

pub returns-clause-lists : goal.returns-clause-lists
returns-clause-lists c =
    let rest = c.loop-rest.rest.now in
    let none = none_left (length rest) c.is_empty.result c.is_empty.ensures c.loop-rest-test.false in
    sym (lists_end (entries_of c.args.calendar.now) rest (waiting_in c.loop-rest.queues) none) ∙ c.loop-rest.invariant.lists
