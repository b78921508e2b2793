use Rattle.std.proofs.Common.{◌≡◌, length, Some, None, sym, refl, ap, ◌∙◌, arith}
use Rattle.std.proofs.lemmas.Result.{err_from_is_err_and}
use Rattle.calendar.specs.Entries.{entries_of}
use Rattle.form.specs.Marks.{first_line}
use Rattle.form.specs.Reads.{line_by}
use Rattle.form.proofs.Lines.{rest_shorter}
use Rattle.sheet.proofs.Steps.{copied_none, copied_some, line_read, line_refused, mark_refused}
use Rattle.sheet.proofs.read_line.Goals as goal

pub returns-in_err-line-clause-fault : goal.returns-in_err-line-clause-fault
returns-in_err-line-clause-fault c =
    let p = err_from_is_err_and c.from_residual.result c.from_residual.ensures.1 in
    rw (p.1, p.2) (λ n. mark_refused n (entries_of c.args.draft.now) c.args.sheet.now c.requires (sym c.in_err-line.ensures.marks))

pub returns-in_err-ok_or-clause-fault : goal.returns-in_err-ok_or-clause-fault
returns-in_err-ok_or-clause-fault c =
    let p = err_from_is_err_and c.from_residual-in_err-ok_or.result c.from_residual-in_err-ok_or.ensures.1 in
    let xs = c.args.sheet.now in
    let none = copied_none c.in_ok-line.line _ _ (sym c.ok_or.ensures.value ∙ c.in_err-ok_or.was) in
    let is : (line_by xs None, c.in_ok-line.rest.now) ≡ first_line xs = rw none at c.in_ok-line.ensures.line in
    rw (p.1, p.2) (λ n. line_refused n (entries_of c.args.draft.now) xs c.requires (line_by xs None) c.in_ok-line.rest.now is (sym c.in_ok-line.ensures.marks) _ refl)

pub returns-in_err-lease-clause-fault : goal.returns-in_err-lease-clause-fault
returns-in_err-lease-clause-fault c =
    let p = err_from_is_err_and c.from_residual-in_err-lease.result c.from_residual-in_err-lease.ensures.1 in
    let xs = c.args.sheet.now in
    let text = c.in_ok-ok_or.field-0.now in
    let some = copied_some c.in_ok-line.line _ _ (sym c.ok_or.ensures.value ∙ c.in_ok-ok_or.was) in
    let is : (line_by xs (Some text), c.in_ok-line.rest.now) ≡ first_line xs = rw some at c.in_ok-line.ensures.line in
    rw (p.1, p.2)
    (λ n. line_refused n (entries_of c.args.draft.now) xs c.requires (line_by xs (Some text)) c.in_ok-line.rest.now is (sym c.in_ok-line.ensures.marks) _ (c.in_err-lease.ensures.fault n))

pub returns-clause-read : goal.returns-clause-read
returns-clause-read c =
    let xs = c.args.sheet.now in
    let text = c.in_ok-ok_or.field-0.now in
    let some = copied_some c.in_ok-line.line _ _ (sym c.ok_or.ensures.value ∙ c.in_ok-ok_or.was) in
    let is : (line_by xs (Some text), c.in_ok-line.rest.now) ≡ first_line xs = rw some at c.in_ok-line.ensures.line in
    λ n. line_read n (entries_of c.args.draft.now) xs c.requires (line_by xs (Some text)) c.in_ok-line.rest.now is (sym c.in_ok-line.ensures.marks) (entries_of c.lease.new.draft) (c.in_ok-lease.ensures.read n)

pub returns-clause-shorter : goal.returns-clause-shorter
returns-clause-shorter c =
    let xs = c.args.sheet.now in
    let rest : length c.in_ok-line.rest.now ≡ length (first_line xs).1 = ap (λ q. length q.1) c.in_ok-line.ensures.line in
    omega (arith, rest_shorter xs c.requires)
