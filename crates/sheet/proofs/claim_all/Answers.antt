use Rattle.std.proofs.Common.{ℕ, List, length, Some, sym, refl, ap, ◌∙◌, arith}
use Rattle.std.proofs.lemmas.Result.{err_from_is_err_and}
use Rattle.calendar.specs.Entries.{entries_of}
use Rattle.form.proofs.Texts.{group_shorter}
use Rattle.sheet.specs.Groups.{claim_of, group_of}
use Rattle.sheet.proofs.Behind.{behind, behind_none, behind_last, behind_next}
use Rattle.sheet.proofs.claim_all.Goals as goal

pub loop-group-init : goal.loop-group-init
loop-group-init c = (length c.args.text.now, omega arith, refl)

pub returns-in_err-group : goal.returns-in_err-group
returns-in_err-group c =
    let p = err_from_is_err_and c.from_residual.result c.from_residual.ensures.1 in
    let inv = c.loop-group.invariant in
    rw p.1 (inv.2 ∙ behind_none inv.0 c.args.client c.loop-group.rest.now (claim_of (entries_of c.loop-group.draft) c.loop-group.claims) c.in_err-group.ensures)

pub returns-then-closes : goal.returns-then-closes
returns-then-closes c =
    let inv = c.loop-group.invariant in
    inv.2
    ∙ behind_last inv.0 c.args.client c.loop-group.rest.now c.in_ok-group.behind.now (group_of c.in_ok-group.group)
    (claim_of (entries_of c.loop-group.draft) c.loop-group.claims) inv.1 c.in_ok-group.ensures (sym c.closes.ensures ∙ c.if-closes.true)
    ∙ ap Some (sym c.claim-claims.ensures)

pub loop-group-smaller : goal.loop-group-smaller
loop-group-smaller c = group_shorter c.loop-group.rest.now c.in_ok-group.behind.now (group_of c.in_ok-group.group) c.in_ok-group.ensures

pub loop-group-preserved : goal.loop-group-preserved
loop-group-preserved c =
    let inv = c.loop-group.invariant in
    let ys : List ℕ = c.in_ok-group.behind.now in
    let n =
    behind_next inv.0 c.args.client c.loop-group.rest.now ys (group_of c.in_ok-group.group)
    (claim_of (entries_of c.loop-group.draft) c.loop-group.claims) inv.1 c.in_ok-group.ensures (sym c.closes.ensures ∙ c.if-closes.false) in
    (n.0, n.1, inv.2 ∙ n.2 ∙ ap (behind n.0 c.args.client ys) (sym c.claim-claims.ensures))
