-- A message is left for its kind's sort.
use Rattle.std.proofs.Common.{◌≡◌, Some, sym, ap, ◌∙◌}
use Rattle.waiting.specs.declared.Sort.TheVariants.{Delay, Protection}
use Rattle.waiting.specs.Messages.{message_of_kind, sort_of}
use Rattle.waiting.specs.Left.{WaitingBySort, answer_by}
use Rattle.waiting.proofs.Leaving.{after_message, none_of_sort, answer_is, delay_left, protection_left}
use Rattle.waiting.proofs.left.LeftMessages.leave.Goals as goal

pub returns-in-None-clause-answer : goal.returns-in-None-clause-answer
returns-in-None-clause-answer c =
    sym (ap (answer_by c.args.self.now) (none_of_sort c.args.kind c.args.values.now (sym c.sort_of.ensures ∙ c.in-None.is)))

pub returns-in-None-clause-left : goal.returns-in-None-clause-left
returns-in-None-clause-left c =
    sym (ap (after_message c.args.self.now) (none_of_sort c.args.kind c.args.values.now (sym c.sort_of.ensures ∙ c.in-None.is)))

pub returns-in-Some-Delay-clause-answer : goal.returns-in-Some-Delay-clause-answer
returns-in-Some-Delay-clause-answer c =
    let sort : sort_of c.args.kind ≡ Some Delay = sym c.sort_of.ensures ∙ c.in-Some-Delay.is ∙ ap Some c.in-Some-Delay.field-0-is in
    let l : WaitingBySort = record { delay = c.self.inside.delay; protection = c.self.inside.protection } in
    c.leave.ensures.answer ∙ sym (answer_is l c.args.kind Delay c.args.values.now sort)
    ∙ ap (λ (x : WaitingBySort). answer_by x (message_of_kind c.args.kind c.args.values.now)) c.self.view_is

pub returns-in-Some-Delay-clause-left : goal.returns-in-Some-Delay-clause-left
returns-in-Some-Delay-clause-left c =
    let sort : sort_of c.args.kind ≡ Some Delay = sym c.sort_of.ensures ∙ c.in-Some-Delay.is ∙ ap Some c.in-Some-Delay.field-0-is in
    let l : WaitingBySort = record { delay = c.self.inside.delay; protection = c.self.inside.protection } in
    delay_left l c.args.kind c.args.values.now c.leave.new.self sort c.leave.ensures.after
    ∙ ap (λ (x : WaitingBySort). after_message x (message_of_kind c.args.kind c.args.values.now)) c.self.view_is

pub returns-in-Some-Protection-clause-answer : goal.returns-in-Some-Protection-clause-answer
returns-in-Some-Protection-clause-answer c =
    let sort : sort_of c.args.kind ≡ Some Protection = sym c.sort_of.ensures ∙ c.in-Some-Protection.is ∙ ap Some c.in-Some-Protection.field-0-is in
    let l : WaitingBySort = record { delay = c.self.inside.delay; protection = c.self.inside.protection } in
    c.leave-in-Some-Protection.ensures.answer ∙ sym (answer_is l c.args.kind Protection c.args.values.now sort)
    ∙ ap (λ (x : WaitingBySort). answer_by x (message_of_kind c.args.kind c.args.values.now)) c.self.view_is

pub returns-in-Some-Protection-clause-left : goal.returns-in-Some-Protection-clause-left
returns-in-Some-Protection-clause-left c =
    let sort : sort_of c.args.kind ≡ Some Protection = sym c.sort_of.ensures ∙ c.in-Some-Protection.is ∙ ap Some c.in-Some-Protection.field-0-is in
    let l : WaitingBySort = record { delay = c.self.inside.delay; protection = c.self.inside.protection } in
    protection_left l c.args.kind c.args.values.now c.leave-in-Some-Protection.new.self sort c.leave-in-Some-Protection.ensures.after
    ∙ ap (λ (x : WaitingBySort). after_message x (message_of_kind c.args.kind c.args.values.now)) c.self.view_is
