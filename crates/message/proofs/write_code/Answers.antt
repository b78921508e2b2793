use Rattle.std.proofs.Common.{◌≡◌, Some, None, Ok, Option, Result, sym, ap, ◌∙◌}
use Rattle.std.specs.Option.{ok_or}
use Rattle.message.specs.declared.Kind.{Kind}
use Rattle.message.specs.declared.UnknownKind.{UnknownKind}
use Rattle.message.specs.Kinds.{kind_of}
use Rattle.message.specs.Written.{message_answer_for, output_with_message_for}
use Rattle.message.proofs.write_code.Goals as goal

named : (o : Option Kind) (e : UnknownKind) (r : Result Kind UnknownKind) (k : Kind) → r ≡ ok_or o e → r ≡ Ok k → o ≡ Some k
named None e r k f g = cc
named (Some x) e r k f g = cc

pub returns-clause-answer : goal.returns-clause-answer
returns-clause-answer c =
    c.write.ensures.answer
    ∙ sym (ap (λ (o : Option Kind). message_answer_for o c.args.values.now c.args.output.now) (named (kind_of c.args.code) (record { code = c.args.code }) c.try_from.result c.in_ok-try_from.field-0 c.try_from.ensures c.in_ok-try_from.was))

pub returns-clause-output : goal.returns-clause-output
returns-clause-output c =
    c.write.ensures.output
    ∙ sym (ap (λ (o : Option Kind). output_with_message_for o c.args.values.now c.args.output.now) (named (kind_of c.args.code) (record { code = c.args.code }) c.try_from.result c.in_ok-try_from.field-0 c.try_from.ensures c.in_ok-try_from.was))
