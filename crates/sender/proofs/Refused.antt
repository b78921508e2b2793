-- An answer is refused only where a delay message waits.
use Rattle.std.proofs.Common.{◌≡◌, ℕ, Bool, true, false, cond, List, Some, Ok, Err, Result, IfErr, refl, ◌∙◌}
use Rattle.refusal.specs.declared.Refusal.{Refusal}
use Rattle.refusal.specs.declared.Refusal.TheVariants.{MessageInvalid, MessageWaits}
use Rattle.collector.specs.Reply.{AskedQuestion, reply_answer, reply_values}
use Rattle.message.specs.Values.{lawful}
use Rattle.message.specs.declared.Kind.TheVariants.{TwoDmr}
use Rattle.waiting.specs.declared.Sort.TheVariants.{Delay}
use Rattle.waiting.specs.Messages.{waits}
use Rattle.waiting.specs.Left.{WaitingBySort, left_answer}
use Rattle.waiting.proofs.Leaving.{answer_is}

by_waiting : (w t : Bool) (cause : Refusal) → t ≡ true
    → Err cause ≡ cond {A = Result Unit Refusal} t (cond {A = Result Unit Refusal} w (Err MessageWaits) (Ok tt)) (Err MessageInvalid) → cause ≡ MessageWaits
by_waiting true true cause h e = cc
by_waiting false true cause h e = absurd (cc)
by_waiting w false cause h e = absurd (cc)

pub only_waits : (l : WaitingBySort) (asked received sent : List ℕ) (r : Result (Unit {0}) (Refusal × AskedQuestion))
    → lawful TwoDmr (reply_values asked received sent) ≡ true
    → reply_answer r ≡ left_answer l (Some TwoDmr) (reply_values asked received sent)
    → IfErr r (λ e. e.0 ≡ MessageWaits)
only_waits l asked received sent (Ok u) h e = tt
only_waits l asked received sent (Err x) h e =
    let vs : List ℕ = reply_values asked received sent in
    by_waiting (waits l.delay) (lawful TwoDmr vs) x.0 h (e ∙ answer_is l TwoDmr Delay vs refl)
