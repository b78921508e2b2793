-- A call makes a life longer; a refused leaving changes nothing.
use Rattle.std.proofs.Common.{◌≡◌, Bool, true, false, cond, List, ◌++◌, Some, None, Ok, Err, Option, Result, refl, ap, sym, ◌∙◌}
use Rattle.block.specs.declared.Block.{Block}
use Rattle.refusal.specs.declared.Refusal.{Refusal}
use Rattle.refusal.specs.declared.Refusal.TheVariants.{MessageWaits}
use Rattle.waiting.specs.Messages.{MessageToSend, message_to_send, waits}
use Rattle.sending.specs.Sender.{SenderState, Sender, waiting_of, accepted_message, state_with, leave_answer_to}
use Rattle.sending.specs.Life.{SenderCall, state_of, state_after_call, call_blocks, blocks, Lengthens, CallsLengthen}
use Rattle.sending.specs.MessageLaws.{RefusedKeeps}

-- for the contract of a call, by the equalities that it has
pub lengthens : (before behind : Sender) (c : SenderCall) (call_sent : List Block)
    → behind ≡ record before { state = state_after_call before.made before.state c } → call_sent ≡ call_blocks before.made before.state c → Lengthens before c behind call_sent
unfolding state_of blocks
lengthens before behind c call_sent p q = (
  ap (λ (s : Sender). s.made) p,
  λ l e. (
    ap (λ (s : SenderState). state_after_call before.made s c) e ∙ sym (ap (λ (s : Sender). s.state) p),
    ap (λ (s : SenderState). blocks before.made l ++ call_blocks before.made s c) e ∙ ap (λ (bs : List Block). blocks before.made l ++ bs) (sym q),
  ),
)

pub calls_lengthen : CallsLengthen
unfolding state_of
calls_lengthen = (
  λ s c. lengthens s (record s { state = state_after_call s.made s.state c }) c (call_blocks s.made s.state c) refl refl,
  λ calendar trail. refl,
)

refused : (s : SenderState) (o : Option MessageToSend) (cause : Refusal) → leave_answer_to s o ≡ Err cause → state_with s (accepted_message s o) ≡ s
refused s None cause e = refl
refused s (Some x) cause e = go (waits (waiting_of s x.sort)) e
  where
    go : (t : Bool) → cond {A = Result Unit Refusal} t (Err MessageWaits) (Ok tt) ≡ Err cause → state_with s (cond t None (Some x)) ≡ s
    go true f = refl
    go false f = absurd (cc)

pub refused_keeps : RefusedKeeps
refused_keeps s kind values cause e = refused s (message_to_send kind values) cause e
