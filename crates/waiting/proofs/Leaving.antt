-- Leaving a message of a kind, by the kind's sort.
use Rattle.std.proofs.Common.{◌≡◌, ℕ, Bool, true, false, if◌then◌else◌, List, Some, None, Ok, Err, Option, Result, sym, refl, ap, ◌∙◌}
use Rattle.std.specs.Option.{option_map}
use Rattle.refusal.specs.declared.Refusal.{Refusal}
use Rattle.refusal.specs.declared.Refusal.TheVariants.{MessageInvalid, MessageWaits}
use Rattle.message.specs.declared.Kind.{Kind}
use Rattle.message.specs.Values.{filled_values, lawful}
use Rattle.message.specs.Written.{message_blocks}
use Rattle.waiting.specs.declared.Sort.{Sort}
use Rattle.waiting.specs.declared.Sort.TheVariants.{Delay, Protection}
use Rattle.waiting.specs.Messages.{MessageToSend, WaitingMessage, message_of_kind, sort_of, waits}
use Rattle.waiting.specs.Left.{WaitingBySort, accepted_by, answer_by, left_with_message, waiting_in}

-- a lawful message of a kind, by the kind's sort
abbrev lawful_message : Option Sort → Kind → List ℕ → Option MessageToSend
lawful_message sort kind values =
    if lawful kind values then option_map (λ s. record { sort = s; blocks = message_blocks kind (filled_values values) }) sort else None

same_either : {A : Type 0} (b : Bool) (x : A) → (if b then x else x) ≡ x
same_either true x = refl
same_either false x = refl

-- a kind without a sort makes none that may be left
pub none_of_sort : (k : Kind) (vs : List ℕ) → sort_of k ≡ None → message_of_kind k vs ≡ None
unfolding message_of_kind
none_of_sort k vs e = ap (λ (s : Option Sort). lawful_message s k vs) e ∙ same_either (lawful k vs) None

message_is : (k : Kind) (s : Sort) (vs : List ℕ) → sort_of k ≡ Some s → message_of_kind k vs ≡ lawful_message (Some s) k vs
unfolding message_of_kind
message_is k s vs e = ap (λ (o : Option Sort). lawful_message o k vs) e

answer_either : (l : WaitingBySort) (b : Bool) (x : MessageToSend) → answer_by l (if b then Some x else None) ≡ (if b then answer_by l (Some x) else Err MessageInvalid)
answer_either l true x = refl
answer_either l false x = refl

pub answer_is : (l : WaitingBySort) (k : Kind) (s : Sort) (vs : List ℕ) → sort_of k ≡ Some s
    → answer_by l (message_of_kind k vs) ≡ (if lawful k vs then (if waits (waiting_in l s) then Err MessageWaits else Ok tt) else Err MessageInvalid)
answer_is l k s vs e = ap (answer_by l) (message_is k s vs e) ∙ answer_either l (lawful k vs) _

-- what waits after a message was left, or refused
abbrev pub after_message : WaitingBySort → Option MessageToSend → WaitingBySort
after_message l m = left_with_message l (accepted_by l m)

left_either : (l : WaitingBySort) (b w : Bool) (x : MessageToSend) → waits (waiting_in l x.sort) ≡ w
    → after_message l (if b then Some x else None) ≡ (if b then (if w then l else left_with_message l (Some x)) else l)
left_either l true w x e = ap (λ (t : Bool). left_with_message l (if t then None else Some x)) e ∙ go w
  where
    go : (t : Bool) → left_with_message l (if t then None else Some x) ≡ (if t then l else left_with_message l (Some x))
    go true = refl
    go false = refl
left_either l false w x e = refl

delay_then : (l : WaitingBySort) (b w : Bool) (n : WaitingMessage)
    → record { delay = (if b then (if w then l.delay else n) else l.delay); protection = l.protection } ≡ (if b then (if w then l else record l { delay = n }) else l)
delay_then l true true n = refl
delay_then l true false n = refl
delay_then l false w n = refl

protection_then : (l : WaitingBySort) (b w : Bool) (n : WaitingMessage)
    → record { delay = l.delay; protection = (if b then (if w then l.protection else n) else l.protection) } ≡ (if b then (if w then l else record l { protection = n }) else l)
protection_then l true true n = refl
protection_then l true false n = refl
protection_then l false w n = refl

pub delay_left : (l : WaitingBySort) (k : Kind) (vs : List ℕ) (d : WaitingMessage) → sort_of k ≡ Some Delay
    → d ≡ (if lawful k vs then (if waits l.delay then l.delay else record { blocks = message_blocks k (filled_values vs); gone = 0 }) else l.delay)
    → record { delay = d; protection = l.protection } ≡ after_message l (message_of_kind k vs)
delay_left l k vs d e h =
    let set : WaitingMessage → WaitingBySort = λ x. record { delay = x; protection = l.protection } in
    ap set h ∙ delay_then l (lawful k vs) (waits l.delay) _ ∙ sym (ap (after_message l) (message_is k Delay vs e) ∙ left_either l (lawful k vs) (waits l.delay) _ refl)

pub protection_left : (l : WaitingBySort) (k : Kind) (vs : List ℕ) (d : WaitingMessage) → sort_of k ≡ Some Protection
    → d ≡ (if lawful k vs then (if waits l.protection then l.protection else record { blocks = message_blocks k (filled_values vs); gone = 0 }) else l.protection)
    → record { delay = l.delay; protection = d } ≡ after_message l (message_of_kind k vs)
protection_left l k vs d e h =
    let set : WaitingMessage → WaitingBySort = λ x. record { delay = l.delay; protection = x } in
    ap set h ∙ protection_then l (lawful k vs) (waits l.protection) _ ∙ sym (ap (after_message l) (message_is k Protection vs e) ∙ left_either l (lawful k vs) (waits l.protection) _ refl)
