-- An accepted leaving is one more of the messages left; a refused one is none.
use Rattle.std.proofs.Common.{◌≡◌, ℕ, Bool, true, false, cond, List, [], ◌∷◌, ◌++◌, length, Some, None, Ok, Err, Option, Result, refl, sym, ap, ◌∙◌, append-nil}
use Rattle.std.proofs.lemmas.Bool.{cond-true, cond-false}
use Rattle.refusal.specs.declared.Refusal.{Refusal}
use Rattle.refusal.specs.declared.Refusal.TheVariants.{MessageWaits}
use Rattle.message.specs.declared.Kind.{Kind}
use Rattle.message.specs.Values.{filled_values, lawful}
use Rattle.message.specs.Written.{message_blocks}
use Rattle.waiting.specs.Messages.{MessageToSend, message_of_kind, message_to_send, sort_of, waits}
use Rattle.waiting.specs.declared.Sort.{Sort}
use Rattle.waiting.specs.declared.Sort.TheVariants.{Delay as delays, Protection as protections}
use Rattle.sending.specs.Messages.{same_sort}
use Rattle.sending.specs.Sender.{SenderState, waiting_of, accepted_message, leave_answer_to}
use Rattle.sending.specs.Life.{items, state_of}
use Rattle.sending.specs.MessageLaws.{AcceptedLeft, LeftMessage, RefusedNotLeft, message_left, messages_left}

-- the answer, and what is accepted
accepted : (s : SenderState) (o : Option MessageToSend) → leave_answer_to s o ≡ Ok tt → (x : MessageToSend) × ((o ≡ Some x) × (accepted_message s o ≡ Some x))
accepted s None e = absurd (cc)
accepted s (Some x) e = (x, (refl, go (waits (waiting_of s x.sort)) e))
  where
    go : (t : Bool) → cond {A = Result Unit Refusal} t (Err MessageWaits) (Ok tt) ≡ Ok tt → cond {A = Option MessageToSend} t None (Some x) ≡ Some x
    go true f = absurd (cc)
    go false f = refl

not_accepted : (s : SenderState) (o : Option MessageToSend) (cause : Refusal) → leave_answer_to s o ≡ Err cause → accepted_message s o ≡ None
not_accepted s None cause e = refl
not_accepted s (Some x) cause e = go (waits (waiting_of s x.sort)) e
  where
    go : (t : Bool) → cond {A = Result Unit Refusal} t (Err MessageWaits) (Ok tt) ≡ Err cause → cond {A = Option MessageToSend} t None (Some x) ≡ None
    go true f = refl
    go false f = absurd (cc)

abbrev message_as : Sort → Kind → List ℕ → MessageToSend
message_as q k vs = record { sort = q; blocks = message_blocks k (filled_values vs) }

-- what a kind and values make
record MadeAs (k : Kind) (vs : List ℕ) (x : MessageToSend) : Type 0 where
  sort : Sort
  of_kind : sort_of k ≡ Some sort
  taken : lawful k vs ≡ true
  same : message_as sort k vs ≡ x

made_as : (k : Kind) (vs : List ℕ) (x : MessageToSend) → message_of_kind k vs ≡ Some x → MadeAs k vs x
unfolding message_of_kind
made_as k vs x e = go (lawful k vs) (sort_of k) refl refl
  where
    go : (t : Bool) (o : Option Sort) → lawful k vs ≡ t → sort_of k ≡ o → MadeAs k vs x
    go true (Some q) p r =
        let f = rw (p, r) at e in
        let z : ◌≡◌ {A = MessageToSend} (message_as q k vs) x = cc in
        record { sort = q; of_kind = r; taken = p; same = z }
    go true None p r = let f = rw (p, r) at e in absurd (cc)
    go false o p r = let f = rw p at e in absurd (cc)

same_self : (q : Sort) → same_sort q q ≡ true
same_self delays = refl
same_self protections = refl

pub accepted_left : AcceptedLeft
unfolding messages_left
accepted_left m l None vs e = absurd (cc)
accepted_left m l (Some k) vs e =
    let a = accepted (state_of m l) (message_to_send (Some k) vs) e in
    let x = made_as k vs a.0 a.1.0 in
    let taken : accepted_message (state_of m l) (message_to_send (Some k) vs) ≡ Some (message_as x.sort k vs) = a.1.1 ∙ ap (λ (y : MessageToSend). Some y) (sym x.same) in
    record {
      of_kind = k;
      sort = x.sort;
      named = refl;
      may_be_left = x.of_kind;
      values_lawful = x.taken;
      one_more =
          ap (λ (o : Option MessageToSend). messages_left x.sort m l ++ message_left x.sort (length (items m l)) o) taken
          ∙ ap (λ (ys : List LeftMessage). messages_left x.sort m l ++ ys) (cond-true _ _ _ (same_self x.sort));
      others =
          λ q d. ap (λ (o : Option MessageToSend). messages_left q m l ++ message_left q (length (items m l)) o) taken
          ∙ ap (λ (ys : List LeftMessage). messages_left q m l ++ ys) (cond-false _ _ _ d)
          ∙ append-nil (messages_left q m l);
    }

pub refused_not_left : RefusedNotLeft
unfolding messages_left
refused_not_left m l kind vs cause e q =
    ap (λ (o : Option MessageToSend). messages_left q m l ++ message_left q (length (items m l)) o) (not_accepted (state_of m l) (message_to_send kind vs) cause e)
    ∙ append-nil (messages_left q m l)
