-- A message that waits comes to its end.
use Rattle.std.proofs.Common.{◌≡◌, ℕ, ◌+◌, ◌<◌, ◌≤◌, Bool, true, false, cond, List, [], ◌∷◌, ◌++◌, length, sym, refl, ap, ◌∙◌, append_assoc, append-nil, arith, length-append}
use Rattle.std.proofs.lemmas.List.{nil_from_length, same_from_push}
use Rattle.std.proofs.lemmas.Bool.{ltb-true, cond-true, cond-false}
use Rattle.waiting.specs.Messages.{waits, WaitingMessage}
use Rattle.waiting.specs.declared.Sort.{Sort}
use Rattle.sending.specs.Sender.{SenderSetup, waiting_of}
use Rattle.sending.specs.Life.{SenderCall, Life, followed, state_of, items, life_and}
use Rattle.sending.specs.MessageLaws.{opportunity_item, first_start, longest_wait, LeftMessage, left_by_call, messages_left, MessagesEnd, BlockAt, found_on_line}
use Rattle.sending.proofs.Codes.{most_blocks}
use Rattle.sending.proofs.Gaps.{SoundOf}
use Rattle.sending.proofs.Places.{standing}
use Rattle.sending.proofs.Opportunities.{next, next_to_come, not_far}
use Rattle.sending.proofs.Deliveries.{Delivering, delivering}

-- what was left before stays in front
left_more : (q : Sort) (m : SenderSetup) (cs : List SenderCall) (l : Life) → (more : List LeftMessage) × (messages_left q m (life_and l cs) ≡ messages_left q m l ++ more)
unfolding life_and messages_left
left_more q m [] l = ([], sym (append-nil (messages_left q m l)))
left_more q m (c ∷ cs) l =
    let h = left_more q m cs (followed l c) in
    let x : List LeftMessage = left_by_call q (state_of m l) (length (items m l)) c in
    (left_by_call q (state_of m l) (length (items m l)) c ++ h.0, h.1 ∙ append_assoc (messages_left q m l) (left_by_call q (state_of m l) (length (items m l)) c) h.0)

-- two moments at which the same message waits are near
module _ (q : Sort) (d e : WaitingMessage) (n k : ℕ) (line row : List BlockAt) (lefts : List LeftMessage) (u : SoundOf q d) (v : SoundOf q e) (a : Delivering q d n line lefts) (b : Delivering q e k row lefts) where
  near : waits d ≡ true → waits e ≡ true → k < n + longest_wait q
  near f g =
      let x : a.done ++ (a.last ∷ []) ≡ b.done ++ (b.last ∷ []) =
      ap (λ l. a.done ++ l) (sym (cond-true (waits d) _ _ f)) ∙ sym a.lefts_are ∙ b.lefts_are ∙ ap (λ l. b.done ++ l) (cond-true (waits e) _ _ g) in
      let same : a.last ≡ b.last = (same_from_push a.done b.done a.last b.last x).1 in
      let s : d.gone < most_blocks q = omega (arith, ltb-true d.gone (length d.blocks) f, u.few) in
      let t : e.gone < most_blocks q = omega (arith, ltb-true e.gone (length e.blocks) g, v.few) in
      let far = not_far q a.last.after n d.gone e.gone (a.next_is f) s t in
      let come : k ≤ opportunity_item q (next q e.gone k) = next_to_come q e.gone k t in
      let there : next q e.gone k ≡ first_start q a.last.after + e.gone = b.next_is g ∙ ap (λ (y : LeftMessage). first_start q y.after + e.gone) (sym same) in
      omega (arith, far, come, ap (opportunity_item q) there)

pub messages_end : MessagesEnd
messages_end q m l cs w t = go (waits (waiting_of (state_of m (life_and l cs)) q)) refl
  where
    more : (more : List LeftMessage) × (messages_left q m (life_and l cs) ≡ messages_left q m l ++ more)
    more = left_more q m cs l

    count : length (messages_left q m (life_and l cs)) ≡ length (messages_left q m l) + length more.0
    count = ap (λ (x : List LeftMessage). length x) more.1 ∙ length-append (messages_left q m l) more.0

    late : waits (waiting_of (state_of m (life_and l cs)) q) ≡ true → length more.0 ≡ 0 → ⊥
    late f z =
        let same : messages_left q m (life_and l cs) ≡ messages_left q m l = more.1 ∙ ap (λ x. messages_left q m l ++ x) (nil_from_length more.0 z) ∙ append-nil (messages_left q m l) in
        let h : Delivering q (waiting_of (state_of m (life_and l cs)) q) (length (items m (life_and l cs))) (found_on_line q 0 (items m (life_and l cs))) (messages_left q m l) = rw (← same) (delivering q m (life_and l cs)) in
        let k = near q (waiting_of (state_of m l) q) (waiting_of (state_of m (life_and l cs)) q) (length (items m l)) (length (items m (life_and l cs))) (found_on_line q 0 (items m l)) (found_on_line q 0 (items m (life_and l cs))) (messages_left q m l) ((standing m l).sound q) ((standing m (life_and l cs)).sound q) (delivering q m l) h w f in
        omega (arith, k, t)

    go : (b : Bool) → waits (waiting_of (state_of m (life_and l cs)) q) ≡ b → length (messages_left q m l) + cond (waits (waiting_of (state_of m (life_and l cs)) q)) 1 0 ≤ length (messages_left q m (life_and l cs))
    go true f =
        let z = late f in
        let o : ◌≡◌ {A = ℕ} (cond (waits (waiting_of (state_of m (life_and l cs)) q)) 1 0) 1 = cond-true _ 1 0 f in
        omega (arith, count, o, z)
    go false f =
        let o : ◌≡◌ {A = ℕ} (cond (waits (waiting_of (state_of m (life_and l cs)) q)) 1 0) 0 = cond-false _ 1 0 f in
        omega (arith, count, o)
