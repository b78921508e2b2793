-- At an opportunity stands an idle, or a block of a message that was left.
use Rattle.std.proofs.Common.{◌≡◌, ℕ, ◌+◌, true, false, not, ◌&&◌, ◌⊎◌, List, [], ◌∷◌, refl, sym, inl, inr, subst, arith}
use Rattle.std.specs.List.{Contains}
use Rattle.std.proofs.lemmas.List.Elements.{Contains-append_left, Contains-append_right}
use Rattle.std.proofs.lemmas.Bool.{and_from, not_from_false, cond-true}
use Rattle.block.specs.declared.Block.{Block}
use Rattle.block.specs.Fixed.{idle_block}
use Rattle.schedule.specs.Cycle.{item_at}
use Rattle.sending.specs.Blocks.{is_idle_block}
use Rattle.waiting.specs.declared.Sort.{Sort}
use Rattle.sending.specs.Sender.{SenderSetup}
use Rattle.sending.specs.Life.{LineItem, frame, gap, items}
use Rattle.sending.specs.LineLaws.{Each, StandsInPlace, IdleOrMessage}
use Rattle.sending.specs.MessageLaws.{is_opportunity, BlockAt, found_at_item, found_on_line, messages_left, whole_messages, IdleOrLeft, OnlyLeftMessages}
use Rattle.sending.proofs.Codes.{message_no_idle}
use Rattle.sending.proofs.Places.{standing, gap_idle_or_message}
use Rattle.sending.proofs.Deliveries.{messages_on_time}

here : (q : Sort) (i : ℕ) (b : Block) → is_opportunity q (item_at i) ≡ true → is_idle_block b ≡ false → Contains (found_at_item q i (gap b)) (record { item = i; block = b })
here q i b o e =
    let t : (is_opportunity q (item_at i) && not (is_idle_block b)) ≡ true = and_from (is_opportunity q (item_at i)) (not (is_idle_block b)) o (not_from_false (is_idle_block b) e) in
    let one : found_at_item q i (gap b) ≡ record { item = i; block = b } ∷ [] = cond-true _ _ _ t in
    let P : List BlockAt → Type 0 = λ l. Contains l (record { item = i; block = b }) in
    subst P (sym one) (0, omega arith, refl)

module _ (q : Sort) (m : SenderSetup) (whole : List BlockAt) where
  one_item : (i : ℕ) (x : LineItem) → StandsInPlace m i x → ((y : BlockAt) → Contains (found_at_item q i x) y → Contains whole y) → IdleOrLeft q whole i x
  one_item i (frame f) h k = tt
  one_item i (gap b) h k = λ o. by o (gap_idle_or_message m i b h)
    where
      by : is_opportunity q (item_at i) ≡ true → IdleOrMessage b → (b ≡ idle_block) ⊎ Contains whole (record { item = i; block = b })
      by o (inl e) = inl e
      by o (inr e) = inr (k (record { item = i; block = b }) (here q i b o (message_no_idle b e)))

  each_item : (i : ℕ) (xs : List LineItem) → Each (StandsInPlace m) i xs → ((y : BlockAt) → Contains (found_on_line q i xs) y → Contains whole y) → Each (IdleOrLeft q whole) i xs
  unfolding Each found_on_line
  each_item i [] u k = tt
  each_item i (x ∷ xs) (p, u) k = (
    one_item i x p (λ y c. k y (Contains-append_left (found_at_item q i x) (found_on_line q (i + 1) xs) y c)),
    each_item (i + 1) xs u (λ y c. k y (Contains-append_right (found_at_item q i x) (found_on_line q (i + 1) xs) y c)),
  )

pub only_left_messages : OnlyLeftMessages
only_left_messages q m l =
    let t = messages_on_time q m l in
    each_item q m (whole_messages q (messages_left q m l)) 0 (items m l) (standing m l).stands
    (λ y c. let P : List BlockAt → Type 0 = λ z. Contains z y in subst P t.1.0 (Contains-append_left (found_on_line q 0 (items m l)) t.0 y c))
