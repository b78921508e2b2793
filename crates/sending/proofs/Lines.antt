-- The blocks sent are the blocks of the items.
use Rattle.std.proofs.Common.{◌≡◌, ℕ, List, [], ◌∷◌, ◌++◌, sym, refl, ap, ◌∙◌, inl, inr, append_assoc, append-nil, arith}
use Rattle.block.specs.declared.Block.{Block}
use Rattle.port.specs.Model.{Lists}
use Rattle.block.specs.Fixed.{start_block}
use Rattle.schedule.specs.Cycle.{item_at}
use Rattle.waiting.specs.Messages.{message_to_send}
use Rattle.sending.specs.Sender.{SenderSetup, SenderState, frame_due, frame_result, item_result, send_result_by, accepted_message}
use Rattle.sending.specs.Life.{LineItem, frame, gap, made, followed, send, leave, state_of, items_begun_by, blocks, items}
use Rattle.sending.specs.LineLaws.{blocks_of_item, blocks_of_items, AreOnLine, SendsItsItems}
use Rattle.sending.proofs.Frames.{frame_opens}
use Rattle.sending.proofs.Steps.{Begins, a_frame, a_gap, begins, message_kept}

pub joined_push : (is : List LineItem) (x : LineItem) → blocks_of_items (is ++ (x ∷ [])) ≡ blocks_of_items is ++ blocks_of_item x
unfolding blocks_of_items
joined_push [] x = append-nil (blocks_of_item x)
joined_push (y ∷ is) x = ap (λ l. blocks_of_item y ++ l) (joined_push is x) ∙ sym (append_assoc (blocks_of_item y) (blocks_of_items is) (blocks_of_item x))

-- with nothing left of a frame, all items are whole
all_whole : (is : List LineItem) (bs : List Block) → AreOnLine is bs [] → bs ≡ blocks_of_items is
all_whole is bs (inl (e, z)) = e
all_whole is bs (inr (before, (f, (front, (p, q, r))))) =
    q
    ∙ ap (λ l. blocks_of_items before ++ l) (ap (λ l. start_block ∷ l) (sym (append-nil front)) ∙ sym r)
    ∙ sym (joined_push before (frame f))
    ∙ ap blocks_of_items (sym p)

module _ (m : SenderSetup) (s : SenderState) (w : Lists) where
  begins_line : (is : List LineItem) (bs : List Block) → bs ≡ blocks_of_items is → Begins m s w (item_at s.position) → AreOnLine (is ++ items_begun_by m s w []) (bs ++ ((send_result_by m s w []).block ∷ [])) (send_result_by m s w []).state.rest
  unfolding frame_result frame_due
  begins_line is bs e (a_frame t g) =
      rw (t, g) (inr (is, (frame_due m s w, ([], (refl, ap (λ l. l ++ (start_block ∷ [])) e, frame_opens (frame_due m s w).number (frame_due m s w).entry (frame_due m s w).pairs)))))
  begins_line is bs e (a_gap t g) =
      rw t (inl (ap (λ l. l ++ ((item_result m s w (item_at s.position)).block ∷ [])) e ∙ sym (joined_push is (gap (item_result m s w (item_at s.position)).block)), g.rest))

  step : (rest : List Block) (is : List LineItem) (bs : List Block) → AreOnLine is bs rest → AreOnLine (is ++ items_begun_by m s w rest) (bs ++ ((send_result_by m s w rest).block ∷ [])) (send_result_by m s w rest).state.rest
  step [] is bs h = begins_line is bs (all_whole is bs h) (begins m s w (item_at s.position))
  step (b ∷ rest) is bs (inl (e, z)) = absurd (let n : ◌≡◌ {A = ℕ} 0 1 = cc in omega arith)
  step (b ∷ rest) is bs (inr (before, (f, (front, (p, q, r))))) =
      inr (before, (f, (front ++ (b ∷ []), (append-nil is ∙ p, ap (λ l. l ++ (b ∷ [])) q ∙ append_assoc (blocks_of_items before) (start_block ∷ front) (b ∷ []), r ∙ ap (λ l. start_block ∷ l) (sym (append_assoc front (b ∷ []) rest))))))

same_line : (is : List LineItem) (bs rest : List Block) → AreOnLine is bs rest → AreOnLine (is ++ []) (bs ++ []) rest
same_line is bs rest h = rw (append-nil is, append-nil bs) h

pub lined : SendsItsItems
unfolding blocks items state_of blocks_of_items
lined m made = inl (refl, refl)
lined m (followed l (send w)) = step m (state_of m l) w (state_of m l).rest (items m l) (blocks m l) (lined m l)
lined m (followed l (leave k vs)) = rw (message_kept (state_of m l) (accepted_message (state_of m l) (message_to_send k vs))).rest (same_line (items m l) (blocks m l) (state_of m l).rest (lined m l))
