-- Position and frame number go with the number of items begun.
use Rattle.std.proofs.Common.{◌≡◌, ℕ, ◌+◌, ◌%◌, true, false, sym, refl, ap, ◌∙◌, arith}
use Rattle.port.specs.Model.{Lists}
use Rattle.schedule.specs.Cycle.{item_at, is_frame, frames_before, next_position, round_items}
use Rattle.schedule.proofs.Counts.{comes_again, frame_even, frame_odd, frames_more, frames_same}
use Rattle.schedule.proofs.Items.{view}
use Rattle.numbers.specs.Walk.{next_frame_number}
use Rattle.sending.specs.Sender.{SenderSetup, SenderState, SendResult, new_sender_state, frame_result}
use Rattle.sending.proofs.Steps.{Gapped, Kept}

pub record Counted (s : SenderState) (n : ℕ) : Type 0 where
  pub position : s.position ≡ n % round_items
  pub number : s.number ≡ frames_before n % 480

pub counted_none : Counted new_sender_state 0
counted_none = record { position = refl; number = refl }

-- the item that is due is item n of the schedule
pub due_item : (s : SenderState) (n : ℕ) → Counted s n → item_at s.position ≡ item_at n
due_item s n h = ap item_at h.position ∙ comes_again n

next_of : (p n : ℕ) → p ≡ n % round_items → next_position p ≡ (n + 1) % round_items
next_of p n h = omega arith

number_of : (p x : ℕ) → p ≡ x % 480 → next_frame_number p ≡ (x + 1) % 480
number_of p x h = omega arith

pub counted_frame : (m : SenderSetup) (s : SenderState) (w : Lists) (n : ℕ) → Counted s n → is_frame (item_at s.position) ≡ true → Counted (frame_result m s w).state (n + 1)
unfolding frame_result
counted_frame m s w n h t = record {
  position = next_of s.position n h.position;
  number =
      let e : n % 65 % 2 ≡ 0 = frame_even n (view n) (ap is_frame (sym (due_item s n h)) ∙ t) in
      number_of s.number (frames_before n) h.number ∙ ap (λ x. x % 480) (sym (frames_more n e));
}

pub counted_gap : (s : SenderState) (w : Lists) (n : ℕ) (r : SendResult) → Counted s n → is_frame (item_at s.position) ≡ false → Gapped s w r → Counted r.state (n + 1)
counted_gap s w n r h t g =
    let o : n % 65 % 2 ≡ 1 = frame_odd n (ap is_frame (sym (due_item s n h)) ∙ t) in
    record {
      position = g.position ∙ next_of s.position n h.position;
      number = g.number ∙ h.number ∙ ap (λ x. x % 480) (sym (frames_same n o));
    }

pub counted_kept : (s t : SenderState) (n : ℕ) → Counted s n → Kept s t → Counted t n
counted_kept s t n h k = record { position = k.position ∙ h.position; number = k.number ∙ h.number }
