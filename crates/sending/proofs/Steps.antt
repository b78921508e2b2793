-- What a send does where an item begins: it begins a frame, or sends a gap block.
use Rattle.std.proofs.Common.{◌≡◌, Bool, true, false, cond, eqb, ◌&&◌, [], Some, None, Option, refl}
use Rattle.port.specs.Model.{Lists}
use Rattle.block.specs.declared.Block.{Block}
use Rattle.block.specs.Fixed.{idle_block}
use Rattle.schedule.specs.declared.Item.{Item}
use Rattle.schedule.specs.declared.Item.TheVariants.{Frame as FrameItem, Idle, Basic, Protection, Verification, ClientSignal, Delay, Spare}
use Rattle.schedule.specs.Cycle.{is_frame, next_position}
use Rattle.waiting.specs.Messages.{MessageToSend, WaitingMessage, waits, next_block, with_one_gone}
use Rattle.waiting.specs.declared.Sort.{Sort}
use Rattle.waiting.specs.declared.Sort.TheVariants.{Delay as delays, Protection as protections}
use Rattle.sending.specs.Sender.{SenderSetup, SenderState, SendResult, frame_result, gap_result, own_result, item_result, with_waiting, state_with}

pub record Gapped (s : SenderState) (w : Lists) (r : SendResult) : Type 0 where
  pub rest : r.state.rest ≡ []
  pub position : r.state.position ≡ next_position s.position
  pub number : r.state.number ≡ s.number
  pub waiting : r.waiting ≡ w

pub data Begins (m : SenderSetup) (s : SenderState) (w : Lists) (x : Item) : Type 0 where
  a_frame : is_frame x ≡ true → item_result m s w x ≡ frame_result m s w → Begins m s w x
  a_gap : is_frame x ≡ false → Gapped s w (item_result m s w x) → Begins m s w x

gapped : (s : SenderState) (w : Lists) (b : Block) (d e : WaitingMessage) → Gapped s w (gap_result s w b d e)
gapped s w b d e = record { rest = refl; position = refl; number = refl; waiting = refl }

either : (s : SenderState) (w : Lists) (t : Bool) (a b : SendResult) → Gapped s w a → Gapped s w b → Gapped s w (cond t a b)
either s w true a b h k = h
either s w false a b h k = k

pub begins : (m : SenderSetup) (s : SenderState) (w : Lists) (x : Item) → Begins m s w x
unfolding item_result
begins m s w FrameItem = a_frame refl refl
begins m s w Idle = a_gap refl (gapped s w _ _ _)
begins m s w (Basic mark) = a_gap refl (gapped s w _ _ _)
begins m s w Protection = a_gap refl (either s w (waits s.left.protection) (gap_result s w (next_block s.left.protection) s.left.delay (with_one_gone s.left.protection)) (own_result s w idle_block) (gapped s w _ _ _) (gapped s w _ _ _))
begins m s w (Verification j) = a_gap refl (gapped s w _ _ _)
begins m s w ClientSignal = a_gap refl (gapped s w _ _ _)
begins m s w (Delay j) = a_gap refl (either s w (eqb j s.left.delay.gone && waits s.left.delay) (gap_result s w (next_block s.left.delay) (with_one_gone s.left.delay) s.left.protection) (own_result s w idle_block) (gapped s w _ _ _) (gapped s w _ _ _))
begins m s w Spare = a_gap refl (gapped s w _ _ _)

-- a leaving keeps what is under way, position and number
pub record Kept (s t : SenderState) : Type 0 where
  pub rest : t.rest ≡ s.rest
  pub position : t.position ≡ s.position
  pub number : t.number ≡ s.number

waiting_kept : (s : SenderState) (q : Sort) (d : WaitingMessage) → Kept s (with_waiting s q d)
waiting_kept s delays d = record { rest = refl; position = refl; number = refl }
waiting_kept s protections d = record { rest = refl; position = refl; number = refl }

pub message_kept : (s : SenderState) (o : Option MessageToSend) → Kept s (state_with s o)
message_kept s None = record { rest = refl; position = refl; number = refl }
message_kept s (Some x) = waiting_kept s x.sort _
