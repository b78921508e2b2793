-- A sender, and what its calls make of it: `send`, `leave`.
use Rattle.std.specs.Prelude.{ℕ, Bool, false, if◌then◌else◌, ◌&&◌, List, [], ◌∷◌, Some, None, Ok, Err, Option, Result, ◌==◌, slice_index}
use Rattle.block.specs.declared.Block.{Block}
use Rattle.block.specs.declared.Pair.{Pair}
use Rattle.block.specs.Fixed.{idle_block, start_block}
use Rattle.refusal.specs.declared.Refusal.{Refusal}
use Rattle.refusal.specs.declared.Refusal.TheVariants.{MessageInvalid, MessageWaits}
use Rattle.port.specs.Model.{Lists}
use Rattle.message.specs.declared.Kind.{Kind}
use Rattle.message.specs.Written.{basic_block}
use Rattle.schedule.specs.declared.Item.{Item}
use Rattle.schedule.specs.declared.Item.TheVariants.{Frame as FrameItem, Idle, Basic, Protection, Verification, ClientSignal, Delay, Spare}
use Rattle.schedule.specs.Cycle.{item_at, next_position, is_frame}
use Rattle.numbers.specs.Walk.{next_frame_number}
use Rattle.sending.specs.Frames.{frame_rest}
use Rattle.sending.specs.Laid.{pairs_for, lists_after_frame, blocks_given}
use Rattle.sending.specs.Messages.{cv_block, cs_block}
use Rattle.waiting.specs.Left.{WaitingBySort, nothing_left, waiting_in, left_with, answer_by, accepted_by, left_with_message, left_answer, left_after_leave}
use Rattle.waiting.specs.Messages.{MessageToSend, message_to_send, WaitingMessage, nothing_waits, waits, next_block, with_one_gone}
use Rattle.waiting.specs.declared.Sort.{Sort}
use Rattle.waiting.specs.declared.Sort.TheVariants.{Delay as delays, Protection as protections}

-- what a sender is made from: the calendar's 480 entries, and the 32 trail bytes of its CV message
pub record SenderSetup : Type 0 where
  pub calendar : List ℕ
  pub trail : List ℕ

pub record SenderState : Type 0 where
  -- the blocks still to send of the frame under way
  pub rest : List Block
  -- the position of the next item in the schedule
  pub position : ℕ
  -- the number of the next frame
  pub number : ℕ
  -- the messages that wait
  pub left : WaitingBySort

-- a sender that has sent nothing
abbrev pub new_sender_state : SenderState
new_sender_state = record { rest = []; position = 0; number = 0; left = nothing_left }

-- a frame on the line: its number, the calendar entry that it announces, the pairs of slots 1 to 480, and what each client's inlet gave for it
pub record LineFrame : Type 0 where
  pub number : ℕ
  pub entry : ℕ
  pub pairs : List Pair
  pub given : Lists

-- the frame that is due: number m announces the entry of slot m + 1, before which m others stand
unfoldable pub frame_due : SenderSetup → SenderState → Lists → LineFrame
frame_due m s waiting = record {
  number = s.number;
  entry = slice_index m.calendar s.number;
  pairs = pairs_for m.calendar waiting;
  given = blocks_given m.calendar waiting;
}

-- the block of a send, the sender after it, and the clients' lists after it
pub record SendResult : Type 0 where
  pub block : Block
  pub state : SenderState
  pub waiting : Lists

-- a block more of the frame under way
abbrev pub more_result : SenderState → Lists → Block → List Block → SendResult
more_result s waiting block rest = record { block = block; state = record s { rest = rest }; waiting = waiting }

-- the start block of a frame, which takes from the lists
unfoldable pub frame_result : SenderSetup → SenderState → Lists → SendResult
frame_result m s waiting = record {
  block = start_block;
  state = record s {
    rest = frame_rest s.number (slice_index m.calendar s.number) (pairs_for m.calendar waiting);
    position = next_position s.position;
    number = next_frame_number s.number;
  };
  waiting = lists_after_frame m.calendar waiting;
}

-- a gap block, with the messages that wait after it
abbrev pub gap_result : SenderState → Lists → Block → WaitingMessage → WaitingMessage → SendResult
gap_result s waiting block delay protection = record {
  block = block;
  state = record { rest = []; position = next_position s.position; number = s.number; left = record { delay = delay; protection = protection } };
  waiting = waiting;
}

-- a gap block in which no message goes that was left
abbrev pub own_result : SenderState → Lists → Block → SendResult
own_result s waiting block = gap_result s waiting block s.left.delay s.left.protection

-- what is sent where an item begins; block j of a delay message goes at its own opportunity alone
unfoldable pub item_result : SenderSetup → SenderState → Lists → Item → SendResult
item_result m s waiting FrameItem = frame_result m s waiting
item_result m s waiting Idle = own_result s waiting idle_block
item_result m s waiting (Basic mark) = own_result s waiting (basic_block mark)
item_result m s waiting Protection =
    if waits s.left.protection then gap_result s waiting (next_block s.left.protection) s.left.delay (with_one_gone s.left.protection)
    else own_result s waiting idle_block
item_result m s waiting (Verification block) = own_result s waiting (cv_block m.trail block)
item_result m s waiting ClientSignal = own_result s waiting cs_block
item_result m s waiting (Delay block) =
    if block == s.left.delay.gone && waits s.left.delay then gap_result s waiting (next_block s.left.delay) (with_one_gone s.left.delay) s.left.protection
    else own_result s waiting idle_block
item_result m s waiting Spare = own_result s waiting idle_block

-- a send, by what is left of the frame under way
abbrev pub send_result_by : SenderSetup → SenderState → Lists → List Block → SendResult
send_result_by m s waiting [] = item_result m s waiting (item_at s.position)
send_result_by m s waiting (b ∷ bs) = more_result s waiting b bs

abbrev pub send_result : SenderSetup → SenderState → Lists → SendResult
send_result m s waiting = send_result_by m s waiting s.rest

-- whether a send begins a frame
abbrev pub frame_begins_by : SenderState → List Block → Bool
frame_begins_by s [] = is_frame (item_at s.position)
frame_begins_by s (b ∷ bs) = false

abbrev pub frame_begins : SenderState → Bool
frame_begins s = frame_begins_by s s.rest

-- ---- leaving a message, as of what waits
abbrev pub waiting_of : SenderState → Sort → WaitingMessage
waiting_of s sort = waiting_in s.left sort

abbrev pub with_waiting : SenderState → Sort → WaitingMessage → SenderState
with_waiting s sort d = record s { left = left_with s.left sort d }

abbrev pub leave_answer_to : SenderState → Option MessageToSend → Result (Unit {0}) Refusal
leave_answer_to s message = answer_by s.left message

abbrev pub accepted_message : SenderState → Option MessageToSend → Option MessageToSend
accepted_message s message = accepted_by s.left message

abbrev pub state_with : SenderState → Option MessageToSend → SenderState
state_with s message = record s { left = left_with_message s.left message }

abbrev pub leave_answer : SenderState → Option Kind → List ℕ → Result (Unit {0}) Refusal
leave_answer s kind values = left_answer s.left kind values

abbrev pub state_after_leave : SenderState → Option Kind → List ℕ → SenderState
state_after_leave s kind values = record s { left = left_after_leave s.left kind values }

-- a sender as its calls see it
pub record Sender : Type 0 where
  pub made : SenderSetup
  pub state : SenderState

abbrev pub new_sender : List ℕ → List ℕ → Sender
new_sender calendar trail = record { made = record { calendar = calendar; trail = trail }; state = new_sender_state }

abbrev pub with_state : Sender → SenderState → Sender
with_state s state = record s { state = state }

-- a send, and the item that begins between frames
abbrev pub send_of : Sender → Lists → SendResult
send_of s waiting = send_result s.made s.state waiting

abbrev pub item_of : Sender → Lists → SendResult
item_of s waiting = item_result s.made s.state waiting (item_at s.state.position)
