-- The messages that wait, one of each sort at most: what leaving one answers and changes, and what an opportunity takes.
use Rattle.std.specs.Prelude.{ℕ, Bool, true, false, if◌then◌else◌, ◌&&◌, List, Some, None, Ok, Err, Option, Result, ◌==◌}
use Rattle.block.specs.declared.Block.{Block}
use Rattle.refusal.specs.declared.Refusal.{Refusal}
use Rattle.refusal.specs.declared.Refusal.TheVariants.{MessageInvalid, MessageWaits}
use Rattle.message.specs.declared.Kind.{Kind}
use Rattle.waiting.specs.declared.Sort.{Sort}
use Rattle.waiting.specs.declared.Sort.TheVariants.{Delay, Protection}
use Rattle.waiting.specs.Messages.{MessageToSend, WaitingMessage, message_to_send, next_block, nothing_waits, with_one_gone, waits}

pub record WaitingBySort : Type 0 where
  pub delay : WaitingMessage
  pub protection : WaitingMessage

abbrev pub nothing_left : WaitingBySort
nothing_left = record { delay = nothing_waits; protection = nothing_waits }

-- what waits of a sort
abbrev pub waiting_in : WaitingBySort → Sort → WaitingMessage
waiting_in l Delay = l.delay
waiting_in l Protection = l.protection

abbrev pub left_with : WaitingBySort → Sort → WaitingMessage → WaitingBySort
left_with l Delay d = record l { delay = d }
left_with l Protection d = record l { protection = d }

-- leaving is refused where kind and values make no message that may be left, and then where one of its sort waits
abbrev pub answer_by : WaitingBySort → Option MessageToSend → Result (Unit {0}) Refusal
answer_by l None = Err MessageInvalid
answer_by l (Some x) = if waits (waiting_in l x.sort) then Err MessageWaits else Ok tt

-- the message that is accepted, none where it is refused
abbrev pub accepted_by : WaitingBySort → Option MessageToSend → Option MessageToSend
accepted_by l None = None
accepted_by l (Some x) = if waits (waiting_in l x.sort) then None else Some x

-- it waits from its first block on
abbrev pub left_with_message : WaitingBySort → Option MessageToSend → WaitingBySort
left_with_message l None = l
left_with_message l (Some x) = left_with l x.sort (record { blocks = x.blocks; gone = 0 })

abbrev pub left_answer : WaitingBySort → Option Kind → List ℕ → Result (Unit {0}) Refusal
left_answer l kind values = answer_by l (message_to_send kind values)

abbrev pub left_after_leave : WaitingBySort → Option Kind → List ℕ → WaitingBySort
left_after_leave l kind values = left_with_message l (accepted_by l (message_to_send kind values))

-- block j of a delay message goes at its own opportunity alone
abbrev pub is_delay_due : WaitingBySort → ℕ → Bool
is_delay_due l block = block == l.delay.gone && waits l.delay

abbrev pub delay_block : WaitingBySort → ℕ → Option Block
delay_block l block = if is_delay_due l block then Some (next_block l.delay) else None

abbrev pub left_after_delay : WaitingBySort → ℕ → WaitingBySort
left_after_delay l block = if is_delay_due l block then record l { delay = with_one_gone l.delay } else l

-- APS goes at any protection opportunity
abbrev pub protection_block : WaitingBySort → Option Block
protection_block l = if waits l.protection then Some (next_block l.protection) else None

abbrev pub left_after_protection : WaitingBySort → WaitingBySort
left_after_protection l = if waits l.protection then record l { protection = with_one_gone l.protection } else l
