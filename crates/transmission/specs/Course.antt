-- How what goes on the line for packets goes on, block by block.
use Rattle.std.specs.Prelude.{ℕ, if◌then◌else◌, Some, None, Option, ◌==◌}
use Rattle.block.specs.declared.Block.{Block}
use Rattle.port.specs.Model.{Lists}
use Rattle.client_queues.specs.Waiting.{blocks_waiting, none_wait, waiting_in}
use Rattle.progress.specs.declared.Progress.{Progress}
use Rattle.progress.specs.Goals.{progress_after, is_learning}
use Rattle.sending.specs.Sender.{SendResult, Sender, send_of, with_state}
use Rattle.transmission.specs.declared.Transmission.{Transmission}

-- a sender, the packets' blocks that wait for each client, and how far sending has come
pub record Course : Type 0 where
  pub sender : Sender
  pub waiting : Lists
  pub progress : Progress

abbrev pub course_of : Transmission → Course
course_of t = record { sender = t.sender; waiting = waiting_in t.queues; progress = t.progress }

-- what waits at the next send: nothing while the far end learns the calendar
abbrev pub lists_offered : Course → Lists
lists_offered c = if is_learning c.progress then none_wait else c.waiting

-- and what waits behind it
abbrev pub lists_behind : Course → SendResult → Lists
lists_behind c sent = if is_learning c.progress then c.waiting else sent.waiting

-- behind a send
abbrev pub course_after : Course → SendResult → Course
course_after c sent = record {
  sender = with_state c.sender sent.state;
  waiting = lists_behind c sent;
  progress = progress_after c.progress sent.block (blocks_waiting (lists_behind c sent) == 0);
}

-- the next block, none where sending is over
abbrev pub next_answer : Course → Option Block
next_answer c = if c.progress.over then None else Some (send_of c.sender (lists_offered c)).block

abbrev pub next_course : Course → Course
next_course c = if c.progress.over then c else course_after c (send_of c.sender (lists_offered c))
