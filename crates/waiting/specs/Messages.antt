-- The messages that may be left with a sender, and what waits of one.
use Rattle.std.specs.Prelude.{ℕ, ◌+◌, Bool, if◌then◌else◌, List, [], Some, None, Option, length, nat_lt, slice_index_or}
use Rattle.std.specs.Option.{option_map}
use Rattle.block.specs.declared.Block.{Block}
use Rattle.block.specs.Fixed.{idle_block}
use Rattle.message.specs.declared.Kind.{Kind}
use Rattle.message.specs.declared.Kind.TheVariants.{Basic, Aps, Cv, OneDm, TwoDmm, TwoDmr, Cs}
use Rattle.message.specs.Values.{filled_values, lawful}
use Rattle.message.specs.Written.{message_blocks}
use Rattle.waiting.specs.declared.Sort.{Sort}
use Rattle.waiting.specs.declared.Sort.TheVariants.{Delay, Protection}

-- the sort of a kind that may be left; the basic message, CV and CS are the sender's own
abbrev pub sort_of : Kind → Option Sort
sort_of Basic = None
sort_of Aps = Some Protection
sort_of Cv = None
sort_of OneDm = Some Delay
sort_of TwoDmm = Some Delay
sort_of TwoDmr = Some Delay
sort_of Cs = None

-- a message as it is left
pub record MessageToSend : Type 0 where
  pub sort : Sort
  pub blocks : List Block

unfoldable pub message_of_kind : Kind → List ℕ → Option MessageToSend
message_of_kind kind values =
    if lawful kind values then option_map (λ sort. record { sort = sort; blocks = message_blocks kind (filled_values values) }) (sort_of kind) else None

-- the message that a kind and values make, none where they make none that may be left; a code may name no kind
abbrev pub message_to_send : Option Kind → List ℕ → Option MessageToSend
message_to_send None values = None
message_to_send (Some kind) values = message_of_kind kind values

-- what waits of a sort: a message's blocks, and how many of them are gone; with all of them gone none waits
pub record WaitingMessage : Type 0 where
  pub blocks : List Block
  pub gone : ℕ

abbrev pub nothing_waits : WaitingMessage
nothing_waits = record { blocks = []; gone = 0 }

abbrev pub waits : WaitingMessage → Bool
waits d = nat_lt d.gone (length d.blocks)

abbrev pub next_block : WaitingMessage → Block
next_block d = slice_index_or d.blocks d.gone idle_block

abbrev pub with_one_gone : WaitingMessage → WaitingMessage
with_one_gone d = record { blocks = d.blocks; gone = d.gone + 1 }
