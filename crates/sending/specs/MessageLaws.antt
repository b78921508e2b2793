-- What becomes of the messages that are left, in every life of a sender.
use Rattle.std.specs.Prelude.{◌≡◌, ℕ, ◌+◌, ◌*◌, ◌/◌, ◌%◌, ◌<◌, ◌≤◌, ◌⊎◌, Bool, true, false, IsTrue, IsFalse, if◌then◌else◌, not, ◌&&◌, List, [], ◌∷◌, ◌++◌, Some, None, Option, Ok, Err, length, take, ◌==◌}
use Rattle.std.specs.List.{All, Contains, flat_map}
use Rattle.block.specs.declared.Block.{Block}
use Rattle.block.specs.Fixed.{idle_block}
use Rattle.refusal.specs.declared.Refusal.{Refusal}
use Rattle.message.specs.declared.Kind.{Kind}
use Rattle.message.specs.Values.{filled_values, lawful}
use Rattle.message.specs.Written.{message_blocks}
use Rattle.schedule.specs.declared.Item.{Item}
use Rattle.schedule.specs.declared.Item.TheVariants.{Frame, Idle, Basic, Protection, Verification, ClientSignal, Delay, Spare}
use Rattle.schedule.specs.Cycle.{item_at, low_priority_item, protection_item, round_items}
use Rattle.sending.specs.Blocks.{is_idle_block}
use Rattle.sending.specs.Messages.{same_sort}
use Rattle.waiting.specs.Messages.{MessageToSend, message_to_send, sort_of, waits}
use Rattle.waiting.specs.declared.Sort.{Sort}
use Rattle.waiting.specs.declared.Sort.TheVariants.{Delay as delays, Protection as protections}
use Rattle.sending.specs.Sender.{SenderSetup, SenderState, waiting_of, accepted_message, leave_answer, state_after_leave}
use Rattle.sending.specs.Life.{SenderCall, Life, LineItem, frame, gap, made, followed, send, leave, state_of, items, life_and}
use Rattle.sending.specs.LineLaws.{Each}

-- a refused leaving leaves the sender as it was
abbrev pub RefusedKeeps : Type 0
RefusedKeeps =
    (s : SenderState) (kind : Option Kind) (values : List ℕ) (cause : Refusal)
    → leave_answer s kind values ≡ Err cause
    → state_after_leave s kind values ≡ s

-- the opportunities of a sort, counted from 0 without end, and the items at which they stand:
-- a round has 13 for delay messages, low priority opportunities 19 to 31; every other cycle has one for APS
abbrev pub opportunity_item : Sort → ℕ → ℕ
opportunity_item delays k = low_priority_item (k / 13) (19 + k % 13)
opportunity_item protections k = protection_item k

abbrev pub is_opportunity : Sort → Item → Bool
is_opportunity delays Frame = false
is_opportunity delays Idle = false
is_opportunity delays (Basic mark) = false
is_opportunity delays Protection = false
is_opportunity delays (Verification block) = false
is_opportunity delays ClientSignal = false
is_opportunity delays (Delay block) = true
is_opportunity delays Spare = false
is_opportunity protections Frame = false
is_opportunity protections Idle = false
is_opportunity protections (Basic mark) = false
is_opportunity protections Protection = true
is_opportunity protections (Verification block) = false
is_opportunity protections ClientSignal = false
is_opportunity protections (Delay block) = false
is_opportunity protections Spare = false

-- a delay message starts at opportunity 19 alone, an APS message at any
abbrev pub may_start : Sort → ℕ → Bool
may_start delays k = k % 13 == 0
may_start protections k = true

-- the first opportunity to come at which a message may start, once n items have begun; that it is, is the law `FirstStarts`
abbrev pub first_start : Sort → ℕ → ℕ
first_start delays n = 13 * ((n + 5879) / round_items)
first_start protections n = (n + 94) / 130

pub record IsFirstStart (sort : Sort) (n k : ℕ) : Type 0 where
  pub starts : IsTrue (may_start sort k)
  pub to_come : n ≤ opportunity_item sort k
  pub first : (j : ℕ) → j < k → IsTrue (may_start sort j) → opportunity_item sort j < n

abbrev pub FirstStarts : Type 0
FirstStarts = (sort : Sort) (n : ℕ) → IsFirstStart sort n (first_start sort n)

-- a block on the line, with the number of the item that it is
pub record BlockAt : Type 0 where
  pub item : ℕ
  pub block : Block

-- blocks at the opportunities of a sort one after another, from opportunity k on
unfoldable pub in_a_row : Sort → ℕ → List Block → List BlockAt
in_a_row sort k [] = []
in_a_row sort k (b ∷ bs) = record { item = opportunity_item sort k; block = b } ∷ in_a_row sort (k + 1) bs

-- what the line has at the opportunities of a sort, idles aside, where the items begin with item i
abbrev pub found_at_item : Sort → ℕ → LineItem → List BlockAt
found_at_item sort i (frame f) = []
found_at_item sort i (gap b) = if is_opportunity sort (item_at i) && not (is_idle_block b) then record { item = i; block = b } ∷ [] else []

unfoldable pub found_on_line : Sort → ℕ → List LineItem → List BlockAt
found_on_line sort i [] = []
found_on_line sort i (x ∷ xs) = found_at_item sort i x ++ found_on_line sort (i + 1) xs

-- a message that was accepted: how many items had begun when it was left, and its blocks
pub record LeftMessage : Type 0 where
  pub after : ℕ
  pub blocks : List Block

abbrev pub message_left : Sort → ℕ → Option MessageToSend → List LeftMessage
message_left sort n None = []
message_left sort n (Some x) = if same_sort sort x.sort then record { after = n; blocks = x.blocks } ∷ [] else []

abbrev pub left_by_call : Sort → SenderState → ℕ → SenderCall → List LeftMessage
left_by_call sort s n (send waiting) = []
left_by_call sort s n (leave kind values) = message_left sort n (accepted_message s (message_to_send kind values))

-- the messages of a sort that were accepted, in the order of leaving
unfoldable pub messages_left : Sort → SenderSetup → Life → List LeftMessage
messages_left sort m made = []
messages_left sort m (followed l c) = messages_left sort m l ++ left_by_call sort (state_of m l) (length (items m l)) c

-- a leaving by a kind that may be left and values that are lawful for it: of the messages left of the kind's sort there is one more, the message
-- that kind and values make, left after the items that had begun; those of the other sort stay
pub record OneMoreLeft (m : SenderSetup) (l : Life) (kind : Option Kind) (values : List ℕ) : Type 0 where
  pub of_kind : Kind
  pub sort : Sort
  pub named : kind ≡ Some of_kind
  pub may_be_left : sort_of of_kind ≡ Some sort
  pub values_lawful : IsTrue (lawful of_kind values)
  pub one_more :
      messages_left sort m (followed l (leave kind values))
      ≡ messages_left sort m l ++ record { after = length (items m l); blocks = message_blocks of_kind (filled_values values) } ∷ []
  pub others : (other : Sort) → IsFalse (same_sort other sort) → messages_left other m (followed l (leave kind values)) ≡ messages_left other m l

-- a leaving that is answered Ok is such a one
abbrev pub AcceptedLeft : Type 0
AcceptedLeft =
    (m : SenderSetup) (l : Life) (kind : Option Kind) (values : List ℕ)
    → leave_answer (state_of m l) kind values ≡ Ok tt
    → OneMoreLeft m l kind values

-- and one that is refused is none of the messages left
abbrev pub RefusedNotLeft : Type 0
RefusedNotLeft =
    (m : SenderSetup) (l : Life) (kind : Option Kind) (values : List ℕ) (cause : Refusal)
    → leave_answer (state_of m l) kind values ≡ Err cause
    → (sort : Sort) → messages_left sort m (followed l (leave kind values)) ≡ messages_left sort m l

-- messages sent whole: each from the first opportunity on at which it may start
abbrev pub whole_messages : Sort → List LeftMessage → List BlockAt
whole_messages sort = flat_map (λ (x : LeftMessage). in_a_row sort (first_start sort x.after) x.blocks)

-- what the line has at the opportunities of a sort, and then some blocks at items still to come, are the messages left, in order, each whole and
-- once
abbrev pub MessagesOnTime : Type 0
MessagesOnTime =
    (sort : Sort) (m : SenderSetup) (l : Life)
    → ((rest : List BlockAt) × (
    (found_on_line sort 0 (items m l) ++ rest ≡ whole_messages sort (messages_left sort m l))
    × All (λ (x : BlockAt). length (items m l) ≤ x.item) rest))

-- all but the last are whole on the line, and the last is too unless it waits: then the line has the blocks of it that are gone
abbrev pub MessagesSent : Type 0
MessagesSent =
    (sort : Sort) (m : SenderSetup) (l : Life)
    → let d = waiting_of (state_of m l) sort in
    ((done : List LeftMessage) × ((last : LeftMessage) × (
    (messages_left sort m l ≡ done ++ (if waits d then last ∷ [] else []))
    × (found_on_line sort 0 (items m l)
    ≡ whole_messages sort done ++ (if waits d then in_a_row sort (first_start sort last.after) (take d.gone last.blocks) else [])))))

-- at an opportunity of a sort stands an idle, or the block of a message left that goes there
abbrev pub IdleOrLeft : Sort → List BlockAt → ℕ → LineItem → Type 0
IdleOrLeft sort whole i (frame f) = Unit {0}
IdleOrLeft sort whole i (gap b) = IsTrue (is_opportunity sort (item_at i)) → (b ≡ idle_block) ⊎ Contains whole (record { item = i; block = b })

abbrev pub OnlyLeftMessages : Type 0
OnlyLeftMessages =
    (sort : Sort) (m : SenderSetup) (l : Life) → Each (IdleOrLeft sort (whole_messages sort (messages_left sort m l))) 0 (items m l)

-- how many items it takes at most until a message that waits is whole on the line: a round, or two cycles, and the opportunities of its other blocks
abbrev pub longest_wait : Sort → ℕ
longest_wait delays = 128 * 65 + 12 * 130
longest_wait protections = 2 * 130

-- of all messages left until so many items more have begun, only one that was left later can wait
abbrev pub MessagesEnd : Type 0
MessagesEnd =
    (sort : Sort) (m : SenderSetup) (l : Life) (cs : List SenderCall)
    → IsTrue (waits (waiting_of (state_of m l) sort))
    → length (items m l) + longest_wait sort ≤ length (items m (life_and l cs))
    → length (messages_left sort m l) + (if waits (waiting_of (state_of m (life_and l cs)) sort) then 1 else 0)
    ≤ length (messages_left sort m (life_and l cs))
