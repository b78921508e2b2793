-- A life of a sender: how it was made, and its calls in the order in which they came, with what may happen to the inlets between two of them.
use Rattle.std.specs.Prelude.{◌≡◌, ℕ, if◌then◌else◌, List, [], ◌∷◌, ◌++◌, Option}
use Rattle.block.specs.declared.Block.{Block}
use Rattle.port.specs.Model.{Lists}
use Rattle.message.specs.declared.Kind.{Kind}
use Rattle.schedule.specs.Cycle.{item_at, is_frame}
use Rattle.sending.specs.Sender.{SenderSetup, SenderState, Sender, new_sender, LineFrame, new_sender_state, frame_due, item_result, send_result, state_after_leave}

pub data SenderCall : Type 0 where
  -- a send, with what waits at the inlet then
  send : Lists → SenderCall
  -- the leaving of a message by kind, none for a code that names none, and values, accepted or refused; an answer is the leaving of a 2DMR
  leave : Option Kind → List ℕ → SenderCall

pub data Life : Type 0 where
  made : Life
  followed : Life → SenderCall → Life

abbrev pub state_after_call : SenderSetup → SenderState → SenderCall → SenderState
state_after_call m s (send waiting) = (send_result m s waiting).state
state_after_call m s (leave kind values) = state_after_leave s kind values

-- the state to which a life leads
unfoldable pub state_of : SenderSetup → Life → SenderState
state_of m made = new_sender_state
state_of m (followed l c) = state_after_call m (state_of m l) c

-- what goes on the line: a frame, or a gap block
pub data LineItem : Type 0 where
  frame : LineFrame → LineItem
  gap : Block → LineItem

-- the item that a send begins, if any
abbrev pub items_begun_by : SenderSetup → SenderState → Lists → List Block → List LineItem
items_begun_by m s waiting [] =
    (if is_frame (item_at s.position) then frame (frame_due m s waiting) else gap (item_result m s waiting (item_at s.position)).block) ∷ []
items_begun_by m s waiting (b ∷ bs) = []

abbrev pub items_begun : SenderSetup → SenderState → Lists → List LineItem
items_begun m s waiting = items_begun_by m s waiting s.rest

abbrev pub call_blocks : SenderSetup → SenderState → SenderCall → List Block
call_blocks m s (send waiting) = (send_result m s waiting).block ∷ []
call_blocks m s (leave kind values) = []

abbrev pub call_items : SenderSetup → SenderState → SenderCall → List LineItem
call_items m s (send waiting) = items_begun m s waiting
call_items m s (leave kind values) = []

-- the blocks sent, in order
unfoldable pub blocks : SenderSetup → Life → List Block
blocks m made = []
blocks m (followed l c) = blocks m l ++ call_blocks m (state_of m l) c

-- the items begun, in order
unfoldable pub items : SenderSetup → Life → List LineItem
items m made = []
items m (followed l c) = items m l ++ call_items m (state_of m l) c

-- a life, and calls after it
unfoldable pub life_and : Life → List SenderCall → Life
life_and l [] = l
life_and l (c ∷ cs) = life_and (followed l c) cs

-- a call makes a life longer by one: the sender is made from the same, and where a life leads to its state before the call, the life with the call
-- leads to its state behind it, and has the call's blocks behind its own
abbrev pub Lengthens : Sender → SenderCall → Sender → List Block → Type 0
Lengthens before c behind call_sent =
    (behind.made ≡ before.made)
    × ((l : Life) → state_of before.made l ≡ before.state
    → (state_of before.made (followed l c) ≡ behind.state) × (blocks before.made (followed l c) ≡ blocks before.made l ++ call_sent))

-- so each send, with what waits then, and each leaving; and to a sender that is made leads the life with no call
abbrev pub CallsLengthen : Type 0
CallsLengthen =
    ((s : Sender) (c : SenderCall) → Lengthens s c (record s { state = state_after_call s.made s.state c }) (call_blocks s.made s.state c))
    × ((calendar trail : List ℕ) → state_of (new_sender calendar trail).made made ≡ (new_sender calendar trail).state)
