-- What becomes of the clients' blocks, in every life of a sender.
use Rattle.std.specs.Prelude.{◌≡◌, ◌≢◌, ℕ, ◌-◌, ◌*◌, ◌⊎◌, if◌then◌else◌, List, [], ◌∷◌, ◌++◌, map, length, take, drop, replicate}
use Rattle.std.specs.List.{All}
use Rattle.block.specs.declared.Block.{Block}
use Rattle.block.specs.Fixed.{idle_block, error_block}
use Rattle.port.specs.Model.{Lists}
use Rattle.calendar.specs.Share.{slot_count}
use Rattle.block.specs.Classes.{lawful_or_error}
use Rattle.block.specs.Whole.{Whole, WholePair}
use Rattle.sending.specs.Blocks.{without_idles}
use Rattle.sending.specs.Laid.{pairs_for, room_for, blocks_laid_for}
use Rattle.sending.specs.Sender.{SenderSetup, send_result, frame_begins}
use Rattle.sending.specs.Life.{Life, LineItem, frame, gap, state_of, items_begun, items}
use Rattle.sending.specs.LineLaws.{Each}

-- a client's slots, with room for n blocks, hold what its inlet gave, unlawful blocks replaced, and then idles
abbrev pub filled_up : ℕ → List Block → List Block
filled_up n given = map lawful_or_error given ++ replicate (n - length given) idle_block

-- so do those of every client, and the empty slots hold error blocks
abbrev pub FillsSlots : SenderSetup → LineItem → Type 0
FillsSlots m (frame f) =
    ((client : ℕ) → client ≢ 0 → blocks_laid_for m.calendar f.pairs client ≡ filled_up (room_for client m.calendar) (f.given client))
    × (blocks_laid_for m.calendar f.pairs 0 ≡ replicate (2 * slot_count 0 m.calendar) error_block)
FillsSlots m (gap b) = Unit {0}

abbrev pub SlotsFilled : Type 0
SlotsFilled = (m : SenderSetup) (l : Life) → Each (λ i x. FillsSlots m x) 0 (items m l)

-- idles aside, what a frame has in a client's slots is what its inlet gave for it, unlawful blocks replaced
abbrev pub Carries : SenderSetup → LineItem → Type 0
Carries m (frame f) =
    (client : ℕ) → client ≢ 0
    → without_idles (blocks_laid_for m.calendar f.pairs client) ≡ map lawful_or_error (without_idles (f.given client))
Carries m (gap b) = Unit {0}

abbrev pub FramesCarry : Type 0
FramesCarry = (m : SenderSetup) (l : Life) → Each (λ i x. Carries m x) 0 (items m l)

-- whole blocks make whole pairs, which a frame can carry and give back
abbrev pub LaidWhole : Type 0
LaidWhole = (m : SenderSetup) (waiting : Lists) → ((client : ℕ) → All Whole (waiting client)) → All WholePair (pairs_for m.calendar waiting)

-- what the inlets gave for some items, and what was laid into them
abbrev pub blocks_given_for : List LineItem → Lists
blocks_given_for [] client = []
blocks_given_for (frame f ∷ xs) client = f.given client ++ blocks_given_for xs client
blocks_given_for (gap b ∷ xs) client = blocks_given_for xs client

abbrev pub blocks_laid_in : SenderSetup → List LineItem → Lists
blocks_laid_in m [] client = []
blocks_laid_in m (frame f ∷ xs) client = blocks_laid_for m.calendar f.pairs client ++ blocks_laid_in m xs client
blocks_laid_in m (gap b ∷ xs) client = blocks_laid_in m xs client

-- so over any stretch of items
abbrev pub StretchesCarry : Type 0
StretchesCarry =
    (m : SenderSetup) (l : Life) (i n client : ℕ)
    → client ≢ 0
    → let stretch = take n (drop i (items m l)) in
    without_idles (blocks_laid_in m stretch client) ≡ map lawful_or_error (without_idles (blocks_given_for stretch client))

-- what leaves a client's list at a send that begins a frame is all that waits, up to two blocks for each of its slots; at any other send
-- nothing leaves
abbrev pub TakesWaiting : Type 0
TakesWaiting =
    (m : SenderSetup) (l : Life) (waiting : Lists) (client : ℕ)
    → let s = state_of m l in
    let n = (if frame_begins s then room_for client m.calendar else 0) in
    (blocks_given_for (items_begun m s waiting) client ≡ take n (waiting client))
    × ((send_result m s waiting).waiting client ≡ drop n (waiting client))

-- so what leaves was given for the frame that begins
abbrev pub GivenLeaves : Type 0
GivenLeaves =
    (m : SenderSetup) (l : Life) (waiting : Lists) (client : ℕ)
    → let s = state_of m l in
    waiting client ≡ blocks_given_for (items_begun m s waiting) client ++ (send_result m s waiting).waiting client

-- and the lists of others stay
abbrev pub OthersKeep : Type 0
OthersKeep =
    (m : SenderSetup) (l : Life) (waiting : Lists) (client : ℕ)
    → (slot_count client m.calendar ≡ 0) ⊎ (client ≡ 0)
    → (send_result m (state_of m l) waiting).waiting client ≡ waiting client
