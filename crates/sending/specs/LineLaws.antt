-- What stands on the line, in every life of a sender.
use Rattle.std.specs.Prelude.{◌≡◌, ℕ, ◌+◌, ◌*◌, ◌%◌, ◌<◌, ◌≤◌, ◌⊎◌, IsTrue, IsFalse, List, [], ◌∷◌, ◌++◌, length, take, drop, slice_index}
use Rattle.block.specs.declared.Block.{Block}
use Rattle.block.specs.Fixed.{idle_block, start_block}
use Rattle.message.specs.Written.{basic_block}
use Rattle.numbers.specs.Range.{slots}
use Rattle.schedule.specs.declared.Item.{Item}
use Rattle.schedule.specs.declared.Item.TheVariants.{Frame as FrameItem, Idle, Basic, Protection, Verification, ClientSignal, Delay, Spare}
use Rattle.schedule.specs.Cycle.{item_at, frames_before}
use Rattle.whole_frame.specs.Meaning.{frame_written}
use Rattle.sending.specs.Frames.{fields}
use Rattle.sending.specs.Blocks.{is_end_block, is_start_block}
use Rattle.sending.specs.Messages.{cv_block, cs_block, is_message}
use Rattle.sending.specs.Sender.{SenderSetup, LineFrame}
use Rattle.sending.specs.Life.{Life, LineItem, frame, gap, state_of, blocks, items}

-- the blocks of an item, and of items in order
abbrev pub blocks_of_item : LineItem → List Block
blocks_of_item (frame f) = frame_written (fields f.number f.entry) f.pairs
blocks_of_item (gap b) = b ∷ []

unfoldable pub blocks_of_items : List LineItem → List Block
blocks_of_items [] = []
blocks_of_items (x ∷ xs) = blocks_of_item x ++ blocks_of_items xs

-- all items are sent whole, or all but the last, a frame of which some blocks are still to come
abbrev pub AreOnLine : List LineItem → List Block → List Block → Type 0
AreOnLine is bs rest =
    ((bs ≡ blocks_of_items is) × (rest ≡ []))
    ⊎ ((before : List LineItem) × ((f : LineFrame) × ((front : List Block) × (
    (is ≡ before ++ (frame f ∷ []))
    × (bs ≡ blocks_of_items before ++ (start_block ∷ front))
    × (blocks_of_item (frame f) ≡ start_block ∷ (front ++ rest))))))

-- the blocks sent are those of the items begun, in order
abbrev pub SendsItsItems : Type 0
SendsItsItems = (m : SenderSetup) (l : Life) → AreOnLine (items m l) (blocks m l) (state_of m l).rest

-- item i of a life, from 0, is what the schedule says: a frame has its number, announces its entry, and has a pair for each slot
pub record FrameStands (m : SenderSetup) (i : ℕ) (f : LineFrame) : Type 0 where
  pub item : item_at i ≡ FrameItem
  pub number : f.number ≡ frames_before i % slots
  pub entry : f.entry ≡ slice_index m.calendar f.number
  pub many : length f.pairs ≡ length m.calendar

abbrev pub IdleOrMessage : Block → Type 0
IdleOrMessage b = (b ≡ idle_block) ⊎ IsTrue (is_message b)

-- what of the messages that were left stands at an opportunity, and when, is said by the laws of messages
abbrev pub GapStands : SenderSetup → Block → Item → Type 0
GapStands m b FrameItem = ⊥
GapStands m b Idle = b ≡ idle_block
GapStands m b (Basic mark) = b ≡ basic_block mark
GapStands m b Protection = IdleOrMessage b
GapStands m b (Verification block) = b ≡ cv_block m.trail block
GapStands m b ClientSignal = b ≡ cs_block
GapStands m b (Delay block) = IdleOrMessage b
GapStands m b Spare = b ≡ idle_block

abbrev pub StandsInPlace : SenderSetup → ℕ → LineItem → Type 0
StandsInPlace m i (frame f) = FrameStands m i f
StandsInPlace m i (gap b) = GapStands m b (item_at i)

-- what holds of each of some items, with its number, from i on
unfoldable pub Each : (ℕ → LineItem → Type 0) → ℕ → List LineItem → Type 0
Each P i [] = Unit {0}
Each P i (x ∷ xs) = P i x × Each P (i + 1) xs

abbrev pub ItemsInPlace : Type 0
ItemsInPlace = (m : SenderSetup) (l : Life) → Each (StandsInPlace m) 0 (items m l)

-- a gap block is never a start block
abbrev pub NoStart : LineItem → Type 0
NoStart (frame f) = Unit {0}
NoStart (gap b) = IsFalse (is_start_block b)

abbrev pub GapsNeverStart : Type 0
GapsNeverStart = (m : SenderSetup) (l : Life) → Each (λ i x. NoStart x) 0 (items m l)

-- nor an end block, so that the end blocks are those of the frames
abbrev pub NoEnd : LineItem → Type 0
NoEnd (frame f) = Unit {0}
NoEnd (gap b) = IsFalse (is_end_block b)

abbrev pub GapsNeverEnd : Type 0
GapsNeverEnd = (m : SenderSetup) (l : Life) → Each (λ i x. NoEnd x) 0 (items m l)

abbrev pub one_if_frame : LineItem → ℕ
one_if_frame (frame f) = 1
one_if_frame (gap b) = 0

unfoldable pub frame_count : List LineItem → ℕ
frame_count [] = 0
frame_count (x ∷ xs) = one_if_frame x + frame_count xs

-- the 65 items of cycle c
abbrev pub cycle_of : SenderSetup → Life → ℕ → List LineItem
cycle_of m l c = take 65 (drop (65 * c) (items m l))

-- a whole cycle has 33 frames, 32 gaps and 32,768 blocks
abbrev pub CyclesWhole : Type 0
CyclesWhole =
    (m : SenderSetup) (l : Life) (c : ℕ)
    → 65 * c + 65 ≤ length (items m l)
    → (frame_count (cycle_of m l c) ≡ 33) × (length (blocks_of_items (cycle_of m l c)) ≡ 32768)

-- and the 32,768 blocks that begin cycle c are those of its items
abbrev pub CycleBlocks : Type 0
CycleBlocks =
    (m : SenderSetup) (l : Life) (c : ℕ)
    → 65 * c + 65 < length (items m l)
    → take 32768 (drop (32768 * c) (blocks m l)) ≡ blocks_of_items (cycle_of m l c)

-- the blocks from item i on are those of the items from i on
abbrev pub blocks_from : SenderSetup → Life → ℕ → List Block
blocks_from m l i = drop (length (blocks_of_items (take i (items m l)))) (blocks m l)

abbrev pub RunsLined : Type 0
RunsLined =
    (m : SenderSetup) (l : Life) (i : ℕ)
    → i < length (items m l)
    → AreOnLine (drop i (items m l)) (blocks_from m l i) (state_of m l).rest
