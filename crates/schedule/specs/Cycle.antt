-- What stands at each place of a sender's life. Its items are numbered from 0. A cycle is 65 of them: 33 frames at the even places, and gap
-- blocks at the odd ones between; place 1 is behind frame 1, and place 35 behind frame 18. After 128 cycles, a round, all comes again.
use Rattle.std.specs.Prelude.{ℕ, ◌+◌, ◌-◌, ◌*◌, ◌/◌, ◌%◌, ◌<◌, Bool, true, false, if◌then◌else◌, ◌==◌, nat_le}
use Rattle.message.specs.declared.Mark.{Mark}
use Rattle.message.specs.declared.Mark.TheVariants.{Start, End}
use Rattle.schedule.specs.declared.Item.{Item}
use Rattle.schedule.specs.declared.Item.TheVariants.{Frame, Idle, Basic, Protection, Verification, ClientSignal, Delay, Spare}

-- items of a round
abbrev pub round_items : ℕ
round_items = 128 * 65

-- the opportunities take turns: protection in cycles 0, 2, 4 and so on, low priority in the others
abbrev pub is_protection_cycle : ℕ → Bool
is_protection_cycle cycle = cycle % 2 == 0

-- the basic message has the start mark before a protection opportunity, and the end mark before a low priority one
abbrev pub basic_mark : ℕ → Mark
basic_mark cycle = if is_protection_cycle cycle then Start else End

-- low priority opportunities count round from 1 to 64
abbrev pub opportunity_number : ℕ → ℕ
opportunity_number cycle = cycle % 128 / 2 + 1

-- 1 to 17 are for the blocks 0 to 16 of the CV message, 18 for CS, 19 to 31 for the blocks 0 to 12 of a waiting delay message
abbrev pub low_priority : ℕ → Item
low_priority n =
    if nat_le n 17 then Verification (n - 1)
    else if n == 18 then ClientSignal
    else if nat_le n 31 then Delay (n - 19)
    else Spare

abbrev pub opportunity : ℕ → Item
opportunity cycle = if is_protection_cycle cycle then Protection else low_priority (opportunity_number cycle)

-- by cycle and place
abbrev pub item_in : ℕ → ℕ → Item
item_in cycle place =
    if place % 2 == 0 then Frame
    else if place == 1 then Basic (basic_mark cycle)
    else if place == 35 then opportunity cycle
    else Idle

-- item i of a sender's life
unfoldable pub item_at : ℕ → Item
item_at i = item_in (i / 65) (i % 65)

-- the position behind one, in a round
abbrev pub next_position : ℕ → ℕ
next_position n = (n + 1) % round_items

-- a block of CV is one of 17, and a block of a delay message one of 13
abbrev pub BlockInRange : Item → Type 0
BlockInRange Frame = Unit {0}
BlockInRange Idle = Unit {0}
BlockInRange (Basic mark) = Unit {0}
BlockInRange Protection = Unit {0}
BlockInRange (Verification block) = block < 17
BlockInRange ClientSignal = Unit {0}
BlockInRange (Delay block) = block < 13
BlockInRange Spare = Unit {0}

abbrev pub is_frame : Item → Bool
is_frame Frame = true
is_frame Idle = false
is_frame (Basic mark) = false
is_frame Protection = false
is_frame (Verification block) = false
is_frame ClientSignal = false
is_frame (Delay block) = false
is_frame Spare = false

-- how many frames the first i items have; the next one's number is this modulo 480
abbrev pub frames_before : ℕ → ℕ
frames_before i = i / 65 * 33 + (i % 65 + 1) / 2

-- the item at which low priority opportunity n, 1 to 64, of a round stands; rounds are counted from 0
abbrev pub low_priority_item : ℕ → ℕ → ℕ
low_priority_item round n = 65 * (128 * round + (2 * n - 1)) + 35

-- the item at which protection opportunity k stands, counted from 0 without end
abbrev pub protection_item : ℕ → ℕ
protection_item k = 65 * (2 * k) + 35
