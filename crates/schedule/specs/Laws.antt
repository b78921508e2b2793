-- The schedule in the words of the line: which items a sender's life has, and how many of each.
use Rattle.std.specs.Prelude.{◌≡◌, ℕ, ◌+◌, ◌-◌, ◌*◌, ◌/◌, ◌%◌, ◌≤◌, ◌≢◌, ◌↔◌, IsTrue, List, [], ◌∷◌, map, count_by}
use Rattle.std.specs.List.{range_with_len}
use Rattle.message.specs.declared.Mark.TheVariants.{Start, End}
use Rattle.schedule.specs.declared.Item.{Item}
use Rattle.schedule.specs.declared.Item.TheVariants.{Frame, Idle, Basic, Protection, Verification, ClientSignal, Delay, Spare}
use Rattle.schedule.specs.Cycle.{item_at, is_frame, frames_before, low_priority_item, protection_item, round_items}

-- the n items from item i on
abbrev pub items_from : ℕ → ℕ → List Item
items_from i n = map item_at (range_with_len i n)

-- how many there are of each
pub record Counts : Type 0 where
  pub frames : ℕ
  pub idles : ℕ
  pub starts : ℕ
  pub ends : ℕ
  pub protections : ℕ
  pub verifications : ℕ
  pub client_signals : ℕ
  pub delays : ℕ
  pub spares : ℕ

abbrev pub none_counted : Counts
none_counted = record { frames = 0; idles = 0; starts = 0; ends = 0; protections = 0; verifications = 0; client_signals = 0; delays = 0; spares = 0 }

abbrev pub one_more : Item → Counts → Counts
one_more Frame c = record c { frames = c.frames + 1 }
one_more Idle c = record c { idles = c.idles + 1 }
one_more (Basic Start) c = record c { starts = c.starts + 1 }
one_more (Basic End) c = record c { ends = c.ends + 1 }
one_more Protection c = record c { protections = c.protections + 1 }
one_more (Verification block) c = record c { verifications = c.verifications + 1 }
one_more ClientSignal c = record c { client_signals = c.client_signals + 1 }
one_more (Delay block) c = record c { delays = c.delays + 1 }
one_more Spare c = record c { spares = c.spares + 1 }

abbrev pub counts : List Item → Counts
counts [] = none_counted
counts (x ∷ xs) = one_more x (counts xs)

-- in a round of 128 cycles
abbrev pub RoundCounts : Type 0
RoundCounts = counts (items_from 0 round_items) ≡ record {
  frames = 128 * 33;
  idles = 128 * 30;
  starts = 64;
  ends = 64;
  protections = 64;
  verifications = 17;
  client_signals = 1;
  delays = 13;
  spares = 33;
}

pub record Schedule : Type 0 where
  -- a frame stands at every even place of a cycle and at no other,
  pub frames : (i : ℕ) → IsTrue (is_frame (item_at i)) ↔ (i % 65 % 2 ≡ 0)
  -- so a cycle has 33 frames and 32 gaps, and the first i items have as many frames as said
  pub cycle : (c : ℕ) → count_by is_frame (items_from (65 * c) 65) ≡ 33
  pub before : (i : ℕ) → count_by is_frame (items_from 0 i) ≡ frames_before i
  -- the basic message behind frame 1, by the cycle's opportunity
  pub start : (k : ℕ) → item_at (65 * (2 * k) + 1) ≡ Basic Start
  pub end : (k : ℕ) → item_at (65 * (2 * k + 1) + 1) ≡ Basic End
  -- the opportunities, by their number, and no other item is one
  pub protection : (i : ℕ) → (item_at i ≡ Protection) ↔ (i ≡ protection_item (i / 130))
  pub verification : (i n : ℕ) → 1 ≤ n → n ≤ 17 → (item_at i ≡ Verification (n - 1)) ↔ (i ≡ low_priority_item (i / round_items) n)
  pub client_signal : (i : ℕ) → (item_at i ≡ ClientSignal) ↔ (i ≡ low_priority_item (i / round_items) 18)
  pub delay : (i n : ℕ) → 19 ≤ n → n ≤ 31 → (item_at i ≡ Delay (n - 19)) ↔ (i ≡ low_priority_item (i / round_items) n)
  pub spare : (r n : ℕ) → 32 ≤ n → n ≤ 64 → item_at (low_priority_item r n) ≡ Spare
  -- all other gaps are idle
  pub idle : (i : ℕ) → i % 65 % 2 ≡ 1 → (i % 65 ≢ 1) → (i % 65 ≢ 35) → item_at i ≡ Idle
  -- after a round all comes again
  pub again : (i : ℕ) → item_at (i % round_items) ≡ item_at i
  pub counts : RoundCounts
