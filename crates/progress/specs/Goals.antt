-- How far sending goes, block by block.
use Rattle.std.specs.Prelude.{◌≡◌, ℕ, ◌+◌, ◌-◌, ◌^◌, Bool, true, false, ◌&&◌, if◌then◌else◌, min, ◌==◌, nat_le, nat_lt}
use Rattle.block.specs.declared.Block.{Block}
use Rattle.block.specs.Classes.{class_of, is_end}
use Rattle.progress.specs.declared.Goal.{Goal}
use Rattle.progress.specs.declared.Goal.TheVariants.{AllSent, Frames}
use Rattle.progress.specs.declared.Progress.{Progress}

-- no frame is to be sent
abbrev pub is_none : Goal → Bool
is_none (Frames n) = n == 0
is_none AllSent = false

-- nothing is sent yet
abbrev pub new_progress : Goal → Progress
new_progress goal = record { goal = goal; frames = 0; over = is_none goal }

-- the multiframe by which the far end learns the calendar is not yet sent
abbrev pub is_learning_at : Goal → ℕ → Bool
is_learning_at (Frames n) frames = false
is_learning_at AllSent frames = nat_lt frames 480

abbrev pub is_learning : Progress → Bool
is_learning p = is_learning_at p.goal p.frames

-- may the end of the frame that makes so many be the last block?
abbrev pub is_last : Goal → ℕ → Bool → Bool
is_last (Frames n) frames none_waits = nat_le n frames
is_last AllSent frames none_waits = nat_lt 480 frames && none_waits

-- one frame more; the count stays where it would no longer fit
abbrev pub one_more : ℕ → ℕ
one_more frames = min (frames + 1) (2 ^ 64 - 1)

-- after a block that was sent
abbrev pub progress_after : Progress → Block → Bool → Progress
progress_after p block none_waits =
    if is_end (class_of block)
    then record { goal = p.goal; frames = one_more p.frames; over = is_last p.goal (one_more p.frames) none_waits }
    else p
