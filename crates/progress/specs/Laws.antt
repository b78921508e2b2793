-- What the count says of blocks sent one after another.
use Rattle.std.specs.Prelude.{◌≡◌, ℕ, ◌+◌, ◌^◌, ◌<◌, ◌≤◌, Bool, true, ◌&&◌, List, [], ◌∷◌, ◌++◌, count_by, nat_le, nat_lt}
use Rattle.block.specs.declared.Block.{Block}
use Rattle.block.specs.Classes.{class_of, is_end}
use Rattle.progress.specs.declared.Goal.{Goal}
use Rattle.progress.specs.declared.Goal.TheVariants.{AllSent, Frames}
use Rattle.progress.specs.declared.Progress.{Progress}
use Rattle.progress.specs.Goals.{new_progress, progress_after}

-- a block that was sent, and whether no packet waits behind it
pub record SentBlock : Type 0 where
  pub block : Block
  pub none_waits : Bool

abbrev pub ends_frame : SentBlock → Bool
ends_frame s = is_end (class_of s.block)

-- frames ended by these blocks
abbrev pub frames_ended : List SentBlock → ℕ
frames_ended ss = count_by ends_frame ss

-- after these blocks, counted one after another
unfoldable pub progress_after_all : Progress → List SentBlock → Progress
progress_after_all p [] = p
progress_after_all p (s ∷ ss) = progress_after_all (progress_after p s.block s.none_waits) ss

pub record CountLaws : Type 0 where
  -- frames are counted at their end blocks
  pub frames : (goal : Goal) (ss : List SentBlock) → frames_ended ss < 2 ^ 64 → (progress_after_all (new_progress goal) ss).frames ≡ frames_ended ss
  -- a number of frames is reached where as many have ended, and no sooner
  pub number : (n : ℕ) (ss : List SentBlock) → 1 ≤ n → frames_ended ss < 2 ^ 64 → (progress_after_all (new_progress (Frames n)) ss).over ≡ nat_le n (frames_ended ss)
  -- all is sent where the last of these blocks ends the 481st frame or a later one, and no packet waits behind it
  pub all_sent :
      (ss : List SentBlock) (last : SentBlock) → ends_frame last ≡ true → frames_ended (ss ++ last ∷ []) < 2 ^ 64 →
      (progress_after_all (new_progress AllSent) (ss ++ last ∷ [])).over ≡ nat_lt 480 (frames_ended (ss ++ last ∷ [])) && last.none_waits
