-- Blocks counted one after another.
use Rattle.std.proofs.Common.{◌≡◌, ℕ, ◌+◌, ◌-◌, ◌^◌, ◌<◌, ◌≤◌, Bool, true, false, cond, eqb, leb, ltb, List, [], ◌∷◌, ◌++◌, sym, refl, ap, ◌∙◌, arith}
use Rattle.std.specs.Prelude.{◌&&◌}
use Rattle.std.specs.List.{count_by}
use Rattle.std.proofs.lemmas.List.Sums.{sum_by-cons}
use Rattle.std.proofs.lemmas.Bool.{false≢true}
use Rattle.std.proofs.lemmas.Bool.Decides.{nat_tests}
use Rattle.block.specs.declared.Block.{Block}
use Rattle.block.specs.Classes.{class_of, is_end}
use Rattle.progress.specs.declared.Goal.{Goal}
use Rattle.progress.specs.declared.Goal.TheVariants.{AllSent, Frames}
use Rattle.progress.specs.declared.Progress.{Progress}
use Rattle.progress.specs.Goals.{new_progress, progress_after, is_last, one_more}
use Rattle.progress.specs.Laws.{CountLaws, SentBlock, progress_after_all, ends_frame, frames_ended}

-- one block more in front
ended_more : (s : SentBlock) (ss : List SentBlock) → frames_ended (s ∷ ss) ≡ cond (ends_frame s) 1 0 + frames_ended ss
ended_more s ss = sum_by-cons (λ x. cond (ends_frame x) 1 0) s ss

one_fits : (n k : ℕ) → n + 1 + k < 2 ^ 64 → one_more n ≡ n + 1
one_fits n k h = omega arith

-- the count and the goal behind one block
counted_frames : (p : Progress) (s : SentBlock) (k : ℕ) → p.frames + cond (ends_frame s) 1 0 + k < 2 ^ 64 → (progress_after p s.block s.none_waits).frames ≡ p.frames + cond (ends_frame s) 1 0
counted_frames p s k = go (ends_frame s)
  where
    go : (t : Bool) → p.frames + cond t 1 0 + k < 2 ^ 64 →
        (cond t (record { goal = p.goal; frames = one_more p.frames; over = is_last p.goal (one_more p.frames) s.none_waits }) p).frames ≡ p.frames + cond t 1 0
    go true h = omega arith
    go false h = omega arith

frames_from : (p : Progress) (ss : List SentBlock) → p.frames + frames_ended ss < 2 ^ 64 → (progress_after_all p ss).frames ≡ p.frames + frames_ended ss
unfolding progress_after_all
frames_from p [] h = omega arith
frames_from p (s ∷ ss) h =
    let more = ended_more s ss in
    let one = counted_frames p s (frames_ended ss) (omega (arith, more, h)) in
    frames_from (progress_after p s.block s.none_waits) ss (omega (arith, one, more, h)) ∙ omega (arith, one, more)

-- from the beginning
frames_of : (p : Progress) (ss : List SentBlock) → p.frames ≡ 0 → frames_ended ss < 2 ^ 64 → (progress_after_all p ss).frames ≡ frames_ended ss
frames_of p ss e h = frames_from p ss (omega (arith, e, h)) ∙ omega (arith, e)

-- a number of frames: over as soon as there are as many
counted_over : (n : ℕ) (p : Progress) (s : SentBlock) → p.goal ≡ Frames n → p.over ≡ leb n p.frames → (progress_after p s.block s.none_waits).over ≡ leb n (progress_after p s.block s.none_waits).frames
counted_over n p s g o = go (ends_frame s)
  where
    go : (t : Bool) →
        (cond t (record { goal = p.goal; frames = one_more p.frames; over = is_last p.goal (one_more p.frames) s.none_waits }) p).over
        ≡ leb n (cond t (record { goal = p.goal; frames = one_more p.frames; over = is_last p.goal (one_more p.frames) s.none_waits }) p).frames
    go true = rw g refl
    go false = o

counted_goal : (p : Progress) (s : SentBlock) → (progress_after p s.block s.none_waits).goal ≡ p.goal
counted_goal p s = go (ends_frame s)
  where
    go : (t : Bool) → (cond t (record { goal = p.goal; frames = one_more p.frames; over = is_last p.goal (one_more p.frames) s.none_waits }) p).goal ≡ p.goal
    go true = refl
    go false = refl

over_from : (n : ℕ) (p : Progress) (ss : List SentBlock) → p.goal ≡ Frames n → p.over ≡ leb n p.frames → (progress_after_all p ss).over ≡ leb n (progress_after_all p ss).frames
unfolding progress_after_all
over_from n p [] g o = o
over_from n p (s ∷ ss) g o = over_from n (progress_after p s.block s.none_waits) ss (counted_goal p s ∙ g) (counted_over n p s g o)

-- the last block decides
all_then : (p : Progress) (ss ts : List SentBlock) → progress_after_all p (ss ++ ts) ≡ progress_after_all (progress_after_all p ss) ts
unfolding progress_after_all
all_then p [] ts = refl
all_then p (s ∷ ss) ts = all_then (progress_after p s.block s.none_waits) ss ts

goal_from : (p : Progress) (ss : List SentBlock) → (progress_after_all p ss).goal ≡ p.goal
unfolding progress_after_all
goal_from p [] = refl
goal_from p (s ∷ ss) = goal_from (progress_after p s.block s.none_waits) ss ∙ counted_goal p s

last_over : (p : Progress) (last : SentBlock) → p.goal ≡ AllSent → ends_frame last ≡ true →
    (progress_after p last.block last.none_waits).over ≡ (ltb 480 (progress_after p last.block last.none_waits).frames && last.none_waits)
last_over p last g e = go (ends_frame last) e
  where
    go : (t : Bool) → t ≡ true →
        (cond t (record { goal = p.goal; frames = one_more p.frames; over = is_last p.goal (one_more p.frames) last.none_waits }) p).over
        ≡ (ltb 480 (cond t (record { goal = p.goal; frames = one_more p.frames; over = is_last p.goal (one_more p.frames) last.none_waits }) p).frames && last.none_waits)
    go true h = ap (λ goal. is_last goal (one_more p.frames) last.none_waits) g
    go false h = absurd (false≢true h)

no_frames : (n : ℕ) → 1 ≤ n → leb n 0 ≡ eqb n 0
no_frames n h = grind (arith, nat_tests)

pub count_laws : CountLaws
unfolding progress_after_all
count_laws = record {
  frames = λ goal ss h. frames_of (new_progress goal) ss refl h;
  number = λ n ss low h. over_from n (new_progress (Frames n)) ss refl (sym (no_frames n low)) ∙ ap (leb n) (frames_of (new_progress (Frames n)) ss refl h);
  all_sent = λ ss last e h.
      let all = all_then (new_progress AllSent) ss (last ∷ []) in
      ap (λ p. p.over) all ∙ last_over (progress_after_all (new_progress AllSent) ss) last (goal_from (new_progress AllSent) ss) e
      ∙ ap (λ f. ltb 480 f && last.none_waits) (sym (ap (λ p. p.frames) all) ∙ frames_of (new_progress AllSent) (ss ++ last ∷ []) refl h);
}
