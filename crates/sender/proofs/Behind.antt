-- The sender behind a call.
use Rattle.std.proofs.Common.{◌≡◌, ℕ, ◌+◌, ◌-◌, arith, List, [], ◌∷◌, Some, Option, refl, ap, sym, ◌∙◌}
use Rattle.std.specs.Prelude.{drop, slice_get, slice_index}
use Rattle.numbers.specs.Walk.{next_frame_number}
use Rattle.block.specs.declared.Block.{Block}
use Rattle.block.specs.declared.Pair.{Pair}
use Rattle.block.specs.Fixed.{start_block}
use Rattle.message.specs.declared.Kind.{Kind}
use Rattle.waiting.specs.Left.{WaitingBySort, left_after_leave}
use Rattle.overhead.specs.Format.{Fields}
use Rattle.whole_frame.specs.Meaning.{frame_written}
use Rattle.sending.specs.Frames.{fields, frame_rest}
use Rattle.sending.specs.Laid.{pairs_for}
use Rattle.sending.specs.Sender.{SenderSetup, SenderState, Sender, frame_result, state_after_leave, with_state}
use Rattle.sending.specs.Life.{Lengthens, leave}
use Rattle.sending.proofs.Lives.{lengthens}
use Rattle.sending.proofs.Frames.{frame_opens}
use Rattle.port.specs.Model.{Lists}

-- with what waits then, the sender is that of the leaving
left_behind : (v : Sender) (l : WaitingBySort) (kind : Option Kind) (values : List ℕ) → l ≡ left_after_leave v.state.left kind values
    → with_state v (record v.state { left = l }) ≡ with_state v (state_after_leave v.state kind values)
left_behind v l kind values e = ap (λ (x : WaitingBySort). with_state v (record v.state { left = x })) e

pub leave_lengthens : (s : Sender) {v : Sender} (l : WaitingBySort) (kind : Option Kind) (values : List ℕ) → v ≡ s → l ≡ left_after_leave v.state.left kind values
    → Lengthens s (leave kind values) (with_state v (record v.state { left = l })) []
leave_lengthens s {v} l kind values at e =
    lengthens s (with_state v (record v.state { left = l })) (leave kind values) []
    (left_behind v l kind values e ∙ ap (λ (x : Sender). with_state x (state_after_leave x.state kind values)) at) refl

-- a frame that is begun is its start block and the rest
pub begun_first : (f : Fields) (pairs : List Pair) (rest : List Block) (number entry : ℕ) → f ≡ fields number entry → rest ≡ frame_written f pairs → slice_get rest 0 ≡ Some start_block
begun_first f pairs rest number entry e r =
    ap (λ (bs : List Block). slice_get bs 0) (r ∙ ap (λ (x : Fields). frame_written x pairs) e ∙ frame_opens number entry pairs)

-- the state behind a frame's start block, but for its place in the schedule
pub frame_behind : (v s : Sender) (w : Lists) (f : Fields) (begun : List Block) (number : ℕ) → v ≡ s
    → f ≡ fields v.state.number (slice_index v.made.calendar v.state.number)
    → begun ≡ frame_written f (pairs_for v.made.calendar w) → number ≡ next_frame_number v.state.number
    → with_state v (record v.state { rest = drop 1 begun; number = number }) ≡ with_state s (record (frame_result s.made s.state w).state { position = s.state.position })
unfolding frame_result frame_rest
frame_behind v s w f begun number at e b n =
    ap (λ (bs : List Block). with_state v (record v.state { rest = drop 1 bs; number = number })) (b ∙ ap (λ (x : Fields). frame_written x (pairs_for v.made.calendar w)) e)
    ∙ ap (λ (x : ℕ). with_state v (record v.state { rest = drop 1 (frame_written (fields v.state.number (slice_index v.made.calendar v.state.number)) (pairs_for v.made.calendar w)); number = x })) n
    ∙ ap (λ (x : Sender). with_state x (record (frame_result x.made x.state w).state { position = x.state.position })) at

-- what a frame says of itself, where its overhead names the entry of the slot behind its number
pub announced_fields : (cal : List ℕ) (e n k : ℕ) → e ≡ slice_index cal (k - 1) → k ≡ n + 1 → record { entry = e; frame = n } ≡ fields n (slice_index cal n)
announced_fields cal e n k p q =
    let at : k - 1 ≡ n = omega (arith, q) in
    ap (λ (x : ℕ). fields n x) (p ∙ ap (slice_index cal) at)

-- the first block of the frame that was begun
pub start_comes : (pairs : List Pair) (f : Fields) (begun : List Block) (first : Option Block) (number entry : ℕ) → f ≡ fields number entry → begun ≡ frame_written f pairs
    → first ≡ slice_get begun 0 → first ≡ Some start_block
start_comes pairs f begun first number entry e b h = h ∙ begun_first f pairs begun number entry e b
