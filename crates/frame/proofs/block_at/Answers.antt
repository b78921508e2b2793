use Rattle.std.proofs.Common.{◌≡◌, ℕ, List, ◌++◌, ap, ◌∙◌, arith}
use Rattle.frame.specs.Frames.{frame_block}
use Rattle.frame.proofs.Carried.{data_at, end_at}
use Rattle.frame.proofs.block_at.Goals as goal

pub returns-in-2-clause-made : goal.returns-in-2-clause-made
returns-in-2-clause-made c =
    let F : List ℕ = c.args.overhead.now ++ c.args.payload.now in
    let e : 2 ≡ c.args.place = omega arith in
    c.first_data.ensures ∙ ap (frame_block F) e

pub returns-in_default-clause-made : goal.returns-in_default-clause-made
returns-in_default-clause-made c =
    let F : List ℕ = c.args.overhead.now ++ c.args.payload.now in
    let e : 992 ≡ c.args.place = omega arith in
    end_at c.args.overhead.now c.args.payload.now c.end.result c.told-overhead c.end.ensures.kind c.end.ensures.taken
    ∙ ap (frame_block F) e

pub returns-then-n-lt992-clause-made : goal.returns-then-n-lt992-clause-made
returns-then-n-lt992-clause-made c =
    data_at c.args.overhead.now c.args.payload.now c.args.place _ c.data.result c.told-overhead
    (λ e. omega arith) (λ e. omega arith) (omega arith) c.data.ensures.kind c.data.ensures.taken
