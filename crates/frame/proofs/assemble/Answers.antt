use Rattle.std.proofs.Common.{◌≡◌, ℕ, ◌+◌, List, ◌++◌, get_or, set, sym, ap, ◌∙◌, subst, arith, below_more}
use Rattle.std.proofs.lemmas.List.{get_or-set_other, get_or-set_same, length-set}
use Rattle.block.specs.declared.Block.{Block}
use Rattle.frame.specs.Frames.{IsFrameShape, carried_by, frame_block, frame_of}
use Rattle.frame.proofs.Carried.{blank}
use Rattle.frame.proofs.Frames.{frame_carries, frame_is, frame_shaped}
use Rattle.frame.proofs.assemble.Goals as goal

pub loop-i-preserved : goal.loop-i-preserved
loop-i-preserved c =
    let i : ℕ = c.loop-i.i in
    let b : Block = c.block_at.result in
    let bs : List Block = c.loop-i.blocks in
    let F : List ℕ = c.args.overhead.now ++ c.args.payload.now in (
      length-set bs i b ∙ c.loop-i.invariant.0,
      below_more (λ j. get_or (set bs i b) j blank ≡ frame_block F (j + 1)) i
          (λ j h. get_or-set_other bs i j b blank (λ e. omega arith) ∙ c.loop-i.invariant.1 j h)
          (get_or-set_same bs i b blank (omega arith) ∙ c.block_at.ensures.made ∙ ap (frame_block F) c.of_index.ensures),
    )

pub returns : goal.returns
returns c =
    let F : List ℕ = c.args.overhead.now ++ c.args.payload.now in
    let made : c.loop-i.blocks ≡ frame_of F = frame_is F c.loop-i.blocks blank c.loop-i.invariant.0 (λ i h. c.loop-i.invariant.1 i (omega arith)) in
    record {
      made = made;
      shaped = subst IsFrameShape (sym made) (frame_shaped F);
      undone = ap carried_by made ∙ frame_carries F;
    }
