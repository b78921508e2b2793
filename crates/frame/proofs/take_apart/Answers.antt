use Rattle.std.proofs.Common.{◌≡◌, ℕ, ◌+◌, ◌<◌, List, ◌++◌, length, get_or, drop, sym, ap, ◌∙◌, arith, length-append, below_more}
use Rattle.std.proofs.lemmas.List.{get_or_default}
use Rattle.block.specs.declared.Block.{Block}
use Rattle.block.specs.Fixed.{start_block}
use Rattle.frame.specs.Frames.{carried_after, carried_after_all}
use Rattle.frame.proofs.Carried.{blank}
use Rattle.frame.proofs.Frames.{stored_all, stored_carried, stored_more}
use Rattle.frame.proofs.take_apart.Goals as goal

pub loop-i-preserved : goal.loop-i-preserved
loop-i-preserved c =
    let i : ℕ = c.loop-i.i in
    let bs : List Block = c.args.blocks.now in
    let F : List ℕ = c.loop-i.overhead ++ c.loop-i.payload in
    let within : c.loop-i.i < length c.args.blocks.now = omega arith in
    let b : get_or bs i blank ≡ get_or bs i start_block = get_or_default bs i blank start_block within in
    let one : c.store_block.new.overhead ++ c.store_block.new.payload ≡ carried_after (i + 1) (get_or bs i start_block).bytes F =
    c.store_block.ensures.kept ∙ ap (λ (n : ℕ). carried_after n (get_or bs i blank).bytes F) c.of_index.ensures
    ∙ ap (λ (x : Block). carried_after (i + 1) x.bytes F) b in (
      c.store_block.array_long,
      c.store_block.array_long2,
      ap (λ (l : List ℕ). carried_after_all (i + 1 + 1) (drop (i + 1) bs) l) one ∙ sym (stored_more bs i F within) ∙ c.loop-i.invariant.2,
      below_more (λ j. length (get_or bs j start_block).bytes ≡ 8) i c.loop-i.invariant.3
          (ap (λ (x : Block). length x.bytes) (sym b) ∙ c.store_block.ensures.eight),
    )

pub returns : goal.returns
returns c =
    let bs : List Block = c.args.blocks.now in
    let o : List ℕ = c.args.overhead.now in
    let p : List ℕ = c.args.payload.now in
    sym (stored_all bs c.loop-i.i (c.loop-i.overhead ++ c.loop-i.payload) (omega arith)) ∙ c.loop-i.invariant.2
    ∙ stored_carried bs (o ++ p) c.told-blocks (length-append o p ∙ omega arith) (λ j h. c.loop-i.invariant.3 j (omega arith))
