use Rattle.std.proofs.Common.{◌≡◌, ◌+◌, ◌-◌, ◌<◌, length, take, drop, ap, ◌∙◌, arith, length-take}
use Rattle.std.proofs.lemmas.List.{get_or-take}
use Rattle.block.specs.declared.Block.{Block}
use Rattle.packet.proofs.Copies.{copied_more, copied_end}
use Rattle.packet.proofs.copy_bytes.Goals as goal

pub loop-i-preserved : goal.loop-i-preserved
loop-i-preserved c =
    let within : c.loop-i.i < c.args.extent.whole = omega (arith, length-take c.args.extent.whole c.args.blocks.now) in
    copied_more c.args.blocks.now c.loop-i.i _ _ _ _ _ (omega arith) (omega arith)
    (c.copy_from_slice.ensures.after ∙ c.bytes_of.ensures.bytes ∙ ap (λ (b : Block). b.bytes) (get_or-take c.args.extent.whole c.args.blocks.now c.loop-i.i _ within))
    (ap length c.copy_from_slice.ensures.after ∙ c.bytes_of.ensures.eight) c.loop-i.invariant

pub returns : goal.returns
returns c =
    let all : c.loop-i.i ≡ c.args.extent.whole = omega (arith, length-take c.args.extent.whole c.args.blocks.now) in
    let left : 1 + c.args.extent.left - 1 ≡ c.args.extent.left = omega arith in
    copied_end c.args.blocks.now c.args.extent.whole _ c.args.extent.left _ _ _ _ (omega arith) (omega arith)
    (c.copy_from_slice-2.ensures.after ∙ ap (λ n. take n (drop 1 c.bytes_of-end.result)) left ∙ ap (λ bs. take c.args.extent.left (drop 1 bs)) c.bytes_of-end.ensures.bytes)
    (rw all at c.loop-i.invariant)
