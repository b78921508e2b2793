use Rattle.std.proofs.Common.{◌≡◌, ◌/◌, [], length, get_or, refl, ap, ◌∙◌, arith, length-set, rules}
use Rattle.packet.specs.Format.{data_block, data_blocks, end_block}
use Rattle.packet.proofs.Blocks.{opened, data_put, completed, chunk_is, left_is}
use Rattle.packet.proofs.write.Goals as goal

pub returns-then-out-count : goal.returns-then-out-count
returns-then-out-count c =
    let n = c.block_count-count.ensures.blocks c.args.packet.now refl in
    record { answer = grind arith; output = search rules }

pub loop-i-init : goal.loop-i-init
unfolding data_blocks
loop-i-init c = opened c.args.out.now (omega arith)

pub loop-i-preserved : goal.loop-i-preserved
loop-i-preserved c =
    let n = c.as_chunks.ensures.front_len in
    data_put c.loop-i.i c.args.packet.now _ _ _ (simp length-set (omega arith)) c.loop-i.invariant
    (c.data_block.ensures
    ∙ ap (λ eights. data_block (get_or eights c.loop-i.i [])) c.as_chunks.ensures.front
    ∙ ap data_block (chunk_is (length c.args.packet.now / 8) c.loop-i.i c.args.packet.now [] (omega arith)))

pub returns : goal.returns
returns c =
    let n = c.block_count-count.ensures.blocks c.args.packet.now refl in
    let all : c.loop-i.i ≡ length c.args.packet.now / 8 = omega (arith, c.as_chunks.ensures.front_len) in
    record { answer = grind arith; output = rw c.as_chunks.ensures.front_len (completed c.args.packet.now c.args.out.now c.loop-i.out c.end_block.result c.idle.result (omega arith) (rw all at c.loop-i.invariant) (c.end_block.ensures ∙ ap end_block (c.as_chunks.ensures.back ∙ left_is (length c.args.packet.now / 8) c.args.packet.now)) c.idle.ensures) }
