use Rattle.std.proofs.Common.{◌≡◌, ℕ, ◌-◌, ◌*◌, ◌<◌, ◌++◌, length, take, drop, sym, ap, ◌∙◌, arith}
use Rattle.std.specs.Slice.Iter.{chunks_exact_rest}
use Rattle.message.specs.Kinds.{block_count_of}
use Rattle.message.specs.Written.{message_blocks}
use Rattle.message.proofs.Writes.{lawful_length, some_blocks, one_more, all_but_last, last_one}
use Rattle.message.proofs.write_blocks.Goals as goal

pub loop-i-preserved : goal.loop-i-preserved
loop-i-preserved c =
    let steps = c.in-Some.ensures.steps in
    let below : c.loop-i.i-iterator.count < block_count_of c.args.kind - 1 = omega (arith, steps.0.1, c.blocks-last.ensures) in
    let turn =
    one_more c.args.kind c.args.values.now c.in-Some.pair.now (chunks_exact_rest c.next.new.self.iter.iter)
    c.args.output.now c.loop-i.output c.loop-i.i-iterator.count c.in-Some.i c.next.new.self.count c.message_block.result
    (lawful_length c.args.kind c.args.values.now c.requires.lawful) below c.requires.room c.loop-i.invariant.made
    (sym c.loop-i.invariant.rest ∙ steps.0.0.1.0) (steps.0.0.1.1 ∙ c.loop-i.invariant.size) steps.1 steps.2 c.message_block.ensures in
    record { made = turn.0; rest = turn.1; size = steps.0.0.0 ∙ c.loop-i.invariant.size; left = omega (arith, steps.0.1, steps.2) }

pub returns : goal.returns
returns c =
    let steps = c.in-None.ensures.steps in
    let long = lawful_length c.args.kind c.args.values.now c.requires.lawful in
    let some = some_blocks c.args.kind in
    let last : c.blocks-last.result - 1 ≡ block_count_of c.args.kind - 1 = ap (λ (n : ℕ). n - 1) c.blocks-last.ensures in
    let at : c.loop-i.i-iterator.count ≡ c.blocks-last.result - 1
    = all_but_last c.args.values.now (chunks_exact_rest c.loop-i.i-iterator.iter.iter) c.loop-i.i-iterator.count c.loop-i.i-iterator.iter.n _ (c.blocks-last.result - 1)
    (omega (arith, long, some, last)) c.loop-i.invariant.rest c.loop-i.invariant.size c.loop-i.invariant.left (λ g. (steps.0 g).1.0) in
    let two : length c.last_values.result ≡ 2 = omega arith in
    last_one c.args.kind c.args.values.now c.last_values.result c.args.output.now c.loop-i.output (c.blocks-last.result - 1) c.message_block-2.result
    long last c.requires.room
    (c.loop-i.invariant.made ∙ ap (λ (i : ℕ). message_blocks c.args.kind (take (2 * i) c.args.values.now) ++ drop i c.args.output.now) at)
    two c.last_values.ensures c.message_block-2.ensures
