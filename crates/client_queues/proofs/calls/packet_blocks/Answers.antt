-- Each block is the next, and none is left behind the last.
use Rattle.std.proofs.Common.{sym, arith, rules}
use Rattle.std.proofs.lemmas.Option.{slice_get_within}
use Rattle.client_queues.proofs.Lists.{one_more, no_more}
use Rattle.packet.specs.Format.{packet_blocks}
use Rattle.client_queues.proofs.calls.packet_blocks.Goals as goal

pub loop-block-smaller : goal.loop-block-smaller
loop-block-smaller c =
    let w = slice_get_within (packet_blocks c.args.packet.now) c.len.result c.in-Some.block (sym c.in-Some.ensures) in
    omega (arith, w, c.len.ensures, c.in_ok-push_back.ensures.len)

pub loop-block-preserved : goal.loop-block-preserved
loop-block-preserved c =
    one_more (packet_blocks c.args.packet.now) c.loop-block.blocks c.len.result c.len.ensures c.loop-block.invariant c.push_back.new.self c.in-Some.block
    c.in-Some.ensures c.in_ok-push_back.ensures.items c.in_ok-push_back.ensures.len

pub returns : goal.returns
returns c = no_more (packet_blocks c.args.packet.now) c.loop-block.blocks c.len.result c.len.ensures c.loop-block.invariant (search rules)
