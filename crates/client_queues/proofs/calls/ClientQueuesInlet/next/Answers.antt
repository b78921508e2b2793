-- The client's queue is without its first block, or empty as it was.
use Rattle.std.proofs.Common.{refl, arith}
use Rattle.client_queues.proofs.Lists.{given_rest, none_rest}
use Rattle.client_queues.proofs.calls.ClientQueuesInlet.next.Goals as goal

pub returns-in_err-block-clause-rest : goal.returns-in_err-block-clause-rest
returns-in_err-block-clause-rest c =
    none_rest c.args.self.now _ c.index_mut.result.now c.index_mut.ensures.value c.args.client (omega (arith, c.index.ensures.value)) (omega (arith, c.index.ensures.high)) c.pop_front.new.self _ refl
    c.in_err-block.ensures.cases.0 c.in_err-block.ensures.cases.1

pub returns-clause-rest : goal.returns-clause-rest
returns-clause-rest c =
    given_rest c.args.self.now _ c.index_mut.result.now c.index_mut.ensures.value c.args.client (omega (arith, c.index.ensures.value)) (omega (arith, c.index.ensures.high)) c.pop_front.new.self _ refl
    c.in_ok-block.block c.in_ok-block.ensures.items
