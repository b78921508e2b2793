-- One more queue is empty too.
use Rattle.std.proofs.Common.{sym, ◌∙◌, ap, arith}
use Rattle.std.specs.List.{sum_by}
use Rattle.std.specs.VecDeque.{deque_len}
use Rattle.std.proofs.lemmas.List.Sums.{sum_by_push}
use Rattle.client_queues.proofs.Lists.{empty_more, none_wait_in}
use Rattle.client_queues.proofs.ClientQueues.new.Goals as goal

pub loop-preserved : goal.loop-preserved
loop-preserved c =
    record {
      many = omega (arith, c.loop.invariant.many, c.in_ok-push.ensures.len);
      empty = empty_more c.loop.queues.items c.push.new.self.items c.new.result c.loop.counter c.loop.invariant.empty c.new.ensures.items c.in_ok-push.ensures.items;
      sum = ap (sum_by deque_len) c.in_ok-push.ensures.items ∙ sum_by_push deque_len c.loop.queues.items c.new.result ∙ omega (arith, c.loop.invariant.sum, c.new.ensures.len);
    }

pub invariant_of-result : goal.invariant_of-result
invariant_of-result c =
    record {
      all = omega (arith, c.loop.invariant.many, c.loop-test.false, c.loop.auto.counter-end);
      counted = sym c.loop.invariant.sum;
    }

pub returns : goal.returns
returns c = none_wait_in c.loop.queues.items c.loop.counter c.loop.invariant.empty
