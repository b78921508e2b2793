-- The queues so far are empty, and there is one for each turn.
use Rattle.std.proofs.Common.{◌≡◌, List, [], map, replicate}
use Rattle.std.specs.List.{sum_by}
use Rattle.std.specs.Vec.{vec_len}
use Rattle.std.specs.VecDeque.{deque_items, deque_len}
use Rattle.block.specs.declared.Block.{Block}
use Rattle.client_queues.proofs.ClientQueues.new.Given as goal

abbrev pub invariant-loop : goal.invariant-loop
invariant-loop l =
    record {
      many : vec_len l.queues ≡ l.counter;
      empty : map deque_items l.queues.items ≡ replicate l.counter (let none : List Block = [] in none);
      sum : sum_by deque_len l.queues.items ≡ 0;
    }
