-- The client's queue is longer by the packet's blocks, or as it was.
use Rattle.std.proofs.Common.{◌++◌, ◌∙◌, ap, refl, arith}
use Rattle.std.proofs.lemmas.Result.{err_from_is_err_and}
use Rattle.client_queues.proofs.Lists.{more_wait, same_wait}
use Rattle.client_queues.proofs.ClientQueues.add.Goals as goal

pub returns-in_err-append-clause-err : goal.returns-in_err-append-clause-err
returns-in_err-append-clause-err c =
    let p = err_from_is_err_and c.from_residual-in_err-append.result c.from_residual-in_err-append.ensures.1 in
    rw p.1
    (same_wait c.args.self.now _ c.index_mut.result.now c.index_mut.ensures.value c.args.client (omega (arith, c.index.ensures.value)) (omega (arith, c.index.ensures.high)) c.append.new.self _ refl
    c.in_err-append.ensures.items)

pub returns-clause-ok : goal.returns-clause-ok
returns-clause-ok c =
    more_wait c.args.self.now _ c.index_mut.result.now c.index_mut.ensures.value c.args.client (omega (arith, c.index.ensures.value)) (omega (arith, c.index.ensures.high)) c.append.new.self _ refl _
    (c.in_ok-append.ensures.items ∙ ap (λ l. c.index_mut.result.now.items ++ l) c.in_ok-blocks.ensures)
