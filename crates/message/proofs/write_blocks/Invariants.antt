use Rattle.std.proofs.Common.{◌≡◌, ◌+◌, ◌*◌, ◌++◌, take, drop}
use Rattle.std.specs.Slice.Iter.{chunks_exact_rest, chunks_exact_size}
use Rattle.message.specs.Written.{message_blocks}
use Rattle.message.proofs.write_blocks.Given as goal

abbrev pub invariant-loop-i : goal.invariant-loop-i
invariant-loop-i l = record {
  made : l.output ≡ message_blocks l.kind (take (2 * l.i-iterator.count) l.values) ++ drop l.i-iterator.count l.initial.output;
  rest : chunks_exact_rest l.i-iterator.iter.iter ≡ drop (2 * l.i-iterator.count) l.values;
  size : chunks_exact_size l.i-iterator.iter.iter ≡ 2;
  left : l.i-iterator.count + l.i-iterator.iter.n ≡ l.last;
}
