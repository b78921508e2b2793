-- The blocks so far are those at the front, and each turn adds one.
use Rattle.std.proofs.Common.{◌≡◌, ◌-◌, length, take}
use Rattle.std.specs.VecDeque.{deque_len}
use Rattle.packet.specs.Format.{packet_blocks}
use Rattle.client_queues.proofs.calls.packet_blocks.Given as goal

abbrev pub invariant-loop-block : goal.invariant-loop-block
invariant-loop-block l = l.blocks.items ≡ take (deque_len l.blocks) (packet_blocks l.packet)

abbrev pub decreases-loop-block : goal.decreases-loop-block
decreases-loop-block l = length (packet_blocks l.packet) - deque_len l.blocks
