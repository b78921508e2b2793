-- What the queues mean: the blocks that wait for each client.
use Rattle.std.specs.Prelude.{ℕ, List, [], ◌∷◌, ◌++◌, map, length, sum_by, slice_index_or}
use Rattle.std.specs.VecDeque.{deque_items}
use Rattle.std.specs.List.{range_with_len}
use Rattle.numbers.specs.Range.{slots}
use Rattle.port.specs.Model.{Lists, updated_lists}
use Rattle.packet.specs.Format.{packet_blocks}
use Rattle.client_queues.specs.declared.ClientQueues.{ClientQueues}

-- client k's queue stands at place k - 1; the list in front of them is that of number 0, which is no client's
abbrev pub waiting_in : ClientQueues → Lists
waiting_in q k = slice_index_or ([] ∷ map deque_items q.queues.items) k []

-- nothing waits
abbrev pub none_wait : Lists
none_wait k = []

-- the blocks of a packet behind those that wait for client c
abbrev pub with_packet : ℕ → List ℕ → Lists → Lists
with_packet c packet lists = updated_lists lists c (lists c ++ packet_blocks packet)

-- how many blocks wait for clients 1 to 480 together
unfoldable pub blocks_waiting : Lists → ℕ
blocks_waiting lists = sum_by (λ k. length (lists k)) (range_with_len 1 slots)
