-- What a packet inlet means: the blocks of its packets not yet given wait for its one client.
use Rattle.std.specs.Prelude.{ℕ, if◌then◌else◌, List, [], ◌++◌, length, drop, Ok, Err, Result}
use Rattle.block.specs.declared.Block.{Block}
use Rattle.refusal.specs.declared.Refusal.{Refusal}
use Rattle.refusal.specs.declared.Refusal.TheVariants.{PacketLength}
use Rattle.port.specs.Model.{Lists, updated_lists}
use Rattle.packet.specs.Format.{packet_blocks}
use Rattle.packet_inlet.specs.Packets.{are_lengths, all_packet_blocks}
use Rattle.packet_inlet.specs.declared.PacketInlet.{PacketInlet}

-- the list waits for client c, and none for any other
abbrev pub only_for : ℕ → List Block → Lists
only_for c l = updated_lists (λ _. []) c l

-- the blocks not yet given: of the packet under way, and of all behind it
abbrev pub blocks_left : PacketInlet → List Block
blocks_left inlet = drop inlet.place (packet_blocks inlet.packet.now) ++ all_packet_blocks inlet.lengths.now inlet.bytes.now

abbrev pub waiting_at : PacketInlet → Lists
waiting_at inlet = only_for inlet.client (blocks_left inlet)

-- a constructor's answer by what the inlet means
abbrev pub meaning : Result PacketInlet Refusal → Result Lists Refusal
meaning (Ok inlet) = Ok (waiting_at inlet)
meaning (Err cause) = Err cause

-- the answer for client c: the blocks of all its packets wait
abbrev pub new_answer : ℕ → List ℕ → List ℕ → Result Lists Refusal
new_answer c lengths bytes = if are_lengths lengths (length bytes) then Ok (only_for c (all_packet_blocks lengths bytes)) else Err PacketLength
