-- A packet put into an outlet.
use Rattle.std.specs.Prelude.{◌≡◌, ℕ, ◌+◌, ◌%◌, ◌<◌, true, if◌then◌else◌, List, ◌++◌, length, replicate, Ok, Err, Result}
use Rattle.block.specs.declared.Block.{Block}
use Rattle.block.specs.Fixed.{idle_block}
use Rattle.refusal.specs.declared.Refusal.{Refusal}
use Rattle.refusal.specs.declared.Refusal.TheVariants.{NoFreePlace, PacketLength}
use Rattle.port.specs.Model.{Holding, updated_lists}
use Rattle.packet.specs.Format.{is_packet_length, packet_blocks}

-- the places that n blocks take, two at a time
abbrev pub even_count : ℕ → ℕ
even_count n = n + n % 2

-- the blocks of a packet, and an idle behind them if they are odd in number
abbrev pub paired_blocks : List ℕ → List Block
paired_blocks p = packet_blocks p ++ replicate (length (packet_blocks p) % 2) idle_block

-- a packet put whole for client c, as so many blocks
pub record PacketStored (c : ℕ) (p : List ℕ) (blocks : ℕ) (before after : Holding) : Type 0 where
  pub lawful : is_packet_length (length p) ≡ true
  pub count : blocks ≡ length (packet_blocks p)
  pub appended : after.held ≡ updated_lists before.held c (before.held c ++ paired_blocks p)
  pub places : after.free c + even_count blocks ≡ before.free c

-- a packet refused: its length is out of range, or its places are not free; nothing changes
pub record PacketRefused (c : ℕ) (p : List ℕ) (cause : Refusal) (before after : Holding) : Type 0 where
  pub number : cause ≡ if is_packet_length (length p) then NoFreePlace else PacketLength
  pub full : is_packet_length (length p) ≡ true → before.free c < even_count (length (packet_blocks p))
  pub same : after ≡ before

-- a put of a packet, by its answer
abbrev pub PacketPut : ℕ → List ℕ → Result ℕ Refusal → Holding → Holding → Type 0
PacketPut c p (Ok blocks) before after = PacketStored c p blocks before after
PacketPut c p (Err cause) before after = PacketRefused c p cause before after
