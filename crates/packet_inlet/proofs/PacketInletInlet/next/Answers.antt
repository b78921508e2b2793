use Rattle.std.proofs.Common.{◌≡◌, ◌+◌, List, ◌∷◌, ◌++◌, drop, sym, refl, ap, ◌∙◌, arith}
use Rattle.block.specs.declared.Block.{Block}
use Rattle.port.specs.Model.{first_of, rest_of}
use Rattle.packet.specs.Format.{packet_blocks}
use Rattle.packet.proofs.Blocks.{length_packet_blocks}
use Rattle.packet_inlet.specs.Packets.{all_packet_blocks}
use Rattle.packet_inlet.specs.Waiting.{blocks_left}
use Rattle.packet_inlet.proofs.Left.{drop_some, drop_none, nth_within, own_list, own_taken}
use Rattle.packet_inlet.proofs.PacketInletInlet.next.Goals as goal

pub overflow_add-self : goal.overflow_add-self
overflow_add-self c =
    let within = nth_within (packet_blocks c.args.self.now.packet.now) c.args.self.now.place c.in-Some.block c.in-Some.ensures in
    let count = length_packet_blocks c.args.self.now.packet.now in
    omega arith

pub returns-in-Some : goal.returns-in-Some
returns-in-Some c =
    let own : c.args.client ≡ c.args.self.now.client = sym c.number.ensures.value ∙ c.if-number-self.false in
    let behind : List Block = all_packet_blocks c.args.self.now.lengths.now c.args.self.now.bytes.now in
    let left : blocks_left c.args.self.now ≡ c.in-Some.block ∷ (drop (c.args.self.now.place + 1) (packet_blocks c.args.self.now.packet.now) ++ behind) =
    ap (λ (bs : List Block). bs ++ behind) (drop_some (packet_blocks c.args.self.now.packet.now) c.args.self.now.place c.in-Some.block c.in-Some.ensures) in
    record {
      first = sym (ap first_of (own_list _ _ (blocks_left c.args.self.now) own ∙ left));
      rest = own_taken _ _ _ (blocks_left c.args.self.now) _ own refl (sym (ap rest_of left));
    }

pub open_next-requires : goal.open_next-requires
open_next-requires c = drop_none (packet_blocks c.args.self.now.packet.now) c.args.self.now.place c.in_default.ensures

pub returns : goal.returns
returns c =
    let own : c.args.client ≡ c.args.self.now.client = sym c.number.ensures.value ∙ c.if-number-self.false in
    record {
      first = c.open_next.ensures.first ∙ sym (ap first_of (own_list _ _ (blocks_left c.args.self.now) own));
      rest = own_taken _ _ _ (blocks_left c.args.self.now) (blocks_left c.open_next.new.self) own c.open_next.ensures.client c.open_next.ensures.rest;
    }
