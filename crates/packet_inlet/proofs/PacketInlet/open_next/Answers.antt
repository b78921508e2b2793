use Rattle.std.proofs.Common.{◌≡◌, ℕ, ◌≤◌, List, [], ◌++◌, length, get_or, take, drop, sym, refl, ap, ◌∙◌, arith}
use Rattle.std.proofs.lemmas.List.{take_rest}
use Rattle.port.specs.Model.{first_of, rest_of}
use Rattle.packet.specs.Format.{packet_blocks}
use Rattle.packet_inlet.specs.Packets.{all_packet_blocks}
use Rattle.packet_inlet.specs.Waiting.{blocks_left}
use Rattle.packet_inlet.proofs.Left.{all_none, cuts, opened_first, opened_rest}
use Rattle.packet_inlet.proofs.PacketInlet.open_next.Goals as goal

pub returns-in_default : goal.returns-in_default
returns-in_default c =
    let none = all_none c.args.self.now.lengths.now c.args.self.now.bytes.now (omega (arith, c.in_default.len_below)) in
    let left : blocks_left c.args.self.now ≡ [] = rw (c.requires, none) refl in
    record { client = refl; first = rw left refl; rest = rw left refl }

pub returns : goal.returns
returns c =
    let lengths : List ℕ = c.args.self.now.lengths.now in
    let bytes : List ℕ = c.args.self.now.bytes.now in
    let left : blocks_left c.args.self.now ≡ all_packet_blocks lengths bytes = rw c.requires refl in
    let some : 1 ≤ length lengths = c.in-len1-up.len_at_least in
    let parts = cuts bytes (get_or lengths 0 0) c.min-cut.result c.min-cut.ensures in
    let packet : c.split_at.result.0.now ≡ take (get_or lengths 0 0) bytes = c.split_at.ensures.front ∙ parts.0 in
    let rest : c.split_at.result.1.now ≡ drop (get_or lengths 0 0) bytes = c.split_at.ensures.back ∙ parts.1 in
    let first = opened_first lengths bytes 0 some _ _ packet rest c.block_at.result c.block_at.ensures in
    let behind = opened_rest lengths bytes 0 some _ _ packet rest in
    record {
      client = refl;
      first = first ∙ ap first_of (sym left);
      rest = ap (λ ls. drop 1 (packet_blocks c.split_at.result.0.now) ++ all_packet_blocks ls c.split_at.result.1.now) (take_rest lengths 1) ∙ behind ∙ ap rest_of (sym left);
    }
