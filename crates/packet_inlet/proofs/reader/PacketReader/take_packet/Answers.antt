use Rattle.std.proofs.Common.{◌≡◌, ◌≤◌, drop, length, refl, ap, ◌∙◌, arith}
use Rattle.std.proofs.lemmas.Result.{err_from_is_err_and}
use Rattle.packet_inlet.specs.Reader.{ReaderContents, blocks_in_reach, blocks_to_read, held_blocks, reader_places}
use Rattle.packet_inlet.proofs.Held.{comes_back, none_lost}
use Rattle.packet_inlet.proofs.reader.PacketReader.take_packet.Goals as goal

pub returns-in_err-bytes-clause-none_lost : goal.returns-in_err-bytes-clause-none_lost
returns-in_err-bytes-clause-none_lost g c =
    let old = c.args.self.now in
    let w = g.I.Inlet.waiting c.args.inlet.now in
    let p = err_from_is_err_and c.from_residual.result c.from_residual.ensures.1 in
    rw p.1
    (none_lost old c.fill.new.self w (g.I.Inlet.waiting c.fill.new.inlet) 0 0 refl (ap (λ (r : ReaderContents). r.client) c.fill.ensures.contents)
    (ap (λ (r : ReaderContents). r.blocks) c.fill.ensures.contents) (omega arith) c.fill.ensures.left)

pub returns-in_err-bytes-clause-back : goal.returns-in_err-bytes-clause-back
returns-in_err-bytes-clause-back g c =
    let old = c.args.self.now in
    let w = g.I.Inlet.waiting c.args.inlet.now in
    let p = err_from_is_err_and c.from_residual.result c.from_residual.ensures.1 in
    rw (p.1, p.2)
    (comes_back (blocks_to_read old w) c.blocks-2.result.now (reader_places old) _ _ _ (c.blocks-2.ensures ∙ ap (λ (r : ReaderContents). r.blocks) c.fill.ensures.contents) c.in_err-bytes.ensures.back)

pub returns-clause-none_lost : goal.returns-clause-none_lost
returns-clause-none_lost g c =
    let old = c.args.self.now in
    let w = g.I.Inlet.waiting c.args.inlet.now in
    let held : held_blocks c.fill.new.self ≡ blocks_in_reach old w = ap (λ (r : ReaderContents). r.blocks) c.fill.ensures.contents in
    let within : c.in_ok-bytes.used ≤ length (blocks_in_reach old w) = omega (arith, c.in_ok-bytes.ensures.used, ap length (c.blocks-2.ensures ∙ held)) in
    none_lost old c.remove.new.self w (g.I.Inlet.waiting c.fill.new.inlet) _ c.in_ok-bytes.used (omega arith)
    (ap (λ (r : ReaderContents). r.client) c.remove.ensures ∙ ap (λ (r : ReaderContents). r.client) c.fill.ensures.contents)
    (ap (λ (r : ReaderContents). r.blocks) c.remove.ensures ∙ ap (drop _) held) within c.fill.ensures.left

pub returns-clause-back : goal.returns-clause-back
returns-clause-back g c =
    let old = c.args.self.now in
    let w = g.I.Inlet.waiting c.args.inlet.now in
    comes_back (blocks_to_read old w) c.blocks-2.result.now (reader_places old) _ _ _ (c.blocks-2.ensures ∙ ap (λ (r : ReaderContents). r.blocks) c.fill.ensures.contents) c.in_ok-bytes.ensures.back
