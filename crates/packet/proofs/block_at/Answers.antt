use Rattle.std.proofs.Common.{◌≡◌, ◌-◌, ◌*◌, ◌/◌, ◌≤◌, [], ◌∷◌, length, get_or, drop, Some, sym, refl, ap, ◌∙◌, arith}
use Rattle.std.proofs.lemmas.Option.{slice_get_past}
use Rattle.block.specs.Fixed.{idle_block}
use Rattle.packet.specs.Format.{data_block, end_block}
use Rattle.packet.proofs.Blocks.{at_opening, at_data, at_last, chunk_is, left_is}
use Rattle.packet.proofs.block_at.Goals as goal

pub returns-then-place-eq0 : goal.returns-then-place-eq0
returns-then-place-eq0 c = at_opening c.args.packet.now c.args.place (omega arith)

pub returns-then-at-eights : goal.returns-then-at-eights
returns-then-at-eights c =
    let n = c.as_chunks.ensures.front_len in
    at_data c.args.packet.now c.args.place (omega arith) (omega arith) _
    (c.data_block.ensures
    ∙ ap (λ eights. data_block (get_or eights (c.args.place - 1) [])) c.as_chunks.ensures.front
    ∙ ap data_block (chunk_is (length c.args.packet.now / 8) (c.args.place - 1) c.args.packet.now [] (omega arith)))

pub returns-in-0 : goal.returns-in-0
returns-in-0 c =
    let n = c.as_chunks.ensures.front_len in
    let zeroth : c.args.place - 1 - length c.args.packet.now / 8 ≡ 0 = omega arith in
    ap Some (c.end_block.ensures ∙ ap end_block (c.as_chunks.ensures.back ∙ left_is (length c.args.packet.now / 8) c.args.packet.now))
    ∙ sym (at_last c.args.packet.now c.args.place (omega arith) (omega arith) ∙ rw zeroth refl)

pub returns-in-1 : goal.returns-in-1
returns-in-1 c =
    let n = c.as_chunks.ensures.front_len in
    let first : c.args.place - 1 - length c.args.packet.now / 8 ≡ 1 = omega arith in
    ap Some c.idle.ensures ∙ sym (at_last c.args.packet.now c.args.place (omega arith) (omega arith) ∙ rw first refl)

pub returns-in_default : goal.returns-in_default
returns-in_default c =
    let n = c.as_chunks.ensures.front_len in
    let past : 2 ≤ c.args.place - 1 - length c.args.packet.now / 8 = omega arith in
    sym (at_last c.args.packet.now c.args.place (omega arith) (omega arith)
    ∙ slice_get_past (end_block (drop (8 * (length c.args.packet.now / 8)) c.args.packet.now) ∷ idle_block ∷ []) (c.args.place - 1 - length c.args.packet.now / 8) past)
