use Rattle.std.proofs.Common.{refl}
use Rattle.std.proofs.lemmas.Result.{err_from_is_err_and}
use Rattle.packet_inlet.proofs.Stores.{never_refused, refused_by, stored_by}
use Rattle.packet_inlet.proofs.store.put_only.Goals as goal

pub returns : goal.returns
returns g c =
    stored_by _ _ _ c.args.packet.now _ _ _ _ _ _ c.requires.lawful c.requires.only
    c.in_ok-inlet.ensures.answer (c.block_count-blocks.ensures.blocks c.args.packet.now refl) refl c.idle.ensures
    c.in_ok-move_pairs.ensures.moved

-- lawful lengths are not refused
pub returns-in_err-inlet : goal.returns-in_err-inlet
returns-in_err-inlet g c =
    absurd (never_refused _ c.args.packet.now _ _ c.requires.lawful c.requires.only c.in_err-inlet.ensures.answer)

pub returns-in_err-move_pairs : goal.returns-in_err-move_pairs
returns-in_err-move_pairs g c =
    let p = err_from_is_err_and c.from_residual-in_err-move_pairs.result c.from_residual-in_err-move_pairs.ensures.1 in
    rw (p.1, p.2)
    (refused_by _ _ _ c.args.packet.now _ _ _ _ _ c.requires.lawful
    (c.block_count-blocks.ensures.blocks c.args.packet.now refl) refl c.in_err-move_pairs.ensures.moved)
