use Rattle.std.proofs.Common.{◌≡◌, Err, length, refl, sym, ap, ◌∙◌, arith, length-drop}
use Rattle.std.proofs.lemmas.Option.{MatchOption-at_some}
use Rattle.std.proofs.lemmas.Result.{err_from_is_err_and}
use Rattle.refusal.specs.declared.Refusal.TheVariants.{NoPacket}
use Rattle.packet.proofs.Laws.{given_back, none_unopened, none_behind, found_behind, none_given, answer_none, answer_short, answer_read, output_read}
use Rattle.packet.proofs.read.Goals as goal

pub returns-in_err-behind : goal.returns-in_err-behind
returns-in_err-behind c =
    let none = none_given _ _ _ _ _ c.behind_opening.ensures c.in_err-behind.ensures.value in
    let p = err_from_is_err_and c.from_residual.result c.from_residual.ensures.1 in
    let is : c.from_residual.result ≡ Err NoPacket = p.1 ∙ ap Err (p.2 ∙ none.1) in
    let a = is ∙ answer_none c.args.blocks.now (length c.args.out.now) (none_unopened c.args.blocks.now (sym none.0)) in
    record { answer = a; output = rw is refl; used = rw is tt; back = given_back c.args.blocks.now c.args.out.now _ _ a (rw is refl) }

pub returns-in_err-extent : goal.returns-in_err-extent
returns-in_err-extent c =
    let o = MatchOption-at_some _ _ _ c.in_ok-behind.ensures.ok_part c.behind_opening.ensures in
    let none = none_given _ _ _ _ _ c.find_end.ensures c.in_err-extent.ensures.value in
    let p = err_from_is_err_and c.from_residual-in_err-extent.result c.from_residual-in_err-extent.ensures.1 in
    let is : c.from_residual-in_err-extent.result ≡ Err NoPacket = p.1 ∙ ap Err (p.2 ∙ none.1) in
    let a = is ∙ answer_none c.args.blocks.now (length c.args.out.now) (none_behind c.args.blocks.now _ (sym o.0) o.1 none.0) in
    record { answer = a; output = rw is refl; used = rw is tt; back = given_back c.args.blocks.now c.args.out.now _ _ a (rw is refl) }

pub returns-then-out-bytes : goal.returns-then-out-bytes
returns-then-out-bytes c =
    let o = MatchOption-at_some _ _ _ c.in_ok-behind.ensures.ok_part c.behind_opening.ensures in
    let s = MatchOption-at_some _ _ _ c.in_ok-extent.ensures.ok_part c.find_end.ensures in
    let a = answer_short c.args.blocks.now _ _ _ (length c.args.out.now)
    (found_behind c.args.blocks.now _ _ _ (sym o.0) o.1 s) s.long c.if-out-bytes.true in
    record { answer = a; output = refl; used = tt; back = given_back c.args.blocks.now c.args.out.now _ _ a refl }

pub returns : goal.returns
returns c =
    let o = MatchOption-at_some _ _ _ c.in_ok-behind.ensures.ok_part c.behind_opening.ensures in
    let s = MatchOption-at_some _ _ _ c.in_ok-extent.ensures.ok_part c.find_end.ensures in
    let f = found_behind c.args.blocks.now _ _ _ (sym o.0) o.1 s in
    let a = answer_read c.args.blocks.now _ _ _ (length c.args.out.now) f s.long c.if-out-bytes.false in
    let bytes = output_read c.args.blocks.now _ _ _ (length c.args.out.now) f s.long c.args.out.now c.copy_bytes.new.out c.copy_bytes.ensures in
    record { answer = a; output = bytes; used = omega (arith, s.inside, ap length o.1, length-drop 1 c.args.blocks.now); back = given_back c.args.blocks.now c.args.out.now c.copy_bytes.new.out _ a bytes }
