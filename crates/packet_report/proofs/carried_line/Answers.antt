use Rattle.std.proofs.Common.{◌≡◌, true, leb, length, sym, refl, ◌∙◌, arith}
use Rattle.std.proofs.lemmas.Bool.{leb-true}
use Rattle.packet_report.specs.Texts.{report_room}
use Rattle.packet_report.proofs.Writes.{line_whole, written_answer, written_over}
use Rattle.packet_report.proofs.carried_line.Goals as goal

pub put_front-at-requires : goal.put_front-at-requires
put_front-at-requires c =
    let room = leb-true (report_room (length c.args.back.now)) (length c.args.out.now) (sym c.has_room.ensures ∙ c.if-not-has_room.false) in
    omega arith

pub put_hex-end-requires : goal.put_hex-end-requires
put_hex-end-requires c =
    let room = leb-true (report_room (length c.args.back.now)) (length c.args.out.now) (sym c.has_room.ensures ∙ c.if-not-has_room.false) in
    omega (arith, c.put_front-at.ensures.short)

pub bounds-out-end : goal.bounds-out-end
bounds-out-end c =
    let back = c.args.back.now in
    let room = leb-true (report_room (length back)) (length c.args.out.now) (sym c.has_room.ensures ∙ c.if-not-has_room.false) in
    (line_whole c.args.client c.args.bytes c.args.blocks back c.args.out.now _ _ c.put_front-at.result c.put_hex-end.result (omega arith) c.put_front-at.ensures.short c.put_front-at.ensures.wrote c.put_hex-end.ensures).0

pub returns : goal.returns
returns c =
    let back = c.args.back.now in
    let fits : leb (report_room (length back)) (length c.args.out.now) ≡ true = sym c.has_room.ensures ∙ c.if-not-has_room.false in
    let room = leb-true (report_room (length back)) (length c.args.out.now) fits in
    let whole = line_whole c.args.client c.args.bytes c.args.blocks back c.args.out.now _ _ c.put_front-at.result c.put_hex-end.result (omega arith) c.put_front-at.ensures.short c.put_front-at.ensures.wrote c.put_hex-end.ensures in
    record {
      answer = written_answer (length back) (length c.args.out.now) fits whole.1;
      output = written_over whole.1 refl;
    }
