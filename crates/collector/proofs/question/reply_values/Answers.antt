use Rattle.std.proofs.Common.{◌≡◌, length, rules}
use Rattle.std.proofs.lemmas.List.{places}
use Rattle.collector.proofs.Replies.{replied, room_left}
use Rattle.collector.proofs.question.reply_values.Goals as goal

pub slice_bounds-values-end-2 : goal.slice_bounds-values-end-2
slice_bounds-values-end-2 c = search (rules, places)

pub slice_bounds-values-end-3 : goal.slice_bounds-values-end-3
slice_bounds-values-end-3 c =
    let h : length c.args.asked.now ≡ 8 = search rules in
    let l : length c.args.received.now ≡ 8 = search rules in
    room_left c.copy_from_slice.new.self c.copy_from_slice-2.new.self c.args.asked.now c.args.received.now
    c.copy_from_slice.ensures.after c.copy_from_slice-2.ensures.after h l

pub returns : goal.returns
returns c =
    let h : length c.args.asked.now ≡ 8 = search rules in
    let l : length c.args.received.now ≡ 8 = search rules in
    replied c.copy_from_slice.new.self c.copy_from_slice-2.new.self c.copy_from_slice-3.new.self
    c.args.asked.now c.args.received.now c.args.sent.now
    c.copy_from_slice.ensures.after c.copy_from_slice-2.ensures.after c.copy_from_slice-3.ensures.after h l
