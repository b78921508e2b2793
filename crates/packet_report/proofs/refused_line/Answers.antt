use Rattle.std.proofs.Common.{◌≡◌, true, leb, length, codes, decimal, sym, refl, ◌∙◌, arith, rules}
use Rattle.std.proofs.lemmas.Bool.{leb-true}
use Rattle.text_out.specs.Wrote.{Puts, Wrote}
use Rattle.text_out.proofs.Laid.{puts_more, puts_parts, puts_whole, wrote_as}
use Rattle.packet_report.specs.Texts.{refused_line_text, report_room}
use Rattle.packet_report.proofs.Writes.{short_refused, written_answer, written_over}
use Rattle.packet_report.proofs.refused_line.Goals as goal

pub returns : goal.returns
unfolding refused_line_text
returns c =
    let text = refused_line_text c.args.line c.args.cause in
    let fits : leb (report_room 0) (length c.args.out.now) ≡ true = sym c.has_room.ensures ∙ c.if-not-has_room.false in
    let room = leb-true (report_room 0) (length c.args.out.now) fits in
    let short = short_refused c.args.line c.args.cause (omega arith) (omega arith) in
    let puts : Puts 0 text c.args.out.now c.put_number-2.new.self.places.now c.put_number-2.new.self.len =
    rw (← c.new-text.ensures.places, ← c.new-text.ensures.empty)
    (puts_more c.put.ensures.puts
    (puts_parts (decimal c.args.line) (codes ": refused ") c.put_number.ensures.puts
    (rw (c.from-number.ensures, c.number.ensures) at c.put_number-2.ensures.puts))) in
    let wrote : Wrote 0 text c.args.out.now c.put_number-2.new.self.places.now c.finish.result = wrote_as (puts_whole (omega arith) puts) refl c.finish.ensures.value in
    record {
      answer = written_answer 0 (length c.args.out.now) fits wrote;
      output = written_over wrote (search rules);
    }
