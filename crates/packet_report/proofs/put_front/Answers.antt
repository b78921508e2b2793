use Rattle.std.proofs.Common.{◌++◌, codes, decimal, refl, arith, rules}
use Rattle.text_out.specs.Wrote.{Puts, Wrote}
use Rattle.text_out.proofs.Laid.{puts_more, puts_whole, wrote_as}
use Rattle.packet_report.specs.Texts.{counts_text}
use Rattle.packet_report.proofs.Writes.{short_front}
use Rattle.packet_report.proofs.put_front.Goals as goal

pub returns : goal.returns
returns c =
    let front = counts_text c.args.client c.args.bytes c.args.blocks ++ (decimal c.args.back ++ codes " bytes ") in
    let short = short_front c.args.client c.args.bytes c.args.blocks c.args.back (omega arith) (omega arith) (omega arith) (omega arith) in
    let puts : Puts 0 front c.args.out.now c.put_number.new.self.places.now c.put_number.new.self.len =
    rw (← c.new-text.ensures.places, ← c.new-text.ensures.empty) (puts_more c.put_counts.ensures.wrote.puts c.put_number.ensures.puts) in
    let wrote : Wrote 0 front c.args.out.now c.put_number.new.self.places.now c.finish.result = wrote_as (puts_whole (omega arith) puts) refl c.finish.ensures.value in
    record {
      wrote = wrote_as wrote (search rules) refl;
      short = omega (arith, wrote.end_is);
    }
