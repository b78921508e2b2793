use Rattle.std.proofs.Common.{codes, decimal, ◌∙◌}
use Rattle.text_out.proofs.Laid.{puts_more, puts_parts}
use Rattle.packet_report.specs.Texts.{counts_text}
use Rattle.packet_report.proofs.put_counts.Goals as goal

pub returns : goal.returns
unfolding counts_text
returns c = record {
  wrote = record {
    same = c.put_number-3.ensures.same ∙ (c.put_number-2.ensures.same ∙ (c.put_number.ensures.same ∙ c.put.ensures.same));
    puts =
        puts_more c.put.ensures.puts
        (puts_parts (decimal c.args.client) (codes ": ") (rw (c.from.ensures, c.number.ensures.value) at c.put_number.ensures.puts)
        (puts_parts (decimal c.args.bytes) (codes " bytes, ") c.put_number-2.ensures.puts c.put_number-3.ensures.puts));
  };
  range = c.number.ensures.range;
}
