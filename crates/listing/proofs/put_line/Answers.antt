use Rattle.std.proofs.Common.{codes, decimal, ◌∙◌}
use Rattle.text_out.proofs.Laid.{puts_parts}
use Rattle.listing.proofs.put_line.Goals as goal

pub returns : goal.returns
returns c =
    record {
      same = c.put_number-3.ensures.same ∙ (c.put_number-2.ensures.same ∙ c.put_number.ensures.same);
      puts =
          puts_parts (decimal c.args.client) (codes " ") (rw (c.from.ensures, c.number.ensures.value) at c.put_number.ensures.puts)
          (puts_parts (decimal c.args.count) (codes " ") (rw c.from-2.ensures at c.put_number-2.ensures.puts)
          (rw c.from-3.ensures at c.put_number-3.ensures.puts));
    }
