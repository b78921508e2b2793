use Rattle.std.proofs.Common.{◌∙◌}
use Rattle.text_out.proofs.Laid.{puts_more}
use Rattle.text_out.proofs.TextOut.put_number.Goals as goal

pub returns : goal.returns
returns c =
    record {
      same = c.put.ensures.same ∙ c.put_decimal.ensures.same;
      puts =
          puts_more c.put_decimal.ensures.puts c.put.ensures.puts;
    }
