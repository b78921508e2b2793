use Rattle.std.proofs.Common.{◌≤◌, length, codes, decimal, arith, rules}
use Rattle.refusal.specs.Numbers.{number_of}
use Rattle.text_out.specs.Wrote.{Puts}
use Rattle.text_out.proofs.Laid.{puts_more, puts_parts, puts_whole, wrote_as}
use Rattle.listing.specs.Lines.{refused_line}
use Rattle.listing.proofs.Lengths.{short_refusal}
use Rattle.listing.proofs.refusal_line.Goals as goal

pub returns-clause-wrote : goal.returns-clause-wrote
returns-clause-wrote c =
    let text = refused_line c.args.cause c.args.line in
    let fits : length text ≤ 38 = short_refusal c.args.cause c.args.line (omega arith) (omega arith) in
    let puts : Puts 0 text c.args.out.now c.put_number-2.new.self.places.now c.put_number-2.new.self.len =
    rw (← c.new-text.ensures.places, ← c.new-text.ensures.empty)
    (puts_more c.put.ensures.puts
    (puts_parts (decimal (number_of c.args.cause)) (codes " line ") (rw (c.from-number.ensures, c.number.ensures) at c.put_number.ensures.puts)
    c.put_number-2.ensures.puts)) in
    wrote_as (puts_whole (omega arith) puts) (search rules) c.finish.ensures.value
