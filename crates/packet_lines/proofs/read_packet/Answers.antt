-- Where the line is not read, its form is broken.
use Rattle.std.proofs.Common.{length}
use Rattle.std.proofs.lemmas.Result.{err_from_is_err_and}
use Rattle.calendar.specs.Entries.{entries_of}
use Rattle.packet_lines.proofs.Reading.{refused_by_form}
use Rattle.packet_lines.proofs.read_packet.Goals as goal

pub returns-in_err-read-clause-error : goal.returns-in_err-read-clause-error
returns-in_err-read-clause-error c =
    let p = err_from_is_err_and c.from_residual.result c.from_residual.ensures.1 in
    rw (p.1, p.2) (refused_by_form (entries_of c.args.calendar.now) c.args.line.now (length c.args.out.now) c.in_err-read.field-0.0 c.requires c.in_err-read.ensures.answer)
