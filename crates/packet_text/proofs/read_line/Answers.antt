use Rattle.packet_text.proofs.Forms.{only_lines_read}
use Rattle.packet_text.proofs.read_line.Goals as goal

pub returns-clause-only : goal.returns-clause-only
returns-clause-only c = only_lines_read
