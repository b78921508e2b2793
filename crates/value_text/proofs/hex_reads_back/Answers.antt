use Rattle.value_text.proofs.Readings.{read_back}
use Rattle.value_text.proofs.hex_reads_back.Goals as goal

pub returns : goal.returns
returns c = read_back
