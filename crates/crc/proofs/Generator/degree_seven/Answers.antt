use Rattle.crc.proofs.Detect.{detects}
use Rattle.crc.proofs.Generators.{seven}
use Rattle.crc.proofs.Generator.degree_seven.Goals as goal

pub returns-clause-detects : goal.returns-clause-detects
returns-clause-detects c = detects 7 0xB7 63 seven
