use Rattle.crc.proofs.Detect.{detects}
use Rattle.crc.proofs.Generators.{twelve}
use Rattle.crc.proofs.Generator.degree_twelve.Goals as goal

pub returns-clause-detects : goal.returns-clause-detects
returns-clause-detects c = detects 12 0x180F 2047 twelve
