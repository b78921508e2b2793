use Rattle.crc.proofs.Detect.{detects}
use Rattle.crc.proofs.detection_holds.Goals as goal

pub returns : goal.returns
returns c = detects
