use Rattle.block.proofs.Classes.{classes_told}
use Rattle.block.proofs.classes_are_told.Goals as goal

pub returns : goal.returns
returns c = classes_told
