use Rattle.whole_frame.proofs.Alter.{some_altered}
use Rattle.whole_frame.proofs.Only.{only_sendable}
use Rattle.whole_frame.proofs.Shape.{altered_shaped}
use Rattle.whole_frame.proofs.frames_are_coded.Goals as goal

pub returns-clause-altered : goal.returns-clause-altered
returns-clause-altered c = altered_shaped

pub returns-clause-only : goal.returns-clause-only
returns-clause-only c = only_sendable

pub returns-clause-alterable : goal.returns-clause-alterable
returns-clause-alterable c = some_altered
