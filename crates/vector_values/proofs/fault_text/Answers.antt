use Rattle.std.proofs.Common.{refl}
use Rattle.vector_values.proofs.fault_text.Goals as goal

pub returns-in-ClientTooHigh : goal.returns-in-ClientTooHigh
returns-in-ClientTooHigh c = rw c.in-ClientTooHigh.is refl

pub returns-in-FrameTooHigh : goal.returns-in-FrameTooHigh
returns-in-FrameTooHigh c = rw c.in-FrameTooHigh.is refl
