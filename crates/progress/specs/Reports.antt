-- What is told of sending, as text.
use Rattle.std.specs.Prelude.{ℕ, List, ◌++◌, codes, decimal}
use Rattle.progress.specs.declared.Report.{Report}
use Rattle.progress.specs.declared.Report.TheVariants.{BlocksUnsent, FramesSent}

abbrev pub report_text : Report → List ℕ
report_text (FramesSent frames) = codes "frames sent " ++ decimal frames
report_text (BlocksUnsent blocks) = codes "blocks left unsent " ++ decimal blocks
