use Rattle.block_text.proofs.Forms.{only_blocks_read}
use Rattle.block_text.proofs.read.Goals as goal

pub returns-clause-only : goal.returns-clause-only
returns-clause-only c = only_blocks_read
