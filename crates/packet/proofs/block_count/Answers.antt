use Rattle.std.proofs.Common.{refl}
use Rattle.packet.proofs.Blocks.{has_blocks, sixty_four}
use Rattle.packet.proofs.block_count.Goals as goal

pub returns : goal.returns
returns c = record { value = refl; blocks = has_blocks c.args.bytes; sixty_four = sixty_four }
