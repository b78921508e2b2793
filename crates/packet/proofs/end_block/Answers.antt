use Rattle.packet.proofs.Blocks.{end_made}
use Rattle.packet.proofs.end_block.Goals as goal

pub returns : goal.returns
returns c = end_made c.args.left.now c.copy_from_slice.new.self c.copy_from_slice.ensures.after
