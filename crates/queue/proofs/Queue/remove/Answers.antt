use Rattle.std.proofs.Common.{arith, length-take}
use Rattle.queue.proofs.Places.{closed}
use Rattle.queue.proofs.Queue.remove.Goals as goal

pub returns-clause-contents : goal.returns-clause-contents
returns-clause-contents g c = let moved = closed c.args.self.now.places.now c.args.self.now.len c.args.index (omega (arith, length-take c.args.self.now.len c.args.self.now.places.now)) c.args.self.now.within in let len = c.copy_within.ensures.len in let after = c.copy_within.ensures.after in cc
