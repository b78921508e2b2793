use Rattle.std.proofs.Common.{arith}
use Rattle.std.proofs.lemmas.Grind.{common_steps}
use Rattle.queue.specs.Entries.{entries, place_count, queue_contents}
use Rattle.tape.proofs.Tagged.{put_by}
use Rattle.tape.proofs.TapeOutlet.put.Goals as goal

pub returns-clause-put : goal.returns-clause-put
returns-clause-put c =
    (put_by (entries c.args.self.now.queue) (place_count c.args.self.now.queue) c.args.client c.args.pair c.add-2.result c.args.self.now.queue.places.ghost_name
    (queue_contents c.add-2.new.self) (grind (arith, common_steps)) (grind (arith, common_steps))).0

pub returns-clause-holding : goal.returns-clause-holding
returns-clause-holding c =
    (put_by (entries c.args.self.now.queue) (place_count c.args.self.now.queue) c.args.client c.args.pair c.add-2.result c.args.self.now.queue.places.ghost_name
    (queue_contents c.add-2.new.self) (grind (arith, common_steps)) (grind (arith, common_steps))).1
