use Rattle.listing.proofs.Computed.{samples}
use Rattle.listing.proofs.samples_hold.Goals as goal

pub returns : goal.returns
returns c = samples
