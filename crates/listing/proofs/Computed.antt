-- The samples, by computation.
use Rattle.std.proofs.Common.{refl}
use Rattle.std.specs.Fmt.{digits}
use Rattle.numbers.specs.Walk.{numbers_between}
use Rattle.listing.specs.Sample.{Samples}

pub samples : Samples
unfolding digits numbers_between
samples = record { listed = refl; refused = refl }
