use Rattle.std.proofs.Common.{refl, ap}
use Rattle.bits.specs.Bits.{low_first, high_first, bits, packed_bytes}
use Rattle.crc.specs.Remainder.{step, reduce}
use Rattle.overhead.specs.Format.{covered_bits, overhead_bits, overhead_bytes, read_word, read_bytes}
use Rattle.overhead.proofs.Coding.{coded, fields_tell, in_range_read}
use Rattle.overhead.proofs.format_holds.Goals as goal

pub returns-clause-coded : goal.returns-clause-coded
returns-clause-coded c = coded

pub returns-clause-range : goal.returns-clause-range
returns-clause-range c = in_range_read

pub returns-clause-tell : goal.returns-clause-tell
returns-clause-tell c = fields_tell

pub returns-clause-others : goal.returns-clause-others
unfolding read_bytes
returns-clause-others c xs ys e = ap read_word e

pub returns-clause-worked : goal.returns-clause-worked
unfolding low_first high_first bits packed_bytes step reduce covered_bits overhead_bits overhead_bytes read_word read_bytes
returns-clause-worked c = (refl, refl, refl, refl)
