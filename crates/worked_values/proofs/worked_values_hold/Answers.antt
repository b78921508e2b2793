use Rattle.std.proofs.Math.Path.{refl}
use Rattle.bits.specs.Bits.{low_first, high_first, bits, packed_bytes}
use Rattle.crc.specs.Remainder.{step, reduce}
use Rattle.overhead.specs.Format.{covered_bits, overhead_bits, overhead_bytes, read_word, read_bytes}
use Rattle.packet.proofs.Blocks.{sixty_four}
use Rattle.message.specs.Values.{filled_values}
use Rattle.worked_values.proofs.worked_values_hold.Goals as goal

pub returns : goal.returns
unfolding low_first high_first bits packed_bytes step reduce covered_bits overhead_bits overhead_bytes read_word read_bytes filled_values
returns c = ((refl, refl, refl, refl), (refl, refl), sixty_four, refl, (refl, refl), refl)
