-- Numbers written in bits and read back, the lowest or the highest digit first.
use Rattle.std.specs.Prelude.{◌≡◌, ℕ, ◌^◌, ◌<◌, Bool, List, length}
use Rattle.bits.specs.Bits.{low_first, low_value, high_first, high_value}

-- A number below 2 ^ k is read back from its k bits, and bits are written again by their number.
pub record ReadBack : Type 0 where
  pub low_read : (k n : ℕ) → n < 2 ^ k → low_value (low_first k n) ≡ n
  pub low_written : (bs : List Bool) → low_first (length bs) (low_value bs) ≡ bs
  pub high_read : (k n : ℕ) → n < 2 ^ k → high_value (high_first k n) ≡ n
  pub high_written : (bs : List Bool) → high_first (length bs) (high_value bs) ≡ bs
