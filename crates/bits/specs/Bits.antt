-- Bits in the order of sending, and numbers written in bits.
use Rattle.std.specs.Prelude.{◌≡◌, ℕ, zero, suc, ◌+◌, ◌*◌, ◌/◌, ◌%◌, ◌^◌, ◌<◌, Bool, true, false, List, [], ◌∷◌, ◌++◌, length, take, drop, ◌==◌, slice_index, slice_index_or, slice_range}

-- the lowest binary digit of a number
abbrev pub odd : ℕ → Bool
odd n = n % 2 == 1

-- the k lowest binary digits of a number, the lowest first
unfoldable pub low_first : ℕ → ℕ → List Bool
low_first zero n = []
low_first (suc k) n = odd n ∷ low_first k (n / 2)

-- the same digits, the highest first
unfoldable pub high_first : ℕ → ℕ → List Bool
high_first zero n = []
high_first (suc k) n = odd (n / 2 ^ k) ∷ high_first k n

-- the bits of bytes in the order of sending: byte by byte, the lowest bit of a byte first
unfoldable pub bits : List ℕ → List Bool
bits [] = []
bits (b ∷ bs) = low_first 8 b ++ bits bs

-- the field from bit `from` on, up to bit `to` and without it; what lies behind the last byte is no part of it
abbrev pub field : List ℕ → ℕ → ℕ → List Bool
field bytes from to = slice_range (bits bytes) from to

-- the number that bits write, the lowest digit first
abbrev pub low_value : List Bool → ℕ
low_value [] = 0
low_value (true ∷ bs) = 1 + 2 * low_value bs
low_value (false ∷ bs) = 2 * low_value bs

-- the number that they write, the highest digit first
abbrev pub high_value : List Bool → ℕ
high_value [] = 0
high_value (true ∷ bs) = 2 ^ length bs + high_value bs
high_value (false ∷ bs) = high_value bs

-- the n bytes that are sent as these bits
unfoldable pub packed_bytes : ℕ → List Bool → List ℕ
packed_bytes zero bs = []
packed_bytes (suc n) bs = low_value (take 8 bs) ∷ packed_bytes n (drop 8 bs)

-- How the bits of bytes are numbered, and that bits and bytes are each made from the other.
pub record BitsAreNumbered : Type 0 where
  -- a byte has eight bits, and bit 8 q + r is the digit of weight 2 ^ r of byte q
  pub eight : (bytes : List ℕ) → length (bits bytes) ≡ 8 * length bytes
  pub places : (bytes : List ℕ) (q r : ℕ) → q < length bytes → r < 8 → slice_index_or (bits bytes) (8 * q + r) false ≡ odd (slice_index bytes q / 2 ^ r)
  pub packs : (bytes : List ℕ) → ((i : ℕ) → i < length bytes → slice_index bytes i < 256) → packed_bytes (length bytes) (bits bytes) ≡ bytes
  pub unpacks : (n : ℕ) (bs : List Bool) → length bs ≡ 8 * n → bits (packed_bytes n bs) ≡ bs
