-- The remainder of a field of bits, bit by bit, once over the degree w and the generator G.
-- A number stands for a polynomial over GF(2): its binary digit of weight 2 ^ k is the coefficient of x ^ k.
-- So `bit_xor` is the sum, and `r * 2` is x times r. G has its digit 2 ^ w, so 0xB7 is x^7 + x^5 + x^4 + x^2 + x + 1.
use Rattle.std.specs.Prelude.{ℕ, ◌*◌, ◌/◌, ◌%◌, ◌^◌, Bool, true, false, List, [], ◌∷◌, bit_xor}

-- n where the bit is set, else 0
abbrev pub scale : Bool → ℕ → ℕ
scale true n = n
scale false n = 0

-- G taken away once, if the digit 2 ^ w is set
unfoldable pub reduce : ℕ → ℕ → ℕ → ℕ
reduce w G u = bit_xor u ((u / 2 ^ w % 2) * G)

-- from the remainder r of a field to that of the field with one more bit b behind it: r x + b x ^ w, reduced
unfoldable pub step : ℕ → ℕ → ℕ → Bool → ℕ
step w G r b = reduce w G (bit_xor (r * 2) (scale b (2 ^ w)))

-- bits behind a field whose remainder is r, the first sent bit first
abbrev pub remainder_onto : ℕ → ℕ → ℕ → List Bool → ℕ
remainder_onto w G r [] = r
remainder_onto w G r (b ∷ bs) = remainder_onto w G (step w G r b) bs

-- the remainder of a field: the start value is 0
abbrev pub remainder : ℕ → ℕ → List Bool → ℕ
remainder w G bs = remainder_onto w G 0 bs
