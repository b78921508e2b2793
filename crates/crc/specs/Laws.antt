-- What a remainder is, its laws, and which errors it shows: once over the degree w and the generator G.
use Rattle.std.specs.Prelude.{◌≡◌, ℕ, zero, suc, ◌*◌, ◌/◌, ◌%◌, ◌^◌, ◌<◌, ◌≤◌, Bool, true, false, List, [], ◌∷◌, ◌++◌, length, replicate, ◌≢◌, bit_xor, count_ones}
use Rattle.bits.specs.Bits.{high_first}
use Rattle.crc.specs.Remainder.{scale, step, remainder}

-- the product of G and the polynomial that bits stand for, the first bit its highest coefficient
abbrev pub times : List Bool → ℕ → ℕ
times [] G = 0
times (b ∷ bs) G = bit_xor (scale b (G * 2 ^ length bs)) (times bs G)

-- division by G: the field times x ^ w is q G + r for some q, and the degree of r is below w
abbrev pub IsDivision : ℕ → ℕ → List Bool → ℕ → Type 0
IsDivision w G bs r = (q : List Bool) × (length q ≡ length bs) × (r < 2 ^ w) × (times bs (2 ^ w) ≡ bit_xor (times q G) r)

abbrev pub xorb : Bool → Bool → Bool
xorb true true = false
xorb true false = true
xorb false b = b

-- the sum of two fields: set where they differ
abbrev pub xors : List Bool → List Bool → List Bool
xors [] bs = []
xors (a ∷ xs) [] = []
xors (a ∷ xs) (b ∷ bs) = xorb a b ∷ xors xs bs

-- how many bits are set
abbrev pub weight : List Bool → ℕ
weight [] = 0
weight (true ∷ bs) = suc (weight bs)
weight (false ∷ bs) = weight bs

-- The laws of every generator of degree w.
pub record DivisionLaws (w G : ℕ) : Type 0 where
  -- the remainder is that of the division by G, and there is no other
  pub divides : (bs : List Bool) → IsDivision w G bs (remainder w G bs)
  pub unique : (bs : List Bool) (r s : ℕ) → IsDivision w G bs r → IsDivision w G bs s → r ≡ s
  -- the sum of equally long fields has the sum of their remainders
  pub linear : (bs cs : List Bool) → length bs ≡ length cs → remainder w G (xors bs cs) ≡ bit_xor (remainder w G bs) (remainder w G cs)
  -- zeros set before a field change nothing
  pub leading : (n : ℕ) (bs : List Bool) → remainder w G (replicate n false ++ bs) ≡ remainder w G bs
  -- a field followed by its remainder leaves 0, and if the constant term is 1, followed by other w bits it does not
  pub appended : (bs : List Bool) → remainder w G (bs ++ high_first w (remainder w G bs)) ≡ 0
  pub only : (bs cs : List Bool) → G % 2 ≡ 1 → length cs ≡ w → remainder w G (bs ++ cs) ≡ 0 → cs ≡ high_first w (remainder w G bs)

-- x ^ k, reduced
abbrev pub power : ℕ → ℕ → ℕ → ℕ
power w G zero = 1
power w G (suc k) = step w G (power w G k) false

-- A generator of degree w with constant term 1 and an even number of terms, under which the order of x is at least n:
-- none of x, x ^ 2, ... x ^ (n - 1) is 1.
pub record IsDetecting (w G n : ℕ) : Type 0 where
  pub degree : G / 2 ^ w ≡ 1
  pub constant : G % 2 ≡ 1
  pub even : count_ones G % 2 ≡ 0
  pub order : (k : ℕ) → 0 < k → k < n → power w G k ≢ 1

-- Two equally long words of at most n bits that both leave 0 do not differ in just one, two or three bits,
abbrev pub SeesFew : ℕ → ℕ → ℕ → Type 0
SeesFew w G n = (s t : List Bool) → length s ≡ length t → length s ≤ n → remainder w G s ≡ 0 → remainder w G t ≡ 0
    → 0 < weight (xors s t) → weight (xors s t) ≤ 3 → ⊥

-- and two equally long words of any length that both leave 0 do not differ only within w neighbouring bits.
abbrev pub SeesBursts : ℕ → ℕ → Type 0
SeesBursts w G = (s t : List Bool) (i k : ℕ) (b : List Bool) → length s ≡ length t → xors s t ≡ replicate i false ++ (b ++ replicate k false)
    → length b ≤ w → 0 < weight b → remainder w G s ≡ 0 → remainder w G t ≢ 0

abbrev pub Detects : ℕ → ℕ → ℕ → Type 0
Detects w G n = SeesFew w G n × SeesBursts w G

-- Worked by hand: 101 and 36 zeros leave 0101011 under x^7 + x^5 + x^4 + x^2 + x + 1,
-- and 1100 leaves 0000 0111 1000 under x^12 + x^11 + x^3 + x^2 + x + 1.
pub record KnownRemainders : Type 0 where
  pub seven : remainder 7 0xB7 (true ∷ false ∷ true ∷ replicate 36 false) ≡ 0x2B
  pub twelve : remainder 12 0x180F (true ∷ true ∷ false ∷ false ∷ []) ≡ 0x78
