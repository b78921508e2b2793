-- The bytes that bits make: as many as are asked for, and each a byte.
use Rattle.std.proofs.Common.{◌≡◌, ℕ, zero, suc, ◌^◌, ◌<◌, ◌≤◌, Bool, true, false, List, [], ◌∷◌, length, get_or, take, drop, refl, ap, arith, pow_pos}
use Rattle.std.proofs.Math.Nat.{pow-succ'}
use Rattle.bits.specs.Bits.{low_value, packed_bytes}

pub length_packed : (n : ℕ) (bs : List Bool) → length (packed_bytes n bs) ≡ n
unfolding packed_bytes
length_packed zero bs = refl
length_packed (suc n) bs = ap suc (length_packed n (drop 8 bs))

-- n bits write a number below 2 ^ n
pub value_below : (n : ℕ) (bs : List Bool) → length bs ≤ n → low_value bs < 2 ^ n
value_below n [] h = omega (arith, pow_pos n)
value_below zero (b ∷ bs) h = absurd (omega arith)
value_below (suc n) (true ∷ bs) h =
    let p = pow-succ' 2 n in
    let r = value_below n bs (omega arith) in
    omega arith
value_below (suc n) (false ∷ bs) h =
    let p = pow-succ' 2 n in
    let r = value_below n bs (omega arith) in
    omega arith

take_short : (n : ℕ) (bs : List Bool) → length (take n bs) ≤ n
take_short zero bs = omega arith
take_short (suc n) [] = omega arith
take_short (suc n) (b ∷ bs) = omega (arith, take_short n bs)

pub packed_below : (n : ℕ) (bs : List Bool) (i : ℕ) → get_or (packed_bytes n bs) i 0 < 256
unfolding packed_bytes
packed_below zero bs i = omega arith
packed_below (suc n) bs zero = value_below 8 (take 8 bs) (take_short 8 bs)
packed_below (suc n) bs (suc i) = packed_below n (drop 8 bs) i
