-- Laws of cyclic remainders, over every width and generator.
use Rattle.std.proofs.Common.{◌≡◌, ℕ, zero, suc, ◌+◌, ◌*◌, ◌/◌, ◌%◌, ◌^◌, ◌<◌, Bool, true, false, eqb, ◌⊎◌, List, [], ◌∷◌, ◌++◌, length, replicate, sym, refl, ap, ◌∙◌, subst, ap₂, inl, inr, add-zero, mod-lt, mod-eq_of_lt, mul_assoc, mul_comm, div-lt_iff_lt-mul, one-mul, pow-suc, zero-add, zero-mul, mul-one, one-add, arith, lit<, pow_pos, pow-add, shl_lt, shr_lt}
use Rattle.std.proofs.Math.Nat.{zero-div, zero-mod, mul-mod_left, eq_of_mul-eq-mul_right, div-eq_of_lt, pow-succ'}
use Rattle.std.proofs.lemmas.Nat.{xor_comm, xor_shr, xor_mod, xor_lt, xor_block, mod-pow-add, ones_cat}
use Rattle.std.specs.Int.Bits.{bit_xor, xor_assoc, xor_self, xor_zero_r, xor_shifted, shifted_even}
use Rattle.std.proofs.Math.Arith.{bin_ind}
use Rattle.std.specs.Int.Count.{ones, ones_step}
use Rattle.bits.specs.Bits.{odd, high_first, high_value}
use Rattle.bits.proofs.Values.{high_value_is, value_lt}
use Rattle.bits.proofs.Digits.{digit}
use Rattle.crc.specs.Remainder.{scale, reduce, step, remainder_onto, remainder}
use Rattle.crc.specs.Laws.{times, IsDivision, xorb, xors, weight}

-- ---- sums

-- (a + b) + (c + d) regrouped
pub xor4 : (a b c d : ℕ) → bit_xor (bit_xor a b) (bit_xor c d) ≡ bit_xor (bit_xor a c) (bit_xor b d)
xor4 a b c d =
    xor_assoc a b (bit_xor c d)
    ∙ ap (bit_xor a) (sym (xor_assoc b c d) ∙ ap (λ (x : ℕ). bit_xor x d) (xor_comm b c) ∙ xor_assoc c b d)
    ∙ sym (xor_assoc a c (bit_xor b d))

-- twice a sum
pub xor_dbl : (a b : ℕ) → bit_xor a b * 2 ≡ bit_xor (a * 2) (b * 2)
xor_dbl a b = sym (simp add-zero at (xor_block 1 a b 0 0 (pow_pos 1) (pow_pos 1)))

-- a sum times a power of x
pub xor_shl : (a b k : ℕ) → bit_xor a b * 2 ^ k ≡ bit_xor (a * 2 ^ k) (b * 2 ^ k)
xor_shl a b k = sym (simp add-zero at (xor_block k a b 0 0 (pow_pos k) (pow_pos k)))

-- take one side over
pub xor_over : (a b c : ℕ) → bit_xor a b ≡ c → a ≡ bit_xor c b
xor_over a b c e =
    sym (xor_zero_r a) ∙ ap (bit_xor a) (sym (xor_self b)) ∙ sym (xor_assoc a b b) ∙ ap (λ (x : ℕ). bit_xor x b) e

digit_mul' : (x y G : ℕ) → x < 2 → y < 2 → bit_xor x y * G ≡ bit_xor (x * G) (y * G)
digit_mul' zero y G hx hy = simp zero-mul
digit_mul' (suc zero) zero G hx hy = simp (zero-mul, one-mul, xor_zero_r)
digit_mul' (suc zero) (suc zero) G hx hy = simp (zero-mul, one-mul, xor_self)
digit_mul' (suc zero) (suc (suc y)) G hx hy = absurd (omega arith)
digit_mul' (suc (suc x)) y G hx hy = absurd (omega arith)

-- a digit times G: a sum of digits
pub digit_mul : (a b G : ℕ) → bit_xor (a % 2) (b % 2) * G ≡ bit_xor ((a % 2) * G) ((b % 2) * G)
digit_mul a b G = digit_mul' (a % 2) (b % 2) G (omega arith) (omega arith)

pub reduce_xor : (w G u v : ℕ) → reduce w G (bit_xor u v) ≡ bit_xor (reduce w G u) (reduce w G v)
unfolding reduce
reduce_xor w G u v =
    ap (λ (t : ℕ). bit_xor (bit_xor u v) (t * G)) (ap (λ (n : ℕ). n % 2) (xor_shr u v w) ∙ xor_mod (u / 2 ^ w) (v / 2 ^ w) 1)
    ∙ ap (bit_xor (bit_xor u v)) (digit_mul (u / 2 ^ w) (v / 2 ^ w) G)
    ∙ xor4 u v ((u / 2 ^ w % 2) * G) ((v / 2 ^ w % 2) * G)

pub scale_xor : (b c : Bool) (n : ℕ) → scale (xorb b c) n ≡ bit_xor (scale b n) (scale c n)
scale_xor true true n = sym (xor_self n)
scale_xor true false n = sym (xor_zero_r n)
scale_xor false c n = refl

pub step_xor : (w G r s : ℕ) (b c : Bool) → step w G (bit_xor r s) (xorb b c) ≡ bit_xor (step w G r b) (step w G s c)
unfolding step
step_xor w G r s b c =
    ap (reduce w G)
    (ap₂ bit_xor (xor_dbl r s) (scale_xor b c (2 ^ w)) ∙ xor4 (r * 2) (s * 2) (scale b (2 ^ w)) (scale c (2 ^ w)))
    ∙ reduce_xor w G (bit_xor (r * 2) (scale b (2 ^ w))) (bit_xor (s * 2) (scale c (2 ^ w)))

-- ---- linearity
pub onto_xor : (w G : ℕ) (xs bs : List Bool) (r s : ℕ) → length xs ≡ length bs
    → remainder_onto w G (bit_xor r s) (xors xs bs) ≡ bit_xor (remainder_onto w G r xs) (remainder_onto w G s bs)
onto_xor w G [] [] r s h = refl
onto_xor w G [] (b ∷ bs) r s h = absurd (omega arith)
onto_xor w G (a ∷ xs) [] r s h = absurd (omega arith)
onto_xor w G (a ∷ xs) (b ∷ bs) r s h =
    ap (λ (x : ℕ). remainder_onto w G x (xors xs bs)) (step_xor w G r s a b)
    ∙ onto_xor w G xs bs (step w G r a) (step w G s b) (omega arith)

-- ---- leading zeros
pub step_zero : (w G : ℕ) → step w G 0 false ≡ 0
unfolding step reduce
step_zero w G = simp (zero-div, zero-mod, zero-mul)

pub leading : (w G n : ℕ) (bs : List Bool) → remainder_onto w G 0 (replicate n false ++ bs) ≡ remainder_onto w G 0 bs
leading w G zero bs = refl
leading w G (suc n) bs = ap (λ (x : ℕ). remainder_onto w G x (replicate n false ++ bs)) (step_zero w G) ∙ leading w G n bs

pub onto-append : (w G : ℕ) (xs ys : List Bool) (r : ℕ) → remainder_onto w G r (xs ++ ys) ≡ remainder_onto w G (remainder_onto w G r xs) ys
onto-append w G [] ys r = refl
onto-append w G (x ∷ xs) ys r = onto-append w G xs ys (step w G r x)

-- ---- the degree stays below w
small : (q w G : ℕ) → q < 2 → G / 2 ^ w ≡ 1 → bit_xor q ((q % 2) * G / 2 ^ w) ≡ 0
small zero w G h g = simp (zero-mul, zero-div)
small (suc zero) w G h g = simp (one-mul, g)
small (suc (suc q)) w G h g = absurd (omega arith)

pub reduce_lt : (w G u : ℕ) → G / 2 ^ w ≡ 1 → u < 2 ^ (1 + w) → reduce w G u < 2 ^ w
unfolding reduce
reduce_lt w G u g h =
    let e : bit_xor u ((u / 2 ^ w % 2) * G) / 2 ^ w ≡ 0
    = xor_shr u ((u / 2 ^ w % 2) * G) w ∙ small (u / 2 ^ w) w G (shr_lt 1 w h) g in
    simp one-mul at ((div-lt_iff_lt-mul (pow_pos w)).0 (let lt : bit_xor u ((u / 2 ^ w % 2) * G) / 2 ^ w < 1 = omega arith in lt))

pub pow_more : (w : ℕ) → 2 ^ (1 + w) ≡ 2 ^ w + 2 ^ w
pow_more w = pow-add 2 1 w ∙ omega arith

pub step_lt : (w G r : ℕ) (b : Bool) → G / 2 ^ w ≡ 1 → r < 2 ^ w → step w G r b < 2 ^ w
unfolding step
step_lt w G r b g h =
    reduce_lt w G (bit_xor (r * 2) (scale b (2 ^ w))) g
    (xor_lt (1 + w) (r * 2) (scale b (2 ^ w)) (omega (arith, pow_more w)) (half b))
  where
    half : (b : Bool) → scale b (2 ^ w) < 2 ^ (1 + w)
    half true = omega (arith, pow_more w, pow_pos w)
    half false = pow_pos (1 + w)

pub onto_lt : (w G : ℕ) (bs : List Bool) (r : ℕ) → G / 2 ^ w ≡ 1 → r < 2 ^ w → remainder_onto w G r bs < 2 ^ w
onto_lt w G [] r g h = h
onto_lt w G (b ∷ bs) r g h = onto_lt w G bs (step w G r b) g (step_lt w G r b g h)

-- ---- parity
ones_zero : ones 0 ≡ 0
unfolding ones
ones_zero = refl

ones_one : ones 1 ≡ 1
unfolding ones
ones_one = refl

par2 : (x y z p q : ℕ) → x < 2 → y < 2 → z % 2 ≡ (p + q) % 2 → (bit_xor x y + z) % 2 ≡ ((x + p) + (y + q)) % 2
par2 zero y z p q hx hy h = omega arith
par2 (suc zero) zero z p q hx hy h = omega arith
par2 (suc zero) (suc zero) z p q hx hy h = omega arith
par2 (suc zero) (suc (suc y)) z p q hx hy h = absurd (omega arith)
par2 (suc (suc x)) y z p q hx hy h = absurd (omega arith)

pub ones_xor : (a b : ℕ) → ones (bit_xor a b) % 2 ≡ (ones a + ones b) % 2
ones_xor a =
    bin_ind (λ (n : ℕ). (b : ℕ) → ones (bit_xor n b) % 2 ≡ (ones n + ones b) % 2) (λ b. simp (ones_zero, zero-add))
    (λ n ih b.
    ap (λ (x : ℕ). x % 2) (ones_step (bit_xor n b) ∙ ap₂ (λ (x y : ℕ). x + ones y) (xor_mod n b 1) (xor_shr n b 1))
    ∙ par2 (n % 2) (b % 2) (ones (bit_xor (n / 2) (b / 2))) (ones (n / 2)) (ones (b / 2)) (omega arith) (omega arith) (ih (b / 2))
    ∙ ap₂ (λ (x y : ℕ). (x + y) % 2) (sym (ones_step n)) (sym (ones_step b))) a

ones_dbl : (r : ℕ) → ones (r * 2) ≡ ones r
ones_dbl r = simp (add-zero, ones_zero) at (ones_cat 1 r 0 (pow_pos 1))

ones_pow : (w : ℕ) → ones (2 ^ w) ≡ 1
ones_pow w = simp (add-zero, one-mul, ones_zero, ones_one) at (ones_cat w 1 0 (pow_pos w))

ones_scale : (b : Bool) (w : ℕ) → ones (scale b (2 ^ w)) ≡ scale b 1
ones_scale true w = ones_pow w
ones_scale false w = ones_zero

even_mul : (n G : ℕ) → ones G % 2 ≡ 0 → ones ((n % 2) * G) % 2 ≡ 0
even_mul n G h = go (n % 2) (digit n)
  where
    go : (t : ℕ) → (t ≡ 0) ⊎ (t ≡ 1) → ones (t * G) % 2 ≡ 0
    go t (inl e) = simp (e, zero-mul, ones_zero)
    go t (inr e) = simp (e, one-mul) h

pub step_parity : (w G r : ℕ) (b : Bool) → ones G % 2 ≡ 0 → ones (step w G r b) % 2 ≡ (ones r + scale b 1) % 2
unfolding step reduce
step_parity w G r b h =
    let u : ℕ = bit_xor (r * 2) (scale b (2 ^ w)) in
    let p : ones (bit_xor u ((u / 2 ^ w % 2) * G)) % 2 ≡ (ones u + ones ((u / 2 ^ w % 2) * G)) % 2 = ones_xor u ((u / 2 ^ w % 2) * G) in
    let q : ones u % 2 ≡ (ones (r * 2) + ones (scale b (2 ^ w))) % 2 = ones_xor (r * 2) (scale b (2 ^ w)) in
    omega (arith, p, q, ones_dbl r, ones_scale b w, even_mul (u / 2 ^ w) G h)

pub onto_parity : (w G : ℕ) (bs : List Bool) (r : ℕ) → ones G % 2 ≡ 0 → ones (remainder_onto w G r bs) % 2 ≡ (ones r + weight bs) % 2
onto_parity w G [] r h = simp add-zero
onto_parity w G (true ∷ bs) r h = omega (arith, onto_parity w G bs (step w G r true) h, step_parity w G r true h)
onto_parity w G (false ∷ bs) r h = omega (arith, onto_parity w G bs (step w G r false) h, step_parity w G r false h)

-- ---- G is odd, so x has an inverse: the register goes back
pow_even : (w : ℕ) → 0 < w → 2 ^ w % 2 ≡ 0
pow_even zero h = absurd (omega arith)
pow_even (suc w) h = simp (pow-suc, mul-mod_left)

scale_even : (b : Bool) (w : ℕ) → 0 < w → scale b (2 ^ w) % 2 ≡ 0
scale_even true w h = pow_even w h
scale_even false w h = refl

-- an even result comes from no reduction
pub unreduced : (w G r : ℕ) (b : Bool) → 0 < w → G % 2 ≡ 1 → step w G r b % 2 ≡ 0 → bit_xor (r * 2) (scale b (2 ^ w)) ≡ step w G r b
unfolding step reduce
unreduced w G r b hw hG h = go (u / 2 ^ w % 2) (digit (u / 2 ^ w)) h
  where
    u : ℕ
    u = bit_xor (r * 2) (scale b (2 ^ w))

    even : u % 2 ≡ 0
    even = xor_mod (r * 2) (scale b (2 ^ w)) 1 ∙ ap₂ bit_xor (mul-mod_left r 2) (scale_even b w hw)

    go : (t : ℕ) → (t ≡ 0) ⊎ (t ≡ 1) → bit_xor u (t * G) % 2 ≡ 0 → u ≡ bit_xor u (t * G)
    go t (inl e) k = simp (e, zero-mul, xor_zero_r)
    go t (inr e) k =
        let odd : bit_xor u (t * G) % 2 ≡ 1
        = xor_mod u (t * G) 1 ∙ ap₂ bit_xor even (ap (λ (x : ℕ). x * G % 2) e ∙ ap (λ (x : ℕ). x % 2) (one-mul G) ∙ hG) in
        absurd (omega arith)

-- only the zero register is shifted to zero
pub shift_zero : (w G r : ℕ) → 0 < w → G % 2 ≡ 1 → step w G r false ≡ 0 → r ≡ 0
shift_zero w G r hw hG h =
    let e : bit_xor (r * 2) 0 ≡ step w G r false = unreduced w G r false hw hG (ap (λ (x : ℕ). x % 2) h) in
    omega (arith, e, h, xor_zero_r (r * 2))

-- bits that bring the register to 0, at most w of them, are the register's own upper bits
pub back : (w G : ℕ) (bs : List Bool) (j r : ℕ) → G % 2 ≡ 1 → j + length bs ≡ w → remainder_onto w G r bs ≡ 0 → r ≡ times bs 1 * 2 ^ j
back w G [] j r hG h e = e ∙ sym (zero-mul (2 ^ j))
back w G (b ∷ bs) j r hG h e =
    let len : suc j + length bs ≡ w = omega arith in
    let ih : step w G r b ≡ times bs 1 * 2 ^ suc j = back w G bs (suc j) (step w G r b) hG len e in
    let ev : step w G r b % 2 ≡ 0 = ap (λ (x : ℕ). x % 2) ih ∙ shifted_even (times bs 1) j in
    let un : bit_xor (r * 2) (scale b (2 ^ w)) ≡ times bs 1 * 2 ^ suc j = unreduced w G r b (omega arith) hG ev ∙ ih in
    let dbl : r * 2 ≡ bit_xor (times bs 1 * 2 ^ suc j) (scale b (2 ^ w)) = xor_over (r * 2) (scale b (2 ^ w)) (times bs 1 * 2 ^ suc j) un in
    eq_of_mul-eq-mul_right 2 (lit< tt) r (times (b ∷ bs) 1 * 2 ^ j)
    (dbl ∙ ap (bit_xor (times bs 1 * 2 ^ suc j)) (top b len)
    ∙ xor_comm (times bs 1 * 2 ^ suc j) (scale b (1 * 2 ^ length bs) * 2 ^ suc j)
    ∙ sym (xor_shl (scale b (1 * 2 ^ length bs)) (times bs 1) (suc j))
    ∙ ap (λ (x : ℕ). times (b ∷ bs) 1 * x) (pow-suc 2 j) ∙ sym (mul_assoc (times (b ∷ bs) 1) (2 ^ j) 2))
  where
    top : (b : Bool) → suc j + length bs ≡ w → scale b (2 ^ w) ≡ scale b (1 * 2 ^ length bs) * 2 ^ suc j
    top true l = ap (λ (x : ℕ). 2 ^ x) (sym l) ∙ pow-add 2 (suc j) (length bs) ∙ mul_comm (2 ^ suc j) (2 ^ length bs) ∙ ap (λ (x : ℕ). x * 2 ^ suc j) (sym (one-mul (2 ^ length bs)))
    top false l = sym (zero-mul (2 ^ suc j))

-- ---- the remainder's own bits bring the register to 0
pub scale_odd : (n m : ℕ) → scale (odd n) m ≡ (n % 2) * m
scale_odd n m = go (n % 2) (digit n)
  where
    go : (t : ℕ) → (t ≡ 0) ⊎ (t ≡ 1) → scale (eqb t 1) m ≡ t * m
    go t (inl e) = simp (e, zero-mul)
    go t (inr e) = simp (e, one-mul)

pub reduce_small : (w G u : ℕ) → u < 2 ^ w → reduce w G u ≡ u
unfolding reduce
reduce_small w G u h = simp (div-eq_of_lt h, zero-mul, xor_zero_r)

out : (w G k j r : ℕ) → j + k ≡ w → remainder_onto w G ((r % 2 ^ k) * 2 ^ j) (high_first k r) ≡ 0
unfolding step high_first
out w G zero j r h = ap (λ (x : ℕ). x * 2 ^ j) (omega arith) ∙ zero-mul (2 ^ j)
out w G (suc k) j r h =
    ap (λ (x : ℕ). remainder_onto w G x (high_first k r)) (ap (reduce w G) shifted ∙ reduce_small w G (m * 2 ^ suc j) small')
    ∙ out w G k (suc j) r (omega arith)
  where
    d : ℕ
    d = r / 2 ^ k % 2

    m : ℕ
    m = r % 2 ^ k

    mlt : m < 2 ^ k
    mlt = mod-lt r (pow_pos k)

    len : k + suc j ≡ w
    len = omega arith

    small' : m * 2 ^ suc j < 2 ^ w
    small' = subst (λ (x : ℕ). m * 2 ^ suc j < 2 ^ x) len (shl_lt k (suc j) mlt)

    low : r % 2 ^ suc k ≡ bit_xor (d * 2 ^ k) m
    low = ap (λ (x : ℕ). r % 2 ^ x) (sym (one-add k)) ∙ mod-pow-add r 1 k ∙ sym (xor_shifted d k m mlt)

    shifted : bit_xor ((r % 2 ^ suc k) * 2 ^ j * 2) (scale (odd (r / 2 ^ k)) (2 ^ w)) ≡ m * 2 ^ suc j
    shifted =
        ap₂ bit_xor
        (mul_assoc (r % 2 ^ suc k) (2 ^ j) 2 ∙ ap₂ (λ (x y : ℕ). x * y) low (sym (pow-suc 2 j)))
        (scale_odd (r / 2 ^ k) (2 ^ w) ∙ ap (λ (x : ℕ). d * 2 ^ x) (sym len) ∙ ap (λ (x : ℕ). d * x) (pow-add 2 k (suc j)) ∙ sym (mul_assoc d (2 ^ k) (2 ^ suc j)))
        ∙ sym (xor_shl (bit_xor (d * 2 ^ k) m) (d * 2 ^ k) (suc j))
        ∙ ap (λ (x : ℕ). x * 2 ^ suc j)
        (ap (λ (x : ℕ). bit_xor x (d * 2 ^ k)) (xor_comm (d * 2 ^ k) m) ∙ sym (xor_over m (d * 2 ^ k) (bit_xor m (d * 2 ^ k)) refl))

pub appended : (w G : ℕ) (bs : List Bool) → G / 2 ^ w ≡ 1 → remainder w G (bs ++ high_first w (remainder w G bs)) ≡ 0
appended w G bs g =
    let r : ℕ = remainder w G bs in
    onto-append w G bs (high_first w r) 0
    ∙ ap (λ (x : ℕ). remainder_onto w G x (high_first w r)) (sym (ap (λ (x : ℕ). x * 2 ^ 0) (mod-eq_of_lt (onto_lt w G bs 0 g (pow_pos w))) ∙ mul-one r))
    ∙ out w G w 0 r (zero-add w)

-- ---- polynomial division
scale_shl : (b : Bool) (m n : ℕ) → scale b (m * n) ≡ scale b m * n
scale_shl true m n = refl
scale_shl false m n = sym (zero-mul n)

pub divided : (w G : ℕ) (bs : List Bool) (r : ℕ)
    → (q : List Bool) × (length q ≡ length bs) × (bit_xor (r * 2 ^ length bs) (times bs (2 ^ w)) ≡ bit_xor (times q G) (remainder_onto w G r bs))
unfolding step reduce
divided w G [] r = ([], refl, xor_zero_r (r * 1) ∙ mul-one r)
divided w G (b ∷ bs) r = go (divided w G bs (step w G r b))
  where
    n : ℕ
    n = length bs

    u : ℕ
    u = bit_xor (r * 2) (scale b (2 ^ w))

    S : ℕ
    S = step w G r b

    go : (q : List Bool) × (length q ≡ n) × (bit_xor (S * 2 ^ n) (times bs (2 ^ w)) ≡ bit_xor (times q G) (remainder_onto w G S bs))
        → (q : List Bool) × (length q ≡ suc n) × (bit_xor (r * 2 ^ suc n) (times (b ∷ bs) (2 ^ w)) ≡ bit_xor (times q G) (remainder_onto w G S bs))
    go h =
        let q : List Bool = h.0 in
        let D : ℕ = (u / 2 ^ w % 2) * G in
        let top : D * 2 ^ n ≡ scale (odd (u / 2 ^ w)) (G * 2 ^ length q)
        = mul_assoc (u / 2 ^ w % 2) G (2 ^ n) ∙ ap (λ (x : ℕ). (u / 2 ^ w % 2) * (G * 2 ^ x)) (sym h.1) ∙ sym (scale_odd (u / 2 ^ w) (G * 2 ^ length q)) in (
          odd (u / 2 ^ w) ∷ q,
          ap suc h.1,
          sym (xor_assoc (r * 2 ^ suc n) (scale b (2 ^ w * 2 ^ n)) (times bs (2 ^ w)))
              ∙ ap (λ (x : ℕ). bit_xor x (times bs (2 ^ w)))
              (ap₂ bit_xor (ap (λ (x : ℕ). r * x) (pow-succ' 2 n) ∙ sym (mul_assoc r 2 (2 ^ n))) (scale_shl b (2 ^ w) (2 ^ n))
              ∙ sym (xor_shl (r * 2) (scale b (2 ^ w)) n)
              ∙ ap (λ (x : ℕ). x * 2 ^ n) (xor_over u D S refl)
              ∙ xor_shl S D n ∙ xor_comm (S * 2 ^ n) (D * 2 ^ n))
              ∙ xor_assoc (D * 2 ^ n) (S * 2 ^ n) (times bs (2 ^ w))
              ∙ ap₂ bit_xor top h.2
              ∙ sym (xor_assoc (scale (odd (u / 2 ^ w)) (G * 2 ^ length q)) (times q G) (remainder_onto w G S bs)),
        )

pub divides : (w G : ℕ) (bs : List Bool) → G / 2 ^ w ≡ 1 → IsDivision w G bs (remainder w G bs)
divides w G bs g =
    let h = divided w G bs 0 in
    (h.0, h.1, onto_lt w G bs 0 g (pow_pos w), ap (λ (x : ℕ). bit_xor x (times bs (2 ^ w))) (sym (zero-mul (2 ^ length bs))) ∙ h.2)

-- the product with 1 is the number that the bits write
pub times_one : (bs : List Bool) → times bs 1 ≡ high_value bs
times_one [] = refl
times_one (true ∷ bs) =
    ap (bit_xor (1 * 2 ^ length bs)) (times_one bs)
    ∙ xor_shifted 1 (length bs) (high_value bs) (value_lt bs) ∙ ap (λ (x : ℕ). x + high_value bs) (one-mul (2 ^ length bs))
times_one (false ∷ bs) = times_one bs

-- and no other w bits do
pub only_appended : (w G : ℕ) (bs cs : List Bool) → G % 2 ≡ 1 → length cs ≡ w → remainder w G (bs ++ cs) ≡ 0 → cs ≡ high_first w (remainder w G bs)
only_appended w G bs cs g l e =
    sym (high_value_is cs)
    ∙ ap₂ high_first l
    (sym (back w G cs 0 (remainder w G bs) g (omega arith) (sym (onto-append w G bs cs 0) ∙ e) ∙ mul-one (times cs 1) ∙ times_one cs))
