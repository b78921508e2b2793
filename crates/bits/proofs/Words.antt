-- Numbers as bits, the lowest first: what stands above does not count, numbers joined, and bytes as one number.
use Rattle.std.proofs.Common.{◌≡◌, ℕ, zero, suc, ◌+◌, ◌-◌, ◌*◌, ◌/◌, ◌%◌, ◌^◌, ◌<◌, ◌≤◌, eqb, Bool, List, [], ◌∷◌, ◌++◌, length, get_or, take, drop, sym, refl, ap, ap₂, ◌∙◌, append_assoc, mul_assoc, mul_comm, arith, length-drop}
use Rattle.std.proofs.Math.Nat.{pow-succ'}
use Rattle.std.proofs.Math.Pow.{high}
use Rattle.std.proofs.lemmas.List.{drop_more, take_at, drop_at, drop-drop, take_all}
use Rattle.bits.specs.Bits.{low_first, bits}
use Rattle.bits.proofs.Digits.{low_join}
use Rattle.bits.proofs.Parts.{drop_bits}
use Rattle.bits.proofs.Places.{length_bits, length_low}

-- the number that bytes write, lowest byte first
unfoldable pub num : List ℕ → ℕ
num [] = 0
num (b ∷ bs) = b % 256 + 256 * num bs

-- what stands above the n lowest bits does not count
pub low_more : (n a b : ℕ) → low_first n (a + 2 ^ n * b) ≡ low_first n a
unfolding low_first
low_more zero a b = refl
low_more (suc n) a b =
    let p : 2 ^ suc n * b ≡ 2 * (2 ^ n * b) = ap (λ (y : ℕ). y * b) (pow-succ' 2 n) ∙ mul_assoc 2 (2 ^ n) b in
    let q : (a + 2 ^ suc n * b) % 2 ≡ a % 2 = omega arith in
    let r : (a + 2 ^ suc n * b) / 2 ≡ a / 2 + 2 ^ n * b = omega arith in
    ap₂ (λ (y : Bool) (l : List Bool). y ∷ l) (ap (λ (y : ℕ). eqb y 1) q) (ap (low_first n) r ∙ low_more n (a / 2) b)

-- the bits of a and then those of b
pub low_append : (m n a b : ℕ) → a < 2 ^ m → low_first m a ++ low_first n b ≡ low_first (m + n) (a + 2 ^ m * b)
low_append m n a b h =
    let c : b * 2 ^ m ≡ 2 ^ m * b = mul_comm b (2 ^ m) in
    let e : b * 2 ^ m + a ≡ a + 2 ^ m * b = omega arith in
    let q : (a + 2 ^ m * b) / 2 ^ m ≡ b = ap (λ (y : ℕ). y / 2 ^ m) (sym e) ∙ high b m h in
    sym (low_join m n (a + 2 ^ m * b) ∙ ap (λ (l : List Bool). l ++ low_first n ((a + 2 ^ m * b) / 2 ^ m)) (low_more m a b)
    ∙ ap (λ (y : ℕ). low_first m a ++ low_first n y) q)

pub low_three : (a b c x y z : ℕ) → x < 2 ^ a → x + 2 ^ a * y < 2 ^ (a + b) →
    low_first a x ++ (low_first b y ++ low_first c z) ≡ low_first (a + b + c) (x + 2 ^ a * y + 2 ^ (a + b) * z)
low_three a b c x y z h k =
    sym (append_assoc (low_first a x) (low_first b y) (low_first c z))
    ∙ ap (λ (l : List Bool). l ++ low_first c z) (low_append a b x y h)
    ∙ low_append (a + b) c (x + 2 ^ a * y) z k

take_drop_low : (s n m x : ℕ) → take n (drop s (low_first (s + (n + m)) x)) ≡ low_first n (x / 2 ^ s)
take_drop_low s n m x =
    ap (λ (l : List Bool). take n (drop s l)) (low_join s (n + m) x)
    ∙ ap (λ (l : List Bool). take n l) (drop_at (low_first s x) (low_first (n + m) (x / 2 ^ s)) s (length_low s x))
    ∙ ap (λ (l : List Bool). take n l) (low_join n m (x / 2 ^ s))
    ∙ take_at (low_first n (x / 2 ^ s)) (low_first m (x / 2 ^ s / 2 ^ n)) n (length_low n (x / 2 ^ s))

low_byte : (b : ℕ) → low_first 8 b ≡ low_first 8 (b % 256)
low_byte b =
    let e : b ≡ b % 256 + 2 ^ 8 * (b / 256) = omega arith in
    ap (λ (y : ℕ). low_first 8 y) e ∙ low_more 8 (b % 256) (b / 256)

-- bytes have the bits of their number
pub bits_low : (bs : List ℕ) → bits bs ≡ low_first (8 * length bs) (num bs)
unfolding bits num low_first
bits_low [] = refl
bits_low (b ∷ bs) =
    let e : 8 + 8 * length bs ≡ 8 * suc (length bs) = omega arith in
    let h : b % 256 < 2 ^ 8 = omega arith in
    ap (λ (l : List Bool). low_first 8 b ++ l) (bits_low bs)
    ∙ ap (λ (l : List Bool). l ++ low_first (8 * length bs) (num bs)) (low_byte b)
    ∙ low_append 8 (8 * length bs) (b % 256) (num bs) h
    ∙ ap (λ (n : ℕ). low_first n (b % 256 + 256 * num bs)) e

num_split : (n : ℕ) (bs : List ℕ) → num bs ≡ num (take n bs) + 256 ^ n * num (drop n bs)
unfolding num
num_split zero bs = omega arith
num_split (suc n) [] = omega arith
num_split (suc n) (b ∷ bs) =
    let p : 256 ^ suc n * num (drop n bs) ≡ 256 * (256 ^ n * num (drop n bs)) =
    ap (λ (y : ℕ). y * num (drop n bs)) (pow-succ' 256 n) ∙ mul_assoc 256 (256 ^ n) (num (drop n bs)) in
    let q = num_split n bs in
    omega arith

-- one more byte
step : (P : List ℕ) (at i : ℕ) → at + i < length P → drop (at + i) P ≡ get_or P (at + i) 0 ∷ drop (at + suc i) P
step P at i h = let e : at + i + 1 ≡ at + suc i = omega arith in
    drop_more P (at + i) 0 h ∙ ap (λ (m : ℕ). get_or P (at + i) 0 ∷ drop m P) e

take_eight : (P : List ℕ) (at : ℕ) → at + 8 ≤ length P → take 8 (drop at P) ≡
    get_or P at 0 ∷ get_or P (at + 1) 0 ∷ get_or P (at + 2) 0 ∷ get_or P (at + 3) 0 ∷ get_or P (at + 4) 0 ∷ get_or P (at + 5) 0 ∷ get_or P (at + 6) 0 ∷ get_or P (at + 7) 0 ∷ []
take_eight P at h =
    ap (λ (l : List ℕ). take 8 l) (drop_more P at 0 (omega arith))
    ∙ ap (λ (l : List ℕ). get_or P at 0 ∷ take 7 l) (step P at 1 (omega arith))
    ∙ ap (λ (l : List ℕ). get_or P at 0 ∷ get_or P (at + 1) 0 ∷ take 6 l) (step P at 2 (omega arith))
    ∙ ap (λ (l : List ℕ). get_or P at 0 ∷ get_or P (at + 1) 0 ∷ get_or P (at + 2) 0 ∷ take 5 l) (step P at 3 (omega arith))
    ∙ ap (λ (l : List ℕ). get_or P at 0 ∷ get_or P (at + 1) 0 ∷ get_or P (at + 2) 0 ∷ get_or P (at + 3) 0 ∷ take 4 l) (step P at 4 (omega arith))
    ∙ ap (λ (l : List ℕ). get_or P at 0 ∷ get_or P (at + 1) 0 ∷ get_or P (at + 2) 0 ∷ get_or P (at + 3) 0 ∷ get_or P (at + 4) 0 ∷ take 3 l) (step P at 5 (omega arith))
    ∙ ap (λ (l : List ℕ). get_or P at 0 ∷ get_or P (at + 1) 0 ∷ get_or P (at + 2) 0 ∷ get_or P (at + 3) 0 ∷ get_or P (at + 4) 0 ∷ get_or P (at + 5) 0 ∷ take 2 l) (step P at 6 (omega arith))
    ∙ ap (λ (l : List ℕ). get_or P at 0 ∷ get_or P (at + 1) 0 ∷ get_or P (at + 2) 0 ∷ get_or P (at + 3) 0 ∷ get_or P (at + 4) 0 ∷ get_or P (at + 5) 0 ∷ get_or P (at + 6) 0 ∷ take 1 l) (step P at 7 (omega arith))

num_eight : (P : List ℕ) (at : ℕ) → at + 8 ≤ length P → num (take 8 (drop at P)) ≡
    get_or P at 0 % 256 + 256 * (get_or P (at + 1) 0 % 256 + 256 * (get_or P (at + 2) 0 % 256 + 256 * (get_or P (at + 3) 0 % 256 + 256 * (get_or P (at + 4) 0 % 256 + 256 * (get_or P (at + 5) 0 % 256 + 256 * (get_or P (at + 6) 0 % 256 + 256 * (get_or P (at + 7) 0 % 256)))))))
unfolding num
num_eight P at h = ap num (take_eight P at h) ∙ omega arith

byte_small : (b : ℕ) → b < 256 → b % 256 ≡ b
byte_small b h = omega arith

-- eight bytes as one number, as from_le_bytes has it
num_word : (P : List ℕ) (at : ℕ) → ((i : ℕ) → get_or P i 0 < 256) → at + 8 ≤ length P →
    get_or P at 0 + get_or P (at + 1) 0 * 256 + get_or P (at + 2) 0 * 65536 + get_or P (at + 3) 0 * 16777216 + get_or P (at + 4) 0 * 4294967296 + get_or P (at + 5) 0 * 1099511627776 + get_or P (at + 6) 0 * 281474976710656 + get_or P (at + 7) 0 * 72057594037927936
    ≡ num (take 8 (drop at P))
num_word P at t h =
    let e0 = byte_small (get_or P at 0) (t at) in
    let e1 = byte_small (get_or P (at + 1) 0) (t (at + 1)) in
    let e2 = byte_small (get_or P (at + 2) 0) (t (at + 2)) in
    let e3 = byte_small (get_or P (at + 3) 0) (t (at + 3)) in
    let e4 = byte_small (get_or P (at + 4) 0) (t (at + 4)) in
    let e5 = byte_small (get_or P (at + 5) 0) (t (at + 5)) in
    let e6 = byte_small (get_or P (at + 6) 0) (t (at + 6)) in
    let e7 = byte_small (get_or P (at + 7) 0) (t (at + 7)) in
    sym (num_eight P at h ∙ simp (e0, e1, e2, e3, e4, e5, e6, e7) (omega arith))

-- bits from bit s of byte `at` on, as a number
pub chunk : (P : List ℕ) (at s n : ℕ) → 8 * at + s + n ≤ 8 * length P →
    take n (drop (8 * at + s) (bits P)) ≡ low_first n (num (drop at P) / 2 ^ s)
chunk P at s n h =
    let l : length (drop at P) ≡ length P - at = length-drop at P in
    let e : 8 * length (drop at P) ≡ s + (n + (8 * length (drop at P) - (s + n))) = omega arith in
    ap (λ (l : List Bool). take n l) (sym (drop-drop s (8 * at) (bits P)))
    ∙ ap (λ (l : List Bool). take n (drop s l)) (drop_bits at P ∙ bits_low (drop at P) ∙ ap (λ (m : ℕ). low_first m (num (drop at P))) e)
    ∙ take_drop_low s n (8 * length (drop at P) - (s + n)) (num (drop at P))

pub num_at : (P : List ℕ) (at : ℕ) → at < length P → num (drop at P) ≡ get_or P at 0 % 256 + 256 * num (drop (at + 1) P)
unfolding num
num_at P at h = ap num (drop_more P at 0 h)

num_word_at : (P : List ℕ) (at : ℕ) → num (drop at P) ≡ num (take 8 (drop at P)) + 2 ^ 64 * num (drop (at + 8) P)
num_word_at P at = num_split 8 (drop at P)
    ∙ ap (λ (l : List ℕ). num (take 8 (drop at P)) + 2 ^ 64 * num l) (drop-drop 8 at P)

-- eight bytes among others, as bits
word_at : (P : List ℕ) (at : ℕ) → at + 8 ≤ length P → take 64 (drop (8 * at) (bits P)) ≡ low_first 64 (num (take 8 (drop at P)))
word_at P at h =
    let z : 8 * at ≡ 8 * at + 0 = omega arith in
    let e : num (drop at P) / 1 ≡ num (take 8 (drop at P)) + 2 ^ 64 * num (drop (at + 8) P) = omega (arith, num_word_at P at) in
    ap (λ (m : ℕ). take 64 (drop m (bits P))) z ∙ chunk P at 0 64 (omega arith)
    ∙ ap (λ (x : ℕ). low_first 64 x) e ∙ low_more 64 (num (take 8 (drop at P))) (num (drop (at + 8) P))

-- eight bytes read as one number by from_le_bytes
pub word_bits : (bs : List ℕ) → length bs ≡ 8 → ((i : ℕ) → get_or bs i 0 < 256) →
    low_first 64 (get_or bs 0 0 + get_or bs 1 0 * 256 + get_or bs 2 0 * 65536 + get_or bs 3 0 * 16777216 + get_or bs 4 0 * 4294967296 + get_or bs 5 0 * 1099511627776 + get_or bs 6 0 * 281474976710656 + get_or bs 7 0 * 72057594037927936)
    ≡ bits bs
word_bits bs h t =
    ap (λ (x : ℕ). low_first 64 x) (num_word bs 0 t (omega arith)) ∙ sym (word_at bs 0 (omega arith))
    ∙ take_all 64 (bits bs) (omega (arith, length_bits bs))

-- a number written in eight bytes by to_le_bytes
pub bits_word : (w : ℕ) → w < 2 ^ 64 →
    bits ((w % 256) ∷ (w / 256 % 256) ∷ (w / 65536 % 256) ∷ (w / 16777216 % 256) ∷ (w / 4294967296 % 256) ∷ (w / 1099511627776 % 256) ∷ (w / 281474976710656 % 256) ∷ (w / 72057594037927936 % 256) ∷ []) ≡ low_first 64 w
unfolding num
bits_word w h = bits_low _ ∙ ap (λ (n : ℕ). low_first 64 n) (omega arith)
