-- The first four bytes as one word, and the numbers in it turned round.
use Rattle.std.proofs.Common.{◌≡◌, ℕ, ◌+◌, ◌*◌, ◌/◌, ◌%◌, ◌^◌, ◌<◌, Bool, false, List, [], ◌∷◌, ◌++◌, take, drop, replicate, sym, ap, ◌∙◌, ap₂, arith}
use Rattle.std.specs.Int.{reverse_bits_onto}
use Rattle.bits.specs.Bits.{low_first, high_first, bits, field}
use Rattle.bits.proofs.Digits.{high_mod}
use Rattle.bits.proofs.Words.{low_append}
use Rattle.bits.proofs.Digits.{low_join, high_join, low_zeros, high_zeros, low_reversed, high_reversed}

-- the number that four bytes write, the lowest byte first
abbrev pub word_of : ℕ → ℕ → ℕ → ℕ → ℕ
word_of b0 b1 b2 b3 = b0 + b1 * 256 + b2 * 65536 + b3 * 16777216

-- a byte, and what stands above it
byte_join : (k b n : ℕ) → b < 256 → low_first (8 + k) (n * 256 + b) ≡ low_first 8 b ++ low_first k n
byte_join k b n h = sym (low_append 8 k b n h ∙ ap (low_first (8 + k)) (let e : b + 256 * n ≡ n * 256 + b = omega arith in e))

pub bits_seven : (b0 b1 b2 b3 b4 b5 b6 : ℕ) → b0 < 256 → b1 < 256 → b2 < 256 → b3 < 256
    → bits (b0 ∷ b1 ∷ b2 ∷ b3 ∷ b4 ∷ b5 ∷ b6 ∷ []) ≡ low_first 32 (word_of b0 b1 b2 b3) ++ (low_first 8 b4 ++ (low_first 8 b5 ++ low_first 8 b6))
unfolding bits low_first
bits_seven b0 b1 b2 b3 b4 b5 b6 h0 h1 h2 h3 =
    sym (ap (λ (l : List Bool). l ++ (low_first 8 b4 ++ (low_first 8 b5 ++ low_first 8 b6))) whole)
  where
    whole : low_first 32 (word_of b0 b1 b2 b3) ≡ low_first 8 b0 ++ (low_first 8 b1 ++ (low_first 8 b2 ++ low_first 8 b3))
    whole =
        ap (low_first 32) (let e : word_of b0 b1 b2 b3 ≡ (b1 + b2 * 256 + b3 * 65536) * 256 + b0 = omega arith in e)
        ∙ byte_join 24 b0 (b1 + b2 * 256 + b3 * 65536) h0
        ∙ ap (λ (l : List Bool). low_first 8 b0 ++ l)
        (ap (low_first 24) (let e : b1 + b2 * 256 + b3 * 65536 ≡ (b2 + b3 * 256) * 256 + b1 = omega arith in e)
        ∙ byte_join 16 b1 (b2 + b3 * 256) h1
        ∙ ap (λ (l : List Bool). low_first 8 b1 ++ l)
        (ap (low_first 16) (let e : b2 + b3 * 256 ≡ b3 * 256 + b2 = omega arith in e) ∙ byte_join 8 b2 b3 h2))

-- ---- writing: the entry in ten bits and the frame number in nine, behind ten zeros
numbers_high : (e f : ℕ) → e < 1024 → f < 512
    → high_first 32 (e * 512 + f) ≡ replicate 13 false ++ (high_first 10 e ++ high_first 9 f)
numbers_high e f he hf =
    high_join 13 19 (e * 512 + f)
    ∙ ap₂ (λ (xs ys : List Bool). xs ++ ys)
    (ap (high_first 13) (let z : (e * 512 + f) / 524288 ≡ 0 = omega arith in z) ∙ high_zeros 13)
    (high_join 10 9 (e * 512 + f)
    ∙ ap₂ (λ (m : ℕ) (ys : List Bool). high_first 10 m ++ ys)
    (let z : (e * 512 + f) / 512 ≡ e = omega arith in z)
    (high_mod 9 (e * 512 + f) f (let z : (e * 512 + f) % 512 ≡ f % 512 = omega arith in z)))

low_part : (w : ℕ) (xs : List Bool) → low_first 32 w ≡ false ∷ false ∷ false ∷ xs → low_first 29 (w / 8) ≡ xs
unfolding low_first
low_part w xs e = ap (drop 3) (sym (low_join 3 29 w) ∙ e)

pub numbers_written : (e f w : ℕ) → e < 1024 → f < 512 → w < 2 ^ 32 → w ≡ reverse_bits_onto 32 (e * 512 + f) 0
    → low_first 32 (w / 8) ≡ (replicate 10 false ++ (high_first 10 e ++ high_first 9 f)) ++ replicate 3 false
numbers_written e f w he hf hw r =
    low_join 29 3 (w / 8)
    ∙ ap₂ (λ (xs ys : List Bool). xs ++ ys)
    (low_part w (replicate 10 false ++ (high_first 10 e ++ high_first 9 f))
    (ap (low_first 32) r ∙ low_reversed 32 (e * 512 + f) ∙ numbers_high e f he hf))
    (ap (low_first 3) (let z : w / 8 / 2 ^ 29 ≡ 0 = omega arith in z) ∙ low_zeros 3)

-- ---- reading: a word turned round has the same numbers in its bits 3 to 21
abbrev pub numbers_in : ℕ → ℕ
numbers_in word = reverse_bits_onto 32 word 0 / 8

numbers_read : (x : ℕ)
    → low_first 32 x ≡ (high_first 10 (numbers_in x / 524288) ++ (high_first 10 (numbers_in x / 512) ++ high_first 9 (numbers_in x))) ++ high_first 3 (reverse_bits_onto 32 x 0)
numbers_read x =
    sym (high_reversed 32 x)
    ∙ high_join 29 3 (reverse_bits_onto 32 x 0)
    ∙ ap (λ (l : List Bool). l ++ high_first 3 (reverse_bits_onto 32 x 0))
    (high_join 10 19 (numbers_in x) ∙ ap (λ (l : List Bool). high_first 10 (numbers_in x / 524288) ++ l) (high_join 10 9 (numbers_in x)))

-- bits 10 to 55, by the numbers that the code reads
pub word_read : (b0 b1 b2 b3 b4 b5 b6 : ℕ) → b0 < 256 → b1 < 256 → b2 < 256 → b3 < 256
    → field (b0 ∷ b1 ∷ b2 ∷ b3 ∷ b4 ∷ b5 ∷ b6 ∷ []) 10 56
    ≡ high_first 10 (numbers_in (word_of b0 b1 b2 b3) / 512)
    ++ (high_first 9 (numbers_in (word_of b0 b1 b2 b3))
    ++ (high_first 3 (reverse_bits_onto 32 (word_of b0 b1 b2 b3) 0) ++ (low_first 8 b4 ++ (low_first 8 b5 ++ high_first 8 (reverse_bits_onto 8 b6 0)))))
unfolding low_first high_first
word_read b0 b1 b2 b3 b4 b5 b6 h0 h1 h2 h3 =
    ap (λ (l : List Bool). take 46 (drop 10 l))
    (bits_seven b0 b1 b2 b3 b4 b5 b6 h0 h1 h2 h3
    ∙ ap₂ (λ (xs ys : List Bool). xs ++ (low_first 8 b4 ++ (low_first 8 b5 ++ ys)))
    (numbers_read (word_of b0 b1 b2 b3)) (sym (high_reversed 8 b6)))
