-- Numbers written in bits, the lowest or the highest digit first: parts, zeros, and numbers turned round.
use Rattle.std.proofs.Common.{◌≡◌, ℕ, zero, suc, ◌+◌, ◌*◌, ◌/◌, ◌%◌, ◌^◌, ◌<◌, Bool, false, eqb, ◌⊎◌, List, [], ◌∷◌, ◌++◌, length, replicate, sym, refl, ap, ◌∙◌, ap₂, inl, inr, append_assoc, suc-add, zero-add, div-one, one-add, arith, shr-shr}
use Rattle.std.proofs.Math.Nat.{zero-div}
use Rattle.std.proofs.Math.Pow.{field, mod-mod-pow}
use Rattle.std.specs.Int.{reverse_bits_onto}
use Rattle.std.proofs.lemmas.List.{append-nil}
use Rattle.bits.specs.Bits.{odd, low_first, high_first}

-- ---- the lowest digit
below_two : (x : ℕ) → x < 2 → (x ≡ 0) ⊎ (x ≡ 1)
below_two zero h = inl refl
below_two (suc zero) h = inr refl
below_two (suc (suc x)) h = absurd (omega arith)

pub digit : (n : ℕ) → (n % 2 ≡ 0) ⊎ (n % 2 ≡ 1)
digit n = below_two (n % 2) (omega arith)

pub length_high : (k n : ℕ) → length (high_first k n) ≡ k
unfolding high_first
length_high zero n = refl
length_high (suc k) n = ap suc (length_high k n)

-- ---- parts
pub low_join : (j k n : ℕ) → low_first (j + k) n ≡ low_first j n ++ low_first k (n / 2 ^ j)
unfolding low_first
low_join zero k n = ap₂ low_first (zero-add k) (sym (div-one n))
low_join (suc j) k n =
    ap (λ (m : ℕ). low_first m n) (suc-add j k)
    ∙ ap (λ (l : List Bool). odd n ∷ l)
    (low_join j k (n / 2)
    ∙ ap (λ (x : ℕ). low_first j (n / 2) ++ low_first k x)
    (shr-shr n 1 j ∙ ap (λ (x : ℕ). n / 2 ^ x) (one-add j)))

pub high_join : (j k n : ℕ) → high_first (j + k) n ≡ high_first j (n / 2 ^ k) ++ high_first k n
unfolding high_first
high_join zero k n = ap (λ (m : ℕ). high_first m n) (zero-add k)
high_join (suc j) k n =
    ap (λ (m : ℕ). high_first m n) (suc-add j k)
    ∙ ap₂ (λ (b : Bool) (l : List Bool). b ∷ l)
    (ap odd (ap (λ (x : ℕ). n / 2 ^ x) (let e : j + k ≡ k + j = omega arith in e) ∙ sym (shr-shr n k j)))
    (high_join j k n)

-- the lowest digit stands last
pub high_last : (k n : ℕ) → high_first (suc k) n ≡ high_first k (n / 2) ++ (odd n ∷ [])
unfolding high_first
high_last k n =
    ap (λ (m : ℕ). high_first m n) (let e : suc k ≡ k + 1 = omega arith in e)
    ∙ high_join k 1 n
    ∙ ap (λ (x : ℕ). high_first k (n / 2) ++ (odd x ∷ [])) (div-one n)

-- ---- zeros
pub low_zeros : (k : ℕ) → low_first k 0 ≡ replicate k false
unfolding low_first
low_zeros zero = refl
low_zeros (suc k) = ap (λ (l : List Bool). false ∷ l) (low_zeros k)

pub high_zeros : (k : ℕ) → high_first k 0 ≡ replicate k false
unfolding high_first
high_zeros zero = refl
high_zeros (suc k) = ap₂ (λ (b : Bool) (l : List Bool). b ∷ l) (ap odd (zero-div (2 ^ k))) (high_zeros k)

-- digits above the k lowest are not looked at
pub high_mod : (k a b : ℕ) → a % 2 ^ k ≡ b % 2 ^ k → high_first k a ≡ high_first k b
unfolding high_first
high_mod zero a b h = refl
high_mod (suc k) a b h =
    ap₂ (λ (x : Bool) (xs : List Bool). x ∷ xs)
    (ap (λ (x : ℕ). eqb x 1) (sym (field a 1 k) ∙ ap (λ (x : ℕ). x / 2 ^ k) h' ∙ field b 1 k))
    (high_mod k a b (sym (mod-mod-pow a 1 k) ∙ ap (λ (x : ℕ). x % 2 ^ k) h' ∙ mod-mod-pow b 1 k))
  where
    h' : a % 2 ^ (1 + k) ≡ b % 2 ^ (1 + k)
    h' = ap (λ (x : ℕ). a % 2 ^ x) (one-add k) ∙ h ∙ ap (λ (x : ℕ). b % 2 ^ x) (sym (one-add k))

-- ---- turned round
odd_push : (a n : ℕ) → odd (a * 2 + n % 2) ≡ odd n
odd_push a n = ap (λ (x : ℕ). eqb x 1) (let e : (a * 2 + n % 2) % 2 ≡ n % 2 = omega arith in e)

half_push : (a n : ℕ) → (a * 2 + n % 2) / 2 ≡ a
half_push a n = omega arith

low_onto : (k j n a : ℕ) → low_first (k + j) (reverse_bits_onto k n a) ≡ high_first k n ++ low_first j a
unfolding low_first high_first reverse_bits_onto
low_onto zero j n a = ap (λ (m : ℕ). low_first m a) (zero-add j)
low_onto (suc k) j n a =
    ap (λ (m : ℕ). low_first m (reverse_bits_onto k (n / 2) (a * 2 + n % 2))) (let e : suc k + j ≡ k + suc j = omega arith in e)
    ∙ low_onto k (suc j) (n / 2) (a * 2 + n % 2)
    ∙ ap₂ (λ (b : Bool) (x : ℕ). high_first k (n / 2) ++ (b ∷ low_first j x)) (odd_push a n) (half_push a n)
    ∙ sym (append_assoc (high_first k (n / 2)) (odd n ∷ []) (low_first j a))
    ∙ ap (λ (l : List Bool). l ++ low_first j a) (sym (high_last k n))

pub low_reversed : (k n : ℕ) → low_first k (reverse_bits_onto k n 0) ≡ high_first k n
unfolding low_first
low_reversed k n =
    ap (λ (m : ℕ). low_first m (reverse_bits_onto k n 0)) (let e : k ≡ k + 0 = omega arith in e)
    ∙ low_onto k 0 n 0 ∙ append-nil (high_first k n)

high_onto : (k j n a : ℕ) → high_first (j + k) (reverse_bits_onto k n a) ≡ high_first j a ++ low_first k n
unfolding low_first reverse_bits_onto
high_onto zero j n a = ap (λ (m : ℕ). high_first m a) (let e : j + 0 ≡ j = omega arith in e) ∙ sym (append-nil (high_first j a))
high_onto (suc k) j n a =
    ap (λ (m : ℕ). high_first m (reverse_bits_onto k (n / 2) (a * 2 + n % 2))) (let e : j + suc k ≡ suc j + k = omega arith in e)
    ∙ high_onto k (suc j) (n / 2) (a * 2 + n % 2)
    ∙ ap (λ (l : List Bool). l ++ low_first k (n / 2))
    (high_last j (a * 2 + n % 2)
    ∙ ap₂ (λ (b : Bool) (x : ℕ). high_first j x ++ (b ∷ [])) (odd_push a n) (half_push a n))
    ∙ append_assoc (high_first j a) (odd n ∷ []) (low_first k (n / 2))

pub high_reversed : (k n : ℕ) → high_first k (reverse_bits_onto k n 0) ≡ low_first k n
unfolding high_first
high_reversed k n =
    ap (λ (m : ℕ). high_first m (reverse_bits_onto k n 0)) (sym (zero-add k)) ∙ high_onto k 0 n 0
