-- Halves of a byte, and the bits of a pair, as numbers.
use Rattle.std.proofs.Common.{◌≡◌, ℕ, ◌+◌, ◌*◌, ◌/◌, ◌%◌, ◌^◌, ◌<◌, Bool, List, ◌++◌, length, get_or, take, drop, sym, ap, ◌∙◌, arith}
use Rattle.bits.specs.Bits.{bits, low_first}
use Rattle.bits.proofs.Words.{chunk, low_append, low_more, num, num_at}

-- the low_first and the high half of a byte, as bits
pub half_low : (P : List ℕ) (at : ℕ) → at < length P → take 4 (drop (8 * at) (bits P)) ≡ low_first 4 (get_or P at 0)
half_low P at h =
    let z : 8 * at ≡ 8 * at + 0 = omega arith in
    let e : num (drop at P) / 1 ≡ get_or P at 0 % 16 + 2 ^ 4 * (get_or P at 0 % 256 / 16 + 16 * num (drop (at + 1) P)) = omega (arith, num_at P at h) in
    let f : get_or P at 0 ≡ get_or P at 0 % 16 + 2 ^ 4 * (get_or P at 0 / 16) = omega arith in
    ap (λ (m : ℕ). take 4 (drop m (bits P))) z ∙ chunk P at 0 4 (omega arith)
    ∙ ap (λ (x : ℕ). low_first 4 x) e ∙ low_more 4 (get_or P at 0 % 16) (get_or P at 0 % 256 / 16 + 16 * num (drop (at + 1) P))
    ∙ sym (ap (λ (x : ℕ). low_first 4 x) f ∙ low_more 4 (get_or P at 0 % 16) (get_or P at 0 / 16))

pub half_high : (P : List ℕ) (at : ℕ) → at < length P → get_or P at 0 < 256 → take 4 (drop (8 * at + 4) (bits P)) ≡ low_first 4 (get_or P at 0 / 16)
half_high P at h t =
    let e : num (drop at P) / 16 ≡ get_or P at 0 / 16 + 2 ^ 4 * num (drop (at + 1) P) = omega (arith, num_at P at h) in
    chunk P at 4 4 (omega arith) ∙ ap (λ (x : ℕ). low_first 4 x) e ∙ low_more 4 (get_or P at 0 / 16) (num (drop (at + 1) P))

-- two blocks as one number
pub pair_join : (s v t w : ℕ) → s < 4 → v < 2 ^ 64 → t < 4 →
    (low_first 2 s ++ low_first 64 v) ++ (low_first 2 t ++ low_first 64 w) ≡ low_first 132 (s + 4 * v + 2 ^ 66 * (t + 4 * w))
pair_join s v t w a b c =
    let k : s + 4 * v < 2 ^ 66 = omega arith in
    ap (λ (l : List Bool). l ++ (low_first 2 t ++ low_first 64 w)) (low_append 2 64 s v a)
    ∙ ap (λ (l : List Bool). low_first 66 (s + 4 * v) ++ l) (low_append 2 64 t w c)
    ∙ low_append 66 66 (s + 4 * v) (t + 4 * w) k
