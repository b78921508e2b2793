-- A message with one more block.
use Rattle.std.proofs.Common.{◌≡◌, ℕ, suc, ◌+◌, ◌-◌, ◌*◌, ◌<◌, Bool, cond, eqb, List, [], ◌∷◌, ◌++◌, length, replicate, take, set, sym, ap, ◌∙◌, ap₂, append_assoc, arith, length-append}
use Rattle.std.proofs.lemmas.List.{set_at, take_at}
use Rattle.std.proofs.lemmas.Bool.Decides.{nat_tests}
use Rattle.std.proofs.lemmas.Bool.{eq-eqb, ne_eqb}
use Rattle.bits.specs.Bits.{bits, field}
use Rattle.crc.specs.Remainder.{remainder}
use Rattle.message.specs.Values.{crc12}
use Rattle.bits.proofs.Parts.{take_bits}
use Rattle.collector.specs.Content.{MessageContent, zero_padded}
use Rattle.collector.proofs.Sizes.{few_blocks}
use Rattle.collector.specs.declared.assembly.Outcome.TheVariants.{Corrupt, Whole}
use Rattle.collector.specs.Outcomes.{tested_outcome}

-- the values in memory after one more block
put : (b x y : ℕ) (vs : List ℕ) → b < 17 → vs ≡ zero_padded (take (2 * b) vs) → length (take (2 * b) vs) ≡ 2 * b
    → set (set vs (2 * b) x) (2 * b + 1) y ≡ zero_padded (take (2 * b) vs ++ x ∷ y ∷ [])
put b x y vs h e long =
    let front : List ℕ = take (2 * b) vs in
    let m : ℕ = 32 - 2 * b in
    let rest : List ℕ = replicate m 0 in
    let room : 34 - length front ≡ suc (suc m) = omega arith in
    let all : length (front ++ x ∷ y ∷ []) ≡ 2 * b + 2 = length-append front (x ∷ y ∷ []) ∙ ap (λ (n : ℕ). n + 2) long in
    let one : length (front ++ x ∷ []) ≡ 2 * b + 1 = length-append front (x ∷ []) ∙ ap (λ (n : ℕ). n + 1) long in
    let behind : m ≡ 34 - length (front ++ x ∷ y ∷ []) = omega arith in
    ap (λ (l : List ℕ). set (set l (2 * b) x) (2 * b + 1) y) (e ∙ ap (λ (n : ℕ). front ++ replicate n 0) room)
    ∙ ap (λ (l : List ℕ). set l (2 * b + 1) y)
    (set_at front 0 (0 ∷ rest) x (2 * b) long ∙ sym (append_assoc front (x ∷ []) (0 ∷ rest)))
    ∙ set_at (front ++ x ∷ []) 0 rest y (2 * b + 1) one
    ∙ append_assoc front (x ∷ []) (y ∷ rest)
    ∙ sym (append_assoc front (x ∷ y ∷ []) rest)
    ∙ ap (λ (n : ℕ). (front ++ x ∷ y ∷ []) ++ replicate n 0) behind

-- of these bytes, those that have come
pub taken : (b n x y : ℕ) (vs : List ℕ) → b < 17 → vs ≡ zero_padded (take (2 * b) vs) → length (take (2 * b) vs) ≡ 2 * b → n ≡ b + 1
    → take (2 * n) (set (set vs (2 * b) x) (2 * b + 1) y) ≡ take (2 * b) vs ++ x ∷ y ∷ []
taken b n x y vs h e long f =
    let front : List ℕ = take (2 * b) vs in
    let all : length (front ++ x ∷ y ∷ []) ≡ 2 * n
    = length-append front (x ∷ y ∷ []) ∙ ap (λ (n : ℕ). n + 2) long ∙ (let z : 2 * b + 2 ≡ 2 * n = omega arith in z) in
    ap (take (2 * n)) (put b x y vs h e long)
    ∙ take_at (front ++ x ∷ y ∷ []) (replicate (34 - length (front ++ x ∷ y ∷ [])) 0) (2 * n) all

pub length_taken : (b n x y : ℕ) (vs : List ℕ) → b < 17 → vs ≡ zero_padded (take (2 * b) vs) → length (take (2 * b) vs) ≡ 2 * b → n ≡ b + 1
    → length (take (2 * n) (set (set vs (2 * b) x) (2 * b + 1) y)) ≡ 2 * n
length_taken b n x y vs h e long f =
    ap length (taken b n x y vs h e long f)
    ∙ length-append (take (2 * b) vs) (x ∷ y ∷ [])
    ∙ ap (λ (m : ℕ). m + 2) long
    ∙ (let z : 2 * b + 2 ≡ 2 * n = omega arith in z)

-- zeros stand behind them again
pub still_padded : (b n x y : ℕ) (vs : List ℕ) → b < 17 → vs ≡ zero_padded (take (2 * b) vs) → length (take (2 * b) vs) ≡ 2 * b → n ≡ b + 1
    → set (set vs (2 * b) x) (2 * b + 1) y ≡ zero_padded (take (2 * n) (set (set vs (2 * b) x) (2 * b + 1) y))
still_padded b n x y vs h e long f = put b x y vs h e long ∙ sym (ap zero_padded (taken b n x y vs h e long f))

pub last_test : (us : List ℕ) (b n x y : ℕ) → length us ≡ 2 * b → eqb (length (us ++ x ∷ y ∷ [])) (2 * n) ≡ eqb (b + 1) n
last_test us b n x y h = ap (λ (m : ℕ). eqb m (2 * n)) (length-append us (x ∷ y ∷ [])) ∙ go (length us + 2) (b + 1) (omega arith)
  where
    go : (m k : ℕ) → m ≡ 2 * k → eqb m (2 * n) ≡ eqb k n
    go m k e = grind (arith, nat_tests)

-- what the remainder is of
field_all : (vs : List ℕ) (n : ℕ) → field vs 0 (16 * n) ≡ bits (take (2 * n) vs)
field_all vs n = ap (λ (m : ℕ). take m (bits vs)) (let e : 16 * n - 0 ≡ 8 * (2 * n) = omega arith in e) ∙ take_bits (2 * n) vs

pub remainder_is : (vs : List ℕ) (r n d t : ℕ) → r ≡ remainder d t (field vs 0 (16 * n)) → d ≡ 12 → t ≡ 0x180F
    → r ≡ crc12 (bits (take (2 * n) vs))
remainder_is vs r n d t e f g = e ∙ ap₂ (λ (w G : ℕ). remainder w G (field vs 0 (16 * n))) f g ∙ ap crc12 (field_all vs n)

pub is_whole : (u : MessageContent) (r : ℕ) → r ≡ crc12 (bits u.values) → r ≡ 0 → Whole u ≡ tested_outcome u
is_whole u r e z = sym (ap (λ (t : Bool). cond t (Whole u) Corrupt) (eq-eqb (crc12 (bits u.values)) 0 (sym e ∙ z)))

pub is_wrong : (u : MessageContent) (r : ℕ) → r ≡ crc12 (bits u.values) → (r ≡ 0 → ⊥) → Corrupt ≡ tested_outcome u
is_wrong u r e z = sym (ap (λ (t : Bool). cond t (Whole u) Corrupt) (ne_eqb (crc12 (bits u.values)) 0 (λ f. z (e ∙ f))))

pub ruleset extending = (still_padded, length_taken, few_blocks)
