-- The bits of the bytes that are written.
use Rattle.std.proofs.Common.{◌≡◌, ℕ, zero, suc, ◌+◌, ◌*◌, ◌/◌, ◌%◌, ◌^◌, ◌<◌, ◌≤◌, Bool, true, false, List, [], ◌∷◌, ◌++◌, Some, None, Option, get_or, take, drop, replicate, sym, ap, ◌∙◌, ap₂, mod-eq_of_lt, div-add-mod', arith, lit<, shr-shr}
use Rattle.std.specs.Int.Bits.{bit_or}
use Rattle.std.specs.Int.{reverse_bits_onto}
use Rattle.std.proofs.lemmas.Nat.{or_shifted}
use Rattle.bits.specs.Bits.{odd, low_first, high_first, bits, field, packed_bytes}
use Rattle.bits.proofs.Places.{numbered}
use Rattle.bits.proofs.Digits.{low_reversed}
use Rattle.std.proofs.lemmas.Bool.Decides.{nat_tests}
use Rattle.numbers.specs.Entries.{entry_of, is_entry}
use Rattle.overhead.specs.Format.{Fields, covered_bits, overhead_bits, overhead_bytes, remainder_of}
use Rattle.overhead.proofs.Words.{word_of, bits_seven, numbers_written}

-- what the code has before the remainder: the numbers turned round, and their word in four bytes
pub record Turned (f : Fields) (w b0 b1 b2 b3 : ℕ) : Type 0 where
  pub entry : f.entry < 1024
  pub frame : f.frame < 512
  pub small : w < 2 ^ 32
  pub turned : w ≡ reverse_bits_onto 32 (f.entry * 512 + f.frame) 0
  pub bytes : (b0 < 256) × (b1 < 256) × (b2 < 256) × (b3 < 256)
  pub word : word_of b0 b1 b2 b3 ≡ w / 8

module _ (f : Fields) (w b0 b1 b2 b3 : ℕ) (t : Turned f w b0 b1 b2 b3) where
  front : (x : ℕ)
      → bits (b0 ∷ b1 ∷ b2 ∷ b3 ∷ 0 ∷ 0 ∷ x ∷ []) ≡ replicate 10 false ++ (high_first 10 f.entry ++ (high_first 9 f.frame ++ (replicate 19 false ++ low_first 8 x)))
  unfolding high_first low_first
  front x =
      bits_seven b0 b1 b2 b3 0 0 x t.bytes.0 t.bytes.1 t.bytes.2 t.bytes.3
      ∙ ap (λ (l : List Bool). l ++ (low_first 8 0 ++ (low_first 8 0 ++ low_first 8 x)))
      (ap (low_first 32) t.word ∙ numbers_written f.entry f.frame w t.entry t.frame t.small t.turned)

  -- with the last byte still 0 the field that the remainder covers is there
  pub covered : field (b0 ∷ b1 ∷ b2 ∷ b3 ∷ 0 ∷ 0 ∷ 0 ∷ []) 10 49 ≡ covered_bits f
  unfolding high_first low_first covered_bits
  covered = ap (λ (l : List Bool). take 39 (drop 10 l)) (front 0)

  -- and the remainder turned round is the last byte
  pub written : (r x : ℕ) → r ≡ remainder_of (covered_bits f) → r < 128 → x ≡ reverse_bits_onto 8 r 0
      → bits (b0 ∷ b1 ∷ b2 ∷ b3 ∷ 0 ∷ 0 ∷ x ∷ []) ≡ overhead_bits f
  unfolding high_first covered_bits overhead_bits
  written r x e h v =
      front x
      ∙ ap (λ (l : List Bool). replicate 10 false ++ (high_first 10 f.entry ++ (high_first 9 f.frame ++ (replicate 19 false ++ l)))) last
    where
      last : low_first 8 x ≡ false ∷ high_first 7 (remainder_of (covered_bits f))
      last =
          ap (low_first 8) v ∙ low_reversed 8 r
          ∙ ap₂ (λ (b : Bool) (l : List Bool). b ∷ l)
          (ap odd (let z : r / 128 ≡ 0 = omega arith in z))
          (ap (high_first 7) e)

  -- so these are the bytes that are sent as these bits
  pub bytes_written : (x : ℕ) → x < 256 → bits (b0 ∷ b1 ∷ b2 ∷ b3 ∷ 0 ∷ 0 ∷ x ∷ []) ≡ overhead_bits f
      → ◌≡◌ {A = List ℕ} (b0 ∷ b1 ∷ b2 ∷ b3 ∷ 0 ∷ 0 ∷ x ∷ []) (overhead_bytes f)
  unfolding overhead_bytes
  bytes_written x h e = sym (numbered.packs (b0 ∷ b1 ∷ b2 ∷ b3 ∷ 0 ∷ 0 ∷ x ∷ []) fits) ∙ ap (packed_bytes 7) e
    where
      fits : (i : ℕ) → i < 7 → get_or (b0 ∷ b1 ∷ b2 ∷ b3 ∷ 0 ∷ 0 ∷ x ∷ []) i 0 < 256
      fits zero l = t.bytes.0
      fits (suc zero) l = t.bytes.1
      fits (suc (suc zero)) l = t.bytes.2
      fits (suc (suc (suc zero))) l = t.bytes.3
      fits (suc (suc (suc (suc zero)))) l = lit< tt
      fits (suc (suc (suc (suc (suc zero))))) l = lit< tt
      fits (suc (suc (suc (suc (suc (suc zero)))))) l = h
      fits (suc (suc (suc (suc (suc (suc (suc i))))))) l = absurd (omega arith)

-- a number is written by its bytes
word_bytes : (v : ℕ) → v < 4294967296 → word_of (v % 256) (v / 256 % 256) (v / 65536 % 256) (v / 16777216 % 256) ≡ v
word_bytes v h =
    let e1 : v / 256 * 256 + v % 256 ≡ v = div-add-mod' v 256 in
    let e2 : v / 65536 * 256 + v / 256 % 256 ≡ v / 256 = ap (λ (x : ℕ). x * 256 + v / 256 % 256) (sym (shr-shr v 8 8)) ∙ div-add-mod' (v / 256) 256 in
    let e3 : v / 16777216 * 256 + v / 65536 % 256 ≡ v / 65536 = ap (λ (x : ℕ). x * 256 + v / 65536 % 256) (sym (shr-shr v 16 8)) ∙ div-add-mod' (v / 65536) 256 in
    let e4 : v / 16777216 % 256 ≡ v / 16777216 = mod-eq_of_lt (omega arith) in
    join v (v / 256) (v / 65536) (v / 16777216) (v % 256) (v / 256 % 256) (v / 65536 % 256) (v / 16777216 % 256) e1 e2 e3 e4
  where
    join : (v q1 q2 q3 b0 b1 b2 b3 : ℕ) → q1 * 256 + b0 ≡ v → q2 * 256 + b1 ≡ q1 → q3 * 256 + b2 ≡ q2 → b3 ≡ q3 → word_of b0 b1 b2 b3 ≡ v
    join v q1 q2 q3 b0 b1 b2 b3 e1 e2 e3 e4 = omega arith

-- an announced entry is at most the last client's number
pub entry_small : (o : Option ℕ) (n : ℕ) → n ≡ entry_of o → is_entry o ≡ true → n ≤ 480
entry_small (Some k) n e h = grind (arith, nat_tests)
entry_small None n e h = omega arith

-- from the values that the code computes
pub turned_from : (f : Fields) (client frame w : ℕ) (bs : List ℕ)
    → client ≡ f.entry → frame ≡ f.frame → client ≤ 480 → frame < 480
    → w ≡ reverse_bits_onto 32 (bit_or (client * 512 % 4294967296) frame) 0 → w < 2 ^ 32
    → bs ≡ (w / 8 % 256) ∷ (w / 8 / 256 % 256) ∷ (w / 8 / 65536 % 256) ∷ (w / 8 / 16777216 % 256) ∷ []
    → Turned f w (get_or bs 0 0) (get_or bs 1 0) (get_or bs 2 0) (get_or bs 3 0)
turned_from f client frame w bs ec ef hc hf ew hw eb =
    let b0 : get_or bs 0 0 ≡ w / 8 % 256 = ap (λ (l : List ℕ). get_or l 0 0) eb in
    let b1 : get_or bs 1 0 ≡ w / 8 / 256 % 256 = ap (λ (l : List ℕ). get_or l 1 0) eb in
    let b2 : get_or bs 2 0 ≡ w / 8 / 65536 % 256 = ap (λ (l : List ℕ). get_or l 2 0) eb in
    let b3 : get_or bs 3 0 ≡ w / 8 / 16777216 % 256 = ap (λ (l : List ℕ). get_or l 3 0) eb in
    let shl : client * 512 % 4294967296 ≡ client * 512 = mod-eq_of_lt (omega arith) in
    let sum : bit_or (client * 512 % 4294967296) frame ≡ f.entry * 512 + f.frame
    = ap (λ (x : ℕ). bit_or x frame) shl ∙ or_shifted client 9 frame (omega arith) ∙ ap₂ (λ (x y : ℕ). x * 512 + y) ec ef in
    record {
      entry = omega arith;
      frame = omega arith;
      small = hw;
      turned = ew ∙ ap (λ (n : ℕ). reverse_bits_onto 32 n 0) sum;
      bytes = (omega arith, omega arith, omega arith, omega arith);
      word =
          ap₂ (λ (x y : ℕ). x + y * 256 + get_or bs 2 0 * 65536 + get_or bs 3 0 * 16777216) b0 b1
          ∙ ap₂ (λ (x y : ℕ). w / 8 % 256 + w / 8 / 256 % 256 * 256 + x * 65536 + y * 16777216) b2 b3
          ∙ word_bytes (w / 8) (omega arith);
    }
