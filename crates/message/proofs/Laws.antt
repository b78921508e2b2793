-- The laws of what is written.
use Rattle.std.proofs.Common.{◌≡◌, ℕ, ◌+◌, ◌-◌, ◌*◌, ◌≤◌, Bool, true, List, ◌++◌, length, take, refl, ap, ◌∙◌, ap₂, arith}
use Rattle.std.proofs.lemmas.List.{length-append, length-take-le, take_at}
use Rattle.bits.specs.Bits.{bits, field, high_first, packed_bytes}
use Rattle.bits.proofs.Packing.{length_packed}
use Rattle.crc.proofs.Laws.{appended}
use Rattle.bits.proofs.Places.{length_bits}
use Rattle.message.specs.declared.Kind.{Kind}
use Rattle.message.specs.Kinds.{block_count_of}
use Rattle.message.specs.Values.{covered_value_bits, crc12, filled_values, lawful}
use Rattle.message.specs.Written.{MessageLaws, message_block_at, message_blocks}
use Rattle.message.proofs.Pairs.{length_paired}
use Rattle.message.proofs.Writes.{lawful_length, some_blocks}
use Rattle.message.proofs.Tails.{filled_bits}
use Rattle.message.proofs.ReadBacks.{read_back, blocks_read_back, eleven}

pub filled_length : (vs : List ℕ) → 2 ≤ length vs → length (filled_values vs) ≡ length vs
unfolding filled_values
filled_length vs h =
    let n : ℕ = length vs in
    let tail : List ℕ = packed_bytes 2 (field vs (8 * n - 16) (8 * n - 12) ++ high_first 12 (crc12 (covered_value_bits vs))) in
    length-append (take (n - 2) vs) tail
    ∙ ap₂ (λ (a b : ℕ). a + b) (length-take-le (n - 2) vs (omega arith)) (length_packed 2 (field vs (8 * n - 16) (8 * n - 12) ++ high_first 12 (crc12 (covered_value_bits vs))))
    ∙ (let e : n - 2 + 2 ≡ n = omega arith in e)

pub filled_leaves : (vs : List ℕ) → 2 ≤ length vs → crc12 (bits (filled_values vs)) ≡ 0
filled_leaves vs h = ap crc12 (filled_bits vs h) ∙ appended 12 0x180F (covered_value_bits vs) refl

covered_length : (vs : List ℕ) → length (covered_value_bits vs) ≡ 8 * length vs - 12 - 0
covered_length vs = length-take-le (8 * length vs - 12 - 0) (bits vs) (omega (arith, length_bits vs))

pub filled_covered : (vs : List ℕ) → 2 ≤ length vs → covered_value_bits (filled_values vs) ≡ covered_value_bits vs
filled_covered vs h =
    ap₂ (λ (m : ℕ) (bs : List Bool). take m bs)
    (ap (λ (n : ℕ). 8 * n - 12 - 0) (filled_length vs h))
    (filled_bits vs h)
    ∙ take_at (covered_value_bits vs) (high_first 12 (crc12 (covered_value_bits vs))) (8 * length vs - 12 - 0) (covered_length vs)

block_count : (k : Kind) (vs : List ℕ) → lawful k vs ≡ true → length (message_blocks k (filled_values vs)) ≡ block_count_of k
block_count k vs h =
    let long : length vs ≡ 2 * block_count_of k = lawful_length k vs h in
    length_paired (message_block_at k) (block_count_of k) 0 (filled_values vs) (filled_length vs (omega (arith, some_blocks k)) ∙ long)

pub laws : MessageLaws
laws = record {
  block_back = read_back;
  message_back = blocks_read_back;
  block_count = block_count;
  same_length = filled_length;
  same_covered_bits = filled_covered;
  zero_remainder = filled_leaves;
  eleven = eleven;
}
