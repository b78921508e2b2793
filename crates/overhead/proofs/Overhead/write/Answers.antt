use Rattle.std.proofs.Common.{◌≡◌, ℕ, ◌^◌, ◌<◌, ◌≤◌, List, [], ◌∷◌, get_or, refl, ap, ◌∙◌, subst, ap₂, arith}
use Rattle.bits.specs.Bits.{bits, field}
use Rattle.crc.specs.Remainder.{remainder}
use Rattle.overhead.specs.Format.{Fields, fields_of, covered_bits, overhead_bits, remainder_of}
use Rattle.overhead.proofs.Writing.{Turned, entry_small, turned_from, covered, written, bytes_written}
use Rattle.overhead.proofs.Reading.{reads_back, changes_seen}
use Rattle.overhead.proofs.Overhead.write.Goals as goal

pub returns : goal.returns
returns c =
    let f : Fields = fields_of c.args.self in
    let bs : List ℕ = c.to_le_bytes.result in
    let w : ℕ = c.reverse_bits.result in
    let r : ℕ = c.remainder-remainder.result in
    let x : ℕ = c.reverse_bits-2.result in
    let high : c.entry-client.result ≤ 480 = entry_small c.args.self.announced c.entry-client.result c.entry-client.ensures.value c.entry-client.ensures.range in
    let t : Turned f w (get_or bs 0 0) (get_or bs 1 0) (get_or bs 2 0) (get_or bs 3 0)
    = turned_from f c.entry-client.result c.number.result w bs c.entry-client.ensures.value c.number.ensures.value high (omega (arith, c.number.ensures.value, c.number.ensures.range))
    c.reverse_bits.ensures c.reverse_bits.type_inv c.to_le_bytes.ensures in
    let rest : r ≡ remainder_of (covered_bits f)
    = c.remainder-remainder.ensures.value
    ∙ ap₂ (λ (d G : ℕ). remainder d G (field (get_or bs 0 0 ∷ get_or bs 1 0 ∷ get_or bs 2 0 ∷ get_or bs 3 0 ∷ 0 ∷ 0 ∷ 0 ∷ []) 10 49))
    c.degree_seven.ensures.degree c.degree_seven.ensures.terms
    ∙ ap remainder_of (covered f w (get_or bs 0 0) (get_or bs 1 0) (get_or bs 2 0) (get_or bs 3 0) t) in
    let below : r < 128 = subst (λ (d : ℕ). r < 2 ^ d) c.degree_seven.ensures.degree c.remainder-remainder.ensures.below in
    let e : bits (get_or bs 0 0 ∷ get_or bs 1 0 ∷ get_or bs 2 0 ∷ get_or bs 3 0 ∷ 0 ∷ 0 ∷ x ∷ []) ≡ overhead_bits f
    = written f w (get_or bs 0 0) (get_or bs 1 0) (get_or bs 2 0) (get_or bs 3 0) t r x rest below c.reverse_bits-2.ensures in
    let all : List ℕ = get_or bs 0 0 ∷ get_or bs 1 0 ∷ get_or bs 2 0 ∷ get_or bs 3 0 ∷ 0 ∷ 0 ∷ x ∷ [] in
    record {
      bits = e;
      bytes = bytes_written f w (get_or bs 0 0) (get_or bs 1 0) (get_or bs 2 0) (get_or bs 3 0) t x c.reverse_bits-2.type_inv e;
      back = reads_back f all (omega (arith, c.entry-client.ensures.value, high)) c.number.ensures.range e;
      seen = changes_seen f all refl e;
      range = (c.entry-client.ensures.range, c.number.ensures.range);
    }
