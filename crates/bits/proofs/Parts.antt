-- Whole bytes among bits: joined, left out, taken, and overwritten.
use Rattle.std.proofs.Common.{◌≡◌, ℕ, zero, suc, ◌+◌, ◌-◌, ◌*◌, ◌≤◌, Bool, List, [], ◌∷◌, ◌++◌, length, take, drop, sym, refl, ap, ◌∙◌, append_assoc, arith, length-drop}
use Rattle.std.proofs.lemmas.List.{length-take-le, take-append-drop}
use Rattle.bits.specs.Bits.{low_first, bits}
use Rattle.bits.specs.Splices.{splice}
use Rattle.bits.proofs.Places.{length_bits}
use Rattle.bits.proofs.Splices.{splice_at}

pub bits_append : (us vs : List ℕ) → bits (us ++ vs) ≡ bits us ++ bits vs
unfolding bits
bits_append [] vs = refl
bits_append (u ∷ us) vs = ap (λ (l : List Bool). low_first 8 u ++ l) (bits_append us vs) ∙ sym (append_assoc (low_first 8 u) (bits us) (bits vs))

bits_three : (xs ys zs : List ℕ) → bits (xs ++ (ys ++ zs)) ≡ bits xs ++ (bits ys ++ bits zs)
bits_three xs ys zs = bits_append xs (ys ++ zs) ∙ ap (λ (l : List Bool). bits xs ++ l) (bits_append ys zs)

pub drop_bits : (m : ℕ) (vs : List ℕ) → drop (8 * m) (bits vs) ≡ bits (drop m vs)
unfolding bits low_first
drop_bits zero vs = refl
drop_bits (suc m) [] = ap (λ (k : ℕ). drop {A = Bool} k []) (let e : 8 * suc m ≡ suc (8 * m + 7) = omega arith in e)
drop_bits (suc m) (v ∷ vs) = ap (λ (k : ℕ). drop k (bits (v ∷ vs))) (let e : 8 * suc m ≡ suc (suc (suc (suc (suc (suc (suc (suc (8 * m)))))))) = omega arith in e) ∙ drop_bits m vs

pub take_bits : (m : ℕ) (vs : List ℕ) → take (8 * m) (bits vs) ≡ bits (take m vs)
unfolding bits low_first
take_bits zero vs = refl
take_bits (suc m) [] = ap (λ (k : ℕ). take {A = Bool} k []) (let e : 8 * suc m ≡ suc (8 * m + 7) = omega arith in e)
take_bits (suc m) (v ∷ vs) =
    ap (λ (k : ℕ). take k (bits (v ∷ vs))) (let e : 8 * suc m ≡ suc (suc (suc (suc (suc (suc (suc (suc (8 * m)))))))) = omega arith in e)
    ∙ ap (λ (l : List Bool). low_first 8 v ++ l) (take_bits m vs)

-- bytes put in the place of as many
pub splice_bytes : (P new : List ℕ) (at : ℕ) → at + length new ≤ length P →
    bits (take at P ++ (new ++ drop (length new) (drop at P))) ≡ splice (8 * at) (bits new) (bits P)
splice_bytes P new at h =
    let p : length (take at P) ≡ at = length-take-le at P (omega arith) in
    let a : length (bits (take at P)) ≡ 8 * at = length_bits (take at P) ∙ ap (λ (n : ℕ). 8 * n) p in
    let m : length (take (length new) (drop at P)) ≡ length new =
    let g : length (drop at P) ≡ length P - at = length-drop at P in length-take-le (length new) (drop at P) (omega arith) in
    let b : length (bits (take (length new) (drop at P))) ≡ length (bits new) =
    length_bits (take (length new) (drop at P)) ∙ ap (λ (n : ℕ). 8 * n) m ∙ sym (length_bits new) in
    let w : P ≡ take at P ++ (take (length new) (drop at P) ++ drop (length new) (drop at P)) =
    sym (ap (λ (l : List ℕ). take at P ++ l) (take-append-drop (length new) (drop at P)) ∙ take-append-drop at P) in
    bits_three (take at P) new (drop (length new) (drop at P))
    ∙ sym (splice_at (8 * at) (bits (take at P)) (bits (take (length new) (drop at P))) (bits (drop (length new) (drop at P))) (bits new) a b)
    ∙ sym (ap (λ (l : List Bool). splice (8 * at) (bits new) l) (ap bits w ∙ bits_three (take at P) (take (length new) (drop at P)) (drop (length new) (drop at P))))

-- bytes from among others
pub bits_taken : (P : List ℕ) (at n : ℕ) → bits (take n (drop at P)) ≡ take (8 * n) (drop (8 * at) (bits P))
bits_taken P at n = sym (take_bits n (drop at P)) ∙ ap (λ (l : List Bool). take (8 * n) l) (sym (drop_bits at P))
