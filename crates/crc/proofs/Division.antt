-- The remainder of a division of polynomials is one alone; and the laws together.
use Rattle.std.proofs.Common.{◌≡◌, ℕ, zero, suc, ◌+◌, ◌*◌, ◌/◌, ◌%◌, ◌^◌, ◌<◌, ◌≤◌, Bool, true, false, List, [], ◌∷◌, length, sym, refl, ap, ◌∙◌, subst, ap₂, le_trans, div-lt_iff_lt-mul, one-mul, div-add-mod', arith, pow_pos, pow_mono, pow-add, shl_lt}
use Rattle.std.proofs.Math.Nat.{div-eq_of_lt, mul-div-mul_right}
use Rattle.std.specs.Int.Bits.{bit_xor, xor_assoc, xor_self}
use Rattle.std.proofs.lemmas.Nat.{xor_comm, xor_shr, xor_lt}
use Rattle.crc.specs.Remainder.{scale}
use Rattle.crc.specs.Laws.{times, IsDivision, xors, weight, DivisionLaws}
use Rattle.crc.proofs.Laws.{xor4, xor_over, scale_xor, onto_xor, leading, appended, only_appended, divides}

pub length_xors : (s t : List Bool) → length s ≡ length t → length (xors s t) ≡ length s
length_xors [] t h = refl
length_xors (a ∷ s) [] h = absurd (omega arith)
length_xors (a ∷ s) (b ∷ t) h = ap suc (length_xors s t (omega arith))

times_xor : (p q : List Bool) (G : ℕ) → length p ≡ length q → times (xors p q) G ≡ bit_xor (times p G) (times q G)
times_xor [] [] G h = refl
times_xor [] (b ∷ q) G h = absurd (omega arith)
times_xor (a ∷ p) [] G h = absurd (omega arith)
times_xor (a ∷ p) (b ∷ q) G h =
    let l : length p ≡ length q = omega arith in
    ap₂ bit_xor
    (scale_xor a b (G * 2 ^ length (xors p q))
    ∙ ap₂ (λ (m n : ℕ). bit_xor (scale a (G * 2 ^ m)) (scale b (G * 2 ^ n))) (length_xors p q l) (length_xors p q l ∙ l))
    (times_xor p q G l)
    ∙ xor4 (scale a (G * 2 ^ length p)) (scale b (G * 2 ^ length q)) (times p G) (times q G)

times_lt : (w G : ℕ) (p : List Bool) → G < 2 ^ (w + 1) → times p G < 2 ^ (w + length p)
times_lt w G [] h = pow_pos (w + 0)
times_lt w G (a ∷ p) h =
    xor_lt (w + suc (length p)) (scale a (G * 2 ^ length p)) (times p G) (go a)
    (le_trans (times_lt w G p h) (pow_mono (omega arith)))
  where
    go : (a : Bool) → scale a (G * 2 ^ length p) < 2 ^ (w + suc (length p))
    go true = subst (λ (x : ℕ). G * 2 ^ length p < 2 ^ x) (let e : w + 1 + length p ≡ w + suc (length p) = omega arith in e) (shl_lt (w + 1) (length p) h)
    go false = pow_pos (w + suc (length p))

degree_lt : (w G : ℕ) → G / 2 ^ w ≡ 1 → G < 2 ^ (w + 1)
degree_lt w G g =
    let h : G < 2 * 2 ^ w = (div-lt_iff_lt-mul (pow_pos w)).0 (let lt : G / 2 ^ w < 2 = omega arith in lt) in
    omega (arith, pow-add 2 w 1)

one_le : (x m : ℕ) → x / m ≡ 1 → m ≤ x
one_le x m e = omega (arith, ap (λ (k : ℕ). k * m + x % m) (sym e) ∙ div-add-mod' x m, one-mul m)

big : (w G : ℕ) (p : List Bool) → G / 2 ^ w ≡ 1 → 0 < weight p → 2 ^ w ≤ times p G
big w G [] g h = absurd (omega arith)
big w G (false ∷ p) g h = big w G p g h
big w G (true ∷ p) g h =
    le_trans (pow_mono {i = w} {j = w + length p} (omega arith))
    (one_le (times (true ∷ p) G) (2 ^ (w + length p))
    (xor_shr (G * 2 ^ length p) (times p G) (w + length p)
    ∙ ap₂ bit_xor
    (ap (λ (x : ℕ). G * 2 ^ length p / x) (pow-add 2 w (length p)) ∙ mul-div-mul_right G (2 ^ w) (pow_pos (length p)) ∙ g)
    (div-eq_of_lt (times_lt w G p (degree_lt w G g)))))

none : (p : List Bool) (G : ℕ) → weight p ≡ 0 → times p G ≡ 0
none [] G h = refl
none (true ∷ p) G h = absurd (omega arith)
none (false ∷ p) G h = none p G h

pub unique : (w G : ℕ) (bs : List Bool) (r s : ℕ) → G / 2 ^ w ≡ 1 → IsDivision w G bs r → IsDivision w G bs s → r ≡ s
unique w G bs r s g a b =
    let p : List Bool = a.0 in
    let q : List Bool = b.0 in
    let l : length p ≡ length q = a.1 ∙ sym b.1 in
    let e : bit_xor (times p G) r ≡ bit_xor (times q G) s = sym a.3 ∙ b.3 in
    let d : times (xors p q) G ≡ bit_xor r s
    = times_xor p q G l
    ∙ ap (λ (x : ℕ). bit_xor x (times q G)) (xor_over (times p G) r (bit_xor (times q G) s) e)
    ∙ ap (λ (x : ℕ). bit_xor x (times q G)) (xor_assoc (times q G) s r)
    ∙ xor_comm (bit_xor (times q G) (bit_xor s r)) (times q G)
    ∙ sym (xor_assoc (times q G) (times q G) (bit_xor s r))
    ∙ ap (λ (x : ℕ). bit_xor x (bit_xor s r)) (xor_self (times q G))
    ∙ xor_comm s r in
    let small : bit_xor r s < 2 ^ w = xor_lt w r s a.2 b.2 in
    same (weight (xors p q)) refl d small
  where
    same : (n : ℕ) → weight (xors a.0 b.0) ≡ n → times (xors a.0 b.0) G ≡ bit_xor r s → bit_xor r s < 2 ^ w → r ≡ s
    same zero h d k = xor_over r s 0 (sym d ∙ none (xors a.0 b.0) G h)
    same (suc n) h d k = absurd (omega (arith, big w G (xors a.0 b.0) g (omega arith)))

pub laws : (w G : ℕ) → G / 2 ^ w ≡ 1 → DivisionLaws w G
laws w G g =
    record {
      divides = λ bs. divides w G bs g;
      unique = λ bs r s. unique w G bs r s g;
      linear = λ bs cs h. onto_xor w G bs cs 0 0 h;
      leading = leading w G;
      appended = λ bs. appended w G bs g;
      only = λ bs cs. only_appended w G bs cs;
    }
