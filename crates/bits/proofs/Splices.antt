-- What overwriting a part of a list leaves, within the part and beside it.
use Rattle.std.proofs.Common.{◌≡◌, ℕ, ◌+◌, ◌-◌, ◌≤◌, List, [], ◌++◌, length, take, drop, sym, refl, ap, ◌∙◌, add-zero, append_assoc, arith, length-append, length-drop}
use Rattle.std.proofs.lemmas.List.{drop_at, drop-drop, drop-append-le, drop-take, length-take-le, take-append-drop, take-append-le, take_at, take-take}
use Rattle.bits.specs.Splices.{splice}

pub length_splice : {A : Type 0} (s : ℕ) (new old : List A) → s + length new ≤ length old → length (splice s new old) ≡ length old
length_splice s new old room =
    let front = length-take-le s old (omega arith) in
    simp (length-append, length-drop) (omega arith)

-- nothing put in place of nothing
pub splice_none : {A : Type 0} (s : ℕ) (old : List A) → splice s [] old ≡ old
splice_none s old = rw add-zero (take-append-drop s old)

-- entries in the middle
pub splice_at : {A : Type 0} (s : ℕ) (pre x post new : List A) → length pre ≡ s → length x ≡ length new →
    splice s new (pre ++ (x ++ post)) ≡ pre ++ (new ++ post)
splice_at {A} s pre x post new e f =
    let d : drop (s + length new) (pre ++ (x ++ post)) ≡ post =
    sym (drop-drop (length new) s (pre ++ (x ++ post)))
    ∙ ap (λ (l : List A). drop (length new) l) (drop_at pre (x ++ post) s e)
    ∙ drop_at x post (length new) f in
    ap (λ (l : List A). l ++ (new ++ drop (s + length new) (pre ++ (x ++ post)))) (take_at pre (x ++ post) s e)
    ∙ ap (λ (l : List A). pre ++ (new ++ l)) d

-- two pieces side by side are one
pub splice_next : {A : Type 0} (s t : ℕ) (x y old : List A) → s ≤ length old → t ≡ s + length x →
    splice t y (splice s x old) ≡ splice s (x ++ y) old
splice_next {A} s t x y old h e =
    let p : length (take s old) ≡ s = length-take-le s old h in
    let q : length (take s old ++ x) ≡ t = length-append (take s old) x ∙ omega arith in
    let r : take s old ++ (x ++ drop (s + length x) old) ≡ (take s old ++ x) ++ drop (s + length x) old =
    sym (append_assoc (take s old) x (drop (s + length x) old)) in
    let n : s + length x + length y ≡ s + length (x ++ y) = rw length-append (omega arith) in
    let d : drop (t + length y) ((take s old ++ x) ++ drop (s + length x) old) ≡ drop (s + length (x ++ y)) old =
    sym (drop-drop (length y) t ((take s old ++ x) ++ drop (s + length x) old))
    ∙ ap (λ (l : List A). drop (length y) l) (drop_at (take s old ++ x) (drop (s + length x) old) t q)
    ∙ drop-drop (length y) (s + length x) old ∙ ap (λ (m : ℕ). drop m old) n in
    ap (λ (l : List A). splice t y l) r
    ∙ ap (λ (l : List A). l ++ (y ++ drop (t + length y) ((take s old ++ x) ++ drop (s + length x) old)))
    (take_at (take s old ++ x) (drop (s + length x) old) t q)
    ∙ ap (λ (l : List A). (take s old ++ x) ++ (y ++ l)) d
    ∙ append_assoc (take s old) x (y ++ drop (s + length (x ++ y)) old)
    ∙ ap (λ (l : List A). take s old ++ l) (sym (append_assoc x y (drop (s + length (x ++ y)) old)))

-- the part is the new entries
pub splice_same : {A : Type 0} (s n : ℕ) (new old : List A) → s ≤ length old → length new ≡ n → take n (drop s (splice s new old)) ≡ new
splice_same {A} s n new old h e =
    ap (λ (l : List A). take n l) (drop_at (take s old) (new ++ drop (s + length new) old) s (length-take-le s old h))
    ∙ take_at new (drop (s + length new) old) n e

-- what lies below the new entries stays
pub splice_below : {A : Type 0} (s t n : ℕ) (new old : List A) → s ≤ length old → t + n ≤ s → take n (drop t (splice s new old)) ≡ take n (drop t old)
splice_below {A} s t n new old h k =
    let R : List A = new ++ drop (s + length new) old in
    let a : length (take s old) ≡ s = length-take-le s old h in
    let e : t + (s - t) ≡ s = omega arith in
    let m : drop t (take s old) ≡ take (s - t) (drop t old) = ap (λ (z : ℕ). drop t (take z old)) (sym e) ∙ drop-take t (s - t) old in
    let l : length (drop t (take s old)) ≡ s - t = length-drop t (take s old) ∙ ap (λ (z : ℕ). z - t) a in
    ap (λ (z : List A). take n z) (drop-append-le t (take s old) R (omega arith))
    ∙ take-append-le n (drop t (take s old)) R (omega arith)
    ∙ ap (λ (z : List A). take n z) m ∙ take-take n (s - t) (drop t old) (omega arith)

-- and what lies above them
pub splice_above : {A : Type 0} (s t : ℕ) (new old : List A) → s ≤ length old → s + length new ≤ t → drop t (splice s new old) ≡ drop t old
splice_above {A} s t new old h k =
    let r : ℕ = t - (s + length new) in
    let e : t ≡ s + length new + (t - (s + length new)) = omega arith in
    let N : List A = splice s new old in
    ap (λ (z : ℕ). drop z N) e ∙ sym (drop-drop r (s + length new) N)
    ∙ ap (λ (z : List A). drop r z) (sym (drop-drop (length new) s N)
    ∙ ap (λ (z : List A). drop (length new) z) (drop_at (take s old) (new ++ drop (s + length new) old) s (length-take-le s old h))
    ∙ drop_at new (drop (s + length new) old) (length new) refl)
    ∙ drop-drop r (s + length new) old ∙ ap (λ (z : ℕ). drop z old) (sym e)
