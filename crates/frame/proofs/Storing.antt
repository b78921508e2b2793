-- Bytes stored in overhead and payload, as bytes of the two together.
use Rattle.std.proofs.Common.{◌≡◌, ℕ, ◌+◌, ◌-◌, ◌*◌, false, eqb, List, [], ◌∷◌, ◌++◌, length, get_or, take, drop, set, sym, ap, ◌∙◌, append_assoc, arith}
use borrow.Rule.Slice.PartMut.{put_mid}
use Rattle.std.proofs.lemmas.List.{drop_all, drop_at, drop-drop, drop_more, set_split, take-append-drop, take_at}
use Rattle.std.proofs.lemmas.Bool.{cond-false, ne_eqb}
use Rattle.bits.specs.Splices.{splice}
use Rattle.std.proofs.Math.Seq.{take-add}
use Rattle.frame.specs.Frames.{carried_after, with_data}
use Rattle.frame.specs.Places.{is_data_place}
use Rattle.frame.proofs.Carried.{listed, past}

pub part_stored : (p new ys : List ℕ) (at k : ℕ) → k ≡ length new → ys ≡ new → put_mid at k p ys ≡ splice at new p
part_stored p new ys at k e f =
    ap (λ (n : ℕ). put_mid at n p ys) e ∙ ap (λ (l : List ℕ). put_mid at (length new) p l) f
    ∙ ap (λ (l : List ℕ). take at p ++ (new ++ l)) (drop-drop (length new) at p)

pub first_stored : (o p bs : List ℕ) → length o ≡ 7 → length p ≡ 7920 → length bs ≡ 8 →
    take 7 bs ++ set p 0 (get_or bs 7 0) ≡ splice 0 bs (o ++ p)
first_stored o p bs h k m =
    let last : drop 7 bs ≡ get_or bs 7 0 ∷ [] = drop_more bs 7 0 (omega arith) ∙ ap (λ (l : List ℕ). get_or bs 7 0 ∷ l) (drop_all 8 bs (omega arith)) in
    let whole : bs ≡ take 7 bs ++ (get_or bs 7 0 ∷ []) = sym (ap (λ (l : List ℕ). take 7 bs ++ l) (sym last) ∙ take-append-drop 7 bs) in
    ap (λ (l : List ℕ). take 7 bs ++ l) (set_split p 0 (get_or bs 7 0) (omega arith))
    ∙ sym (append_assoc (take 7 bs) (get_or bs 7 0 ∷ []) (drop 1 p))
    ∙ ap (λ (l : List ℕ). l ++ drop 1 p) (sym whole)
    ∙ ap (λ (l : List ℕ). bs ++ l) (sym (past o p (0 + length bs) 1 h (omega arith)))

-- the same, with the bytes named one by one
pub first_written : (o p bs : List ℕ) → length o ≡ 7 → length p ≡ 7920 → length bs ≡ 8 →
    (get_or bs 0 0 ∷ get_or bs 1 0 ∷ get_or bs 2 0 ∷ get_or bs 3 0 ∷ get_or bs 4 0 ∷ get_or bs 5 0 ∷ get_or bs 6 0 ∷ []) ++ set p 0 (get_or bs 7 0)
    ≡ splice 0 bs (o ++ p)
first_written o p bs h k m =
    ap (λ (l : List ℕ). l ++ set p 0 (get_or bs 7 0)) (sym (ap (λ (l : List ℕ). take 7 l) (listed bs 0 8 (sym m))))
    ∙ first_stored o p bs h k m

pub past_stored : (o p new : List ℕ) (at k : ℕ) → length o ≡ 7 → k ≡ 7 + at → o ++ splice at new p ≡ splice k new (o ++ p)
past_stored o p new at k h e =
    let front : take k (o ++ p) ≡ o ++ take at p =
    ap (λ (n : ℕ). take n (o ++ p)) e ∙ take-add 7 at (o ++ p)
    ∙ ap (λ (l : List ℕ). l ++ take at (drop 7 (o ++ p))) (take_at o p 7 h) ∙ ap (λ (l : List ℕ). o ++ take at l) (drop_at o p 7 h) in
    sym (append_assoc o (take at p) (new ++ drop (at + length new) p))
    ∙ ap (λ (l : List ℕ). l ++ (new ++ drop (at + length new) p)) (sym front)
    ∙ ap (λ (l : List ℕ). take k (o ++ p) ++ (new ++ l)) (sym (past o p (k + length new) (at + length new) h (omega arith)))

-- what a data block's place stores
pub stored_data : (n : ℕ) (bs carried : List ℕ) → (n ≡ 1 → ⊥) → (n ≡ 992 → ⊥) → carried_after n bs carried ≡ splice (8 * (n - 2)) bs carried
stored_data n bs carried a b =
    cond-false (eqb n 1) carried _ (ne_eqb n 1 a) ∙ cond-false (eqb n 992) _ (splice (8 * (n - 2)) bs carried) (ne_eqb n 992 b)

-- and what any other place stores of a data block
pub none_stored : (n : ℕ) (bs new old : List ℕ) → new ≡ with_data n bs old → is_data_place n ≡ false → new ≡ old
none_stored n bs new old e h = e ∙ cond-false (is_data_place n) (splice (8 * (n - 2)) bs old) old h
