-- The value bytes of a response.
use Rattle.std.proofs.Common.{◌≡◌, ℕ, ◌+◌, ◌≤◌, Bool, ◌&&◌, eqb, ltb, List, [], ◌∷◌, ◌++◌, length, get_or, drop, replicate, sym, ap, ◌∙◌, ap₂, append_assoc, arith}
use borrow.Rule.Slice.PartMut.{put_mid}
use Rattle.std.proofs.lemmas.List.{length-append, take_at, drop_at, get_or-append_right}
use Rattle.std.proofs.lemmas.Bool.{eq-eqb}
use Rattle.message.specs.declared.Kind.TheVariants.{TwoDmr}
use Rattle.message.specs.Values.{lawful}
use Rattle.collector.specs.Reply.{reply_values, RepliesLawful}

one_part : (a r : List ℕ) → length a ≡ 8 → put_mid 8 8 (a ++ replicate 18 0) r ≡ a ++ (r ++ replicate 10 0)
one_part a r h =
    ap₂ (λ (x y : List ℕ). x ++ (r ++ drop 8 y)) (take_at a (replicate 18 0) 8 h) (drop_at a (replicate 18 0) 8 h)

two_parts : (a r s : List ℕ) → length a ≡ 8 → length r ≡ 8 → put_mid 16 8 (a ++ (r ++ replicate 10 0)) s ≡ reply_values a r s
two_parts a r s h l =
    let n : length (a ++ r) ≡ 16 = length-append a r ∙ (let e : length a + length r ≡ 16 = omega arith in e) in
    ap (λ (x : List ℕ). put_mid 16 8 x s) (sym (append_assoc a r (replicate 10 0)))
    ∙ ap₂ (λ (x y : List ℕ). x ++ (s ++ drop 8 y)) (take_at (a ++ r) (replicate 10 0) 16 n) (drop_at (a ++ r) (replicate 10 0) 16 n)
    ∙ append_assoc a r (s ++ 0 ∷ 0 ∷ [])

pub replied : (x y z a r s : List ℕ) → x ≡ a → y ≡ r → z ≡ s → length a ≡ 8 → length r ≡ 8
    → put_mid 16 8 (put_mid 8 8 (x ++ replicate 18 0) y) z ≡ reply_values a r s
replied x y z a r s e f g h l =
    ap₂ (λ (p q : List ℕ). put_mid 16 8 p q)
    (ap₂ (λ (p q : List ℕ). put_mid 8 8 (p ++ replicate 18 0) q) e f ∙ one_part a r h) g
    ∙ two_parts a r s h l

pub room_left : (x y a r : List ℕ) → x ≡ a → y ≡ r → length a ≡ 8 → length r ≡ 8 → 24 ≤ length (put_mid 8 8 (x ++ replicate 18 0) y)
room_left x y a r e f h l =
    let n : length (put_mid 8 8 (x ++ replicate 18 0) y) ≡ 26
    = ap length (ap₂ (λ (p q : List ℕ). put_mid 8 8 (p ++ replicate 18 0) q) e f ∙ one_part a r h)
    ∙ length-append a (r ++ replicate 10 0) ∙ ap (λ (k : ℕ). length a + k) (length-append r (replicate 10 0))
    ∙ (let z : length a + (length r + 10) ≡ 26 = omega arith in z) in
    omega arith

pub replies_lawful : RepliesLawful
replies_lawful a r s h l m =
    let n : length (a ++ (r ++ s)) ≡ 24 = length-append a (r ++ s) ∙ ap (λ (x : ℕ). length a + x) (length-append r s) ∙ (let e : length a + (length r + length s) ≡ 24 = omega arith in e) in
    let is : reply_values a r s ≡ (a ++ (r ++ s)) ++ 0 ∷ 0 ∷ []
    = ap (λ (x : List ℕ). a ++ x) (sym (append_assoc r s (0 ∷ 0 ∷ []))) ∙ sym (append_assoc a (r ++ s) (0 ∷ 0 ∷ [])) in
    let long : length ((a ++ (r ++ s)) ++ 0 ∷ 0 ∷ []) ≡ 26 = length-append (a ++ (r ++ s)) (0 ∷ 0 ∷ []) ∙ ap (λ (x : ℕ). x + 2) n in
    let zero₁ : get_or ((a ++ (r ++ s)) ++ 0 ∷ 0 ∷ []) 24 0 ≡ 0 = get_or-append_right (a ++ (r ++ s)) (0 ∷ 0 ∷ []) 24 24 0 n (omega arith) in
    let zero₂ : get_or ((a ++ (r ++ s)) ++ 0 ∷ 0 ∷ []) 25 0 ≡ 0 = get_or-append_right (a ++ (r ++ s)) (0 ∷ 0 ∷ []) 24 25 0 n (omega arith) in
    ap (lawful TwoDmr) is
    ∙ ap₂ (λ (x y : Bool). x && y) (eq-eqb (length ((a ++ (r ++ s)) ++ 0 ∷ 0 ∷ [])) 26 long)
    (ap₂ (λ (x y : ℕ). ltb x 1 && eqb y 0) zero₁ zero₂)
