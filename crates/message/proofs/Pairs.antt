-- Value bytes two by two.
use Rattle.std.proofs.Common.{◌≡◌, ℕ, zero, suc, ◌+◌, ◌*◌, ◌<◌, List, [], ◌∷◌, ◌++◌, length, get_or, take, drop, set, sym, refl, ap, ◌∙◌, append_assoc, arith}
use Rattle.std.proofs.lemmas.List.{take_more, drop_more, set_at, get_or-drop, drop-drop}
use Rattle.message.specs.Values.{map_pairs}

-- two more bytes make one more entry
pub paired_push : {X : Type 0} (f : ℕ → ℕ → ℕ → X) (i j : ℕ) (us : List ℕ) (a b : ℕ) → length us ≡ 2 * i
    → map_pairs f j (us ++ a ∷ b ∷ []) ≡ map_pairs f j us ++ f (j + i) a b ∷ []
paired_push f zero j [] a b h = ap (λ (m : ℕ). f m a b ∷ []) (let e : j ≡ j + 0 = omega arith in e)
paired_push f (suc i) j [] a b h = absurd (omega arith)
paired_push f i j (u ∷ []) a b h = absurd (omega arith)
paired_push f zero j (u ∷ v ∷ us) a b h = absurd (omega arith)
paired_push {X} f (suc i) j (u ∷ v ∷ us) a b h =
    ap (λ (l : List X). f j u v ∷ l)
    (paired_push f i (suc j) us a b (omega arith) ∙ ap (λ (m : ℕ). map_pairs f (suc j) us ++ f m a b ∷ []) (let e : suc j + i ≡ j + suc i = omega arith in e))

pub length_paired : {X : Type 0} (f : ℕ → ℕ → ℕ → X) (i j : ℕ) (us : List ℕ) → length us ≡ 2 * i → length (map_pairs f j us) ≡ i
length_paired f zero j [] h = refl
length_paired f (suc i) j [] h = absurd (omega arith)
length_paired f i j (u ∷ []) h = absurd (omega arith)
length_paired f zero j (u ∷ v ∷ us) h = absurd (omega arith)
length_paired f (suc i) j (u ∷ v ∷ us) h = ap suc (length_paired f i (suc j) us (omega arith))

-- the next two bytes of a list
pub take_two : (vs : List ℕ) (i : ℕ) → 2 * i + 1 < length vs → take (2 * (i + 1)) vs ≡ take (2 * i) vs ++ get_or vs (2 * i) 0 ∷ get_or vs (2 * i + 1) 0 ∷ []
take_two vs i h =
    ap (λ (n : ℕ). take n vs) (let e : 2 * (i + 1) ≡ 2 * i + 1 + 1 = omega arith in e)
    ∙ take_more vs (2 * i + 1) 0 h
    ∙ ap (λ (l : List ℕ). l ++ get_or vs (2 * i + 1) 0 ∷ []) (take_more vs (2 * i) 0 (omega arith))
    ∙ append_assoc (take (2 * i) vs) (get_or vs (2 * i) 0 ∷ []) (get_or vs (2 * i + 1) 0 ∷ [])

-- one more entry written behind those that are there
pub put_pair : {X : Type 0} (f : ℕ → ℕ → ℕ → X) (i : ℕ) (us : List ℕ) (a b : ℕ) (out : List X) (x : X) → length us ≡ 2 * i → i < length out → x ≡ f i a b
    → set (map_pairs f 0 us ++ drop i out) i x ≡ map_pairs f 0 (us ++ a ∷ b ∷ []) ++ drop (i + 1) out
put_pair {X} f i us a b out x h l e =
    ap (λ (rest : List X). set (map_pairs f 0 us ++ rest) i x) (drop_more out i x l)
    ∙ set_at (map_pairs f 0 us) (get_or out i x) (drop (i + 1) out) x i (length_paired f i 0 us h)
    ∙ ap (λ (y : X). map_pairs f 0 us ++ y ∷ drop (i + 1) out) (e ∙ ap (λ (m : ℕ). f m a b) (let z : i ≡ 0 + i = omega arith in z))
    ∙ sym (append_assoc (map_pairs f 0 us) (f (0 + i) a b ∷ []) (drop (i + 1) out))
    ∙ ap (λ (front : List X). front ++ drop (i + 1) out) (sym (paired_push f i 0 us a b h))

-- two bytes from the front of what is left of a list, and what is left behind them
pub front_pair : (vs p t : List ℕ) (n : ℕ) → drop n vs ≡ p ++ t → length p ≡ 2
    → (get_or p 0 0 ≡ get_or vs n 0) × (get_or p 1 0 ≡ get_or vs (n + 1) 0) × (t ≡ drop (n + 2) vs)
front_pair vs [] t n e l = absurd (omega arith)
front_pair vs (x ∷ []) t n e l = absurd (omega arith)
front_pair vs (x ∷ y ∷ z ∷ p) t n e l = absurd (omega arith)
front_pair vs (x ∷ y ∷ []) t n e l = (
  sym (ap (λ (l : List ℕ). get_or l 0 0) e) ∙ get_or-drop n vs 0 0 ∙ ap (λ (m : ℕ). get_or vs m 0) (let z : n + 0 ≡ n = omega arith in z),
  sym (ap (λ (l : List ℕ). get_or l 1 0) e) ∙ get_or-drop n vs 1 0,
  sym (ap (drop 2) e) ∙ drop-drop 2 n vs,
)
