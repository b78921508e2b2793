-- The bytes that a frame's blocks carry.
use Rattle.std.proofs.Common.{◌≡◌, ℕ, ◌+◌, ◌-◌, ◌*◌, eqb, List, [], ◌∷◌, ◌++◌, map, length, get_or, take, drop, sym, refl, ap, ◌∙◌, arith, length-drop}
use Rattle.std.specs.List.{range_with_len}
use Rattle.std.proofs.lemmas.List.FromFn.{fill_by_all}
use Rattle.std.proofs.lemmas.List.{append-nil, drop_at, drop-drop, drop_more, get_or-drop, take_all}
use Rattle.std.proofs.lemmas.Bool.{cond-false, ne_eqb}
use Rattle.block.specs.declared.Block.{Block}
use Rattle.block.specs.declared.Sync.TheVariants.{Zeros, Control, Data}
use Rattle.block.specs.Fixed.{start_block}
use Rattle.block.proofs.Blocks.{same_block}
use Rattle.frame.specs.Frames.{frame_block}

-- the end of a list, entry by entry
pub listed : (xs : List ℕ) (at n : ℕ) → at + n ≡ length xs → drop at xs ≡ map (λ i. get_or xs (at + i) 0) (range_with_len 0 n)
listed xs at n e = fill_by_all (λ i. get_or xs (at + i) 0) (drop at xs) n 0 (length-drop at xs ∙ omega arith) (λ k h. get_or-drop at xs k 0)

pub opening : (o p : List ℕ) → length o ≡ 7 → length p ≡ 7920 →
    get_or o 0 0 ∷ get_or o 1 0 ∷ get_or o 2 0 ∷ get_or o 3 0 ∷ get_or o 4 0 ∷ get_or o 5 0 ∷ get_or o 6 0 ∷ get_or p 0 0 ∷ [] ≡ take 8 (o ++ p)
opening o p h k = sym (ap (λ (l : List ℕ). take 8 (l ++ p)) (listed o 0 7 (sym h))
    ∙ ap (λ (l : List ℕ). take 8 (map (λ i. get_or o (0 + i) 0) (range_with_len 0 7) ++ l)) (drop_more p 0 0 (omega arith)))

-- a list's last seven entries, copied at once as the code does, or one by one
pub seven_copied : (p ys : List ℕ) → length p ≡ 7920 → ys ≡ take 7 (drop 7913 p) → ys ++ [] ≡ drop 7913 p
seven_copied p ys h e = append-nil ys ∙ e ∙ take_all 7 (drop 7913 p) (omega (arith, length-drop 7913 p))

pub seven_listed : (p : List ℕ) → length p ≡ 7920 →
    get_or p 7913 0 ∷ get_or p 7914 0 ∷ get_or p 7915 0 ∷ get_or p 7916 0 ∷ get_or p 7917 0 ∷ get_or p 7918 0 ∷ get_or p 7919 0 ∷ [] ≡ drop 7913 p
seven_listed p h = sym (listed p 7913 7 (sym h))

pub ruleset last_seven = (seven_copied, seven_listed)

-- what lies past the overhead
pub past : (o p : List ℕ) (k m : ℕ) → length o ≡ 7 → k ≡ 7 + m → drop k (o ++ p) ≡ drop m p
past o p k m h e =
    ap (λ (n : ℕ). drop n (o ++ p)) e ∙ sym (drop-drop m 7 (o ++ p)) ∙ ap (λ (l : List ℕ). drop m l) (drop_at o p 7 h)

-- a data block
pub frame_data : (carried : List ℕ) (n : ℕ) → (n ≡ 1 → ⊥) → (n ≡ 992 → ⊥) →
    frame_block carried n ≡ record { sync = Data; bytes = take 8 (drop (8 * (n - 2)) carried) }
frame_data carried n a b =
    let d : Block = record { sync = Data; bytes = take 8 (drop (8 * (n - 2)) carried) } in
    cond-false (eqb n 1) start_block _ (ne_eqb n 1 a) ∙ cond-false (eqb n 992) _ d (ne_eqb n 992 b)

-- a block that is a data block, and has the eight bytes of its place, is the frame's
pub data_at : (o p : List ℕ) (n at : ℕ) (b : Block) → length o ≡ 7 → (n ≡ 1 → ⊥) → (n ≡ 992 → ⊥) → 8 * (n - 2) ≡ 7 + at →
    b.sync ≡ Data → b.bytes ≡ take 8 (drop at p) → b ≡ frame_block (o ++ p) n
data_at o p n at b h x y e s t =
    same_block b (record { sync = Data; bytes = take 8 (drop (8 * (n - 2)) (o ++ p)) }) s
    (t ∙ ap (λ (l : List ℕ). take 8 l) (sym (past o p (8 * (n - 2)) at h e)))
    ∙ sym (frame_data (o ++ p) n x y)

-- and so with the end block
pub end_at : (o p : List ℕ) (b : Block) → length o ≡ 7 → b.sync ≡ Control → b.bytes ≡ 0xFF ∷ drop 7913 p → b ≡ frame_block (o ++ p) 992
end_at o p b h s t =
    same_block b (record { sync = Control; bytes = 0xFF ∷ drop 7920 (o ++ p) }) s
    (t ∙ ap (λ (l : List ℕ). 0xFF ∷ l) (sym (past o p 7920 7913 h refl)))

-- what the code reads past the end of a list of blocks, which it never does
abbrev pub blank : Block
blank = record { sync = Zeros; bytes = [] }
