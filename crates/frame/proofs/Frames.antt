-- Whole frames: their shape, and what their blocks carry.
use Rattle.std.proofs.Common.{◌≡◌, ℕ, suc, ◌+◌, ◌-◌, ◌*◌, ◌<◌, ◌≤◌, List, [], ◌∷◌, ◌++◌, length, get_or, take, drop, sym, refl, ap, ◌∙◌, ⊎_elim, arith, length-append, length-drop}
use Rattle.std.specs.List.{flat_map}
use Rattle.std.proofs.lemmas.List.FromFn.{get_or-map-range_with_len, length-map-range_with_len}
use Rattle.std.proofs.lemmas.List.{append-nil, drop_all, drop-drop, drop_more, ext_get_or, get_or-drop, get_or-take, length-take-le, take-append-drop}
use Rattle.std.specs.Prelude.{Some, slice_get}
use Rattle.std.specs.Option.{option_map}
use Rattle.std.proofs.lemmas.Option.{slice_get-get_or}
use Rattle.std.proofs.lemmas.Bool.{cases_eq}
use Rattle.block.specs.declared.Block.{Block}
use Rattle.block.specs.Classes.{class_of}
use Rattle.block.specs.Fixed.{start_block}
use Rattle.bits.specs.Splices.{splice}
use Rattle.std.proofs.Math.Seq.{take-add}
use Rattle.bits.proofs.Splices.{splice_next}
use Rattle.frame.specs.Frames.{FrameRestored, IsFrameShape, carried_by, frame_block, frame_of, carried_after, carried_after_all}
use Rattle.frame.proofs.Carried.{frame_data}
use Rattle.frame.proofs.Storing.{stored_data}

-- the blocks of a frame, place by place
pub frame_at : (F : List ℕ) (i : ℕ) (d : Block) → i < 992 → get_or (frame_of F) i d ≡ frame_block F (i + 1)
unfolding frame_of
frame_at F i d h = get_or-map-range_with_len (frame_block F) 1 992 i (i + 1) d h (omega arith)

pub frame_length : (F : List ℕ) → length (frame_of F) ≡ 992
unfolding frame_of
frame_length F = length-map-range_with_len (frame_block F) 1 992

pub frame_is : (F : List ℕ) (bs : List Block) (d : Block) → length bs ≡ 992 → ((i : ℕ) → i < 992 → get_or bs i d ≡ frame_block F (i + 1)) → bs ≡ frame_of F
frame_is F bs d h f = ext_get_or d bs (frame_of F) (h ∙ sym (frame_length F)) (λ i k. let m : i < 992 = omega arith in f i m ∙ sym (frame_at F i d m))

pub frame_get : (F : List ℕ) (i : ℕ) → i < 992 → slice_get (frame_of F) i ≡ Some (frame_block F (i + 1))
frame_get F i h =
    slice_get-get_or (frame_of F) i start_block (omega (arith, frame_length F)) ∙ ap (λ (b : Block). Some b) (frame_at F i start_block h)

pub frame_shaped : (F : List ℕ) → IsFrameShape (frame_of F)
frame_shaped F = record {
  many = frame_length F;
  opens = frame_get F 0 (omega arith);
  data_blocks = λ n a b.
      ap (option_map class_of) (frame_get F n (omega arith))
      ∙ ap (λ (x : Block). Some (class_of x)) (frame_data F (n + 1) (λ e. omega arith) (λ e. omega arith));
  ends = ap (option_map class_of) (frame_get F 991 (omega arith));
}

-- blocks of eight bytes each that are cut from a list
joined_eight : (bs : List Block) (F : List ℕ) → ((j : ℕ) → j < length bs → (get_or bs j start_block).bytes ≡ take 8 (drop (8 * j) F)) →
    flat_map (λ (b : Block). b.bytes) bs ≡ take (8 * length bs) F
joined_eight [] F f = refl
joined_eight (b ∷ bs) F f =
    let e : 8 * suc (length bs) ≡ 8 + 8 * length bs = omega arith in
    ap (λ (l : List ℕ). l ++ flat_map (λ (b : Block). b.bytes) bs) (f 0 (omega arith))
    ∙ ap (λ (l : List ℕ). take 8 F ++ l) (joined_eight bs (drop 8 F) (λ j h.
    let g : 8 * suc j ≡ 8 + 8 * j = omega arith in
    f (suc j) (omega arith) ∙ ap (λ (n : ℕ). take 8 (drop n F)) g ∙ ap (λ (l : List ℕ). take 8 l) (sym (drop-drop (8 * j) 8 F))))
    ∙ sym (ap (λ (n : ℕ). take n F) e ∙ take-add 8 (8 * length bs) F)

-- what a frame carries is what it was made of
pub frame_carries : (F : List ℕ) → carried_by (frame_of F) ≡ F
frame_carries F =
    let bs : List Block = take 990 (drop 1 (frame_of F)) in
    let n : length (take 990 (drop 1 (frame_of F))) ≡ 990 =
    length-take-le 990 (drop 1 (frame_of F)) (omega (arith, length-drop 1 (frame_of F), frame_length F)) in
    let cut : (j : ℕ) → j < length bs → (get_or bs j start_block).bytes ≡ take 8 (drop (8 * j) F) = λ j h.
    let k : j < 990 = omega arith in
    let g : 8 * (1 + j + 1 - 2) ≡ 8 * j = omega arith in
    ap (λ (b : Block). b.bytes) (get_or-take 990 (drop 1 (frame_of F)) j start_block k ∙ get_or-drop 1 (frame_of F) j start_block
    ∙ frame_at F (1 + j) start_block (omega arith) ∙ frame_data F (1 + j + 1) (λ e. omega arith) (λ e. omega arith))
    ∙ ap (λ (m : ℕ). take 8 (drop m F)) g in
    let last : get_or (frame_of F) 991 start_block ≡ frame_block F 992 = frame_at F 991 start_block (omega arith) in
    ap (λ (l : List ℕ). l ++ drop 1 (get_or (frame_of F) 991 start_block).bytes)
    (joined_eight bs F cut ∙ ap (λ (m : ℕ). take (8 * m) F) n)
    ∙ ap (λ (b : Block). take 7920 F ++ drop 1 b.bytes) last
    ∙ take-append-drop 7920 F

-- data blocks stored one after the other
stored_run : (bs : List Block) (n : ℕ) (F : List ℕ) → 2 ≤ n → n + length bs ≤ 992 → 8 * (n - 2) ≤ length F →
    ((j : ℕ) → j < length bs → length (get_or bs j start_block).bytes ≡ 8) → (rest : List Block) →
    carried_after_all n (bs ++ rest) F ≡ carried_after_all (n + length bs) rest (splice (8 * (n - 2)) (flat_map (λ (b : Block). b.bytes) bs) F)
stored_run [] n F h k m f rest =
    let e : n ≡ n + 0 = omega arith in
    let z : 8 * (n - 2) + 0 ≡ 8 * (n - 2) = omega arith in
    ap (λ (i : ℕ). carried_after_all i rest F) e
    ∙ ap (λ (l : List ℕ). carried_after_all (n + 0) rest l) (sym (ap (λ (i : ℕ). take (8 * (n - 2)) F ++ drop i F) z ∙ take-append-drop (8 * (n - 2)) F))
stored_run (b ∷ bs) n F h k m f rest =
    let J : List ℕ = flat_map (λ (b : Block). b.bytes) bs in
    let w : length b.bytes ≡ 8 = f 0 (omega arith) in
    let s : ℕ = 8 * (n - 2) in
    let G : List ℕ = splice (8 * (n - 2)) b.bytes F in
    let long : length (take (8 * (n - 2)) F) ≡ 8 * (n - 2) = length-take-le (8 * (n - 2)) F m in
    let room : 8 * (n + 1 - 2) ≤ length G = simp (length-append, length-take-le (8 * (n - 2)) F m, w) (omega arith) in
    let e : n + 1 + length bs ≡ n + suc (length bs) = omega arith in
    let t : 8 * (n + 1 - 2) ≡ 8 * (n - 2) + length b.bytes = omega arith in
    ap (λ (l : List ℕ). carried_after_all (n + 1) (bs ++ rest) l) (stored_data n b.bytes F (λ e. omega arith) (λ e. omega arith))
    ∙ stored_run bs (n + 1) G (omega arith) (omega arith) room (λ j l. f (suc j) (omega arith)) rest
    ∙ ap (λ (i : ℕ). carried_after_all i rest (splice (8 * (n + 1 - 2)) J G)) e
    ∙ ap (λ (l : List ℕ). carried_after_all (n + suc (length bs)) rest l) (splice_next s (8 * (n + 1 - 2)) b.bytes J F m t)

length_joined : (bs : List Block) → ((j : ℕ) → j < length bs → length (get_or bs j start_block).bytes ≡ 8) →
    length (flat_map (λ (b : Block). b.bytes) bs) ≡ 8 * length bs
length_joined [] f = refl
length_joined (b ∷ bs) f = length-append b.bytes (flat_map (λ (b : Block). b.bytes) bs)
    ∙ omega (arith, f 0 (omega arith), length_joined bs (λ j h. f (suc j) (omega arith)))

-- 992 blocks of eight bytes, stored one after the other, leave what they carry
pub stored_carried : (bs : List Block) (F : List ℕ) → length bs ≡ 992 → length F ≡ 7927 →
    ((j : ℕ) → j < 992 → length (get_or bs j start_block).bytes ≡ 8) → carried_after_all 1 bs F ≡ carried_by bs
stored_carried [] F h k f = absurd (omega arith)
stored_carried (b ∷ bs) F h k f =
    let n : length bs ≡ 991 = omega arith in
    let ds : List Block = take 990 bs in
    let e : Block = get_or bs 990 start_block in
    let m : length (take 990 bs) ≡ 990 = length-take-le 990 bs (omega arith) in
    let tail : drop 990 bs ≡ get_or bs 990 start_block ∷ [] =
    drop_more bs 990 start_block (omega arith) ∙ ap (λ (l : List Block). get_or bs 990 start_block ∷ l) (drop_all 991 bs (omega arith)) in
    let parts : bs ≡ take 990 bs ++ (get_or bs 990 start_block ∷ []) =
    sym (ap (λ (l : List Block). take 990 bs ++ l) (sym tail) ∙ take-append-drop 990 bs) in
    let eight : (j : ℕ) → j < length (take 990 bs) → length (get_or (take 990 bs) j start_block).bytes ≡ 8 = λ j l.
    let c : j < 990 = omega arith in
    ap (λ (x : Block). length x.bytes) (get_or-take 990 bs j start_block c) ∙ f (suc j) (omega arith) in
    let J : List ℕ = flat_map (λ (b : Block). b.bytes) (take 990 bs) in
    let long : length (flat_map (λ (b : Block). b.bytes) (take 990 bs)) ≡ 7920 = length_joined (take 990 bs) eight ∙ omega arith in
    let seven : length (drop 1 (get_or bs 990 start_block).bytes) ≡ 7 = length-drop 1 (get_or bs 990 start_block).bytes ∙ omega (arith, f 991 (omega arith)) in
    let whole : length (J ++ drop 1 e.bytes) ≡ 7927 = length-append J (drop 1 e.bytes) ∙ omega arith in
    let z : 0 + length (J ++ drop 1 e.bytes) ≡ 7927 = omega arith in
    let i : 2 + length (take 990 bs) ≡ 992 = omega arith in
    ap (λ (l : List Block). carried_after_all 2 l F) parts
    ∙ stored_run ds 2 F (omega arith) (omega arith) (omega arith) eight (e ∷ [])
    ∙ ap (λ (n : ℕ). carried_after_all n (e ∷ []) (splice 0 J F)) i
    ∙ splice_next 0 7920 J (drop 1 e.bytes) F (omega arith) (omega arith)
    ∙ ap (λ (n : ℕ). (J ++ drop 1 e.bytes) ++ drop n F) z
    ∙ ap (λ (l : List ℕ). (J ++ drop 1 e.bytes) ++ l) (drop_all 7927 F (omega arith))
    ∙ append-nil (J ++ drop 1 e.bytes)

-- each block of a frame has eight bytes
frame_eight : (F : List ℕ) → length F ≡ 7927 → (j : ℕ) → j < 992 → length (get_or (frame_of F) j start_block).bytes ≡ 8
frame_eight F h j k =
    let at : get_or (frame_of F) j start_block ≡ frame_block F (j + 1) = frame_at F j start_block k in
    ap (λ (b : Block). length b.bytes) at
    ∙ ⊎_elim (λ (e : j + 1 ≡ 1). ap (λ (n : ℕ). length (frame_block F n).bytes) e)
    (λ x. ⊎_elim
    (λ (e : j + 1 ≡ 992). ap (λ (n : ℕ). length (frame_block F n).bytes) e ∙ ap (λ (n : ℕ). suc n) (length-drop 7920 F ∙ omega arith))
    (λ y. ap (λ (b : Block). length b.bytes) (frame_data F (j + 1) x y)
    ∙ length-take-le 8 (drop (8 * (j + 1 - 2)) F) (omega (arith, length-drop (8 * (j + 1 - 2)) F)))
    (cases_eq (j + 1) 992))
    (cases_eq (j + 1) 1)

pub frame_restored : FrameRestored
frame_restored F before h k = stored_carried (frame_of F) before (frame_length F) k (frame_eight F h) ∙ frame_carries F

-- one block more, while storing
pub stored_more : (bs : List Block) (i : ℕ) (F : List ℕ) → i < length bs →
    carried_after_all (i + 1) (drop i bs) F ≡ carried_after_all (i + 1 + 1) (drop (i + 1) bs) (carried_after (i + 1) (get_or bs i start_block).bytes F)
stored_more bs i F h = ap (λ (l : List Block). carried_after_all (i + 1) l F) (drop_more bs i start_block h)

pub stored_all : (bs : List Block) (i : ℕ) (F : List ℕ) → length bs ≤ i → carried_after_all (i + 1) (drop i bs) F ≡ F
stored_all bs i F h = ap (λ (l : List Block). carried_after_all (i + 1) l F) (drop_all i bs h)
