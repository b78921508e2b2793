-- A frame block by block.
use Rattle.std.proofs.Common.{◌≡◌, ℕ, suc, ◌+◌, ◌-◌, ◌*◌, ◌<◌, ◌≤◌, List, [], ◌∷◌, ◌++◌, length, get_or, take, drop, ⊎_elim, sym, ap, ap₂, ◌∙◌, arith, length-drop}
use Rattle.std.specs.Prelude.{Some, slice_get}
use Rattle.std.specs.Option.{option_map}
use Rattle.std.proofs.lemmas.Bool.{cases_eq}
use Rattle.std.proofs.lemmas.List.{append-nil, drop_all, drop_at, drop_more, ext_get_or, get_or-take, length-take-le, take-append-drop, take_all, take_more}
use Rattle.std.proofs.lemmas.Option.{slice_get-get_or}
use Rattle.block.specs.declared.Block.{Block}
use Rattle.block.specs.declared.Class.{Class}
use Rattle.block.specs.declared.Class.TheVariants.{Data, End}
use Rattle.block.specs.declared.Sync.TheVariants.{Control, Data as DataSync}
use Rattle.block.specs.Classes.{class_of}
use Rattle.block.specs.Told.{IsOfClass}
use Rattle.block.specs.Fixed.{start_block}
use Rattle.block.proofs.Blocks.{same_block}
use Rattle.block.proofs.Classes.{classes_told}
use Rattle.bits.specs.Splices.{splice}
use Rattle.bits.proofs.Splices.{splice_below, splice_same}
use Rattle.frame.specs.Frames.{IsFrameShape, frame_block, frame_of}
use Rattle.frame.specs.Steps.{ByBlocks, CarriedStored, Closes, Grows, InParts, Leaves, Opens}
use Rattle.frame.proofs.Carried.{frame_data}
use Rattle.frame.proofs.Frames.{frame_at, frame_length, stored_carried}
use Rattle.frame.proofs.Storing.{stored_data}

pub leaves : Leaves
leaves F n h =
    drop_more (frame_of F) n start_block (omega (arith, frame_length F))
    ∙ ap (λ (b : Block). b ∷ drop (n + 1) (frame_of F)) (frame_at F n start_block h)

pub opens : Opens
opens F = take_more (frame_of F) 0 start_block (omega (arith, frame_length F)) ∙ ap (λ (b : Block). b ∷ []) (frame_at F 0 start_block (omega arith))

-- a block below the bytes that are stored stays
block_below : (F new : List ℕ) (s i : ℕ) → s ≤ length F → 8 * i ≤ s → i < 991 → frame_block (splice s new F) (i + 1) ≡ frame_block F (i + 1)
block_below F new s i h k l =
    ⊎_elim (λ (e : i + 1 ≡ 1). ap (frame_block (splice s new F)) e ∙ ap (frame_block F) (sym e))
    (λ x.
    let y : i + 1 ≡ 992 → ⊥ = λ e. omega arith in
    let at : 8 * (i + 1 - 2) + 8 ≤ s = omega arith in
    frame_data (splice s new F) (i + 1) x y
    ∙ ap (λ (bs : List ℕ). let b : Block = record { sync = DataSync; bytes = bs } in b) (splice_below s (8 * (i + 1 - 2)) 8 new F h at)
    ∙ sym (frame_data F (i + 1) x y))
    (cases_eq (i + 1) 1)

-- so do all blocks below
blocks_below : (F new : List ℕ) (s n : ℕ) → s ≤ length F → n ≤ 991 → 8 * (n - 1) ≤ s → take n (frame_of (splice s new F)) ≡ take n (frame_of F)
blocks_below F new s n h l k =
    let G : List ℕ = splice s new F in
    let a : length (take n (frame_of (splice s new F))) ≡ n = length-take-le n (frame_of (splice s new F)) (omega (arith, frame_length (splice s new F))) in
    let b : length (take n (frame_of F)) ≡ n = length-take-le n (frame_of F) (omega (arith, frame_length F)) in
    ext_get_or start_block (take n (frame_of (splice s new F))) (take n (frame_of F)) (a ∙ sym b)
    (λ i m.
    let c : i < n = omega arith in
    get_or-take n (frame_of (splice s new F)) i start_block c
    ∙ frame_at (splice s new F) i start_block (omega arith)
    ∙ block_below F new s i h (omega arith) (omega arith)
    ∙ sym (get_or-take n (frame_of F) i start_block c ∙ frame_at F i start_block (omega arith)))

pub grows : Grows
grows F n b h k l w e =
    let s : ℕ = 8 * (n + 1 - 2) in
    let G : List ℕ = splice (8 * (n + 1 - 2)) b.bytes F in
    let x : n + 1 ≡ 1 → ⊥ = λ e. omega arith in
    let y : n + 1 ≡ 992 → ⊥ = λ e. omega arith in
    let at : get_or (frame_of (splice (8 * (n + 1 - 2)) b.bytes F)) n start_block ≡ b =
    frame_at (splice (8 * (n + 1 - 2)) b.bytes F) n start_block (omega arith)
    ∙ frame_data (splice (8 * (n + 1 - 2)) b.bytes F) (n + 1) x y
    ∙ sym (same_block b (record { sync = DataSync; bytes = take 8 (drop (8 * (n + 1 - 2)) (splice (8 * (n + 1 - 2)) b.bytes F)) }) ((classes_told b Data).0 e)
    (sym (splice_same s 8 b.bytes F (omega arith) w))) in
    ap (λ (C : List ℕ). take (n + 1) (frame_of C)) (stored_data (n + 1) b.bytes F x y)
    ∙ take_more (frame_of G) n start_block (omega (arith, frame_length (splice (8 * (n + 1 - 2)) b.bytes F)))
    ∙ ap₂ (λ (bs : List Block) (c : Block). bs ++ (c ∷ [])) (blocks_below F b.bytes s n (omega arith) (omega arith) (omega arith)) at

-- seven bytes at the end of what is carried
end_stored : (F new : List ℕ) → length F ≡ 7927 → length new ≡ 7 → drop 7920 (splice 7920 new F) ≡ new
end_stored F new h k =
    drop_at (take 7920 F) (new ++ drop (7920 + length new) F) 7920 (length-take-le 7920 F (omega arith))
    ∙ ap (λ (l : List ℕ). new ++ l) (drop_all (7920 + length new) F (omega arith)) ∙ append-nil new

first_apart : (bs : List ℕ) (x : ℕ) → length bs ≡ 8 → get_or bs 0 0 ≡ x → x ∷ drop 1 bs ≡ bs
first_apart [] x h e = absurd (omega arith)
first_apart (b ∷ bs) x h e = ap (λ (y : ℕ). y ∷ bs) (sym e)

pub closes : Closes
closes F b h w e =
    let new : List ℕ = drop 1 b.bytes in
    let G : List ℕ = splice 7920 (drop 1 b.bytes) F in
    let seven : length (drop 1 b.bytes) ≡ 7 = length-drop 1 b.bytes ∙ omega arith in
    let told : IsOfClass (End 7) b = (classes_told b (End 7)).0 e in
    let at : get_or (frame_of (splice 7920 (drop 1 b.bytes) F)) 991 start_block ≡ b =
    frame_at (splice 7920 (drop 1 b.bytes) F) 991 start_block (omega arith)
    ∙ sym (same_block b (record { sync = Control; bytes = 0xFF ∷ drop 7920 (splice 7920 (drop 1 b.bytes) F) }) told.0
    (sym (ap (λ (l : List ℕ). 0xFF ∷ l) (end_stored F new h seven) ∙ first_apart b.bytes 0xFF w told.2))) in
    sym (take_all 992 (frame_of G) (omega (arith, frame_length (splice 7920 (drop 1 b.bytes) F))))
    ∙ take_more (frame_of G) 991 start_block (omega (arith, frame_length (splice 7920 (drop 1 b.bytes) F)))
    ∙ ap₂ (λ (bs : List Block) (c : Block). bs ++ (c ∷ [])) (blocks_below F new 7920 991 (omega arith) (omega arith) (omega arith)) at

carried : CarriedStored
carried bs F h w k = stored_carried bs F h k (λ j l. w j start_block (omega arith))

-- ---- a frame in its parts
-- the class of an entry
class_at : (bs : List Block) (i : ℕ) (c : Class) (d : Block) → i < length bs → option_map class_of (slice_get bs i) ≡ Some c → class_of (get_or bs i d) ≡ c
class_at bs i c d h e =
    let f : Some (class_of (get_or bs i d)) ≡ Some c = ap (option_map class_of) (sym (slice_get-get_or bs i d h)) ∙ e in
    cc

parts : (bs : List Block) → IsFrameShape bs → InParts bs
parts [] s = absurd (omega (arith, s.many))
parts (b ∷ bs) s =
    let n : length bs ≡ 991 = omega (arith, s.many) in
    let tail : drop 990 bs ≡ get_or bs 990 start_block ∷ [] =
    drop_more bs 990 start_block (omega arith) ∙ ap (λ (l : List Block). get_or bs 990 start_block ∷ l) (drop_all 991 bs (omega arith)) in
    let first : Some b ≡ Some start_block = s.opens in
    let start : b ≡ start_block = cc in
    record {
      middle = take 990 bs;
      last = get_or bs 990 start_block;
      are =
          ap₂ (λ (x : Block) (l : List Block). x ∷ l) start
          (sym (ap (λ (l : List Block). take 990 bs ++ l) (sym tail) ∙ take-append-drop 990 bs));
      many = length-take-le 990 bs (omega arith);
      data_blocks = λ k d h.
          let m : k < 990 = omega (arith, length-take-le 990 bs (omega arith)) in
          ap class_of (get_or-take 990 bs k d m) ∙ class_at (b ∷ bs) (suc k) Data d (omega arith) (s.data_blocks (suc k) (omega arith) (omega arith));
      ends = class_at (b ∷ bs) 991 (End 7) start_block (omega arith) s.ends;
    }

pub by_blocks : ByBlocks
by_blocks = record { leaves = leaves; opens = opens; grows = grows; closes = closes; carried = carried; parts = parts }
