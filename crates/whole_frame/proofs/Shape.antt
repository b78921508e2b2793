-- The shape of frames and altered frames, and that their blocks are whole.
use Rattle.std.proofs.Common.{◌≡◌, ℕ, zero, suc, ◌+◌, ◌-◌, ◌*◌, ◌<◌, List, [], ◌∷◌, ◌++◌, length, take, drop, replicate, refl, ⊎_elim, sym, ap, ◌∙◌, subst, arith, length-append, length-drop, lit<}
use Rattle.std.specs.Prelude.{Some, slice_get}
use Rattle.std.specs.Option.{option_map}
use Rattle.std.specs.List.{All}
use Rattle.std.proofs.lemmas.Bool.{cases_eq}
use Rattle.std.proofs.lemmas.List.{length-take-le}
use Rattle.block.specs.declared.Block.{Block}
use Rattle.block.specs.declared.Pair.{Pair}
use Rattle.block.specs.declared.Class.TheVariants.{Data}
use Rattle.block.specs.Classes.{class_of}
use Rattle.block.proofs.Classes.{classes_told}
use Rattle.block.specs.Fixed.{start_block}
use Rattle.block.specs.Whole.{Bytes, Whole}
use Rattle.payload.specs.Payloads.{payload_of}
use Rattle.overhead.specs.Format.{Fields, overhead_bytes}
use Rattle.overhead.proofs.Coding.{coded as overhead_coded, overhead_seven}
use Rattle.frame.specs.Frames.{IsFrameShape, frame_block, frame_of}
use Rattle.frame.proofs.Carried.{frame_data}
use Rattle.frame.proofs.Frames.{frame_at, frame_length, frame_shaped}
use Rattle.whole_frame.specs.Meaning.{frame_written}
use Rattle.whole_frame.specs.Laws.{AlteredShaped}
use Rattle.payload.proofs.Payloads.{payload_is_bytes, payload_length}

pub written_shaped : (f : Fields) (pairs : List Pair) → IsFrameShape (frame_written f pairs)
unfolding frame_written
written_shaped f pairs = frame_shaped (overhead_bytes f ++ payload_of pairs)

-- ---- another second block
-- the class of every other entry stays
other_at : (a b c : Block) (rest : List Block) (n : ℕ) → (n ≡ 1 → ⊥) → slice_get (a ∷ c ∷ rest) n ≡ slice_get (a ∷ b ∷ rest) n
other_at a b c rest zero h = refl
other_at a b c rest (suc zero) h = absurd (h refl)
other_at a b c rest (suc (suc n)) h = refl

same_shape : (a b c : Block) (rest : List Block) → IsFrameShape (a ∷ b ∷ rest) → c.sync ≡ b.sync → IsFrameShape (a ∷ c ∷ rest)
same_shape a b c rest s e =
    let d : option_map class_of (Some b) ≡ Some Data = s.data_blocks 1 (omega arith) (omega arith) in
    let load : class_of b ≡ Data = cc in
    record {
      many = s.many;
      opens = s.opens;
      data_blocks = λ n h k.
          ⊎_elim (λ (z : n ≡ 1). ap (λ (i : ℕ). option_map class_of (slice_get (a ∷ c ∷ rest) i)) z ∙ ap Some ((classes_told c Data).1 (e ∙ (classes_told b Data).0 load)))
          (λ z. ap (option_map class_of) (other_at a b c rest n z) ∙ s.data_blocks n h k)
          (cases_eq n 1);
      ends = ap (option_map class_of) (other_at a b c rest 991 (λ z. omega arith)) ∙ s.ends;
    }

pub altered_shaped : AlteredShaped
altered_shaped sent came s t =
    subst IsFrameShape (sym t.is) (same_shape t.first t.head t.other t.rest (subst IsFrameShape t.was s) t.sync)

-- ---- whole blocks
more_bytes : (x : ℕ) (l : List ℕ) → x < 256 → Bytes l → Bytes (x ∷ l)
more_bytes x l h t zero = h
more_bytes x l h t (suc i) = t i

append_bytes : (l m : List ℕ) → Bytes l → Bytes m → Bytes (l ++ m)
append_bytes [] m s t i = t i
append_bytes (x ∷ l) m s t zero = s 0
append_bytes (x ∷ l) m s t (suc i) = append_bytes l m (λ j. s (suc j)) t i

take_bytes : (n : ℕ) (l : List ℕ) → Bytes l → Bytes (take n l)
take_bytes zero l t i = omega arith
take_bytes (suc n) [] t i = omega arith
take_bytes (suc n) (x ∷ l) t zero = t 0
take_bytes (suc n) (x ∷ l) t (suc i) = take_bytes n l (λ j. t (suc j)) i

drop_bytes : (n : ℕ) (l : List ℕ) → Bytes l → Bytes (drop n l)
drop_bytes zero l t i = t i
drop_bytes (suc n) [] t i = omega arith
drop_bytes (suc n) (x ∷ l) t i = drop_bytes n l (λ j. t (suc j)) i

zeros_bytes : (n : ℕ) → Bytes (replicate n 0)
zeros_bytes zero = λ i. omega arith
zeros_bytes (suc n) = more_bytes 0 (replicate n 0) (lit< tt) (zeros_bytes n)

start_whole : Whole start_block
start_whole = (refl, more_bytes 0x78 (replicate 7 0) (lit< tt) (zeros_bytes 7))

block_whole : (F : List ℕ) → length F ≡ 7927 → Bytes F → (n : ℕ) → n < 992 → Whole (frame_block F (n + 1))
block_whole F h t n l =
    ⊎_elim (λ (e : n + 1 ≡ 1). subst (λ (k : ℕ). Whole (frame_block F k)) (sym e) start_whole)
    (λ x. ⊎_elim
    (λ (e : n + 1 ≡ 992). subst (λ (k : ℕ). Whole (frame_block F k)) (sym e)
    (ap suc (length-drop 7920 F ∙ omega arith), more_bytes 0xFF (drop 7920 F) (lit< tt) (drop_bytes 7920 F t)))
    (λ y. subst Whole (sym (frame_data F (n + 1) x y))
    (length-take-le 8 (drop (8 * (n + 1 - 2)) F) (omega (arith, length-drop (8 * (n + 1 - 2)) F)), take_bytes 8 (drop (8 * (n + 1 - 2)) F) (drop_bytes (8 * (n + 1 - 2)) F t)))
    (cases_eq (n + 1) 992))
    (cases_eq (n + 1) 1)

all_whole : (F : List ℕ) → length F ≡ 7927 → Bytes F → All Whole (frame_of F)
all_whole F h t k d l =
    let m : k < 992 = omega (arith, frame_length F) in
    subst Whole (sym (frame_at F k d m)) (block_whole F h t k m)

pub written_whole : (f : Fields) (pairs : List Pair) → All Whole (frame_written f pairs)
unfolding frame_written
written_whole f pairs =
    all_whole (overhead_bytes f ++ payload_of pairs)
    (length-append (overhead_bytes f) (payload_of pairs) ∙ omega (arith, overhead_seven f, payload_length pairs))
    (append_bytes (overhead_bytes f) (payload_of pairs) (overhead_coded.shape f).bytes (payload_is_bytes pairs))
