-- Every frame that can be sent can come altered.
use Rattle.std.proofs.Common.{◌≡◌, ℕ, suc, Bool, true, false, List, [], ◌∷◌, ◌++◌, length, get_or, take, drop, refl, sym, ap, ap₂, ◌∙◌, subst, arith, length-append, length-drop}
use Rattle.std.specs.Prelude.{not}
use Rattle.std.proofs.lemmas.List.{drop_at, drop_more, drop-take, length-take-le, take-take}
use Rattle.bits.specs.Bits.{bits, field, packed_bytes}
use Rattle.bits.proofs.Packing.{length_packed}
use Rattle.bits.proofs.Parts.{take_bits}
use Rattle.bits.proofs.Places.{length_bits, numbered}
use Rattle.crc.specs.Laws.{weight, xors}
use Rattle.block.specs.declared.Block.{Block}
use Rattle.block.specs.Fixed.{start_block}
use Rattle.overhead.specs.Laws.{changes}
use Rattle.block.specs.declared.Pair.{Pair}
use Rattle.overhead.specs.Format.{Fields}
use Rattle.frame.specs.Frames.{IsFrameShape}
use Rattle.whole_frame.specs.Meaning.{frame_written}
use Rattle.whole_frame.specs.Laws.{IsAltered, Alterable}
use Rattle.whole_frame.proofs.Shape.{written_shaped, written_whole}

same_weight : (bs : List Bool) → weight (xors bs bs) ≡ 0
same_weight [] = refl
same_weight (true ∷ bs) = same_weight bs
same_weight (false ∷ bs) = same_weight bs

turned_weight : (b : Bool) (bs : List Bool) → weight (xors (b ∷ bs) (not b ∷ bs)) ≡ 1
turned_weight true bs = ap suc (same_weight bs)
turned_weight false bs = ap suc (same_weight bs)

-- a block's bits with bit 10 turned, and its bytes
pub turned : List Bool → List Bool
turned l = take 10 l ++ (not (get_or l 10 false) ∷ drop 11 l)

turned_length : (l : List Bool) → length l ≡ 64 → length (turned l) ≡ 64
unfolding turned
turned_length l h =
    length-append (take 10 l) (not (get_or l 10 false) ∷ drop 11 l)
    ∙ omega (arith, length-take-le 10 l (omega arith), length-drop 11 l)

-- bits 10 to 55 of seven bytes of eight
seven_field : (bs : List ℕ) → field (take 7 bs) 10 56 ≡ take 46 (drop 10 (bits bs))
seven_field bs =
    ap (λ (l : List Bool). take 46 (drop 10 l)) (sym (take_bits 7 bs))
    ∙ ap (λ (l : List Bool). take 46 l) (drop-take 10 46 (bits bs))
    ∙ take-take 46 46 (drop 10 (bits bs)) (omega arith)

turned_behind : (l : List Bool) → length l ≡ 64 → drop 10 (turned l) ≡ not (get_or l 10 false) ∷ drop 11 l
unfolding turned
turned_behind l h = drop_at (take 10 l) (not (get_or l 10 false) ∷ drop 11 l) 10 (length-take-le 10 l (omega arith))

one_changed : (bs : List ℕ) → length bs ≡ 8 → weight (changes (take 7 bs) (take 7 (packed_bytes 8 (turned (bits bs))))) ≡ 1
one_changed bs h =
    let l : List Bool = bits bs in
    let long : length (bits bs) ≡ 64 = length_bits bs ∙ omega arith in
    let sent : bits (packed_bytes 8 (turned (bits bs))) ≡ turned (bits bs) = numbered.unpacks 8 (turned (bits bs)) (turned_length (bits bs) long) in
    let was : field (take 7 bs) 10 56 ≡ get_or l 10 false ∷ take 45 (drop 11 l) =
    seven_field bs ∙ ap (λ (x : List Bool). take 46 x) (drop_more l 10 false (omega arith)) in
    let is : field (take 7 (packed_bytes 8 (turned (bits bs)))) 10 56 ≡ not (get_or l 10 false) ∷ take 45 (drop 11 l) =
    seven_field (packed_bytes 8 (turned (bits bs)))
    ∙ ap (λ (x : List Bool). take 46 (drop 10 x)) sent
    ∙ ap (λ (x : List Bool). take 46 x) (turned_behind (bits bs) long) in
    ap₂ (λ (x y : List Bool). weight (xors x y)) was is ∙ turned_weight (get_or l 10 false) (take 45 (drop 11 l))

pub alterable : (first head : Block) (rest : List Block) → length head.bytes ≡ 8 →
    (let other : Block = record { sync = head.sync; bytes = packed_bytes 8 (turned (bits head.bytes)) } in IsAltered (first ∷ head ∷ rest) (first ∷ other ∷ rest))
alterable first head rest h = record {
  first = first;
  head = head;
  other = record { sync = head.sync; bytes = packed_bytes 8 (turned (bits head.bytes)) };
  rest = rest;
  was = refl;
  is = refl;
  sync = refl;
  eight = length_packed 8 (turned (bits head.bytes));
  some = omega (arith, one_changed head.bytes h);
  few = omega (arith, one_changed head.bytes h);
}

-- the second block of a frame
record Second (blocks : List Block) : Type 0 where
  first : Block
  head : Block
  rest : List Block
  are : blocks ≡ first ∷ head ∷ rest

second_there : (blocks : List Block) → length blocks ≡ 992 → Second blocks
second_there [] h = absurd (omega arith)
second_there (a ∷ []) h = absurd (omega arith)
second_there (a ∷ b ∷ rest) h = record { first = a; head = b; rest = rest; are = refl }

pub some_altered : (f : Fields) (pairs : List Pair) → Alterable f pairs
some_altered f pairs =
    let s : IsFrameShape (frame_written f pairs) = written_shaped f pairs in
    let t : Second (frame_written f pairs) = second_there (frame_written f pairs) s.many in
    let at : get_or (frame_written f pairs) 1 start_block ≡ t.head = ap (λ (bs : List Block). get_or bs 1 start_block) t.are in
    let eight : length t.head.bytes ≡ 8 =
    ap (λ (b : Block). length b.bytes) (sym at) ∙ (written_whole f pairs 1 start_block (omega (arith, s.many))).0 in
    let other : Block = record { sync = t.head.sync; bytes = packed_bytes 8 (turned (bits t.head.bytes)) } in
    record {
      came = t.first ∷ other ∷ t.rest;
      altered = subst (λ (bs : List Block). IsAltered bs (t.first ∷ other ∷ t.rest)) (sym t.are) (alterable t.first t.head t.rest eight);
    }
