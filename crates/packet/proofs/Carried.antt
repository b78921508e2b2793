-- What a walk over data blocks has found so far.
use Rattle.std.proofs.Common.{◌≡◌, ℕ, ◌+◌, ◌*◌, ◌<◌, ◌≤◌, Bool, true, false, List, [], ◌∷◌, ◌++◌, length, get_or, take, drop, Some, None, sym, refl, ap, ◌∙◌, add_assoc, arith, length-append, length-drop, length-take}
use Rattle.std.specs.List.{flat_map}
use Rattle.std.proofs.lemmas.List.{drop_more, take_more, append_assoc, drop_all, get_or_default, flat_map_more}
use Rattle.std.proofs.lemmas.Bool.Decides.{nat_tests}
use Rattle.block.specs.declared.Block.{Block}
use Rattle.block.specs.declared.Class.{Class}
use Rattle.block.specs.declared.Class.TheVariants.{Data, Idle, Characters, OrderedSet, Start, End, Unlawful}
use Rattle.block.specs.Classes.{class_of}
use Rattle.block.proofs.Classes.{classes_told}
use Rattle.packet.specs.Format.{opening_block, is_packet_length}
use Rattle.packet.specs.Reading.{FoundPacket, with_bytes_before, found_to_end, found_of_length}
use Rattle.std.specs.Bool.{then_some}
use Rattle.std.specs.Prelude.{MatchOption}
use Rattle.packet.specs.declared.Extent.{Extent}
use Rattle.packet.specs.Spans.{bytes_in, span_bytes, Spans}

-- an end carries at most seven bytes
pub end_few : (b : Block) (n : ℕ) → End n ≡ class_of b → n < 8
end_few b n e = ((classes_told b (End n)).0 (sym e)).1

-- n blocks with these bytes in front
abbrev pub shifted : List ℕ → ℕ → FoundPacket → FoundPacket
shifted bytes n None = None
shifted bytes n (Some found) = Some (bytes ++ found.0, n + found.1)

-- the first n blocks are data, of eight bytes each
pub record Walked (bs : List Block) (n : ℕ) : Type 0 where
  pub is : found_to_end bs ≡ shifted (flat_map bytes_in (take n bs)) n (found_to_end (drop n bs))
  pub long : length (flat_map bytes_in (take n bs)) ≡ 8 * n

shifted_prefixed : (xs ys : List ℕ) (n : ℕ) (f : FoundPacket) → shifted xs n (with_bytes_before ys f) ≡ shifted (xs ++ ys) (n + 1) f
shifted_prefixed xs ys n None = refl
shifted_prefixed xs ys n (Some f) = rw (append_assoc, add_assoc) refl

carried_data : (b : Block) (bs : List Block) → Data ≡ class_of b → found_to_end (b ∷ bs) ≡ with_bytes_before b.bytes (found_to_end bs)
unfolding found_to_end
carried_data b bs e = rw (found_to_end, sym e) refl

carried_end : (b : Block) (bs : List Block) (n : ℕ) → End n ≡ class_of b → found_to_end (b ∷ bs) ≡ Some (take n (drop 1 b.bytes), 1)
unfolding found_to_end
carried_end b bs n e = rw (found_to_end, sym e) refl

pub joined_next : (bs : List Block) (n : ℕ) (d : Block) → n < length bs → flat_map bytes_in (take (n + 1) bs) ≡ flat_map bytes_in (take n bs) ++ (get_or bs n d).bytes
joined_next bs n d l = ap (flat_map bytes_in) (take_more bs n d l) ∙ sym (flat_map_more bytes_in [] (take n bs) (get_or bs n d))

pub walked_more : (bs : List Block) (n : ℕ) (d : Block) → n < length bs → Walked bs n → Data ≡ class_of (get_or bs n d) → length (get_or bs n d).bytes ≡ 8 → Walked bs (n + 1)
walked_more bs n d l w e k = record {
  is = w.is ∙ ap (shifted (flat_map bytes_in (take n bs)) n) (ap found_to_end (drop_more bs n d l) ∙ carried_data (get_or bs n d) (drop (n + 1) bs) e)
      ∙ shifted_prefixed (flat_map bytes_in (take n bs)) (get_or bs n d).bytes n (found_to_end (drop (n + 1) bs))
      ∙ ap (λ xs. shifted xs (n + 1) (found_to_end (drop (n + 1) bs))) (sym (joined_next bs n d l));
  long = rw (joined_next bs n d l) (simp length-append (omega (arith, w.long)));
}

-- what is found where the walk comes to an end
ended : (bs : List Block) (n k : ℕ) (d : Block) → n < length bs → Walked bs n → End k ≡ class_of (get_or bs n d) → found_to_end bs ≡ Some (span_bytes bs n k, n + 1)
ended bs n k d l w e =
    w.is
    ∙ ap (shifted (flat_map bytes_in (take n bs)) n) (ap found_to_end (drop_more bs n d l) ∙ carried_end (get_or bs n d) (drop (n + 1) bs) k e)
    ∙ ap (λ (b : Block). Some (flat_map bytes_in (take n bs) ++ take k (drop 1 b.bytes), n + 1)) (get_or_default bs n d opening_block l)

spanned_long : (bs : List Block) (n k : ℕ) (d : Block) → n < length bs → Walked bs n → length (get_or bs n d).bytes ≡ 8 → k < 8 → length (span_bytes bs n k) ≡ 8 * n + k
spanned_long bs n k d l w g f =
    let m : length (get_or bs n opening_block).bytes ≡ 8 = ap (λ (b : Block). length b.bytes) (get_or_default bs n opening_block d l) ∙ g in
    simp (length-append, length-take, length-drop) (omega (arith, w.long))

sized_in : (p : List ℕ) (n used : ℕ) → length p ≡ n → true ≡ is_packet_length n → found_of_length (Some (p, used)) ≡ Some (p, used)
sized_in p n used e t = rw (e, sym t) refl

sized_out : (p : List ℕ) (n used : ℕ) → length p ≡ n → false ≡ is_packet_length n → found_of_length (Some (p, used)) ≡ None
sized_out p n used e t = rw (e, sym t) refl

-- the walk comes to an end: a packet of so many bytes, if a packet may have them
module _ (bs : List Block) (n k : ℕ) (d : Block) (l : n < length bs) (w : Walked bs n) (e : End k ≡ class_of (get_or bs n d)) (g : length (get_or bs n d).bytes ≡ 8) where
  pub spans : true ≡ is_packet_length (8 * n + k) → Spans bs (found_of_length (found_to_end bs)) n k
  spans t =
      let f : k < 8 = end_few (get_or bs n d) k e in
      let long = spanned_long bs n k d l w g f in
      record { is = ap found_of_length (ended bs n k d l w e) ∙ sized_in (span_bytes bs n k) (8 * n + k) (n + 1) long t; long = long; inside = l; few = f }

  pub none_sized : false ≡ is_packet_length (8 * n + k) → found_of_length (found_to_end bs) ≡ None
  none_sized t =
      ap found_of_length (ended bs n k d l w e) ∙ sized_out (span_bytes bs n k) (8 * n + k) (n + 1) (spanned_long bs n k d l w g (end_few (get_or bs n d) k e)) t

-- the extent there, if so many bytes are in range
pub extent_there : (bs : List Block) (n k : ℕ) (d : Block) → n < length bs → Walked bs n → End k ≡ class_of (get_or bs n d) → length (get_or bs n d).bytes ≡ 8 → (t : Bool) → t ≡ is_packet_length (8 * n + k) → MatchOption (then_some t (record { whole = n; left = k })) (found_of_length (found_to_end bs) ≡ None) (λ (e : Extent). Spans bs (found_of_length (found_to_end bs)) e.whole e.left)
extent_there bs n k d l w e g true t = spans bs n k d l w e g t
extent_there bs n k d l w e g false t = none_sized bs n k d l w e g t

carried_other : (b : Block) (bs : List Block) → (class_of b ≡ Data → ⊥) → ((n : ℕ) → class_of b ≡ End n → ⊥) → found_to_end (b ∷ bs) ≡ None
unfolding found_to_end
carried_other b bs f g = go (class_of b) refl
  where
    go : (c : Class) → class_of b ≡ c → found_to_end (b ∷ bs) ≡ None
    go Data e = absurd (f e)
    go (End n) e = absurd (g n e)
    go Idle e = rw (found_to_end, e) refl
    go Characters e = rw (found_to_end, e) refl
    go OrderedSet e = rw (found_to_end, e) refl
    go Start e = rw (found_to_end, e) refl
    go Unlawful e = rw (found_to_end, e) refl

-- the walk comes to a block that is neither data nor an end
pub none_other : (bs : List Block) (n : ℕ) (d : Block) → n < length bs → Walked bs n → (class_of (get_or bs n d) ≡ Data → ⊥) → ((k : ℕ) → class_of (get_or bs n d) ≡ End k → ⊥) → found_of_length (found_to_end bs) ≡ None
none_other bs n d l w f g =
    ap found_of_length (w.is ∙ ap (shifted (flat_map bytes_in (take n bs)) n) (ap found_to_end (drop_more bs n d l) ∙ carried_other (get_or bs n d) (drop (n + 1) bs) f g))

sized_long : (xs : List ℕ) (n : ℕ) (f : FoundPacket) → 2000 < length xs → found_of_length (shifted xs n f) ≡ None
sized_long xs n None l = refl
sized_long xs n (Some f) l =
    let m : 2000 < length (xs ++ f.0) = simp length-append (omega arith) in
    let t : is_packet_length (length (xs ++ f.0)) ≡ false = grind (arith, nat_tests) in
    rw t refl

-- the walk comes to more data than a packet has
pub none_long : (bs : List Block) (n : ℕ) → Walked bs n → 2000 < 8 * n → found_of_length (found_to_end bs) ≡ None
none_long bs n w h = ap found_of_length w.is ∙ sized_long (flat_map bytes_in (take n bs)) n (found_to_end (drop n bs)) (omega (arith, w.long))

-- the walk comes to the last block
pub none_ended : (bs : List Block) (n : ℕ) → Walked bs n → length bs ≤ n → found_of_length (found_to_end bs) ≡ None
unfolding found_to_end
none_ended bs n w l = ap found_of_length (w.is ∙ ap (λ ds. shifted (flat_map bytes_in (take n bs)) n (found_to_end ds)) (drop_all n bs l))
