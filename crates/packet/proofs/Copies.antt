-- What one more copied part adds to an output whose front is made.
use Rattle.std.proofs.Common.{◌≡◌, ℕ, ◌+◌, ◌*◌, ◌<◌, List, ◌++◌, length, get_or, take, drop, sym, refl, ap, ◌∙◌, arith, length-append}
use borrow.Rule.Slice.PartMut.{put_mid}
use Rattle.std.specs.List.{flat_map}
use Rattle.std.proofs.lemmas.List.{take_at, drop_at, drop-drop, append_assoc, get_or_default}
use Rattle.block.specs.declared.Block.{Block}
use Rattle.packet.specs.Format.{opening_block}
use Rattle.packet.specs.Spans.{bytes_in, span_bytes}
use Rattle.packet.proofs.Carried.{joined_next}

-- the front, then a part of k entries
part_more : {A : Type 0} (front part out made : List A) (a k n : ℕ) → made ≡ front ++ drop a out → length front ≡ a → a + k ≡ n → put_mid a k made part ≡ (front ++ part) ++ drop n out
part_more front part out made a k n m e s =
    ap (λ (l : List _). put_mid a k l part) m
    ∙ rw (take_at front (drop a out) a e, drop_at front (drop a out) a e, drop-drop, s, append_assoc) refl

-- the output so far: the bytes of the first n blocks, eight each
pub record Copied (bs : List Block) (n : ℕ) (made out : List ℕ) : Type 0 where
  pub is : made ≡ flat_map bytes_in (take n bs) ++ drop (8 * n) out
  pub long : length (flat_map bytes_in (take n bs)) ≡ 8 * n

pub copied_more : (bs : List Block) (n k : ℕ) (d : Block) (made out part : List ℕ) → n < length bs → k ≡ 8 → part ≡ (get_or bs n d).bytes → length part ≡ 8 → Copied bs n made out → Copied bs (n + 1) (put_mid (8 * n) k made part) out
copied_more bs n k d made out part l s e g w = record {
  is = part_more (flat_map bytes_in (take n bs)) part out made (8 * n) k (8 * (n + 1)) w.is w.long (omega arith)
      ∙ ap (λ xs. xs ++ drop (8 * (n + 1)) out) (rw (joined_next bs n d l, e) refl);
  long = rw (joined_next bs n d l, sym e) (simp length-append (omega (arith, w.long)));
}

pub copied_end : (bs : List Block) (n k r : ℕ) (d : Block) (made out part : List ℕ) → n < length bs → k ≡ r → part ≡ take r (drop 1 (get_or bs n d).bytes) → Copied bs n made out → put_mid (8 * n) k made part ≡ span_bytes bs n r ++ drop (8 * n + r) out
copied_end bs n k r d made out part l s e w =
    part_more (flat_map bytes_in (take n bs)) part out made (8 * n) k (8 * n + r) w.is w.long (omega arith)
    ∙ ap (λ (xs : List ℕ). (flat_map bytes_in (take n bs) ++ xs) ++ drop (8 * n + r) out) (e ∙ ap (λ (b : Block). take r (drop 1 b.bytes)) (get_or_default bs n d opening_block l))
