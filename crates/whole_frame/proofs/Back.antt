-- What was written is read back, and few changes of its overhead are seen.
use Rattle.std.proofs.Common.{◌≡◌, ℕ, ◌<◌, ◌≤◌, List, ◌∷◌, ◌++◌, length, get_or, take, drop, Ok, Err, sym, ap, ap₂, ◌∙◌, subst, append_assoc, arith}
use Rattle.std.specs.List.{flat_map}
use Rattle.std.proofs.lemmas.List.{drop_at, length-take-le, take-append-le, take_at, take-take}
use Rattle.block.specs.declared.Block.{Block}
use Rattle.block.specs.declared.Pair.{Pair}
use Rattle.block.specs.Fixed.{start_block}
use Rattle.crc.specs.Laws.{weight}
use Rattle.payload.specs.Payloads.{pairs_of, payload_of}
use Rattle.overhead.specs.Format.{Fields, overhead_bytes, read_bytes}
use Rattle.overhead.specs.Laws.{ChangesSeen, changes}
use Rattle.overhead.specs.declared.OverheadFault.{OverheadFault}
use Rattle.overhead.specs.declared.OverheadFault.TheVariants.{WrongRemainder}
use Rattle.overhead.proofs.Coding.{coded as overhead_coded, overhead_seven}
use Rattle.frame.specs.Frames.{carried_by, frame_block, frame_of}
use Rattle.frame.proofs.Frames.{frame_at, frame_carries}
use Rattle.whole_frame.specs.Meaning.{content_with, frame_read, frame_written, overhead_read, pairs_read}
use Rattle.whole_frame.specs.Laws.{IsAltered, FramesCoded, Sendable}
use Rattle.payload.proofs.Payloads.{pairs_back}
use Rattle.whole_frame.proofs.Shape.{written_shaped, written_whole}

-- a frame's overhead and pairs, read where they lie
pub overhead_there : (o p : List ℕ) → length o ≡ 7 → overhead_read (frame_of (o ++ p)) ≡ read_bytes o
unfolding overhead_read
overhead_there o p h = ap (λ (F : List ℕ). read_bytes (take 7 F)) (frame_carries (o ++ p)) ∙ ap read_bytes (take_at o p 7 h)

pub pairs_there : (o p : List ℕ) → length o ≡ 7 → pairs_read (frame_of (o ++ p)) ≡ pairs_of p
unfolding pairs_read
pairs_there o p h = ap (λ (F : List ℕ). pairs_of (drop 7 F)) (frame_carries (o ++ p)) ∙ ap pairs_of (drop_at o p 7 h)

back : (f : Fields) (pairs : List Pair) → Sendable f pairs → frame_read (frame_written f pairs) ≡ Ok (record { fields = f; pairs = pairs })
unfolding frame_written frame_read
back f pairs s =
    ap₂ content_with
    (pairs_there (overhead_bytes f) (payload_of pairs) (overhead_seven f) ∙ pairs_back pairs s.many s.whole)
    (overhead_there (overhead_bytes f) (payload_of pairs) (overhead_seven f) ∙ overhead_coded.back f s.fields)

-- the overhead is what the first seven bytes of the second block are
head_carried : (a b : Block) (rest : List Block) → length b.bytes ≡ 8 → take 7 (carried_by (a ∷ b ∷ rest)) ≡ take 7 b.bytes
head_carried a b rest h =
    let X : List ℕ = flat_map (λ (b : Block). b.bytes) (take 989 rest) in
    let Y : List ℕ = drop 1 (get_or (a ∷ b ∷ rest) 991 start_block).bytes in
    ap (λ (l : List ℕ). take 7 l) (append_assoc b.bytes X Y) ∙ take-append-le 7 b.bytes (X ++ Y) (omega arith)

head_wrong : (a b : Block) (rest : List Block) (e : OverheadFault) → length b.bytes ≡ 8 → read_bytes (take 7 b.bytes) ≡ Err e → frame_read (a ∷ b ∷ rest) ≡ Err e
unfolding frame_read overhead_read
head_wrong a b rest e h r =
    ap (content_with (pairs_read (a ∷ b ∷ rest))) (ap read_bytes (head_carried a b rest h) ∙ r)

-- the second block of a frame begins with its overhead
head_begins : (o p : List ℕ) (a b : Block) (rest : List Block) → length o ≡ 7 → frame_of (o ++ p) ≡ a ∷ b ∷ rest → take 7 b.bytes ≡ o
head_begins o p a b rest h e =
    let head : b ≡ frame_block (o ++ p) 2 = sym (ap (λ (bs : List Block). get_or bs 1 start_block) e) ∙ frame_at (o ++ p) 1 start_block (omega arith) in
    ap (λ (x : Block). take 7 x.bytes) head ∙ take-take 7 8 (o ++ p) (omega arith) ∙ take_at o p 7 h

seen : (f : Fields) (pairs : List Pair) (came : List Block) → Sendable f pairs → IsAltered (frame_written f pairs) came → frame_read came ≡ Err WrongRemainder
unfolding frame_written
seen f pairs came s t =
    let sent : take 7 t.head.bytes ≡ overhead_bytes f = head_begins (overhead_bytes f) (payload_of pairs) t.first t.head t.rest (overhead_seven f) t.was in
    let law : ChangesSeen (overhead_bytes f) = overhead_coded.seen f in
    let some : 0 < weight (changes (overhead_bytes f) (take 7 t.other.bytes)) = subst (λ (l : List ℕ). 0 < weight (changes l (take 7 t.other.bytes))) sent t.some in
    let few : weight (changes (overhead_bytes f) (take 7 t.other.bytes)) ≤ 3 = subst (λ (l : List ℕ). weight (changes l (take 7 t.other.bytes)) ≤ 3) sent t.few in
    ap frame_read t.is
    ∙ head_wrong t.first t.other t.rest WrongRemainder t.eight
    (law.few (take 7 t.other.bytes) (length-take-le 7 t.other.bytes (omega (arith, t.eight))) some few)

pub coded : FramesCoded
coded = record { shape = λ f pairs s. written_shaped f pairs; whole = λ f pairs s. written_whole f pairs; back = back; seen = seen }
