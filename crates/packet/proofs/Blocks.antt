-- The blocks of a packet one by one: how many there are, and what one more data block adds.
use Rattle.std.proofs.Common.{◌≡◌, ℕ, zero, suc, ◌+◌, ◌-◌, ◌*◌, ◌/◌, ◌<◌, ◌≤◌, List, [], ◌∷◌, ◌++◌, length, get_or, take, drop, set, replicate, Some, sym, refl, ap, ◌∙◌, add-one, arith, length-append}
use Rattle.std.specs.List.{slice_get}
use Rattle.std.specs.Simd.{first_chunks}
use Rattle.std.proofs.lemmas.List.{drop-replicate, drop-drop, set_at, drop_all, drop_more, drop-set-lt, append_assoc, length-set}
use Rattle.block.specs.declared.Block.{Block}
use Rattle.block.specs.declared.Sync.TheVariants.{Control}
use Rattle.block.specs.Classes.{end_types}
use Rattle.block.specs.Fixed.{idle_block}
use Rattle.packet.specs.Format.{opening_block, block_count, HasBlocks, SixtyFourBytes, end_block, data_block, data_blocks, packet_blocks}
use Rattle.packet.specs.Answers.{over}

-- an end as code makes it: eight zeros, then its type, then the bytes
pub end_made : (left copied : List ℕ) → copied ≡ left → ◌≡◌ {A = Block} (record { sync = Control; bytes = get_or end_types (length left) 0 ∷ (copied ++ drop (1 + length left - 1) (replicate 7 0)) }) (end_block left)
unfolding end_block
end_made left copied e =
    let n : 1 + length left - 1 ≡ length left = omega arith in
    rw (e, n, drop-replicate {X = ℕ} (length left) 7 0) refl

pub length_data_blocks : (n : ℕ) (p : List ℕ) → length (data_blocks n p) ≡ n
unfolding data_blocks
length_data_blocks zero p = refl
length_data_blocks (suc n) p = ap suc (length_data_blocks n (drop 8 p))

pub data_blocks_more : (n : ℕ) (p : List ℕ) → data_blocks (n + 1) p ≡ data_blocks n p ++ (data_block (take 8 (drop (8 * n) p)) ∷ [])
unfolding data_blocks
data_blocks_more n p = rw add-one (go n p)
  where
    go : (n : ℕ) (p : List ℕ) → data_blocks (suc n) p ≡ data_blocks n p ++ (data_block (take 8 (drop (8 * n) p)) ∷ [])
    go zero p = refl
    go (suc n) p =
        let e : 8 + 8 * n ≡ 8 * suc n = omega arith in
        ap (λ l. data_block (take 8 p) ∷ l) (go n (drop 8 p) ∙ rw (drop-drop, e) refl)

pub length_packet_blocks : (p : List ℕ) → length (packet_blocks p) ≡ block_count (length p)
unfolding packet_blocks
length_packet_blocks p = simp (length-append, length_data_blocks) (omega arith)

pub has_blocks : (bytes : ℕ) → HasBlocks bytes (block_count bytes)
has_blocks bytes p e = length_packet_blocks p ∙ ap block_count e

pub sixty_four : SixtyFourBytes
unfolding packet_blocks data_blocks end_block
sixty_four p e = (length_packet_blocks p ∙ ap block_count e, rw (e, drop_all 64 p (omega arith)) refl)

-- the i-th chunk of eight bytes, and what is left behind n of them
pub chunk_is : (n i : ℕ) (p d : List ℕ) → i < n → get_or (first_chunks 8 n p) i d ≡ take 8 (drop (8 * i) p)
chunk_is zero i p d l = absurd (omega arith)
chunk_is (suc n) zero p d l = refl
chunk_is (suc n) (suc i) p d l =
    let e : 8 + 8 * i ≡ 8 * suc i = omega arith in
    chunk_is n i (drop 8 p) d (omega arith) ∙ rw (drop-drop, e) refl

pub left_is : (n : ℕ) (p : List ℕ) → drop (n * 8) p ≡ drop (8 * n) p
left_is n p = let e : n * 8 ≡ 8 * n = omega arith in rw e refl

-- an output whose front is made takes one more entry
pub front_more : {A : Type 0} (front out made : List A) (n : ℕ) (a : A) → made ≡ front ++ drop n out → length front ≡ n → n < length out → set made n a ≡ (front ++ (a ∷ [])) ++ drop (n + 1) out
front_more front out made n a m e l =
    ap (λ d. set d n a) (m ∙ ap (λ d. front ++ d) (drop_more out n a l))
    ∙ set_at front (get_or out n a) (drop (n + 1) out) a n e
    ∙ sym (append_assoc front (a ∷ []) (drop (n + 1) out))

-- the opening stands first
pub opened : (out : List Block) → 0 < length out → set out 0 opening_block ≡ (opening_block ∷ data_blocks 0 []) ++ drop 1 (set out 0 opening_block)
unfolding data_blocks
opened [] l = absurd (omega arith)
opened (b ∷ out) l = refl

-- the output behind the opening and n data blocks takes one more
pub data_put : (n : ℕ) (p : List ℕ) (out made : List Block) (b : Block) → n + 1 < length out → made ≡ (opening_block ∷ data_blocks n p) ++ drop (n + 1) out → b ≡ data_block (take 8 (drop (8 * n) p)) → set made (n + 1) b ≡ (opening_block ∷ data_blocks (n + 1) p) ++ drop (n + 1 + 1) out
data_put n p out made b l m e =
    front_more (opening_block ∷ data_blocks n p) out made (n + 1) b m (simp length_data_blocks (omega arith)) l
    ∙ ap (λ (ds : List Block). (opening_block ∷ ds) ++ drop (n + 1 + 1) out) (rw e (sym (data_blocks_more n p)))

-- behind n data blocks, two more blocks
ended : (n : ℕ) (ds out made : List Block) (e i : Block) → length ds ≡ n + 1 → n + 3 ≤ length out → made ≡ ds ++ drop (n + 1) (set out 0 opening_block) → set (set made (n + 1) e) (n + 2) i ≡ (ds ++ (e ∷ i ∷ [])) ++ drop (n + 3) out
ended n ds out made e i k l m =
    let long : length (set out 0 opening_block) ≡ length out = length-set out 0 opening_block in
    let two : n + 1 + 1 ≡ n + 2 = omega arith in
    let three : n + 2 + 1 ≡ n + 3 = omega arith in
    let first = front_more ds (set out 0 opening_block) made (n + 1) e m k (omega arith) in
    let second = front_more (ds ++ (e ∷ [])) (set out 0 opening_block) (set made (n + 1) e) (n + 2) i (rw two at first) (simp length-append (omega arith)) (omega arith) in
    second ∙ rw (three, drop-set-lt (n + 3) out 0 opening_block (omega arith), append_assoc ds) refl

pub blocks_are : (p : List ℕ) → packet_blocks p ≡ opening_block ∷ (data_blocks (length p / 8) p ++ (end_block (drop (8 * (length p / 8)) p) ∷ idle_block ∷ []))
unfolding packet_blocks
blocks_are p = refl

-- behind all data blocks, the end and the idle complete the packet
pub completed : (p : List ℕ) (out made : List Block) (e i : Block) → length p / 8 + 3 ≤ length out → made ≡ (opening_block ∷ data_blocks (length p / 8) p) ++ drop (length p / 8 + 1) (set out 0 opening_block) → e ≡ end_block (drop (8 * (length p / 8)) p) → i ≡ idle_block → set (set made (length p / 8 + 1) e) (length p / 8 + 2) i ≡ over (packet_blocks p) out
completed p out made e i l m f g =
    rw (length_packet_blocks p, f, g, blocks_are p) (ended (length p / 8) (opening_block ∷ data_blocks (length p / 8) p) out made _ _ (simp length_data_blocks (omega arith)) l m)

-- a block by its place
nth_data : (n at : ℕ) (p : List ℕ) (behind : List Block) → at < n → slice_get (data_blocks n p ++ behind) at ≡ Some (data_block (take 8 (drop (8 * at) p)))
unfolding data_blocks
nth_data zero at p behind l = absurd (omega arith)
nth_data (suc n) zero p behind l = refl
nth_data (suc n) (suc at) p behind l =
    let e : 8 + 8 * at ≡ 8 * suc at = omega arith in
    nth_data n at (drop 8 p) behind (omega arith) ∙ rw (drop-drop, e) refl

nth_behind : {A : Type 0} (xs ys : List A) (at : ℕ) → length xs ≤ at → slice_get (xs ++ ys) at ≡ slice_get ys (at - length xs)
nth_behind [] ys at l = let e : at - 0 ≡ at = omega arith in rw e refl
nth_behind (x ∷ xs) ys zero l = absurd (omega arith)
nth_behind (x ∷ xs) ys (suc at) l =
    let e : suc at - suc (length xs) ≡ at - length xs = omega arith in
    rw e (nth_behind xs ys at (omega arith))

module _ (p : List ℕ) (place : ℕ) where
  -- the blocks behind the opening
  behind : 0 < place → slice_get (packet_blocks p) place ≡ slice_get (data_blocks (length p / 8) p ++ (end_block (drop (8 * (length p / 8)) p) ∷ idle_block ∷ [])) (place - 1)
  behind l = let e : place ≡ suc (place - 1) = omega arith in ap (slice_get (packet_blocks p)) e ∙ rw (blocks_are p) refl

  pub at_opening : place ≡ 0 → Some opening_block ≡ slice_get (packet_blocks p) place
  at_opening e = rw (blocks_are p, e) refl

  pub at_data : 0 < place → place - 1 < length p / 8 → (b : Block) → b ≡ data_block (take 8 (drop (8 * (place - 1)) p)) → Some b ≡ slice_get (packet_blocks p) place
  at_data l k b e = ap Some e ∙ sym (behind l ∙ nth_data (length p / 8) (place - 1) p _ k)

  pub at_last : 0 < place → length p / 8 ≤ place - 1 → slice_get (packet_blocks p) place ≡ slice_get (end_block (drop (8 * (length p / 8)) p) ∷ idle_block ∷ []) (place - 1 - length p / 8)
  at_last l k =
      let n = length_data_blocks (length p / 8) p in
      behind l ∙ nth_behind (data_blocks (length p / 8) p) _ (place - 1) (omega (arith, n)) ∙ rw n refl
