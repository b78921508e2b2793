-- What a packet reader takes, holds and removes.
use Rattle.std.proofs.Common.{◌≡◌, ℕ, zero, suc, ◌+◌, ◌-◌, ◌<◌, ◌≤◌, List, [], ◌∷◌, ◌++◌, length, take, drop, set, Some, None, Result, sym, refl, ap, ◌∙◌, add-one, append_assoc, append-nil, arith, length-drop, length-set}
use Rattle.std.specs.List.{copy_within}
use Rattle.std.proofs.Math.Seq.{take-append-add, drop-append-add}
use Rattle.std.proofs.lemmas.List.Edits.{take-paste}
use Rattle.std.proofs.lemmas.List.{drop-append-le, drop-take, length-take-le, drop_all, take_all, take_more_set, take-append-drop}
use Rattle.block.specs.declared.Block.{Block}
use Rattle.refusal.specs.declared.Refusal.{Refusal}
use Rattle.port.specs.Model.{Lists, first_of, lists_after_next, updated_lists}
use Rattle.port.specs.Runs.{without_first}
use Rattle.port.proofs.Lists.{updated_here, updated_same}
use Rattle.port.proofs.Moves.{here_is, one_left}
use Rattle.packet.specs.Answers.{GivesBack}
use Rattle.packet.specs.Format.{packet_blocks}
use Rattle.packet_inlet.specs.declared.reader.PacketReader.{PacketReader}
use Rattle.packet_inlet.specs.Reader.{ComesBack, blocks_in_reach, blocks_to_read, held_blocks, reader_contents, reader_places}

-- places in use whose first ones are removed
pub front_removed : {T : Type 0} (xs : List T) (n i : ℕ) → i ≤ n → n ≤ length xs → take (n - i) (copy_within xs i n 0) ≡ drop i (take n xs)
front_removed xs n i few within =
    let size : n ≡ i + (n - i) = omega arith in
    let room : n - i ≤ length (drop i xs) = simp length-drop (omega arith) in
    let none : 0 + (n - i) ≡ n - i = omega arith in
    ap (λ m. take m (copy_within xs i n 0)) (sym none) ∙ take-paste xs 0 (drop i xs) (n - i) (omega arith) room ∙ sym (ap (λ m. drop i (take m xs)) size ∙ drop-take i (n - i) xs)

-- the block that stands at a place
first_at : (n : ℕ) (l : List Block) (b : Block) → Some b ≡ first_of (drop n l) → (n < length l) × (take (n + 1) l ≡ take n l ++ (b ∷ []))
first_at n l b e = rw add-one (go n l e)
  where
    go : (n : ℕ) (l : List Block) → Some b ≡ first_of (drop n l) → (n < length l) × (take (suc n) l ≡ take n l ++ (b ∷ []))
    go zero [] e = absurd (let z : ◌≡◌ {A = ℕ} 0 1 = cc in omega arith)
    go zero (x ∷ l) e = let same : b ≡ x = cc in (omega arith, rw same refl)
    go (suc n) [] e = absurd (let z : ◌≡◌ {A = ℕ} 0 1 = cc in omega arith)
    go (suc n) (x ∷ l) e = let rest = go n l e in (omega (arith, rest.0), ap (λ t. x ∷ t) rest.1)

none_at : (n : ℕ) (l : List Block) → None ≡ first_of (drop n l) → length l ≤ n
none_at zero [] e = omega arith
none_at zero (x ∷ l) e = absurd (let z : ◌≡◌ {A = ℕ} 0 1 = cc in omega arith)
none_at (suc n) [] e = omega arith
none_at (suc n) (x ∷ l) e = let rest = none_at n l e in omega arith

-- the first n blocks of client c taken, and held behind those held before
pub record Filled (c n : ℕ) (w v : Lists) (before now : List Block) : Type 0 where
  pub blocks : now ≡ before ++ take n (w c)
  pub left : v ≡ without_first n c w

filled_none : (c : ℕ) (w : Lists) (before : List Block) → Filled c 0 w w before before
filled_none c w before = record { blocks = sym (append-nil before); left = sym (updated_same w c) }

filled_more : (c n : ℕ) (w v u : Lists) (before places : List Block) (at : ℕ) (b : Block) → Filled c n w v before (take at places) → at < length places → Some b ≡ first_of (v c) → u ≡ lists_after_next c v → Filled c (n + 1) w u before (take (at + 1) (set places at b))
filled_more c n w v u before places at b one room first left =
    let there = first_at n (w c) b (first ∙ ap first_of (here_is c n w v one.left)) in
    record {
      blocks =
          take_more_set places at b room
          ∙ ap (λ l. l ++ (b ∷ [])) one.blocks
          ∙ append_assoc before (take n (w c)) (b ∷ [])
          ∙ ap (λ l. before ++ l) (sym there.1);
      left = left ∙ one_left c n w v one.left;
    }

-- no more wait: so many more places would take none
filled_out : (c n m : ℕ) (w v u : Lists) (before now : List Block) → Filled c n w v before now → n ≤ m → None ≡ first_of (v c) → u ≡ lists_after_next c v → (now ≡ before ++ take m (w c)) × (u ≡ without_first m c w)
filled_out c n m w v u before now one few none left =
    let all : length (w c) ≤ n = none_at n (w c) (none ∙ ap first_of (here_is c n w v one.left)) in (
      one.blocks ∙ ap (λ l. before ++ l) (take_all n (w c) all ∙ sym (take_all m (w c) (omega arith))),
      left ∙ one_left c n w v one.left ∙ ap (updated_lists w c) (drop_all (n + 1) (w c) (omega arith) ∙ sym (drop_all m (w c) (omega arith))),
    )

-- the places up to one are filled
pub record Filling (at : ℕ) (old now : PacketReader) (w v : Lists) : Type 0 where
  pub held : now.held ≡ at
  pub from : old.held ≤ at
  pub client : now.client ≡ old.client
  pub places : reader_places now ≡ reader_places old
  pub lender : now.places.ghost_name ≡ old.places.ghost_name
  pub filled : Filled old.client (at - old.held) w v (held_blocks old) (held_blocks now)

pub filling_none : (at : ℕ) (old : PacketReader) (w : Lists) → at ≡ old.held → Filling at old old w w
filling_none at old w here = record {
  held = sym here;
  from = omega arith;
  client = refl;
  places = refl;
  lender = refl;
  filled = let none : at - old.held ≡ 0 = omega arith in rw none (filled_none old.client w (held_blocks old));
}

pub filling_more :
    (at place : ℕ) (old now next : PacketReader) (w v u : Lists) (b : Block) → Filling at old now w v → at < reader_places now →
    Some b ≡ first_of (v now.client) → u ≡ lists_after_next now.client v →
    next.held ≡ at + 1 → next.client ≡ now.client → next.places.now ≡ set now.places.now place b → next.places.ghost_name ≡ now.places.ghost_name →
    place ≡ at → Filling (at + 1) old next w u
filling_more at place old now next w v u b one room first left held client put lender same =
    let places : next.places.now ≡ set now.places.now at b = put ∙ ap (λ k. set now.places.now k b) same in record {
      held = held;
      from = omega (arith, one.from);
      client = client ∙ one.client;
      places = ap length places ∙ length-set now.places.now at b ∙ one.places;
      lender = lender ∙ one.lender;
      filled =
          let more : at + 1 - old.held ≡ at - old.held + 1 = omega (arith, one.from) in
          let so_far : Filled old.client (at - old.held) w v (held_blocks old) (take at now.places.now) = rw one.held at one.filled in
          rw (more, held, places)
          (filled_more old.client (at - old.held) w v u (held_blocks old) now.places.now at b so_far room
          (first ∙ ap (λ k. first_of (v k)) one.client) (left ∙ ap (λ k. lists_after_next k v) one.client));
    }

-- blocks behind those held, as many as there are places for
in_reach : (places : ℕ) (held l : List Block) → length held ≤ places → held ++ take (places - length held) l ≡ take places (held ++ l)
in_reach places held l few =
    let size : places ≡ length held + (places - length held) = omega arith in
    sym (ap (λ n. take n (held ++ l)) size ∙ take-append-add held l (places - length held))

module _ (at : ℕ) (old now : PacketReader) (w v : Lists) (filling : Filling at old now w v) where
  count : length (held_blocks old) ≡ old.held
  count = length-take-le old.held old.places.now old.within

  contents_are : held_blocks now ≡ held_blocks old ++ take (reader_places old - old.held) (w old.client) → reader_contents now ≡ record (reader_contents old) { blocks = blocks_in_reach old w }
  contents_are e =
      let blocks : held_blocks now ≡ blocks_in_reach old w =
      e ∙ ap (λ n. held_blocks old ++ take (reader_places old - n) (w old.client)) (sym count)
      ∙ in_reach (reader_places old) (held_blocks old) (w old.client) (omega (arith, count, old.within)) in
      let client = filling.client in
      let places = filling.places in
      let lender = filling.lender in
      cc

  -- no place is left
  pub filling_all : at ≡ reader_places old → (reader_contents now ≡ record (reader_contents old) { blocks = blocks_in_reach old w }) × (v ≡ without_first (reader_places old - length (held_blocks old)) old.client w)
  filling_all all =
      let same : at - old.held ≡ reader_places old - old.held = omega arith in (
        contents_are (filling.filled.blocks ∙ ap (λ n. held_blocks old ++ take n (w old.client)) same),
        filling.filled.left ∙ ap (λ n. without_first n old.client w) (same ∙ ap (λ n. reader_places old - n) (sym count)),
      )

  -- no block waits
  pub filling_out : (u : Lists) → at ≤ reader_places old → None ≡ first_of (v now.client) → u ≡ lists_after_next now.client v → (reader_contents now ≡ record (reader_contents old) { blocks = blocks_in_reach old w }) × (u ≡ without_first (reader_places old - length (held_blocks old)) old.client w)
  filling_out u few none left =
      let out = filled_out old.client (at - old.held) (reader_places old - old.held) w v u (held_blocks old) (held_blocks now) filling.filled (omega arith)
      (none ∙ ap (λ k. first_of (v k)) filling.client) (left ∙ ap (λ k. lists_after_next k v) filling.client) in
      (contents_are out.0, out.1 ∙ ap (λ n. without_first (reader_places old - n) old.client w) (sym count))

-- what is within reach and what waits behind it are all blocks; those removed are from its front
pub none_lost : (old now : PacketReader) (w v : Lists) (count used : ℕ) → count ≡ used → now.client ≡ old.client → held_blocks now ≡ drop count (blocks_in_reach old w) → used ≤ length (blocks_in_reach old w) → v ≡ without_first (reader_places old - length (held_blocks old)) old.client w → blocks_to_read now v ≡ drop used (blocks_to_read old w)
none_lost old now w v count used same client held few left =
    let places : ℕ = reader_places old in
    let l : List Block = held_blocks old ++ w old.client in
    let size : length (held_blocks old) + (places - length (held_blocks old)) ≡ places = omega (arith, length-take-le old.held old.places.now old.within, old.within) in
    let behind : v now.client ≡ drop places l =
    ap v client
    ∙ ap (λ (k : Lists). k old.client) left
    ∙ updated_here w old.client (drop (places - length (held_blocks old)) (w old.client))
    ∙ sym (drop-append-add (held_blocks old) (w old.client) (places - length (held_blocks old)))
    ∙ ap (λ n. drop n l) size in
    ap (λ h. h ++ v now.client) (held ∙ ap (λ n. drop n (blocks_in_reach old w)) same)
    ∙ ap (λ t. drop used (take places l) ++ t) behind
    ∙ sym (drop-append-le used (take places l) (drop places l) few)
    ∙ ap (drop used) (take-append-drop places l)

-- what is read from the blocks within reach is the packet that comes first
pub comes_back :
    (to_read blocks : List Block) (places : ℕ) (before after : List ℕ) (r : Result (ℕ × ℕ) Refusal) →
    blocks ≡ take places to_read → GivesBack blocks before r after → ComesBack to_read places before r after
comes_back to_read blocks places before after r e gives =
    λ p behind q fits lawful room. let size : places ≡ length (packet_blocks p) + (places - length (packet_blocks p)) = omega arith in
    gives p (take (places - length (packet_blocks p)) behind)
    (e ∙ ap (take places) q ∙ ap (λ n. take n (packet_blocks p ++ behind)) size ∙ take-append-add (packet_blocks p) behind (places - length (packet_blocks p)))
    lawful room
