-- What is printed of a packet that was read back.
use Rattle.std.proofs.Common.{◌≡◌, ℕ, ◌+◌, ◌-◌, ◌%◌, ◌≤◌, min, leb, List, [], ◌++◌, length, take, drop, Some, None, Ok, Err, Result, sym, refl, ap, ◌∙◌, inl, inr, arith}
use Rattle.std.proofs.Math.Seq.{take-append_seam}
use Rattle.std.proofs.lemmas.List.{length-take-le}
use Rattle.std.proofs.lemmas.Bool.{cases_Bool, cond-false, cond-true, le-leb, leb-true}
use Rattle.block.specs.declared.Block.{Block}
use Rattle.refusal.specs.declared.Refusal.{Refusal}
use Rattle.refusal.specs.declared.Refusal.TheVariants.{OutputTooShort}
use Rattle.packet.specs.Answers.{bytes_of, leaves, over, read_answer}
use Rattle.packet.specs.Reading.{FoundPacket, packet_at}
use Rattle.packet_report.specs.Texts.{carried_text, print_answer}
use Rattle.std.specs.Borrow.{GName}
use Rattle.port.specs.Model.{Lists}
use Rattle.port.specs.Runs.{without_first}
use Rattle.packet_inlet.specs.declared.reader.PacketReader.{PacketReader}
use Rattle.packet_inlet.specs.Reader.{ReaderContents, blocks_in_reach, held_blocks, reader_contents, reader_places}
use Rattle.packets.specs.Carried.{CarriesPacket, carried_answer, places_taken}

-- a packet that is read has room
pub read_is : (found : FoundPacket) (places read used : ℕ) → Ok (read, used) ≡ read_answer found places → (read ≡ length (bytes_of found)) × (read ≤ places)
read_is None places read used e = absurd (let z : ◌≡◌ {A = ℕ} 0 1 = cc in omega arith)
read_is (Some found) places read used e =
    elim (cases_Bool (leb (length found.0) places)) [
      | inl t ↦
          let is = e ∙ cond-true (leb (length found.0) places) (Ok (length found.0, found.1)) (Err OutputTooShort) t in
          let pair : ◌≡◌ {A = ℕ × ℕ} (read, used) (length found.0, found.1) = cc in
          let same : read ≡ length found.0 = ap (λ p. p.0) pair in
          (same, omega (arith, leb-true (length found.0) places t))
      | inr f ↦
          let is = e ∙ cond-false (leb (length found.0) places) (Ok (length found.0, found.1)) (Err OutputTooShort) f in
          absurd (let z : ◌≡◌ {A = ℕ} 0 1 = cc in omega arith)
    ]

-- and is printed as it was found
pub read_back : (found : FoundPacket) (read used : ℕ) (back zeros : List ℕ) → Ok (read, used) ≡ read_answer found 2000 → back ≡ over (bytes_of found) zeros → take read back ≡ bytes_of found
read_back found read used back zeros e is =
    rw ((read_is found 2000 read used e).0, is) (take-append_seam (bytes_of found) (drop (length (bytes_of found)) zeros))

pub printed :
    (client bytes count places : ℕ) (found : FoundPacket) (read used : ℕ) → Ok (read, used) ≡ read_answer found 2000 →
    print_answer (carried_text client bytes count (bytes_of found)) (length (bytes_of found)) places ≡ carried_answer client bytes count found places
printed client bytes count places None read used e = absurd (let z : ◌≡◌ {A = ℕ} 0 1 = cc in omega arith)
printed client bytes count places (Some found) read used e =
    let is = read_is (Some found) 2000 read used e in
    sym (cond-true (leb (length found.0) 2000) (print_answer (carried_text client bytes count found.0) (length found.0) places) (Err OutputTooShort) (le-leb (length found.0) 2000 (omega arith)))

-- the places for an even number of blocks
pub places_are : (count places : ℕ) (xs : List Block) → places ≡ min count 253 → length xs ≡ 254 → length (take (places + places % 2 - 0) (drop 0 xs)) ≡ places_taken count
places_are count places xs e long =
    let even : places + places % 2 - 0 ≡ places_taken count = rw e (omega arith) in
    length-take-le (places + places % 2 - 0) (drop 0 xs) (omega arith) ∙ even

-- a new reader reaches as many of the client's blocks as it has places, and leaves those behind them
module _ (reader : PacketReader) (c n : ℕ) (g : GName) (w : Lists) (fresh : reader_contents reader ≡ record { client = c; blocks = []; places = n; lender = g }) where
  pub fresh_reach : blocks_in_reach reader w ≡ take n (w c)
  fresh_reach = ap (λ (r : ReaderContents). take r.places (r.blocks ++ w r.client)) fresh

  pub fresh_left : without_first (reader_places reader - length (held_blocks reader)) reader.client w ≡ without_first n c w
  fresh_left =
      let all : n - 0 ≡ n = omega arith in
      ap (λ (r : ReaderContents). without_first (r.places - length r.blocks) r.client w) fresh ∙ ap (λ k. without_first k c w) all

-- the steps of a line whose packet is taken out, read and printed
pub carried_by :
    {waits left : ℕ → List Block} {client bytes count n read used end : ℕ} {blocks : List Block} {back out now : List ℕ} {r : Result ℕ Refusal} (zeros : List ℕ) →
    end ≡ read → n ≡ places_taken count → left ≡ without_first n client waits → blocks ≡ take n (waits client) →
    Ok (read, used) ≡ read_answer (packet_at blocks) 2000 → back ≡ over (bytes_of (packet_at blocks)) zeros →
    r ≡ print_answer (carried_text client bytes count (take end back)) (length (take end back)) (length out) →
    now ≡ leaves r (carried_text client bytes count (take end back)) out →
    CarriesPacket client bytes count waits left r out now
carried_by {waits} {left} {client} {bytes} {count} {n} {read} {used} {end} {blocks} {back} {out} {now} {r} zeros last many rest took read_as left_as answer output =
    let found = packet_at blocks in
    let packet : take end back ≡ bytes_of found = ap (λ k. take k back) last ∙ read_back found read used back zeros read_as left_as in
    let blocks_are : blocks ≡ take (places_taken count) (waits client) = took ∙ ap (λ k. take k (waits client)) many in
    record {
      left = rest ∙ ap (λ k. without_first k client waits) many;
      answer =
          answer
          ∙ ap (λ t. print_answer (carried_text client bytes count t) (length t) (length out)) packet
          ∙ printed client bytes count (length out) found read used read_as
          ∙ ap (λ bs. carried_answer client bytes count (packet_at bs) (length out)) blocks_are;
      output =
          output
          ∙ ap (λ t. leaves r (carried_text client bytes count t) out) packet
          ∙ ap (λ bs. leaves r (carried_text client bytes count (bytes_of (packet_at bs))) out) blocks_are;
    }

not_read : (client bytes count places : ℕ) (found : FoundPacket) (e : Refusal) → Err e ≡ read_answer found 2000 → Err e ≡ carried_answer client bytes count found places
not_read client bytes count places None e q = cc
not_read client bytes count places (Some found) e q =
    elim (cases_Bool (leb (length found.0) 2000)) [
      | inl t ↦
          let is = q ∙ cond-true (leb (length found.0) 2000) (Ok (length found.0, found.1)) (Err OutputTooShort) t in
          absurd (let z : ◌≡◌ {A = ℕ} 0 1 = cc in omega arith)
      | inr f ↦
          let is = q ∙ cond-false (leb (length found.0) 2000) (Ok (length found.0, found.1)) (Err OutputTooShort) f in
          let same : e ≡ OutputTooShort = cc in
          ap Err same ∙ sym (cond-false (leb (length found.0) 2000) (print_answer (carried_text client bytes count found.0) (length found.0) places) (Err OutputTooShort) f)
    ]

-- and of one whose packet is not read
pub refused_by :
    {waits left : ℕ → List Block} {client bytes count n : ℕ} {blocks : List Block} {out : List ℕ} {e : Refusal} →
    n ≡ places_taken count → left ≡ without_first n client waits → blocks ≡ take n (waits client) →
    Err e ≡ read_answer (packet_at blocks) 2000 → CarriesPacket client bytes count waits left (Err e) out out
refused_by {waits} {left} {client} {bytes} {count} {n} {blocks} {out} {e} many rest took read_as = record {
  left = rest ∙ ap (λ k. without_first k client waits) many;
  answer = not_read client bytes count (length out) (packet_at blocks) e read_as ∙ ap (λ bs. carried_answer client bytes count (packet_at bs) (length out)) (took ∙ ap (λ k. take k (waits client)) many);
  output = refl;
}
