-- A packet through an inlet of its own: what waits there, and what a move of its pairs adds.
use Rattle.std.proofs.Common.{◌≡◌, ℕ, ◌+◌, ◌*◌, ◌/◌, ◌%◌, true, List, [], ◌∷◌, ◌++◌, length, replicate, Ok, Err, sum, sym, ap, ◌∙◌, add-zero, arith}
use Rattle.std.proofs.lemmas.List.{append-nil, take_all}
use Rattle.std.proofs.lemmas.Bool.{cond-true, eq-eqb}
use Rattle.std.proofs.lemmas.List.Sums.{sum_by-cons}
use Rattle.block.specs.declared.Block.{Block}
use Rattle.block.specs.Fixed.{idle_block}
use Rattle.refusal.specs.declared.Refusal.{Refusal}
use Rattle.port.specs.Model.{Holding, Lists, updated_lists}
use Rattle.packet.specs.Format.{packet_blocks, is_packet_length}
use Rattle.packet_inlet.specs.Packets.{are_lengths, all_packet_blocks, packets_of}
use Rattle.packet_inlet.specs.Waiting.{new_answer, only_for}
use Rattle.port.specs.Runs.{MovesAll, MovesNone, padded_blocks}
use Rattle.packet_inlet.specs.Stored.{PacketRefused, PacketStored}
use Rattle.port.proofs.Lists.{updated_here}
use Rattle.port.proofs.Padded.{fills_behind}

one_length : (n : ℕ) → is_packet_length n ≡ true → are_lengths (n ∷ []) n ≡ true
one_length n q = rw q (eq-eqb (sum (n ∷ [])) n (sum_by-cons (λ x. x) n [] ∙ add-zero n))

blocks_of_one : (p : List ℕ) → all_packet_blocks (length p ∷ []) p ≡ packet_blocks p
unfolding all_packet_blocks packets_of
blocks_of_one p = append-nil _ ∙ ap packet_blocks (take_all (length p) p (omega arith))

-- the answer of an inlet of one packet
pub one_packet : (c : ℕ) (p : List ℕ) → is_packet_length (length p) ≡ true → new_answer c (length p ∷ []) p ≡ Ok (only_for c (packet_blocks p))
one_packet c p q = cond-true (are_lengths (length p ∷ []) (length p)) _ _ (one_length (length p) q) ∙ ap (λ l. Ok (only_for c l)) (blocks_of_one p)

pub never_refused :
    (c : ℕ) (p ns : List ℕ) (e : Refusal) → is_packet_length (length p) ≡ true → ns ≡ length p ∷ [] → Err e ≡ new_answer c ns p → ⊥
never_refused c p ns e q only a =
    let s = ap (λ l. new_answer c l p) only ∙ one_packet c p q in
    let z : ◌≡◌ {A = ℕ} 0 1 = cc in
    omega arith

waits_at : (c : ℕ) (p : List ℕ) (w : Lists) → is_packet_length (length p) ≡ true → Ok w ≡ new_answer c (length p ∷ []) p → w c ≡ packet_blocks p
waits_at c p w q a =
    let s = one_packet c p q in
    let e : w ≡ only_for c (packet_blocks p) = cc in
    ap (λ (k : Lists). k c) e ∙ updated_here (λ _. []) c (packet_blocks p)

-- the packet's pairs moved
pub stored_by :
    (c n k : ℕ) (p ns : List ℕ) (f : Block) (w v : Lists) (h j : Holding) → is_packet_length (length p) ≡ true →
    ns ≡ length p ∷ [] → Ok w ≡ new_answer c ns p → length (packet_blocks p) ≡ n → k ≡ (n + 1) / 2 → f ≡ idle_block →
    MovesAll c k f w v h j → PacketStored c p n h j
stored_by c n k p ns f w v h j q only a count half idle moved =
    let here = waits_at c p w q (a ∙ ap (λ l. new_answer c l p) only) in
    let even : n + n % 2 ≡ 2 * k = omega arith in
    let whole : padded_blocks f (2 * k) (w c) ≡ packet_blocks p ++ replicate (length (packet_blocks p) % 2) idle_block =
    ap (λ b. padded_blocks b (2 * k) (w c)) idle ∙ ap (padded_blocks idle_block (2 * k)) here ∙ fills_behind idle_block (2 * k) (packet_blocks p) (length (packet_blocks p) % 2) (rw count even) in
    record {
      lawful = q;
      count = sym count;
      appended = moved.appended ∙ ap (λ l. updated_lists h.held c (h.held c ++ l)) whole;
      places = omega (arith, moved.places);
    }

pub refused_by :
    (c n k : ℕ) (p : List ℕ) (e : Refusal) (w v : Lists) (h j : Holding) → is_packet_length (length p) ≡ true →
    length (packet_blocks p) ≡ n → k ≡ (n + 1) / 2 → MovesNone c k e w v h j → PacketRefused c p e h j
refused_by c n k p e w v h j q count half none = record {
  number = rw q none.number;
  full = λ _. rw count (omega (arith, none.full));
  same = none.same;
}
