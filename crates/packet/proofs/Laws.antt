-- What was written is read: the packet at the front of its own blocks.
use Rattle.std.proofs.Common.{◌≡◌, ℕ, zero, suc, ◌+◌, ◌-◌, ◌*◌, ◌/◌, ◌<◌, ◌≤◌, true, false, List, [], ◌∷◌, ◌++◌, length, get_or, take, drop, replicate, Some, None, Ok, Err, Option, Result, sym, refl, ap, ◌∙◌, arith, length-drop, take-add}
use Rattle.std.specs.Option.{MatchOption, ok_or}
use Rattle.std.proofs.lemmas.List.{take_at, append_assoc, take-append-drop}
use Rattle.std.proofs.lemmas.Bool.{le-leb, lt-leb}
use Rattle.block.specs.declared.Block.{Block}
use Rattle.block.specs.declared.Class.TheVariants.{End}
use Rattle.block.specs.Classes.{control_class}
use Rattle.refusal.specs.declared.Refusal.{Refusal}
use Rattle.refusal.specs.declared.Refusal.TheVariants.{NoPacket, OutputTooShort}
use Rattle.block.specs.Fixed.{idle_block}
use Rattle.block.specs.Classes.{end_types}
use Rattle.packet.specs.Format.{is_packet_length, end_block, data_blocks, packet_blocks}
use Rattle.packet.specs.Reading.{with_bytes_before, found_to_end, found_of_length, opens, packet_at}
use Rattle.packet.specs.Spans.{Spans, span_bytes}
use Rattle.packet.specs.Answers.{over, leaves, read_answer, bytes_of, GivesBack}

end_class_is : (n : ℕ) → n < 8 → (rest : List ℕ) → control_class (get_or end_types n 0 ∷ rest) ≡ End n
end_class_is zero l rest = refl
end_class_is (suc zero) l rest = refl
end_class_is (suc (suc zero)) l rest = refl
end_class_is (suc (suc (suc zero))) l rest = refl
end_class_is (suc (suc (suc (suc zero)))) l rest = refl
end_class_is (suc (suc (suc (suc (suc zero))))) l rest = refl
end_class_is (suc (suc (suc (suc (suc (suc zero)))))) l rest = refl
end_class_is (suc (suc (suc (suc (suc (suc (suc zero))))))) l rest = refl
end_class_is (suc (suc (suc (suc (suc (suc (suc (suc n)))))))) l rest = absurd (omega arith)

carried_end : (left : List ℕ) (bs : List Block) → length left < 8 → found_to_end (end_block left ∷ bs) ≡ Some (left, 1)
unfolding found_to_end end_block
carried_end left bs l =
    rw (found_to_end, end_class_is (length left) l (left ++ replicate (7 - length left) 0), take_at left (replicate (7 - length left) 0) (length left) refl) refl

carried_data : (n : ℕ) (p left : List ℕ) (bs : List Block) → length left < 8 → found_to_end (data_blocks n p ++ (end_block left ∷ bs)) ≡ Some (take (8 * n) p ++ left, n + 1)
unfolding found_to_end data_blocks
carried_data zero p left bs f = carried_end left bs f
carried_data (suc n) p left bs f =
    let more : 8 + 8 * n ≡ 8 * suc n = omega arith in
    let one : 1 + (n + 1) ≡ suc n + 1 = omega arith in
    let bytes : take 8 p ++ (take (8 * n) (drop 8 p) ++ left) ≡ take (8 * suc n) p ++ left =
    sym (append_assoc (take 8 p) (take (8 * n) (drop 8 p)) left) ∙ ap (λ xs. xs ++ left) (sym (take-add 8 (8 * n) p) ∙ ap (λ m. take m p) more) in
    ap (with_bytes_before (take 8 p)) (carried_data n (drop 8 p) left bs f)
    ∙ ap (λ m. Some (take 8 p ++ (take (8 * n) (drop 8 p) ++ left), m)) one
    ∙ ap (λ xs. Some (xs, suc n + 1)) bytes

-- the packet at the front of its own blocks, whatever stands behind them
pub round : (p : List ℕ) (behind : List Block) → is_packet_length (length p) ≡ true → packet_at (packet_blocks p ++ behind) ≡ Some (p, 2 + length p / 8)
unfolding packet_at packet_blocks
round p behind t =
    let n : ℕ = length p / 8 in
    let left : List ℕ = drop (8 * n) p in
    let few : length left < 8 = simp length-drop (omega arith) in
    let two : 1 + (n + 1) ≡ 2 + n = omega arith in
    let all : found_to_end ((data_blocks n p ++ (end_block left ∷ idle_block ∷ [])) ++ behind) ≡ Some (p, n + 1) =
    ap found_to_end (append_assoc (data_blocks n p) (end_block left ∷ idle_block ∷ []) behind)
    ∙ carried_data n p left (idle_block ∷ behind) few
    ∙ ap (λ xs. Some (xs, n + 1)) (take-append-drop (8 * n) p) in
    ap (λ f. with_bytes_before [] (found_of_length f)) all ∙ rw (t, two) refl

-- so the reader, whose answers these are, gives the packet back
pub given_back : (blocks : List Block) (before after : List ℕ) (r : Result (ℕ × ℕ) Refusal) → r ≡ read_answer (packet_at blocks) (length before) → after ≡ leaves r (bytes_of (packet_at blocks)) before → GivesBack blocks before r after
given_back blocks before after r a o p behind e t l =
    let found : packet_at blocks ≡ Some (p, 2 + length p / 8) = ap packet_at e ∙ round p behind t in
    let ok : r ≡ Ok (length p, 2 + length p / 8) = a ∙ ap (λ f. read_answer f (length before)) found ∙ rw (le-leb (length p) (length before) l) refl in
    (ok, o ∙ ap (λ f. leaves r (bytes_of f) before) found ∙ ap (λ q. leaves q p before) ok)

-- what the reader finds, by what it tests
pub none_unopened : (blocks : List Block) → false ≡ opens blocks → packet_at blocks ≡ None
unfolding packet_at
none_unopened blocks e = rw (sym e) refl

pub none_behind : (blocks behind : List Block) → true ≡ opens blocks → behind ≡ drop 1 blocks → found_of_length (found_to_end behind) ≡ None → packet_at blocks ≡ None
unfolding packet_at
none_behind blocks behind o b e = rw (sym o, sym b, e) refl

pub found_behind : (blocks behind : List Block) (whole left : ℕ) → true ≡ opens blocks → behind ≡ drop 1 blocks → Spans behind (found_of_length (found_to_end behind)) whole left → packet_at blocks ≡ Some (span_bytes behind whole left, whole + 2)
unfolding packet_at
found_behind blocks behind whole left o b s =
    let two : 1 + (whole + 1) ≡ whole + 2 = omega arith in
    rw (sym o, sym b, s.is, two) refl

-- a `?` that leaves says that nothing was found, and answers the cause given
pub none_given : {A : Type 0} (o : Option A) (e f : Refusal) (P : Type 0) (Q : A → Type 0) → MatchOption o P Q → Err f ≡ ok_or o e → P × (f ≡ e)
none_given None e f P Q m q = (m, cc)
none_given (Some x) e f P Q m q = absurd cc

-- the reader's answers
pub answer_none : (blocks : List Block) (places : ℕ) → packet_at blocks ≡ None → Err NoPacket ≡ read_answer (packet_at blocks) places
answer_none blocks places e = rw e refl

module _ (blocks : List Block) (p : List ℕ) (bytes used places : ℕ) (found : packet_at blocks ≡ Some (p, used)) (long : length p ≡ bytes) where
  pub answer_short : places < bytes → Err OutputTooShort ≡ read_answer (packet_at blocks) places
  answer_short l = rw (found, long, lt-leb bytes places l) refl

  pub answer_read : bytes ≤ places → Ok (bytes, used) ≡ read_answer (packet_at blocks) places
  answer_read l = rw (found, long, le-leb bytes places l) refl

  pub output_read : (before after : List ℕ) → after ≡ p ++ drop bytes before → after ≡ over (bytes_of (packet_at blocks)) before
  output_read before after e = rw (found, long) e
