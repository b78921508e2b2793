-- A message whose blocks come in a row for its collection is found whole.
use Rattle.std.proofs.Common.{Ok, Err, ◌≡◌, ℕ, zero, suc, ◌+◌, ◌-◌, ◌*◌, ◌<◌, ◌≤◌, Bool, true, false, cond, not, eqb, List, [], ◌∷◌, ◌++◌, length, get_or, take, Some, None, Option, sym, refl, ap, ◌∙◌, append_assoc, arith}
use Rattle.std.proofs.lemmas.List.{nil_from_length, length-take-le, take_all, same_from_push, get_or-set_same}
use Rattle.std.proofs.lemmas.Bool.{and_parts, not-true, eqb-true, eqb-false, eq-eqb, ne_eqb}
use Rattle.bits.specs.Bits.{bits}
use Rattle.crc.specs.Laws.{weight, xors}
use Rattle.crc.proofs.Detect.{detects}
use Rattle.crc.proofs.Generators.{twelve}
use Rattle.bits.proofs.Places.{length_bits}
use Rattle.message.specs.declared.Kind.{Kind}
use Rattle.message.specs.declared.Kind.TheVariants.{Basic, TwoDmm}
use Rattle.message.specs.declared.MessageBlock.{MessageBlock}
use Rattle.message.specs.Kinds.{block_count_of}
use Rattle.message.specs.Blocks.{message_block_of}
use Rattle.message.specs.Values.{crc12, filled_values, lawful}
use Rattle.message.specs.Written.{message_blocks, message_parts, reads_of}
use Rattle.message.proofs.Laws.{laws}
use Rattle.message.proofs.Pairs.{paired_push, take_two}
use Rattle.message.proofs.Writes.{lawful_length, some_blocks}
use Rattle.collector.specs.declared.BlockError.TheVariants.{WrongRemainder}
use Rattle.collector.specs.Content.{MessageContent}
use Rattle.collector.specs.State.{CollectorState, last_of, place_of}
use Rattle.collector.specs.declared.assembly.Outcome.{Outcome}
use Rattle.collector.specs.declared.assembly.Outcome.TheVariants.{Broken, Corrupt, Whole}
use Rattle.collector.specs.Outcomes.{continued_outcome, extended_outcome, marked_outcome, next_outcome, same_kind, tested_outcome, unfinished_of}
use Rattle.collector.specs.Step.{after, after_kind, after_part, after_basic, found_of, is_aps, report_basic, report_kind, report_of, report_part, after_outcome}
use Rattle.collector.specs.Runs.{CollectorCall, give, goes_kind, goes_to, own, state_after, Arrives, Completes}
use Rattle.collector.specs.Laws.{FoundWhole}
use Rattle.collector.proofs.Sizes.{few_blocks}
use Rattle.collector.proofs.Extends.{last_test}
use Rattle.collector.proofs.SameKinds.{same_true}
use Rattle.collector.proofs.Collections.{coll, advance, advances, coll_run, advances_append, run_append, own_push}
use Rattle.collector.proofs.Sounds.{place_below, places_kept}

-- the block at place i of a message
abbrev pub part_at : Kind → ℕ → ℕ → ℕ → MessageBlock
part_at k i a b = message_block_of k (eqb i 0) (eqb (i + 1) (block_count_of k)) a b

abbrev pub content : Kind → List ℕ → MessageContent
content k us = record { kind = k; values = us }

pub parts_push : (k : Kind) (i : ℕ) (us : List ℕ) (a b : ℕ) → length us ≡ 2 * i → message_parts k (us ++ a ∷ b ∷ []) ≡ message_parts k us ++ part_at k i a b ∷ []
parts_push k i us a b h =
    paired_push (part_at k) i 0 us a b h ∙ ap (λ (j : ℕ). message_parts k us ++ part_at k j a b ∷ []) (let e : 0 + i ≡ i = omega arith in e)

-- a block joins what has come of its message
joins : (k : Kind) (us : List ℕ) (c : Option MessageContent) (t e : Bool) (a b : ℕ) → (t ≡ true → us ≡ []) → (t ≡ false → c ≡ Some (content k us))
    → next_outcome k c (message_block_of k t e a b) ≡ extended_outcome (content k us) (message_block_of k t e a b)
joins k us c true e a b p q = ap (λ (vs : List ℕ). extended_outcome (content k vs) (message_block_of k true e a b)) (sym (p refl))
joins k us c false e a b p q =
    ap (λ (x : Option MessageContent). continued_outcome k x (message_block_of k false e a b)) (q refl)
    ∙ ap (λ (t : Bool). cond t (extended_outcome (content k us) (message_block_of k false e a b)) Broken) (same_true k k refl)

pub joined_part : (k : Kind) (i : ℕ) (us : List ℕ) (c : Option MessageContent) (a b : ℕ) → length us ≡ 2 * i → (1 ≤ i → c ≡ Some (content k us))
    → next_outcome k c (part_at k i a b) ≡ marked_outcome (content k (us ++ a ∷ b ∷ [])) (eqb (i + 1) (block_count_of k)) (eqb (i + 1) (block_count_of k))
joined_part k i us c a b h q =
    joins k us c (eqb i 0) (eqb (i + 1) (block_count_of k)) a b
    (λ e. nil_from_length us (omega (arith, eqb-true i 0 e)))
    (λ e. q (omega (arith, eqb-false i 0 e)))
    ∙ ap (marked_outcome (content k (us ++ a ∷ b ∷ [])) (eqb (i + 1) (block_count_of k))) (last_test us i (block_count_of k) a b h)

pub part_advances : (g : Bool) (k : Kind) (i : ℕ) (us : List ℕ) (c : Option MessageContent) (a b : ℕ) → goes_kind g (Some k) ≡ true → length us ≡ 2 * i
    → (1 ≤ i → c ≡ Some (content k us)) → (i + 1 ≡ block_count_of k → ⊥) → advance g c (part_at k i a b) ≡ Some (content k (us ++ a ∷ b ∷ []))
part_advances g k i us c a b e h q l =
    ap (λ (t : Bool). cond t (unfinished_of (next_outcome k c (part_at k i a b))) c) e
    ∙ ap unfinished_of (joined_part k i us c a b h q
    ∙ ap (λ (t : Bool). marked_outcome (content k (us ++ a ∷ b ∷ [])) t t) (ne_eqb (i + 1) (block_count_of k) l))

-- before the last block, the collection holds what has come
pub collected : (g : Bool) (k : Kind) (us : List ℕ) (c : Option MessageContent) → goes_kind g (Some k) ≡ true
    → (i : ℕ) → 2 * i ≤ length us → 1 ≤ i → i < block_count_of k → advances g c (message_parts k (take (2 * i) us)) ≡ Some (content k (take (2 * i) us))
collected g k us c e zero l lo hi = absurd (omega arith)
collected g k us c e (suc j) l lo hi =
    let more : take (2 * suc j) us ≡ take (2 * j) us ++ get_or us (2 * j) 0 ∷ get_or us (2 * j + 1) 0 ∷ []
    = ap (λ (n : ℕ). take (2 * n) us) (let z : suc j ≡ j + 1 = omega arith in z) ∙ take_two us j (omega arith) in
    let len : length (take (2 * j) us) ≡ 2 * j = length-take-le (2 * j) us (omega arith) in
    ap (λ (vs : List ℕ). advances g c (message_parts k vs)) more
    ∙ ap (advances g c) (parts_push k j (take (2 * j) us) (get_or us (2 * j) 0) (get_or us (2 * j + 1) 0) len)
    ∙ advances_append g c (message_parts k (take (2 * j) us)) (part_at k j (get_or us (2 * j) 0) (get_or us (2 * j + 1) 0) ∷ [])
    ∙ part_advances g k j (take (2 * j) us) (advances g c (message_parts k (take (2 * j) us))) (get_or us (2 * j) 0) (get_or us (2 * j + 1) 0) e len
    (λ lo'. collected g k us c e j (omega arith) lo' (omega arith)) (omega arith)
    ∙ ap (λ (vs : List ℕ). Some (content k vs)) (sym more)

-- what goes to a collection is not basic
pub not_basic : (g : Bool) (k : Kind) → goes_kind g (Some k) ≡ true → same_kind k Basic ≡ false
not_basic g k e = not-true (same_kind k Basic) (and_parts (not (same_kind k Basic)) _ e).0

-- a block that makes a message whole
pub whole_part : (s : CollectorState) (b : MessageBlock) (k : Kind) (us : List ℕ) → length s.kept ≡ 7 → b.kind ≡ Some k → same_kind k Basic ≡ false
    → next_outcome k (coll (is_aps k) s) b ≡ Whole (content k us)
    → ((report_of s b).found ≡ Ok (Some k)) × (last_of k (after s b) ≡ Some (content k us)) × (k ≡ TwoDmm → (after s b).question ≡ Some (take 8 us))
whole_part s b k us h e f o = (
  ap (λ (x : Option Kind). (report_kind x s b).found) e
      ∙ ap (λ (t : Bool). (cond t (report_basic b) (report_part k s b)).found) f
      ∙ ap found_of o,
  ap (λ (x : Option Kind). last_of k (after_kind x s b)) e
      ∙ ap (λ (t : Bool). last_of k (cond t (after_basic s b) (after_part k s b))) f
      ∙ ap (λ (x : Outcome). last_of k (after_outcome k x s)) o
      ∙ get_or-set_same s.kept (place_of k) (Some (content k us)) None (omega (arith, place_below k, h)),
  λ d. ap (λ (x : Option Kind). (after_kind x s b).question) e
      ∙ ap (λ (t : Bool). (cond t (after_basic s b) (after_part k s b)).question) f
      ∙ ap (λ (x : Outcome). (after_outcome k x s).question) o
      ∙ ap (λ (t : Bool). cond t (Some (take 8 us)) s.question) (same_true k TwoDmm d),
)

-- the last block of a message that has come in a row brings it to the test of its remainder
pub record Tested (s : CollectorState) (b : MessageBlock) (k : Kind) (us : List ℕ) : Type 0 where
  pub kind : b.kind ≡ Some k
  pub other : same_kind k Basic ≡ false
  pub next : next_outcome k (coll (is_aps k) s) b ≡ tested_outcome (content k us)

pub arrived : (s : CollectorState) (before : List CollectorCall) (b : MessageBlock) (k : Kind) (us : List ℕ) → Arrives before b k us → Tested (state_after s before) b k us
arrived s before b k us h =
    let g : Bool = is_aps k in
    let front : List MessageBlock = h.front in
    let len : length us ≡ 2 * block_count_of k = h.long in
    let some : 1 ≤ block_count_of k = some_blocks k in
    let m : ℕ = block_count_of k - 1 in
    let x : ℕ = get_or us (2 * m) 0 in
    let y : ℕ = get_or us (2 * m + 1) 0 in
    let us' : List ℕ = take (2 * m) us in
    let len' : length us' ≡ 2 * m = length-take-le (2 * m) us (omega arith) in
    let split : us ≡ us' ++ x ∷ y ∷ []
    = sym (take_all (2 * (m + 1)) us (omega arith)) ∙ take_two us m (omega arith) in
    let ends : own g before ++ b ∷ [] ≡ (front ++ message_parts k us') ++ part_at k m x y ∷ []
    = sym (own_push g before b true h.goes) ∙ h.is ∙ ap (λ (vs : List ℕ). front ++ message_parts k vs) split
    ∙ ap (λ (l : List MessageBlock). front ++ l) (parts_push k m us' x y len')
    ∙ sym (append_assoc front (message_parts k us') (part_at k m x y ∷ [])) in
    let two = same_from_push (own g before) (front ++ message_parts k us') b (part_at k m x y) ends in
    let is : b ≡ part_at k m x y = two.1 in
    let kind : b.kind ≡ Some k = ap (λ (z : MessageBlock). z.kind) is in
    let goes : goes_kind g (Some k) ≡ true = ap (goes_kind g) (sym kind) ∙ h.goes in
    let c : Option MessageContent = coll g (state_after s before) in
    let there : c ≡ advances g (advances g (coll g s) front) (message_parts k us')
    = coll_run g s before ∙ ap (advances g (coll g s)) two.0 ∙ advances_append g (coll g s) front (message_parts k us') in
    record {
      kind = kind;
      other = not_basic g k goes;
      next = ap (next_outcome k c) is
          ∙ joined_part k m us' c x y len' (λ lo. there ∙ collected g k us (advances g (coll g s) front) goes m (omega arith) lo (omega arith))
          ∙ ap (λ (t : Bool). marked_outcome (content k (us' ++ x ∷ y ∷ [])) t t) (eq-eqb (m + 1) (block_count_of k) (omega arith))
          ∙ ap (λ (vs : List ℕ). tested_outcome (content k vs)) (sym split);
    }

pub whole_found : (s : CollectorState) (before : List CollectorCall) (b : MessageBlock) (k : Kind) (us : List ℕ)
    → length s.kept ≡ 7 → Completes before b k us → FoundWhole s before b k us
whole_found s before b k us places h =
    let T : Tested (state_after s before) b k us = arrived s before b k us h.0 in
    let next : next_outcome k (coll (is_aps k) (state_after s before)) b ≡ Whole (content k us)
    = T.next ∙ ap (λ (t : Bool). cond t (Whole (content k us)) Corrupt) (eq-eqb (crc12 (bits us)) 0 h.1) in
    let both = whole_part (state_after s before) b k us (places_kept s before places) T.kind T.other next in
    let at : state_after s (before ++ give b ∷ []) ≡ after (state_after s before) b = run_append s before (give b ∷ []) in
    record {
      found = both.0;
      last = ap (last_of k) at ∙ both.1;
      waits = λ d. ap (λ (x : CollectorState). x.question) at ∙ both.2 d;
    }

-- a message whose blocks have come in a row and leave another remainder
pub corrupt_found : (s : CollectorState) (before : List CollectorCall) (b : MessageBlock) (k : Kind) (ws : List ℕ)
    → Arrives before b k ws → (crc12 (bits ws) ≡ 0 → ⊥) → (report_of (state_after s before) b).found ≡ Err WrongRemainder
corrupt_found s before b k ws h bad =
    let S : CollectorState = state_after s before in
    let T : Tested S b k ws = arrived s before b k ws h in
    ap (λ (x : Option Kind). (report_kind x S b).found) T.kind
    ∙ ap (λ (t : Bool). (cond t (report_basic b) (report_part k S b)).found) T.other
    ∙ ap found_of (T.next ∙ ap (λ (t : Bool). cond t (Whole (content k ws)) Corrupt) (ne_eqb (crc12 (bits ws)) 0 bad))

pub change_found : (s : CollectorState) (before : List CollectorCall) (b : MessageBlock) (k : Kind) (us ws : List ℕ)
    → Arrives before b k ws → length us ≡ length ws → crc12 (bits us) ≡ 0
    → 0 < weight (xors (bits us) (bits ws)) → weight (xors (bits us) (bits ws)) ≤ 3
    → (report_of (state_after s before) b).found ≡ Err WrongRemainder
change_found s before b k us ws h l e lo hi =
    corrupt_found s before b k ws h
    (λ z.
    (detects 12 0x180F 2047 twelve).0 (bits us) (bits ws)
    (length_bits us ∙ ap (λ (n : ℕ). 8 * n) l ∙ sym (length_bits ws))
    (omega (arith, length_bits us, l, h.long, few_blocks k)) e z lo hi)

pub written_found : (s : CollectorState) (before : List CollectorCall) (front : List MessageBlock) (b : MessageBlock) (k : Kind) (vs : List ℕ)
    → length s.kept ≡ 7 → lawful k vs ≡ true → goes_to (is_aps k) b ≡ true
    → own (is_aps k) (before ++ give b ∷ []) ≡ front ++ reads_of (message_blocks k (filled_values vs))
    → FoundWhole s before b k (filled_values vs)
written_found s before front b k vs places law goes e =
    let len : length vs ≡ 2 * block_count_of k = lawful_length k vs law in
    let two : 2 ≤ length vs = omega (arith, some_blocks k) in
    whole_found s before b k (filled_values vs) places (
      record {
        front = front;
        goes = goes;
        is = e ∙ ap (λ (l : List MessageBlock). front ++ l) (laws.message_back k (filled_values vs));
        long = laws.same_length vs two ∙ len;
      },
      laws.zero_remainder vs two,
    )
