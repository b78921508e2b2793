-- Messages that come undamaged, woven into one another: no block of theirs has a fault.
use Rattle.std.proofs.Common.{Ok, ◌≡◌, ℕ, suc, ◌+◌, ◌*◌, ◌<◌, ◌≤◌, Bool, true, false, cond, not, ◌&&◌, ◌||◌, eqb, is_some, List, [], ◌∷◌, ◌++◌, length, get_or, take, drop, Some, None, Option, sym, refl, ap, ◌∙◌, subst, ap₂, arith}
use Rattle.std.specs.Bool.{then_some}
use Rattle.std.specs.Option.{option_map}
use Rattle.std.specs.Result.{result_err}
use Rattle.std.specs.List.{All}
use Rattle.std.proofs.lemmas.List.{length-take-le, take_all, drop_more, drop_all}
use Rattle.std.proofs.lemmas.List.Elements.{All-nil, All-cons, All-head, All-tail}
use Rattle.std.proofs.lemmas.Bool.{eqb-true, eqb-false, eq-eqb}
use Rattle.bits.specs.Bits.{bits}
use Rattle.message.specs.declared.Kind.{Kind}
use Rattle.message.specs.declared.Kind.TheVariants.{Basic}
use Rattle.message.specs.declared.MessageBlock.{MessageBlock}
use Rattle.message.specs.Kinds.{block_count_of}
use Rattle.message.specs.Values.{crc12, filled_values, lawful, map_pairs}
use Rattle.message.proofs.Pairs.{take_two}
use Rattle.message.proofs.Laws.{laws}
use Rattle.message.proofs.Writes.{lawful_length, some_blocks}
use Rattle.collector.specs.declared.MessageFault.TheVariants.{Sequence}
use Rattle.collector.specs.declared.BlockError.{BlockError}
use Rattle.collector.specs.declared.Report.{Report}
use Rattle.collector.specs.Content.{MessageContent}
use Rattle.collector.specs.Faults.{message_fault_of, report_faults}
use Rattle.collector.specs.State.{CollectorState}
use Rattle.collector.specs.declared.assembly.Outcome.{Outcome}
use Rattle.collector.specs.declared.assembly.Outcome.TheVariants.{Corrupt, Incomplete, Whole}
use Rattle.collector.specs.Outcomes.{marked_outcome, next_outcome, same_kind, tested_outcome, unfinished_of}
use Rattle.collector.specs.Step.{after, found_of, is_aps, is_broken, new_state, one_mark, report_basic, report_kind, report_of, report_part, with_no_question}
use Rattle.collector.specs.Runs.{CollectorCall, IsUndamaged, IsWoven, collect, give, blocks_received, goes_kind, goes_to, own, reports, row_of, collected_or_basic}
use Rattle.collector.proofs.Collections.{coll, advance, advance_kind, advance_other, coll_kind}
use Rattle.collector.proofs.Wholes.{part_at, content, joined_part}
use Rattle.collector.proofs.Only.{same_self}
use Rattle.collector.proofs.Faults.{breaks, broken_is, marks_unbroken}

-- what is still to come for a collection, by what it holds: nothing, or the blocks of a message from place i on, and further messages
data Due (c : Option MessageContent) (rest : List MessageBlock) : Type 0 where
  nothing : c ≡ None → rest ≡ [] → Due c rest
  blocks : (k : Kind) (us : List ℕ) (i : ℕ) (ms : List MessageContent)
      → length us ≡ 2 * block_count_of k → crc12 (bits us) ≡ 0 → i < block_count_of k
      → (i ≡ 0 → c ≡ None) → (1 ≤ i → c ≡ Some (content k (take (2 * i) us)))
      → rest ≡ map_pairs (part_at k) i (drop (2 * i) us) ++ row_of ms → All IsUndamaged ms → Due c rest

due_row : (ms : List MessageContent) → All IsUndamaged ms → Due None (row_of ms)
due_row [] h = nothing refl refl
due_row (m ∷ ms) h =
    let u : IsUndamaged m = All-head IsUndamaged m ms h in
    blocks m.kind m.values 0 ms u.long u.remainder (some_blocks m.kind) (λ e. refl) (λ l. absurd (omega arith)) refl (All-tail IsUndamaged m ms h)

-- what a block does that is due
record Taken (k : Kind) (c : Option MessageContent) (b : MessageBlock) (rest : List MessageBlock) : Type 0 where
  unbroken : breaks k b b.starts c ≡ false
  sound : result_err (found_of (next_outcome k c b)) ≡ None
  due : Due (unfinished_of (next_outcome k c b)) rest

-- the next two value bytes, and those behind them
two_more : (us : List ℕ) (i : ℕ) → 2 * i + 1 < length us → drop (2 * i) us ≡ get_or us (2 * i) 0 ∷ get_or us (2 * i + 1) 0 ∷ drop (2 * (i + 1)) us
two_more us i h =
    drop_more us (2 * i) 0 (omega arith)
    ∙ ap (λ (l : List ℕ). get_or us (2 * i) 0 ∷ l) (drop_more us (2 * i + 1) 0 h)
    ∙ ap (λ (n : ℕ). get_or us (2 * i) 0 ∷ get_or us (2 * i + 1) 0 ∷ drop n us) (let e : 2 * i + 1 + 1 ≡ 2 * (i + 1) = omega arith in e)

-- a start mark stands on a message's first block alone
no_start : (c : Option MessageContent) (u : MessageContent) (i : ℕ) → (i ≡ 0 → c ≡ None) → (eqb i 0 && is_some c) ≡ false
no_start c u i p = go (eqb i 0) refl
  where
    go : (t : Bool) → eqb i 0 ≡ t → (t && is_some c) ≡ false
    go true e = ap is_some (p (eqb-true i 0 e))
    go false e = refl

taken : (c : Option MessageContent) (b : MessageBlock) (rest : List MessageBlock) (k : Kind) (us : List ℕ) (i : ℕ) (ms : List MessageContent)
    → length us ≡ 2 * block_count_of k → crc12 (bits us) ≡ 0 → i < block_count_of k
    → (i ≡ 0 → c ≡ None) → (1 ≤ i → c ≡ Some (content k (take (2 * i) us)))
    → b ∷ rest ≡ map_pairs (part_at k) i (drop (2 * i) us) ++ row_of ms → All IsUndamaged ms → (b.kind ≡ Some k) × Taken k c b rest
taken c b rest k us i ms l z f p q e h = (ap (λ (m : MessageBlock). m.kind) is, go (eqb (i + 1) (block_count_of k)) refl)
  where
    x : ℕ
    x = get_or us (2 * i) 0

    y : ℕ
    y = get_or us (2 * i + 1) 0

    split : b ∷ rest ≡ part_at k i x y ∷ (map_pairs (part_at k) (suc i) (drop (2 * (i + 1)) us) ++ row_of ms)
    split = e ∙ ap (λ (vs : List ℕ). map_pairs (part_at k) i vs ++ row_of ms) (two_more us i (omega arith))

    is : b ≡ part_at k i x y
    is = cc split

    behind : rest ≡ map_pairs (part_at k) (suc i) (drop (2 * (i + 1)) us) ++ row_of ms
    behind = cc split

    more : List ℕ
    more = take (2 * i) us ++ x ∷ y ∷ []

    more_is : more ≡ take (2 * (i + 1)) us
    more_is = sym (take_two us i (omega arith))

    outcome : next_outcome k c b ≡ marked_outcome (content k more) (eqb (i + 1) (block_count_of k)) (eqb (i + 1) (block_count_of k))
    outcome = ap (next_outcome k c) is ∙ joined_part k i (take (2 * i) us) c x y (length-take-le (2 * i) us (omega arith)) q

    unbroken : breaks k b b.starts c ≡ false
    unbroken =
        ap₂ (λ (s t : Bool). s || t)
        (ap (λ (m : MessageBlock). m.starts && is_some c) is ∙ no_start c (content k us) i p)
        (ap is_broken outcome ∙ marks_unbroken (content k more) (eqb (i + 1) (block_count_of k)) (eqb (i + 1) (block_count_of k)) refl)

    go : (t : Bool) → eqb (i + 1) (block_count_of k) ≡ t → Taken k c b rest
    go true r =
        let n : i + 1 ≡ block_count_of k = eqb-true (i + 1) (block_count_of k) r in
        let all : more ≡ us = more_is ∙ take_all (2 * (i + 1)) us (omega arith) in
        let whole : next_outcome k c b ≡ Whole (content k us)
        = outcome ∙ ap (λ (t : Bool). marked_outcome (content k more) t t) r
        ∙ ap (λ (vs : List ℕ). tested_outcome (content k vs)) all
        ∙ ap (λ (t : Bool). cond t (Whole (content k us)) Corrupt) (eq-eqb (crc12 (bits us)) 0 z) in
        let none : drop (2 * (i + 1)) us ≡ [] = drop_all (2 * (i + 1)) us (omega arith) in
        let row : rest ≡ row_of ms = behind ∙ ap (λ (vs : List ℕ). map_pairs (part_at k) (suc i) vs ++ row_of ms) none in
        record {
          unbroken = unbroken;
          sound = ap (λ (o : Outcome). result_err (found_of o)) whole;
          due = subst (λ (o : Outcome). Due (unfinished_of o) rest) (sym whole) (subst (Due None) (sym row) (due_row ms h));
        }
    go false r =
        let n : i + 1 ≡ block_count_of k → ⊥ = eqb-false (i + 1) (block_count_of k) r in
        let part : next_outcome k c b ≡ Incomplete (content k (take (2 * (i + 1)) us))
        = outcome ∙ ap (λ (t : Bool). marked_outcome (content k more) t t) r
        ∙ ap (λ (vs : List ℕ). Incomplete (content k vs)) more_is in
        let row : rest ≡ map_pairs (part_at k) (i + 1) (drop (2 * (i + 1)) us) ++ row_of ms
        = behind ∙ ap (λ (j : ℕ). map_pairs (part_at k) j (drop (2 * (i + 1)) us) ++ row_of ms) (let g : suc i ≡ i + 1 = omega arith in g) in
        record {
          unbroken = unbroken;
          sound = ap (λ (o : Outcome). result_err (found_of o)) part;
          due = subst (λ (o : Outcome). Due (unfinished_of o) rest) (sym part)
              (blocks k us (i + 1) ms l z (omega arith) (λ w. absurd (omega arith)) (λ w. refl) row h);
        }

step : (c : Option MessageContent) (b : MessageBlock) (rest : List MessageBlock) (k : Kind) → Due c (b ∷ rest) → b.kind ≡ Some k → Taken k c b rest
step c b rest k (nothing e f) g = absurd (let z : ◌≡◌ {A = ℕ} 0 1 = cc in omega arith)
step c b rest k (blocks l us i ms a z f p q e h) g =
    let t = taken c b rest l us i ms a z f p q e h in
    let s : Some l ≡ Some k = sym t.0 ∙ g in
    let kind : l ≡ k = cc in
    subst (λ (x : Kind). Taken x c b rest) kind t.1

-- a block of a collection is due there
due_first : (g : Bool) (c : Option MessageContent) (b : MessageBlock) (cs : List CollectorCall) → goes_to g b ≡ true → Due c (own g (give b ∷ cs)) → Due c (b ∷ own g cs)
due_first g c b cs e D = subst (λ (t : Bool). Due c (cond t (b ∷ own g cs) (own g cs))) e D

due_kind : (g : Bool) (c : Option MessageContent) (b : MessageBlock) (rest : List MessageBlock) (o : Option Kind) → b.kind ≡ o → goes_kind g o ≡ true
    → Due c (b ∷ rest) → Due (advance_kind g o c b) rest
due_kind g c b rest None e t D = absurd (let z : ◌≡◌ {A = ℕ} 0 1 = cc in omega arith)
due_kind g c b rest (Some k) e t D =
    subst (λ (x : Bool). Due (cond x (unfinished_of (next_outcome k c b)) c) rest) (sym t) (step c b rest k D e).due

due_after : (g : Bool) (s : CollectorState) (b : MessageBlock) (cs : List CollectorCall) → Due (coll g s) (own g (give b ∷ cs)) → Due (coll g (after s b)) (own g cs)
due_after g s b cs D = subst (λ (c : Option MessageContent). Due c (own g cs)) (sym (coll_kind g b.kind s b)) (go (goes_to g b) refl)
  where
    go : (t : Bool) → goes_to g b ≡ t → Due (advance g (coll g s) b) (own g cs)
    go true e = due_kind g (coll g s) b (own g cs) b.kind refl e (due_first g (coll g s) b cs e D)
    go false e =
        subst (λ (c : Option MessageContent). Due c (own g cs)) (sym (advance_other g b.kind (coll g s) b e))
        (subst (λ (t : Bool). Due (coll g s) (cond t (b ∷ own g cs) (own g cs))) e D)

abbrev Faultless : Report → Type 0
Faultless r = report_faults r ≡ None ∷ None ∷ []

faultless_basic : (t : Bool) → t ≡ true
    → Faultless (cond t (record { broken = false; found = Ok (Some Basic) }) (record { broken = true; found = Ok None }))
faultless_basic true e = refl
faultless_basic false e = absurd (let z : ◌≡◌ {A = ℕ} 0 1 = cc in omega arith)

faultless_part : (s : CollectorState) (b : MessageBlock) (cs : List CollectorCall) (k : Kind) → b.kind ≡ Some k → same_kind k Basic ≡ false
    → Due (coll (is_aps k) s) (own (is_aps k) (give b ∷ cs)) → Faultless (report_of s b)
faultless_part s b cs k e f D =
    let g : Bool = is_aps k in
    let goes : goes_to g b ≡ true = ap (goes_kind g) e ∙ ap₂ (λ (x y : Bool). not x && y) f (same_self g) in
    let t : Taken k (coll g s) b (own g cs) = step (coll g s) b (own g cs) k (due_first g (coll g s) b cs goes D) e in
    let found : (report_of s b).found ≡ found_of (next_outcome k (coll g s) b)
    = ap (λ (x : Option Kind). (report_kind x s b).found) e
    ∙ ap (λ (t : Bool). (cond t (report_basic b) (report_part k s b)).found) f in
    ap₂ (λ (x : Bool) (y : Option BlockError). then_some x Sequence ∷ option_map message_fault_of y ∷ [])
    (broken_is s b k e f ∙ t.unbroken)
    (ap result_err found ∙ t.sound)

faultless_kind : (s : CollectorState) (b : MessageBlock) (cs : List CollectorCall) (o : Option Kind) → b.kind ≡ o → collected_or_basic o b ≡ true
    → ((g : Bool) → Due (coll g s) (own g (give b ∷ cs))) → Faultless (report_of s b)
faultless_kind s b cs None e h D = absurd (let z : ◌≡◌ {A = ℕ} 0 1 = cc in omega arith)
faultless_kind s b cs (Some k) e h D = go (same_kind k Basic) refl h
  where
    go : (t : Bool) → same_kind k Basic ≡ t → cond t (one_mark b) true ≡ true → Faultless (report_of s b)
    go true r m =
        ap (λ (x : Option Kind). report_faults (report_kind x s b)) e
        ∙ ap (λ (t : Bool). report_faults (cond t (report_basic b) (report_part k s b))) r
        ∙ faultless_basic (one_mark b) m
    go false r m = faultless_part s b cs k e r (D (is_aps k))

both : (s : CollectorState) (cs : List CollectorCall) → Due (coll true s) (own true cs) → Due (coll false s) (own false cs) → (g : Bool) → Due (coll g s) (own g cs)
both s cs D E true = D
both s cs D E false = E

faultless : (s : CollectorState) (cs : List CollectorCall) → Due (coll true s) (own true cs) → Due (coll false s) (own false cs)
    → All (λ b. collected_or_basic b.kind b ≡ true) (blocks_received cs) → All Faultless (reports s cs)
faultless s [] D E h = All-nil Faultless
faultless s (collect ∷ cs) D E h = faultless (with_no_question s) cs D E h
faultless s (give b ∷ cs) D E h =
    let P : MessageBlock → Type 0 = λ b. collected_or_basic b.kind b ≡ true in
    All-cons Faultless (report_of s b) (reports (after s b) cs)
    (faultless_kind s b cs b.kind refl (All-head P b (blocks_received cs) h) (both s (give b ∷ cs) D E))
    (faultless (after s b) cs (due_after true s b cs D) (due_after false s b cs E) (All-tail P b (blocks_received cs) h))

pub undamaged : (cs : List CollectorCall) (protection low : List MessageContent) → IsWoven cs protection low → All (λ r. report_faults r ≡ None ∷ None ∷ []) (reports new_state cs)
undamaged cs protection low W =
    faultless new_state cs
    (subst (Due None) (sym W.protection_row) (due_row protection W.protection_undamaged))
    (subst (Due None) (sym W.low_row) (due_row low W.low_undamaged))
    W.kinds

pub written_undamaged : (k : Kind) (vs : List ℕ) → lawful k vs ≡ true → IsUndamaged (content k (filled_values vs))
written_undamaged k vs law =
    let len : length vs ≡ 2 * block_count_of k = lawful_length k vs law in
    let two : 2 ≤ length vs = omega (arith, some_blocks k) in
    record { long = laws.same_length vs two ∙ len; remainder = laws.zero_remainder vs two }
