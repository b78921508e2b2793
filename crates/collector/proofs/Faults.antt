-- When each fault is reported.
use Rattle.std.proofs.Common.{Ok, Err, ◌≡◌, ◌↔◌, ℕ, ◌+◌, ◌-◌, ◌*◌, ◌<◌, ◌≤◌, Bool, true, false, cond, not, ◌&&◌, ◌||◌, eqb, is_some, List, [], ◌∷◌, ◌++◌, length, get_or, take, Some, None, Option, sym, refl, ap, ◌∙◌, subst, ap₂, append_assoc, arith}
use Rattle.std.proofs.lemmas.List.{length-take-le, take_all}
use Rattle.bits.specs.Bits.{bits}
use Rattle.message.specs.declared.Kind.{Kind}
use Rattle.message.specs.declared.Kind.TheVariants.{Basic}
use Rattle.message.specs.declared.MessageBlock.{MessageBlock}
use Rattle.message.specs.Kinds.{block_count_of}
use Rattle.message.specs.Values.{crc12}
use Rattle.message.specs.Written.{message_parts}
use Rattle.message.proofs.Pairs.{take_two}
use Rattle.collector.specs.declared.BlockError.TheVariants.{WrongRemainder, UnknownCode}
use Rattle.collector.specs.declared.Report.{Report}
use Rattle.collector.specs.Content.{MessageContent}
use Rattle.collector.specs.State.{CollectorState}
use Rattle.collector.specs.declared.assembly.Outcome.{Outcome}
use Rattle.collector.specs.declared.assembly.Outcome.TheVariants.{Broken, Incomplete, Corrupt, Whole}
use Rattle.collector.specs.Outcomes.{continued_outcome, empty_message, extended_outcome, marked_outcome, next_outcome, same_kind, tested_outcome, with_block}
use Rattle.collector.specs.Step.{found_of, is_aps, is_broken, new_state, one_mark, report_basic, report_kind, report_of, report_part, same_bool}
use Rattle.collector.specs.Runs.{ArrivesCorrupt, CollectorCall, Follows, NoneUnderWay, UnderWay, collect, begins, continues, give, goes_kind, goes_to, own, state_after}
use Rattle.collector.proofs.Extends.{last_test}
use Rattle.collector.proofs.SameKinds.{one_kind, same_true}
use Rattle.collector.proofs.Collections.{coll, advances, coll_run, advances_append}
use Rattle.collector.proofs.Wholes.{part_at, content, parts_push, collected, corrupt_found}
use Rattle.collector.proofs.Only.{Came, Makes, arrives, came, next_makes}

-- ---- what a collection holds, as blocks that have come

-- blocks that go to a collection
AllGo : Bool → List MessageBlock → Type 0
AllGo g [] = Unit {0}
AllGo g (b ∷ bs) = (goes_to g b ≡ true) × AllGo g bs

own_go : (g : Bool) (cs : List CollectorCall) → AllGo g (own g cs)
unfolding AllGo
own_go g [] = tt
own_go g (collect ∷ cs) = own_go g cs
own_go g (give b ∷ cs) = go (goes_to g b) refl (own_go g cs)
  where
    go : (t : Bool) → goes_to g b ≡ t → AllGo g (own g cs) → AllGo g (cond t (b ∷ own g cs) (own g cs))
    go true e rest = (e, rest)
    go false e rest = rest

last_goes : (g : Bool) (front : List MessageBlock) (b : MessageBlock) → AllGo g (front ++ b ∷ []) → goes_to g b ≡ true
unfolding AllGo
last_goes g [] b h = h.0
last_goes g (x ∷ xs) b h = last_goes g xs b h.1

-- the collection holds the message that is under way
pub under_way_held : (g : Bool) (before : List CollectorCall) (k : Kind) (us : List ℕ) → UnderWay g before k us
    → coll g (state_after new_state before) ≡ Some (content k us)
under_way_held g before k us U =
    let i : ℕ = U.blocks in
    let some : 1 ≤ i = U.some in
    let long : length us ≡ 2 * i = U.long in
    let m : ℕ = i - 1 in
    let x : ℕ = get_or us (2 * m) 0 in
    let y : ℕ = get_or us (2 * m + 1) 0 in
    let us' : List ℕ = take (2 * m) us in
    let split : us ≡ us' ++ x ∷ y ∷ []
    = sym (take_all (2 * (m + 1)) us (omega arith)) ∙ take_two us m (omega arith) in
    let ends : own g before ≡ (U.front ++ message_parts k us') ++ part_at k m x y ∷ []
    = U.is ∙ ap (λ (vs : List ℕ). U.front ++ message_parts k vs) split
    ∙ ap (λ (l : List MessageBlock). U.front ++ l) (parts_push k m us' x y (length-take-le (2 * m) us (omega arith)))
    ∙ sym (append_assoc U.front (message_parts k us') (part_at k m x y ∷ [])) in
    let goes : goes_kind g (Some k) ≡ true
    = last_goes g (U.front ++ message_parts k us') (part_at k m x y) (subst (AllGo g) ends (own_go g before)) in
    let all : take (2 * i) us ≡ us = take_all (2 * i) us (omega arith) in
    let c : Option MessageContent = coll g new_state in
    coll_run g new_state before
    ∙ ap (advances g c) U.is
    ∙ advances_append g c U.front (message_parts k us)
    ∙ ap (λ (vs : List ℕ). advances g (advances g c U.front) (message_parts k vs)) (sym all)
    ∙ collected g k us (advances g c U.front) goes i (omega arith) U.some U.few
    ∙ ap (λ (vs : List ℕ). Some (content k vs)) all

abbrev held_under_way : (g : Bool) (before : List CollectorCall) (k : Kind) (u : MessageContent) → Came (own g before) (Some u) → u.kind ≡ k → UnderWay g before k u.values
held_under_way g before k u C e = record {
  front = C.2.front;
  is = C.2.is ∙ ap (λ (z : Kind). C.2.front ++ message_parts z u.values) e;
  blocks = C.0;
  long = C.2.long;
  some = C.1;
  few = subst (λ (z : Kind). C.0 < block_count_of z) e C.3;
}

-- ---- P3

unbroken_marks : (u : MessageContent) (e l : Bool) → is_broken (marked_outcome u e l) ≡ false → e ≡ l
unbroken_marks u true true h = refl
unbroken_marks u true false h = cc
unbroken_marks u false true h = cc
unbroken_marks u false false h = refl

unbroken_tested : (u : MessageContent) → is_broken (tested_outcome u) ≡ false
unbroken_tested u = go (eqb (crc12 (bits u.values)) 0)
  where
    go : (t : Bool) → is_broken (cond t (Whole u) Corrupt) ≡ false
    go true = refl
    go false = refl

pub marks_unbroken : (u : MessageContent) (e l : Bool) → e ≡ l → is_broken (marked_outcome u e l) ≡ false
marks_unbroken u true true h = unbroken_tested u
marks_unbroken u true false h = absurd (let z : ◌≡◌ {A = ℕ} 0 1 = cc in omega arith)
marks_unbroken u false true h = absurd (let z : ◌≡◌ {A = ℕ} 0 1 = cc in omega arith)
marks_unbroken u false false h = refl

ends_of : (u : MessageContent) (b : MessageBlock) (i : ℕ) → length u.values ≡ 2 * i → is_broken (extended_outcome u b) ≡ false → b.ends ≡ eqb (i + 1) (block_count_of u.kind)
ends_of u b i l h =
    unbroken_marks (with_block u b) b.ends (eqb (length (with_block u b).values) (2 * block_count_of u.kind)) h
    ∙ last_test u.values i (block_count_of u.kind) b.first b.second l

ends_unbroken : (u : MessageContent) (b : MessageBlock) (i : ℕ) → length u.values ≡ 2 * i → b.ends ≡ eqb (i + 1) (block_count_of u.kind) → is_broken (extended_outcome u b) ≡ false
ends_unbroken u b i l h =
    marks_unbroken (with_block u b) b.ends (eqb (length (with_block u b).values) (2 * block_count_of u.kind))
    (h ∙ sym (last_test u.values i (block_count_of u.kind) b.first b.second l))

-- whether a block of kind k breaks the sequence, by its start mark and by what its collection holds
abbrev pub breaks : Kind → MessageBlock → Bool → Option MessageContent → Bool
breaks k b t c = (t && is_some c) || is_broken (cond t (extended_outcome (empty_message k) b) (continued_outcome k c b))

pub broken_is : (s : CollectorState) (b : MessageBlock) (k : Kind) → b.kind ≡ Some k → same_kind k Basic ≡ false
    → (report_of s b).broken ≡ breaks k b b.starts (coll (is_aps k) s)
broken_is s b k e f =
    ap (λ (x : Option Kind). (report_kind x s b).broken) e
    ∙ ap (λ (t : Bool). (cond t (report_basic b) (report_part k s b)).broken) f

follows_from : (before : List CollectorCall) (b : MessageBlock) (k : Kind) → (t : Bool) → b.starts ≡ t → (c : Option MessageContent) → coll (is_aps k) (state_after new_state before) ≡ c
    → Came (own (is_aps k) before) c → breaks k b t c ≡ false → Follows before b k
follows_from before b k true s None e C h =
    begins s
    (λ l us U. let z : None ≡ Some (content l us) = sym e ∙ under_way_held (is_aps k) before l us U in let y : ◌≡◌ {A = ℕ} 0 1 = cc in omega arith)
    (ends_of (empty_message k) b 0 refl h)
follows_from before b k true s (Some u) e C h = absurd (let z : ◌≡◌ {A = ℕ} 0 1 = cc in omega arith)
follows_from before b k false s None e C h = absurd (let z : ◌≡◌ {A = ℕ} 0 1 = cc in omega arith)
follows_from before b k false s (Some u) e C h = go (same_kind u.kind k) refl h
  where
    go : (t : Bool) → same_kind u.kind k ≡ t → is_broken (cond t (extended_outcome u b) Broken) ≡ false → Follows before b k
    go false r q = absurd (let z : ◌≡◌ {A = ℕ} 0 1 = cc in omega arith)
    go true r q =
        let kind : u.kind ≡ k = one_kind u.kind k r in
        continues u.values (held_under_way (is_aps k) before k u C kind) s
        (ends_of u b C.0 C.2.long q ∙ ap (λ (z : Kind). eqb (C.0 + 1) (block_count_of z)) kind)

none_held : (g : Bool) (before : List CollectorCall) → NoneUnderWay g before → (c : Option MessageContent) → coll g (state_after new_state before) ≡ c → coll g (state_after new_state before) ≡ None
none_held g before N None e = e
none_held g before N (Some u) e =
    absurd (N u.kind u.values (held_under_way g before u.kind u (subst (Came (own g before)) e (came g before)) refl))

unbroken : (before : List CollectorCall) (b : MessageBlock) (k : Kind) → Follows before b k → breaks k b b.starts (coll (is_aps k) (state_after new_state before)) ≡ false
unbroken before b k (begins s N e) =
    ap₂ (breaks k b) s (none_held (is_aps k) before N (coll (is_aps k) (state_after new_state before)) refl)
    ∙ ends_unbroken (empty_message k) b 0 refl e
unbroken before b k (continues us U s e) =
    ap₂ (breaks k b) s (under_way_held (is_aps k) before k us U)
    ∙ ap (λ (t : Bool). is_broken (cond t (extended_outcome (content k us) b) Broken)) (same_true k k refl)
    ∙ ends_unbroken (content k us) b U.blocks U.long e

not_basic : (k : Kind) → (k ≡ Basic → ⊥) → same_kind k Basic ≡ false
not_basic k n = go (same_kind k Basic) refl
  where
    go : (t : Bool) → same_kind k Basic ≡ t → same_kind k Basic ≡ false
    go true e = absurd (n (one_kind k Basic e))
    go false e = e

pub sequence : (before : List CollectorCall) (b : MessageBlock) (k : Kind) → b.kind ≡ Some k → (k ≡ Basic → ⊥)
    → ((report_of (state_after new_state before) b).broken ≡ false) ↔ Follows before b k
sequence before b k e n =
    let is = broken_is (state_after new_state before) b k e (not_basic k n) in (
      λ h. follows_from before b k b.starts refl (coll (is_aps k) (state_after new_state before)) refl (came (is_aps k) before) (sym is ∙ h),
      λ F. is ∙ unbroken before b k F,
    )

pub basic_sequence : (s : CollectorState) (b : MessageBlock) → b.kind ≡ Some Basic → (report_of s b).broken ≡ same_bool b.starts b.ends
basic_sequence s b e = ap (λ (x : Option Kind). (report_kind x s b).broken) e ∙ go (same_bool b.starts b.ends)
  where
    go : (t : Bool) → (cond {A = Report} (not t) (record { broken = false; found = Ok (Some Basic) }) (record { broken = true; found = Ok None })).broken ≡ t
    go true = refl
    go false = refl

pub unknown_sequence : (s : CollectorState) (b : MessageBlock) → b.kind ≡ None → (report_of s b).broken ≡ false
unknown_sequence s b e = ap (λ (x : Option Kind). (report_kind x s b).broken) e

-- ---- P1

no_wrong : (b : MessageBlock) (t : Bool)
    → (cond {A = Report} t (record { broken = false; found = Ok (Some Basic) }) (record { broken = true; found = Ok None })).found ≡ Err WrongRemainder → ⊥
no_wrong b true w = let z : ◌≡◌ {A = ℕ} 0 1 = cc in omega arith
no_wrong b false w = let z : ◌≡◌ {A = ℕ} 0 1 = cc in omega arith

wrong_part : (before : List CollectorCall) (b : MessageBlock) (k : Kind) (o : Outcome) → b.kind ≡ Some k → same_kind k Basic ≡ false
    → Makes (own (is_aps k) before ++ b ∷ []) b.kind o → found_of o ≡ Err WrongRemainder → ArrivesCorrupt before b
wrong_part before b k Broken e f M w = absurd (let z : ◌≡◌ {A = ℕ} 0 1 = cc in omega arith)
wrong_part before b k (Incomplete u) e f M w = absurd (let z : ◌≡◌ {A = ℕ} 0 1 = cc in omega arith)
wrong_part before b k Corrupt e f M w = record {
  kind = k;
  values = M.0.values;
  arrives = arrives before b k M.0 e f M.1 M.3;
  remainder = M.2;
}
wrong_part before b k (Whole u) e f M w = absurd (let z : ◌≡◌ {A = ℕ} 0 1 = cc in omega arith)

wrong_kind : (before : List CollectorCall) (b : MessageBlock) (o : Option Kind) → b.kind ≡ o
    → (report_kind o (state_after new_state before) b).found ≡ Err WrongRemainder → ArrivesCorrupt before b
wrong_kind before b None e w = absurd (let z : ◌≡◌ {A = ℕ} 0 1 = cc in omega arith)
wrong_kind before b (Some k) e w = go (same_kind k Basic) refl w
  where
    S : CollectorState
    S = state_after new_state before

    go : (t : Bool) → same_kind k Basic ≡ t → (cond t (report_basic b) (report_part k S b)).found ≡ Err WrongRemainder → ArrivesCorrupt before b
    go true r v = absurd (no_wrong b (one_mark b) v)
    go false r v =
        wrong_part before b k (next_outcome k (coll (is_aps k) S) b) e r
        (next_makes (own (is_aps k) before) k (coll (is_aps k) S) b (came (is_aps k) before) e) v

pub remainder : (before : List CollectorCall) (b : MessageBlock)
    → ((report_of (state_after new_state before) b).found ≡ Err WrongRemainder) ↔ ArrivesCorrupt before b
remainder before b = (
  wrong_kind before b b.kind refl,
  λ h. corrupt_found new_state before b h.kind h.values h.arrives h.remainder,
)

-- ---- P2

known_part : (o : Outcome) → found_of o ≡ Err UnknownCode → ⊥
known_part Broken w = let z : ◌≡◌ {A = ℕ} 0 1 = cc in omega arith
known_part (Incomplete u) w = let z : ◌≡◌ {A = ℕ} 0 1 = cc in omega arith
known_part Corrupt w = let z : ◌≡◌ {A = ℕ} 0 1 = cc in omega arith
known_part (Whole u) w = let z : ◌≡◌ {A = ℕ} 0 1 = cc in omega arith

known_basic : (t : Bool)
    → (cond {A = Report} t (record { broken = false; found = Ok (Some Basic) }) (record { broken = true; found = Ok None })).found ≡ Err UnknownCode → ⊥
known_basic true w = let z : ◌≡◌ {A = ℕ} 0 1 = cc in omega arith
known_basic false w = let z : ◌≡◌ {A = ℕ} 0 1 = cc in omega arith

unknown_kind : (s : CollectorState) (b : MessageBlock) (o : Option Kind) → (report_kind o s b).found ≡ Err UnknownCode → o ≡ None
unknown_kind s b None w = refl
unknown_kind s b (Some k) w = absurd (go (same_kind k Basic) w)
  where
    go : (t : Bool) → (cond t (report_basic b) (report_part k s b)).found ≡ Err UnknownCode → ⊥
    go true v = known_basic (one_mark b) v
    go false v = known_part (next_outcome k (coll (is_aps k) s) b) v

pub unknown : (s : CollectorState) (b : MessageBlock) → ((report_of s b).found ≡ Err UnknownCode) ↔ (b.kind ≡ None)
unknown s b = (unknown_kind s b b.kind, λ e. ap (λ (x : Option Kind). (report_kind x s b).found) e)
