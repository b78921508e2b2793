-- What a collector keeps is the latest whole message of each kind, and the latest whole question that was not collected since.
use Rattle.std.proofs.Common.{Ok, ◌≡◌, ◌↔◌, ℕ, Bool, true, false, cond, List, [], ◌∷◌, ◌++◌, length, take, Some, None, Option, Result, sym, refl, ap, ◌∙◌, subst, append_assoc, arith}
use Rattle.std.specs.List.{All}
use Rattle.std.proofs.lemmas.List.{append-nil}
use Rattle.std.proofs.lemmas.List.Elements.{All-nil, All-cons, All-append}
use Rattle.message.specs.declared.Kind.{Kind}
use Rattle.message.specs.declared.Kind.TheVariants.{Basic, Aps, Cv, OneDm, TwoDmm, TwoDmr, Cs}
use Rattle.message.specs.declared.MessageBlock.{MessageBlock}
use Rattle.collector.specs.declared.BlockError.{BlockError}
use Rattle.collector.specs.declared.Report.{Report}
use Rattle.collector.specs.Content.{MessageContent}
use Rattle.collector.specs.State.{CollectorState, last_of}
use Rattle.collector.specs.declared.assembly.Outcome.{Outcome}
use Rattle.collector.specs.declared.assembly.Outcome.TheVariants.{Broken, Incomplete, Corrupt, Whole}
use Rattle.collector.specs.Outcomes.{next_outcome, same_kind}
use Rattle.collector.specs.Step.{after, after_basic, after_kind, after_part, basic_content, found_of, with_collection, is_aps, with_last_whole, new_state, one_mark, report_basic, report_kind, report_of, report_part, after_outcome, with_no_question}
use Rattle.collector.specs.Runs.{Arrives, CollectorCall, IsLatest, IsWaiting, LatestWhole, MakesWhole, NoQuestion, NoneWhole, collect, collect_last, by_basic, by_blocks, give, never_collects, no_call, own, reports, state_after}
use Rattle.collector.proofs.SameKinds.{one_kind, same_true}
use Rattle.collector.proofs.Sounds.{last_kept_same, last_kept_other, places_kept}
use Rattle.collector.proofs.Collections.{coll, run_append}
use Rattle.collector.proofs.Wholes.{content, whole_found}
use Rattle.collector.proofs.Only.{Makes, arrives, came, next_makes}

-- ---- what one block does for a kind

abbrev NotFound : Kind → Report → Type 0
NotFound k r = r.found ≡ Ok (Some k) → ⊥

-- with what is reported, what is then the last of kind k, and what then waits: a message of kind k is made whole, or none is
data Effect (h : List CollectorCall) (b : MessageBlock) (k : Kind) (s : CollectorState) (r : Report) (t : CollectorState) : Type 0 where
  made : (us : List ℕ) → MakesWhole h b k us → last_of k t ≡ Some (content k us) → (k ≡ TwoDmm → t.question ≡ Some (take 8 us)) → Effect h b k s r t
  other : NotFound k r → last_of k t ≡ last_of k s → (k ≡ TwoDmm → t.question ≡ s.question) → Effect h b k s r t

differ : (k l : Kind) → same_kind k l ≡ false → k ≡ l → ⊥
differ k l e f = let z : true ≡ false = sym (same_true k l f) ∙ e in let y : ◌≡◌ {A = ℕ} 0 1 = cc in omega arith

effect_basic : (h : List CollectorCall) (b : MessageBlock) (k : Kind) (s : CollectorState) (t : Bool) → one_mark b ≡ t → b.kind ≡ Some Basic → length s.kept ≡ 7
    → Effect h b k s (cond {A = Report} t (record { broken = false; found = Ok (Some Basic) }) (record { broken = true; found = Ok None })) (cond t (with_last_whole (basic_content b) s) s)
effect_basic h b k s false m e l = other (λ w. let z : ◌≡◌ {A = ℕ} 0 1 = cc in omega arith) refl (λ d. refl)
effect_basic h b k s true m e l = go (same_kind k Basic) refl
  where
    go : (t : Bool) → same_kind k Basic ≡ t → Effect h b k s (record { broken = false; found = Ok (Some Basic) }) (with_last_whole (basic_content b) s)
    go true r =
        let kind : k ≡ Basic = one_kind k Basic r in
        made (b.first ∷ b.second ∷ []) (by_basic kind e m refl)
        (last_kept_same k (basic_content b) s (sym kind) l ∙ ap (λ (x : Kind). Some (content x (b.first ∷ b.second ∷ []))) (sym kind))
        (λ d. let z : Basic ≡ TwoDmm = sym kind ∙ d in let y : ◌≡◌ {A = ℕ} 0 1 = cc in absurd (omega arith))
    go false r =
        let ne : k ≡ Basic → ⊥ = differ k Basic r in
        other (λ w. ne (let z : k ≡ Basic = cc in z)) (last_kept_other k (basic_content b) s ne) (λ d. refl)

effect_part : (h : List CollectorCall) (b : MessageBlock) (k l : Kind) (s : CollectorState) (f : Bool) (o : Outcome) → b.kind ≡ Some l → same_kind l Basic ≡ false → length s.kept ≡ 7
    → Makes (own (is_aps l) h ++ b ∷ []) b.kind o → Effect h b k s (record { broken = f; found = found_of o }) (after_outcome l o s)
effect_part h b k l s f Broken e n z M = other (λ w. let z : ◌≡◌ {A = ℕ} 0 1 = cc in omega arith) refl (λ d. refl)
effect_part h b k l s f (Incomplete u) e n z M = other (λ w. let z : ◌≡◌ {A = ℕ} 0 1 = cc in omega arith) refl (λ d. refl)
effect_part h b k l s f Corrupt e n z M = other (λ w. let z : ◌≡◌ {A = ℕ} 0 1 = cc in omega arith) refl (λ d. refl)
effect_part h b k l s f (Whole u) e n z M = go (same_kind k u.kind) refl
  where
    t : CollectorState
    t = with_collection l None s

    asked_is : (x : Bool) → same_kind u.kind TwoDmm ≡ x → (with_last_whole u t).question ≡ cond x (Some (take 8 u.values)) s.question
    asked_is x g = ap (λ (x : Bool). cond x (Some (take 8 u.values)) s.question) g

    quiet : (x : Bool) → same_kind u.kind TwoDmm ≡ x → k ≡ TwoDmm → (k ≡ u.kind → ⊥) → (with_last_whole u t).question ≡ s.question
    quiet true g d ne = absurd (ne (d ∙ sym (one_kind u.kind TwoDmm g)))
    quiet false g d ne = asked_is false g

    go : (x : Bool) → same_kind k u.kind ≡ x → Effect h b k s (record { broken = f; found = Ok (Some u.kind) }) (with_last_whole u t)
    go true r =
        let kind : k ≡ u.kind = one_kind k u.kind r in
        let both : Some u.kind ≡ Some l = sym M.2 ∙ e in
        let one : u.kind ≡ l = cc in
        made u.values
        (by_blocks (subst (λ (x : Kind). Arrives h b x u.values) (sym (kind ∙ one)) (arrives h b l u e n M.0 M.2), M.1))
        (last_kept_same k u t (sym kind) z ∙ ap (λ (x : Kind). Some (content x u.values)) (sym kind))
        (λ d. asked_is true (same_true u.kind TwoDmm (sym kind ∙ d)))
    go false r =
        let ne : k ≡ u.kind → ⊥ = differ k u.kind r in
        other (λ w. ne (let y : u.kind ≡ k = cc in sym y)) (last_kept_other k u t ne) (λ d. quiet (same_kind u.kind TwoDmm) refl d ne)

effect_kind : (h : List CollectorCall) (b : MessageBlock) (k : Kind) (s : CollectorState) (o : Option Kind) → b.kind ≡ o → length s.kept ≡ 7 → s ≡ state_after new_state h
    → Effect h b k s (report_kind o s b) (after_kind o s b)
effect_kind h b k s None e z r = other (λ w. let z : ◌≡◌ {A = ℕ} 0 1 = cc in omega arith) refl (λ d. refl)
effect_kind h b k s (Some l) e z r = go (same_kind l Basic) refl
  where
    makes : same_kind l Basic ≡ false → Makes (own (is_aps l) h ++ b ∷ []) b.kind (next_outcome l (coll (is_aps l) s) b)
    makes f =
        subst (λ (x : CollectorState). Makes (own (is_aps l) h ++ b ∷ []) b.kind (next_outcome l (coll (is_aps l) x) b)) (sym r)
        (next_makes (own (is_aps l) h) l (coll (is_aps l) (state_after new_state h)) b (came (is_aps l) h) e)

    go : (t : Bool) → same_kind l Basic ≡ t → Effect h b k s (cond t (report_basic b) (report_part l s b)) (cond t (after_basic s b) (after_part l s b))
    go true f =
        let kind : l ≡ Basic = one_kind l Basic f in
        effect_basic h b k s (one_mark b) refl (e ∙ ap (λ (x : Kind). Some x) kind) z
    go false f = effect_part h b k l s (report_part l s b).broken (next_outcome l (coll (is_aps l) s) b) e f z (makes f)

effect : (h : List CollectorCall) (b : MessageBlock) (k : Kind) → Effect h b k (state_after new_state h) (report_of (state_after new_state h) b) (after (state_after new_state h) b)
effect h b k = effect_kind h b k (state_after new_state h) b.kind refl (places_kept new_state h refl) refl

-- a message is reported whole exactly where its last block makes it so
found_made : (h : List CollectorCall) (b : MessageBlock) (k : Kind) (s t : CollectorState) (r : Report) → Effect h b k s r t → r.found ≡ Ok (Some k) → (us : List ℕ) × MakesWhole h b k us
found_made h b k s t r (made us M l q) w = (us, M)
found_made h b k s t r (other n l q) w = absurd (n w)

made_found : (h : List CollectorCall) (b : MessageBlock) (k : Kind) (us : List ℕ) → MakesWhole h b k us → (report_of (state_after new_state h) b).found ≡ Ok (Some k)
made_found h b k us (by_basic d e m v) =
    ap (λ (x : Option Kind). (report_kind x (state_after new_state h) b).found) e
    ∙ ap (λ (t : Bool). (cond {A = Report} t (record { broken = false; found = Ok (Some Basic) }) (record { broken = true; found = Ok None })).found) m
    ∙ ap {B = Result (Option Kind) BlockError} (λ (x : Kind). Ok (Some x)) (sym d)
made_found h b k us (by_blocks C) = (whole_found new_state h b k us refl C).found

pub whole_exactly : (h : List CollectorCall) (b : MessageBlock) (k : Kind)
    → ((report_of (state_after new_state h) b).found ≡ Ok (Some k)) ↔ ((us : List ℕ) × MakesWhole h b k us)
whole_exactly h b k = (
  found_made h b k (state_after new_state h) (after (state_after new_state h) b) (report_of (state_after new_state h) b) (effect h b k),
  λ p. made_found h b k p.0 p.1,
)

-- ---- calls one by one

reports_append : (s : CollectorState) (xs ys : List CollectorCall) → reports s (xs ++ ys) ≡ reports s xs ++ reports (state_after s xs) ys
reports_append s [] ys = refl
reports_append s (give b ∷ xs) ys = ap (λ (l : List Report). report_of s b ∷ l) (reports_append (after s b) xs ys)
reports_append s (collect ∷ xs) ys = reports_append (with_no_question s) xs ys

none_gave : (k : Kind) (s : CollectorState) (xs : List CollectorCall) (b : MessageBlock) (t : CollectorState) → state_after s xs ≡ t → NoneWhole k s xs → NotFound k (report_of t b)
    → NoneWhole k s (xs ++ give b ∷ [])
none_gave k s xs b t e N n =
    subst (All (NotFound k))
    (sym (reports_append s xs (give b ∷ [])))
    (All-append (NotFound k) (reports s xs) (report_of (state_after s xs) b ∷ []) N
    (All-cons (NotFound k) (report_of (state_after s xs) b) [] (subst (λ (x : CollectorState). NotFound k (report_of x b)) (sym e) n) (All-nil (NotFound k))))

none_asked : (k : Kind) (s : CollectorState) (xs : List CollectorCall) → NoneWhole k s xs → NoneWhole k s (xs ++ collect ∷ [])
none_asked k s xs N = subst (All (NotFound k)) (sym (reports_append s xs (collect ∷ []) ∙ append-nil (reports s xs))) N

-- the calls since a message, with one more
longer : (h before : List CollectorCall) (b : MessageBlock) (since : List CollectorCall) (x : CollectorCall) → h ≡ before ++ give b ∷ since → h ++ x ∷ [] ≡ before ++ give b ∷ (since ++ x ∷ [])
longer h before b since x e = ap (λ (l : List CollectorCall). l ++ x ∷ []) e ∙ append_assoc before (give b ∷ since) (x ∷ [])

ran : (h before : List CollectorCall) (b : MessageBlock) (since : List CollectorCall) → h ≡ before ++ give b ∷ since
    → state_after (state_after new_state (before ++ give b ∷ [])) since ≡ state_after new_state h
ran h before b since e =
    sym (run_append new_state (before ++ give b ∷ []) since)
    ∙ ap (state_after new_state) (append_assoc before (give b ∷ []) since ∙ sym e)

abbrev latest_gave : (h : List CollectorCall) (b : MessageBlock) (k : Kind) (m : MessageContent) → LatestWhole h k m → NotFound k (report_of (state_after new_state h) b)
    → LatestWhole (h ++ give b ∷ []) k m
latest_gave h b k m L n = record {
  before = L.before;
  block = L.block;
  since = L.since ++ give b ∷ [];
  is = longer h L.before L.block L.since (give b) L.is;
  kind = L.kind;
  whole = L.whole;
  none_since = none_gave k (state_after new_state (L.before ++ give L.block ∷ [])) L.since b (state_after new_state h) (ran h L.before L.block L.since L.is) L.none_since n;
}

latest_asked : (h : List CollectorCall) (k : Kind) (m : MessageContent) → LatestWhole h k m → LatestWhole (h ++ collect ∷ []) k m
latest_asked h k m L = record {
  before = L.before;
  block = L.block;
  since = L.since ++ collect ∷ [];
  is = longer h L.before L.block L.since collect L.is;
  kind = L.kind;
  whole = L.whole;
  none_since = none_asked k (state_after new_state (L.before ++ give L.block ∷ [])) L.since L.none_since;
}

abbrev latest_made : (h : List CollectorCall) (b : MessageBlock) (k : Kind) (us : List ℕ) → MakesWhole h b k us → LatestWhole (h ++ give b ∷ []) k (content k us)
latest_made h b k us M = record {
  before = h;
  block = b;
  since = [];
  is = refl;
  kind = refl;
  whole = M;
  none_since = All-nil (NotFound k);
}

-- ---- the last message of a kind

last_gave : (h : List CollectorCall) (b : MessageBlock) (k : Kind) (m : Option MessageContent) → IsLatest h k m → NotFound k (report_of (state_after new_state h) b) → IsLatest (h ++ give b ∷ []) k m
last_gave h b k None L n = none_gave k new_state h b (state_after new_state h) refl L n
last_gave h b k (Some m) L n = latest_gave h b k m L n

last_asked : (h : List CollectorCall) (k : Kind) (m : Option MessageContent) → IsLatest h k m → IsLatest (h ++ collect ∷ []) k m
last_asked h k None L = none_asked k new_state h L
last_asked h k (Some m) L = latest_asked h k m L

last_step : (h : List CollectorCall) (b : MessageBlock) (k : Kind) → IsLatest h k (last_of k (state_after new_state h))
    → IsLatest (h ++ give b ∷ []) k (last_of k (after (state_after new_state h) b))
last_step h b k L = go (effect h b k)
  where
    S : CollectorState
    S = state_after new_state h

    go : Effect h b k S (report_of S b) (after S b) → IsLatest (h ++ give b ∷ []) k (last_of k (after S b))
    go (made us M l q) = subst (IsLatest (h ++ give b ∷ []) k) (sym l) (latest_made h b k us M)
    go (other n l q) = subst (IsLatest (h ++ give b ∷ []) k) (sym l) (last_gave h b k (last_of k S) L n)

last_run : (k : Kind) (h cs : List CollectorCall) → IsLatest h k (last_of k (state_after new_state h)) → IsLatest (h ++ cs) k (last_of k (state_after new_state (h ++ cs)))
last_run k h [] L = subst (λ (l : List CollectorCall). IsLatest l k (last_of k (state_after new_state l))) (sym (append-nil h)) L
last_run k h (give b ∷ cs) L =
    subst (λ (l : List CollectorCall). IsLatest l k (last_of k (state_after new_state l))) (append_assoc h (give b ∷ []) cs)
    (last_run k (h ++ give b ∷ []) cs
    (subst (λ (x : CollectorState). IsLatest (h ++ give b ∷ []) k (last_of k x)) (sym (run_append new_state h (give b ∷ []))) (last_step h b k L)))
last_run k h (collect ∷ cs) L =
    subst (λ (l : List CollectorCall). IsLatest l k (last_of k (state_after new_state l))) (append_assoc h (collect ∷ []) cs)
    (last_run k (h ++ collect ∷ []) cs
    (subst (λ (x : CollectorState). IsLatest (h ++ collect ∷ []) k (last_of k x)) (sym (run_append new_state h (collect ∷ []))) (last_asked h k (last_of k (state_after new_state h)) L)))

none_kept : (k : Kind) → last_of k new_state ≡ None
none_kept Basic = refl
none_kept Aps = refl
none_kept Cv = refl
none_kept OneDm = refl
none_kept TwoDmm = refl
none_kept TwoDmr = refl
none_kept Cs = refl

pub last : (cs : List CollectorCall) (k : Kind) → IsLatest cs k (last_of k (state_after new_state cs))
last cs k = last_run k [] cs (subst (IsLatest [] k) (sym (none_kept k)) (All-nil (NotFound k)))

-- ---- the question that waits

never_more : (cs : List CollectorCall) (b : MessageBlock) → never_collects cs ≡ true → never_collects (cs ++ give b ∷ []) ≡ true
never_more [] b e = refl
never_more (give x ∷ cs) b e = never_more cs b e
never_more (collect ∷ cs) b e = absurd (let z : ◌≡◌ {A = ℕ} 0 1 = cc in omega arith)

waits_gave : (h : List CollectorCall) (b : MessageBlock) (q : Option (List ℕ)) → IsWaiting h q → NotFound TwoDmm (report_of (state_after new_state h) b) → IsWaiting (h ++ give b ∷ []) q
waits_gave h b None N n = record {
  before = N.before;
  since = N.since ++ give b ∷ [];
  is = ap (λ (l : List CollectorCall). l ++ give b ∷ []) N.is ∙ append_assoc N.before N.since (give b ∷ []);
  at = N.at;
  none_since = none_gave TwoDmm (state_after new_state N.before) N.since b (state_after new_state h)
      (sym (run_append new_state N.before N.since) ∙ ap (state_after new_state) (sym N.is)) N.none_since n;
}
waits_gave h b (Some t) W n = record {
  values = W.values;
  latest = latest_gave h b TwoDmm (record { kind = TwoDmm; values = W.values }) W.latest n;
  unasked = never_more W.latest.since b W.unasked;
  time_is = W.time_is;
}

waits_step : (h : List CollectorCall) (b : MessageBlock) → IsWaiting h (state_after new_state h).question → IsWaiting (h ++ give b ∷ []) (after (state_after new_state h) b).question
waits_step h b W = go (effect h b TwoDmm)
  where
    S : CollectorState
    S = state_after new_state h

    go : Effect h b TwoDmm S (report_of S b) (after S b) → IsWaiting (h ++ give b ∷ []) (after S b).question
    go (made us M l q) =
        subst (IsWaiting (h ++ give b ∷ [])) (sym (q refl))
        (record { values = us; latest = latest_made h b TwoDmm us M; unasked = refl; time_is = refl })
    go (other n l q) = subst (IsWaiting (h ++ give b ∷ [])) (sym (q refl)) (waits_gave h b S.question W n)

waits_asked : (h : List CollectorCall) → NoQuestion (h ++ collect ∷ [])
waits_asked h = record {
  before = h ++ collect ∷ [];
  since = [];
  is = sym (append-nil (h ++ collect ∷ []));
  at = collect_last h;
  none_since = All-nil (NotFound TwoDmm);
}

waits_run : (h cs : List CollectorCall) → IsWaiting h (state_after new_state h).question → IsWaiting (h ++ cs) (state_after new_state (h ++ cs)).question
waits_run h [] W = subst (λ (l : List CollectorCall). IsWaiting l (state_after new_state l).question) (sym (append-nil h)) W
waits_run h (give b ∷ cs) W =
    subst (λ (l : List CollectorCall). IsWaiting l (state_after new_state l).question) (append_assoc h (give b ∷ []) cs)
    (waits_run (h ++ give b ∷ []) cs
    (subst (λ (x : CollectorState). IsWaiting (h ++ give b ∷ []) x.question) (sym (run_append new_state h (give b ∷ []))) (waits_step h b W)))
waits_run h (collect ∷ cs) W =
    subst (λ (l : List CollectorCall). IsWaiting l (state_after new_state l).question) (append_assoc h (collect ∷ []) cs)
    (waits_run (h ++ collect ∷ []) cs
    (subst (λ (x : CollectorState). IsWaiting (h ++ collect ∷ []) x.question) (sym (run_append new_state h (collect ∷ []))) (waits_asked h)))

pub waits : (cs : List CollectorCall) → IsWaiting cs (state_after new_state cs).question
waits cs = waits_run [] cs (record { before = []; since = []; is = refl; at = no_call; none_since = All-nil (NotFound TwoDmm) })
