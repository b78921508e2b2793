-- Nothing else is found whole: what a collection holds has come in a row.
use Rattle.std.proofs.Common.{Ok, ◌≡◌, ℕ, ◌+◌, ◌*◌, ◌<◌, ◌≤◌, Bool, true, false, cond, not, ◌&&◌, eqb, List, [], ◌∷◌, ◌++◌, length, Some, None, Option, sym, refl, ap, ◌∙◌, subst, ap₂, append_assoc, arith}
use Rattle.std.proofs.lemmas.List.{append-nil, length-append}
use Rattle.std.proofs.lemmas.Bool.{eqb-true, eqb-false, ne_eqb}
use Rattle.bits.specs.Bits.{bits}
use Rattle.message.specs.declared.Kind.{Kind}
use Rattle.message.specs.declared.Kind.TheVariants.{Basic}
use Rattle.message.specs.declared.MessageBlock.{MessageBlock}
use Rattle.message.specs.Kinds.{block_count_of}
use Rattle.message.specs.Blocks.{message_block_of}
use Rattle.message.specs.Values.{crc12}
use Rattle.message.specs.Written.{message_parts}
use Rattle.message.proofs.Writes.{some_blocks}
use Rattle.collector.specs.declared.Report.{Report}
use Rattle.collector.specs.Content.{MessageContent}
use Rattle.collector.specs.State.{CollectorState}
use Rattle.collector.specs.declared.assembly.Outcome.{Outcome}
use Rattle.collector.specs.declared.assembly.Outcome.TheVariants.{Broken, Incomplete, Corrupt, Whole}
use Rattle.collector.specs.Outcomes.{continued_outcome, extended_outcome, with_block, marked_outcome, next_outcome, same_kind, unfinished_of}
use Rattle.collector.specs.Step.{after, found_of, is_aps, new_state, one_mark, report_basic, report_kind, report_of, report_part, same_bool, with_no_question}
use Rattle.collector.specs.Runs.{CollectorCall, give, collect, goes_kind, goes_to, own, state_after, Arrives, Completes}
use Rattle.collector.specs.Laws.{FoundWhole}
use Rattle.collector.proofs.Extends.{last_test}
use Rattle.collector.proofs.Collections.{coll, advance, advance_kind, advance_other, coll_kind, own_push, own_asked}
use Rattle.collector.proofs.SameKinds.{one_kind}
use Rattle.collector.proofs.Wholes.{part_at, content, parts_push, whole_found}

-- some blocks end with the first i blocks of a message
pub record Ends (h : List MessageBlock) (u : MessageContent) (i : ℕ) : Type 0 where
  pub front : List MessageBlock
  pub is : h ≡ front ++ message_parts u.kind u.values
  pub long : length u.values ≡ 2 * i

-- what a collection holds has come
abbrev pub Came : List MessageBlock → Option MessageContent → Type 0
Came h None = Unit {0}
Came h (Some u) = (i : ℕ) × (1 ≤ i) × Ends h u i × (i < block_count_of u.kind)

-- and what is made of it at a block
abbrev pub Makes : List MessageBlock → Option Kind → Outcome → Type 0
Makes h o Broken = Unit {0}
Makes h o (Incomplete u) = Came h (Some u)
Makes h o Corrupt = (u : MessageContent) × Ends h u (block_count_of u.kind) × (crc12 (bits u.values) ≡ 0 → ⊥) × (o ≡ Some u.kind)
Makes h o (Whole u) = Ends h u (block_count_of u.kind) × (crc12 (bits u.values) ≡ 0) × (o ≡ Some u.kind)

-- a block behind the first i blocks of its message, with the marks of its place
behind : (h : List MessageBlock) (u : MessageContent) (i : ℕ) (b : MessageBlock) → Ends h u i → b.kind ≡ Some u.kind
    → b.starts ≡ eqb i 0 → b.ends ≡ eqb (i + 1) (block_count_of u.kind) → Ends (h ++ b ∷ []) (with_block u b) (i + 1)
behind h u i b E e s t =
    let k : Kind = u.kind in
    let kinded : Option Kind → MessageBlock = λ x. record { kind = x; starts = b.starts; ends = b.ends; first = b.first; second = b.second } in
    let marked : Bool → Bool → MessageBlock = λ x y. message_block_of k x y b.first b.second in
    let part : b ≡ part_at k i b.first b.second = ap kinded e ∙ ap₂ marked s t in
    record {
      front = E.front;
      is = ap₂ (λ (x : List MessageBlock) (y : MessageBlock). x ++ y ∷ []) E.is part
          ∙ append_assoc E.front (message_parts k u.values) (part_at k i b.first b.second ∷ [])
          ∙ ap (λ (l : List MessageBlock). E.front ++ l) (sym (parts_push k i u.values b.first b.second E.long));
      long = length-append u.values (b.first ∷ b.second ∷ []) ∙ (let z : length u.values + 2 ≡ 2 * (i + 1) = omega (arith, E.long) in z);
    }

judged_makes : (h : List MessageBlock) (u : MessageContent) (i : ℕ) (b : MessageBlock) (e l : Bool) → Ends h u i → i < block_count_of u.kind → b.kind ≡ Some u.kind
    → b.starts ≡ eqb i 0 → b.ends ≡ e → eqb (i + 1) (block_count_of u.kind) ≡ l → Makes (h ++ b ∷ []) b.kind (marked_outcome (with_block u b) e l)
judged_makes h u i b true true E f k s p q = go (eqb (crc12 (bits (with_block u b).values)) 0) refl
  where
    here : Ends (h ++ b ∷ []) (with_block u b) (block_count_of u.kind)
    here = subst (Ends (h ++ b ∷ []) (with_block u b)) (eqb-true (i + 1) (block_count_of u.kind) q) (behind h u i b E k s (p ∙ sym q))

    go : (t : Bool) → eqb (crc12 (bits (with_block u b).values)) 0 ≡ t → Makes (h ++ b ∷ []) b.kind (cond t (Whole (with_block u b)) Corrupt)
    go true r = (here, eqb-true (crc12 (bits (with_block u b).values)) 0 r, k)
    go false r = (with_block u b, here, eqb-false (crc12 (bits (with_block u b).values)) 0 r, k)
judged_makes h u i b true false E f k s p q = tt
judged_makes h u i b false true E f k s p q = tt
judged_makes h u i b false false E f k s p q =
    let other : i + 1 ≡ block_count_of u.kind → ⊥ = eqb-false (i + 1) (block_count_of u.kind) q in
    (i + 1, omega arith, behind h u i b E k s (p ∙ sym q), omega arith)

extended_makes : (h : List MessageBlock) (u : MessageContent) (i : ℕ) (b : MessageBlock) → Ends h u i → i < block_count_of u.kind → b.kind ≡ Some u.kind
    → b.starts ≡ eqb i 0 → Makes (h ++ b ∷ []) b.kind (extended_outcome u b)
extended_makes h u i b E f k s =
    judged_makes h u i b b.ends (eqb (length (with_block u b).values) (2 * block_count_of u.kind)) E f k s refl
    (sym (last_test u.values i (block_count_of u.kind) b.first b.second E.long))

continued_makes : (h : List MessageBlock) (k : Kind) (c : Option MessageContent) (b : MessageBlock) → Came h c → b.kind ≡ Some k
    → b.starts ≡ false → Makes (h ++ b ∷ []) b.kind (continued_outcome k c b)
continued_makes h k None b C e s = tt
continued_makes h k (Some u) b C e s = go (same_kind u.kind k) refl
  where
    go : (t : Bool) → same_kind u.kind k ≡ t → Makes (h ++ b ∷ []) b.kind (cond t (extended_outcome u b) Broken)
    go false r = tt
    go true r =
        extended_makes h u C.0 b C.2 C.3 (e ∙ ap (λ (x : Kind). Some x) (sym (one_kind u.kind k r)))
        (s ∙ sym (ne_eqb C.0 0 (λ (z : C.0 ≡ 0). omega (arith, C.1))))

pub next_makes : (h : List MessageBlock) (k : Kind) (c : Option MessageContent) (b : MessageBlock) → Came h c → b.kind ≡ Some k
    → Makes (h ++ b ∷ []) b.kind (next_outcome k c b)
next_makes h k c b C e = go b.starts refl
  where
    none : Ends h (content k []) 0
    none = record { front = h; is = sym (append-nil h); long = refl }

    go : (t : Bool) → b.starts ≡ t → Makes (h ++ b ∷ []) b.kind (cond t (extended_outcome (content k []) b) (continued_outcome k c b))
    go true s = extended_makes h (content k []) 0 b none (some_blocks k) e s
    go false s = continued_makes h k c b C e s

came_left : (h : List MessageBlock) (κ : Option Kind) (o : Outcome) → Makes h κ o → Came h (unfinished_of o)
came_left h κ Broken M = tt
came_left h κ (Incomplete u) M = M
came_left h κ Corrupt M = tt
came_left h κ (Whole u) M = tt

came_kind : (g : Bool) (h : List MessageBlock) (c : Option MessageContent) (b : MessageBlock) (o : Option Kind) → b.kind ≡ o → goes_kind g o ≡ true
    → Came h c → Came (h ++ b ∷ []) (advance_kind g o c b)
came_kind g h c b None e t C = absurd (let z : ◌≡◌ {A = ℕ} 0 1 = cc in omega arith)
came_kind g h c b (Some k) e t C =
    subst (λ (x : Bool). Came (h ++ b ∷ []) (cond x (unfinished_of (next_outcome k c b)) c)) (sym t) (came_left (h ++ b ∷ []) b.kind (next_outcome k c b) (next_makes h k c b C e))

came_after : (g : Bool) (h : List CollectorCall) (s : CollectorState) (b : MessageBlock) → Came (own g h) (coll g s) → Came (own g (h ++ give b ∷ [])) (coll g (after s b))
came_after g h s b C =
    let P : List MessageBlock → Option MessageContent → Type 0 = λ l c. Came l c in
    subst (P (own g (h ++ give b ∷ []))) (sym (coll_kind g b.kind s b)) (go (goes_to g b) refl)
  where
    go : (t : Bool) → goes_to g b ≡ t → Came (own g (h ++ give b ∷ [])) (advance g (coll g s) b)
    go true e = subst (λ (l : List MessageBlock). Came l (advance g (coll g s) b)) (sym (own_push g h b true e)) (came_kind g (own g h) (coll g s) b b.kind refl e C)
    go false e =
        subst (λ (l : List MessageBlock). Came l (advance g (coll g s) b)) (sym (own_push g h b false e ∙ append-nil (own g h)))
        (subst (Came (own g h)) (sym (advance_other g b.kind (coll g s) b e)) C)

came_asked : (g : Bool) (h : List CollectorCall) (s : CollectorState) → Came (own g h) (coll g s) → Came (own g (h ++ collect ∷ [])) (coll g (with_no_question s))
came_asked g h s C = subst (λ (l : List MessageBlock). Came l (coll g (with_no_question s))) (sym (own_asked g h)) (go g C)
  where
    go : (t : Bool) → Came (own g h) (coll t s) → Came (own g h) (coll t (with_no_question s))
    go true D = D
    go false D = D

came_run : (g : Bool) (h cs : List CollectorCall) (s : CollectorState) → Came (own g h) (coll g s) → Came (own g (h ++ cs)) (coll g (state_after s cs))
came_run g h [] s C = subst (λ (l : List CollectorCall). Came (own g l) (coll g s)) (sym (append-nil h)) C
came_run g h (give b ∷ cs) s C =
    subst (λ (l : List CollectorCall). Came (own g l) (coll g (state_after s (give b ∷ cs)))) (append_assoc h (give b ∷ []) cs)
    (came_run g (h ++ give b ∷ []) cs (after s b) (came_after g h s b C))
came_run g h (collect ∷ cs) s C =
    subst (λ (l : List CollectorCall). Came (own g l) (coll g (state_after s (collect ∷ cs)))) (append_assoc h (collect ∷ []) cs)
    (came_run g (h ++ collect ∷ []) cs (with_no_question s) (came_asked g h s C))

pub came : (g : Bool) (cs : List CollectorCall) → Came (own g cs) (coll g (state_after new_state cs))
came true cs = came_run true [] cs new_state tt
came false cs = came_run false [] cs new_state tt

pub same_self : (t : Bool) → same_bool t t ≡ true
same_self true = refl
same_self false = refl

-- the blocks of a message, as they were given
pub arrives : (before : List CollectorCall) (b : MessageBlock) (k : Kind) (u : MessageContent) → b.kind ≡ Some k → same_kind k Basic ≡ false
    → Ends (own (is_aps k) before ++ b ∷ []) u (block_count_of u.kind) → b.kind ≡ Some u.kind → Arrives before b k u.values
arrives before b k u e f E o =
    let s : Some u.kind ≡ Some k = sym o ∙ e in
    let kind : u.kind ≡ k = cc in
    let goes : goes_to (is_aps k) b ≡ true
    = ap (goes_kind (is_aps k)) e ∙ ap₂ (λ (x y : Bool). not x && y) f (same_self (is_aps k)) in
    record {
      front = E.front;
      goes = goes;
      is = own_push (is_aps k) before b true goes ∙ E.is ∙ ap (λ (z : Kind). E.front ++ message_parts z u.values) kind;
      long = E.long ∙ ap (λ (z : Kind). 2 * block_count_of z) kind;
    }

found_part : (before : List CollectorCall) (b : MessageBlock) (k l : Kind) (o : Outcome) → b.kind ≡ Some l → same_kind l Basic ≡ false
    → Makes (own (is_aps l) before ++ b ∷ []) b.kind o → found_of o ≡ Ok (Some k) → (us : List ℕ) × Completes before b k us
found_part before b k l Broken e f M w = absurd (let z : ◌≡◌ {A = ℕ} 0 1 = cc in omega arith)
found_part before b k l (Incomplete u) e f M w = absurd (let z : ◌≡◌ {A = ℕ} 0 1 = cc in omega arith)
found_part before b k l Corrupt e f M w = absurd (let z : ◌≡◌ {A = ℕ} 0 1 = cc in omega arith)
found_part before b k l (Whole u) e f M w =
    let s : Some l ≡ Some u.kind = sym e ∙ M.2 in
    let kind : l ≡ k = cc in
    (u.values, subst (λ (x : Kind). Completes before b x u.values) kind ((arrives before b l u e f M.0 M.2, M.1)))

no_basic : (b : MessageBlock) (k : Kind) (t : Bool) → (k ≡ Basic → ⊥)
    → (cond {A = Report} t (record { broken = false; found = Ok (Some Basic) }) (record { broken = true; found = Ok None })).found ≡ Ok (Some k) → ⊥
no_basic b k true h w = h (let z : k ≡ Basic = cc in z)
no_basic b k false h w = let z : ◌≡◌ {A = ℕ} 0 1 = cc in omega arith

found_kind : (before : List CollectorCall) (b : MessageBlock) (k : Kind) (o : Option Kind) → b.kind ≡ o
    → (report_kind o (state_after new_state before) b).found ≡ Ok (Some k) → (k ≡ Basic → ⊥) → (us : List ℕ) × Completes before b k us
found_kind before b k None e w h = absurd (let z : ◌≡◌ {A = ℕ} 0 1 = cc in omega arith)
found_kind before b k (Some l) e w h = go (same_kind l Basic) refl w
  where
    S : CollectorState
    S = state_after new_state before

    go : (t : Bool) → same_kind l Basic ≡ t → (cond t (report_basic b) (report_part l S b)).found ≡ Ok (Some k) → (us : List ℕ) × Completes before b k us
    go true r v = absurd (no_basic b k (one_mark b) h v)
    go false r v =
        found_part before b k l (next_outcome l (coll (is_aps l) S) b) e r
        (next_makes (own (is_aps l) before) l (coll (is_aps l) S) b (came (is_aps l) before) e) v

pub only_whole : (before : List CollectorCall) (b : MessageBlock) (k : Kind)
    → (report_of (state_after new_state before) b).found ≡ Ok (Some k) → (k ≡ Basic → ⊥)
    → (us : List ℕ) × Completes before b k us × FoundWhole new_state before b k us
only_whole before b k w h =
    let c = found_kind before b k b.kind refl w h in
    (c.0, c.1, whole_found new_state before b k c.0 refl c.1)
