-- What holds of every collector, after each block.
use Rattle.std.proofs.Common.{◌≡◌, ℕ, ◌+◌, ◌*◌, ◌<◌, Bool, true, false, cond, eqb, List, [], ◌∷◌, length, get_or, take, set, Some, None, Option, IfSome, sym, refl, ap, ◌∙◌, subst, arith}
use Rattle.std.proofs.lemmas.List.{length-append, length-set, length-take-le, get_or-set_same, get_or-set_other}
use Rattle.std.proofs.lemmas.Bool.{eqb-true, eqb-false}
use Rattle.bits.specs.Bits.{bits}
use Rattle.message.specs.declared.Kind.{Kind}
use Rattle.message.specs.declared.Kind.TheVariants.{Basic, Aps, Cv, OneDm, TwoDmm, TwoDmr, Cs}
use Rattle.message.specs.declared.MessageBlock.{MessageBlock}
use Rattle.message.specs.Kinds.{block_count_of}
use Rattle.message.specs.Values.{crc12}
use Rattle.message.proofs.Writes.{some_blocks}
use Rattle.collector.specs.Content.{MessageContent, IsPart}
use Rattle.collector.specs.State.{CollectorState, IsSoundState, IsFull, last_of, place_of}
use Rattle.collector.specs.declared.assembly.Outcome.{Outcome}
use Rattle.collector.specs.declared.assembly.Outcome.TheVariants.{Broken, Incomplete, Corrupt, Whole}
use Rattle.collector.specs.Outcomes.{IsSized, continued_outcome, empty_message, extended_outcome, marked_outcome, next_outcome, same_kind, tested_outcome, with_block}
use Rattle.collector.specs.Step.{after, after_basic, after_kind, after_part, basic_content, collection_of, with_collection, is_aps, with_last_whole, new_state, one_mark, after_outcome, with_no_question}
use Rattle.collector.specs.Runs.{CollectorCall, give, collect, state_after}
use Rattle.collector.proofs.SameKinds.{one_kind}

-- ---- outcomes

sized_tested : (u : MessageContent) → length u.values ≡ 2 * block_count_of u.kind → IsSized (tested_outcome u)
sized_tested u h = go (eqb (crc12 (bits u.values)) 0)
  where
    go : (t : Bool) → IsSized (cond t (Whole u) Corrupt)
    go true = h
    go false = tt

sized_marked : (u : MessageContent) (e l : Bool) → (l ≡ true → length u.values ≡ 2 * block_count_of u.kind) → (l ≡ false → IsPart u) → IsSized (marked_outcome u e l)
sized_marked u true true h p = sized_tested u (h refl)
sized_marked u true false h p = tt
sized_marked u false true h p = tt
sized_marked u false false h p = p refl

-- a message that lacks blocks, with one block more
pub sized_extended : (u : MessageContent) (b : MessageBlock) → IsPart u → IsSized (extended_outcome u b)
sized_extended u b p =
    let n : ℕ = block_count_of u.kind in
    let long : length (with_block u b).values ≡ 2 * (p.blocks + 1)
    = length-append u.values (b.first ∷ b.second ∷ []) ∙ (let z : length u.values + 2 ≡ 2 * (p.blocks + 1) = omega (arith, p.long) in z) in
    sized_marked (with_block u b) b.ends (eqb (length (with_block u b).values) (2 * n))
    (λ e. eqb-true (length (with_block u b).values) (2 * n) e)
    (λ e.
    let other : length (with_block u b).values ≡ 2 * n → ⊥ = eqb-false (length (with_block u b).values) (2 * n) e in
    record { blocks = p.blocks + 1; few = omega (arith, p.few, other, long); long = long })

sized_continued : (k : Kind) (c : Option MessageContent) (b : MessageBlock) → IfSome c IsPart → IsSized (continued_outcome k c b)
sized_continued k None b p = tt
sized_continued k (Some u) b p = go (same_kind u.kind k)
  where
    go : (t : Bool) → IsSized (cond t (extended_outcome u b) Broken)
    go true = sized_extended u b p
    go false = tt

pub sized_next : (k : Kind) (c : Option MessageContent) (b : MessageBlock) → IfSome c IsPart → IsSized (next_outcome k c b)
sized_next k c b p = go b.starts
  where
    go : (t : Bool) → IsSized (cond t (extended_outcome (empty_message k) b) (continued_outcome k c b))
    go true = sized_extended (empty_message k) b (record { blocks = 0; few = omega (arith, some_blocks k); long = refl })
    go false = sized_continued k c b p

-- ---- places

pub place_below : (k : Kind) → place_of k < 7
place_below Basic = omega arith
place_below Aps = omega arith
place_below Cv = omega arith
place_below OneDm = omega arith
place_below TwoDmm = omega arith
place_below TwoDmr = omega arith
place_below Cs = omega arith

-- kinds that are kept in one place are one kind
pub one_place : (k l : Kind) → place_of k ≡ place_of l → k ≡ l
one_place k l e = sym (back k) ∙ ap at e ∙ back l
  where
    at : ℕ → Kind
    at i = get_or (Basic ∷ Aps ∷ Cv ∷ OneDm ∷ TwoDmm ∷ TwoDmr ∷ Cs ∷ []) i Basic

    back : (k : Kind) → at (place_of k) ≡ k
    back Basic = refl
    back Aps = refl
    back Cv = refl
    back OneDm = refl
    back TwoDmm = refl
    back TwoDmr = refl
    back Cs = refl

-- the last messages, after one more of kind k
pub last_kept_same : (k : Kind) (u : MessageContent) (s : CollectorState) → u.kind ≡ k → length s.kept ≡ 7 → last_of k (with_last_whole u s) ≡ Some u
last_kept_same k u s e h =
    ap (λ (l : Kind). get_or (set s.kept (place_of l) (Some u)) (place_of k) None) e
    ∙ get_or-set_same s.kept (place_of k) (Some u) None (omega (arith, place_below k, h))

pub last_kept_other : (k : Kind) (u : MessageContent) (s : CollectorState) → (k ≡ u.kind → ⊥) → last_of k (with_last_whole u s) ≡ last_of k s
last_kept_other k u s n = get_or-set_other s.kept (place_of u.kind) (place_of k) (Some u) None (λ e. n (one_place k u.kind e))

-- a place is never lost
places_settled : (k : Kind) (o : Outcome) (s : CollectorState) → length s.kept ≡ 7 → length (after_outcome k o s).kept ≡ 7
places_settled k Broken s h = h
places_settled k (Incomplete u) s h = h
places_settled k Corrupt s h = h
places_settled k (Whole u) s h = length-set s.kept (place_of u.kind) (Some u) ∙ h

places_basic : (s : CollectorState) (b : MessageBlock) (t : Bool) → length s.kept ≡ 7 → length (cond t (with_last_whole (basic_content b) s) s).kept ≡ 7
places_basic s b true h = length-set s.kept 0 (Some (basic_content b)) ∙ h
places_basic s b false h = h

places_kind : (o : Option Kind) (s : CollectorState) (b : MessageBlock) → length s.kept ≡ 7 → length (after_kind o s b).kept ≡ 7
places_kind None s b h = h
places_kind (Some k) s b h = go (same_kind k Basic)
  where
    go : (t : Bool) → length (cond t (after_basic s b) (after_part k s b)).kept ≡ 7
    go true = places_basic s b (one_mark b) h
    go false = places_settled k (next_outcome k (collection_of k s) b) s h

pub places_kept : (s : CollectorState) (cs : List CollectorCall) → length s.kept ≡ 7 → length (state_after s cs).kept ≡ 7
places_kept s [] h = h
places_kept s (give b ∷ cs) h = places_kept (after s b) cs (places_kind b.kind s b h)
places_kept s (collect ∷ cs) h = places_kept (with_no_question s) cs h

-- ---- collectors

pub sound_new : IsSoundState new_state
sound_new = record { places = refl; aps_part = tt; low_part = tt; last_full = none; time_long = tt }
  where
    none : (k : Kind) → IfSome (last_of k new_state) (IsFull k)
    none Basic = tt
    none Aps = tt
    none Cv = tt
    none OneDm = tt
    none TwoDmm = tt
    none TwoDmr = tt
    none Cs = tt

sound_held : (k : Kind) (c : Option MessageContent) (s : CollectorState) → IfSome c IsPart → IsSoundState s → IsSoundState (with_collection k c s)
sound_held k c s p h = record {
  places = h.places;
  aps_part = go c s.aps (is_aps k) p h.aps_part;
  low_part = go s.low c (is_aps k) h.low_part p;
  last_full = h.last_full;
  time_long = h.time_long;
}
  where
    go : (x y : Option MessageContent) (t : Bool) → IfSome x IsPart → IfSome y IsPart → IfSome (cond t x y) IsPart
    go x y true p q = p
    go x y false p q = q

sound_kept : (u : MessageContent) (s : CollectorState) → length u.values ≡ 2 * block_count_of u.kind → IsSoundState s → IsSoundState (with_last_whole u s)
sound_kept u s l h = record {
  places = length-set s.kept (place_of u.kind) (Some u) ∙ h.places;
  aps_part = h.aps_part;
  low_part = h.low_part;
  last_full = λ k. full k (eqb (place_of k) (place_of u.kind)) refl;
  time_long = time (same_kind u.kind TwoDmm) refl;
}
  where
    full : (k : Kind) (t : Bool) → eqb (place_of k) (place_of u.kind) ≡ t → IfSome (last_of k (with_last_whole u s)) (IsFull k)
    full k true e =
        let one : u.kind ≡ k = sym (one_place k u.kind (eqb-true (place_of k) (place_of u.kind) e)) in
        subst (λ (m : Option MessageContent). IfSome m (IsFull k)) (sym (last_kept_same k u s one h.places))
        (record { kind = one; long = l ∙ ap (λ (k : Kind). 2 * block_count_of k) one })
    full k false e =
        subst (λ (m : Option MessageContent). IfSome m (IsFull k))
        (sym (last_kept_other k u s (λ f. eqb-false (place_of k) (place_of u.kind) e (ap place_of f))))
        (h.last_full k)

    time : (t : Bool) → same_kind u.kind TwoDmm ≡ t → IfSome (cond t (Some (take 8 u.values)) s.question) (λ x. length x ≡ 8)
    time true e =
        let ten : length u.values ≡ 10 = l ∙ ap (λ (k : Kind). 2 * block_count_of k) (one_kind u.kind TwoDmm e) in
        length-take-le 8 u.values (omega arith)
    time false e = h.time_long

sound_settled : (k : Kind) (o : Outcome) (s : CollectorState) → IsSized o → IsSoundState s → IsSoundState (after_outcome k o s)
sound_settled k Broken s p h = sound_held k None s tt h
sound_settled k (Incomplete u) s p h = sound_held k (Some u) s p h
sound_settled k Corrupt s p h = sound_held k None s tt h
sound_settled k (Whole u) s p h = sound_kept u (with_collection k None s) p (sound_held k None s tt h)

sound_basic : (s : CollectorState) (b : MessageBlock) (t : Bool) → IsSoundState s → IsSoundState (cond t (with_last_whole (basic_content b) s) s)
sound_basic s b true h = sound_kept (basic_content b) s refl h
sound_basic s b false h = h

pub collection_part : (k : Kind) (s : CollectorState) → IsSoundState s → IfSome (collection_of k s) IsPart
collection_part k s h = go (is_aps k)
  where
    go : (t : Bool) → IfSome (cond t s.aps s.low) IsPart
    go true = h.aps_part
    go false = h.low_part

sound_kind : (o : Option Kind) (s : CollectorState) (b : MessageBlock) → IsSoundState s → IsSoundState (after_kind o s b)
sound_kind None s b h = h
sound_kind (Some k) s b h = go (same_kind k Basic)
  where
    go : (t : Bool) → IsSoundState (cond t (after_basic s b) (after_part k s b))
    go true = sound_basic s b (one_mark b) h
    go false = sound_settled k (next_outcome k (collection_of k s) b) s (sized_next k (collection_of k s) b (collection_part k s h)) h

pub sound_after : (s : CollectorState) (b : MessageBlock) → IsSoundState s → IsSoundState (after s b)
sound_after s b h = sound_kind b.kind s b h

pub sound_unasked : (s : CollectorState) → IsSoundState s → IsSoundState (with_no_question s)
sound_unasked s h = record { places = h.places; aps_part = h.aps_part; low_part = h.low_part; last_full = h.last_full; time_long = tt }

pub sound_run : (s : CollectorState) (cs : List CollectorCall) → IsSoundState s → IsSoundState (state_after s cs)
sound_run s [] h = h
sound_run s (give b ∷ cs) h = sound_run (after s b) cs (sound_after s b h)
sound_run s (collect ∷ cs) h = sound_run (with_no_question s) cs (sound_unasked s h)
