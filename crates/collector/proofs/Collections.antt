-- One collection of a collector at a time: what a block does to it depends on its own blocks alone.
use Rattle.std.proofs.Common.{◌≡◌, Bool, true, false, cond, List, [], ◌∷◌, ◌++◌, Some, None, Option, refl, ap, ◌∙◌}
use Rattle.message.specs.declared.Kind.{Kind}
use Rattle.message.specs.declared.Kind.TheVariants.{Basic, Aps, Cv, OneDm, TwoDmm, TwoDmr, Cs}
use Rattle.message.specs.declared.MessageBlock.{MessageBlock}
use Rattle.collector.specs.Content.{MessageContent}
use Rattle.collector.specs.State.{CollectorState}
use Rattle.collector.specs.declared.assembly.Outcome.{Outcome}
use Rattle.collector.specs.declared.assembly.Outcome.TheVariants.{Broken, Incomplete, Corrupt, Whole}
use Rattle.collector.specs.Outcomes.{next_outcome, same_kind, unfinished_of}
use Rattle.collector.specs.Step.{after, after_kind, after_part, collection_of, is_aps, with_last_whole, one_mark, basic_content, same_bool, after_outcome, with_no_question}
use Rattle.collector.specs.Runs.{CollectorCall, give, collect, goes_kind, goes_to, own, state_after}

abbrev pub coll : Bool → CollectorState → Option MessageContent
coll aps s = cond aps s.aps s.low

-- what a block does to a collection
abbrev pub advance_kind : Bool → Option Kind → Option MessageContent → MessageBlock → Option MessageContent
advance_kind g None c b = c
advance_kind g (Some k) c b = cond (goes_kind g (Some k)) (unfinished_of (next_outcome k c b)) c

abbrev pub advance : Bool → Option MessageContent → MessageBlock → Option MessageContent
advance g c b = advance_kind g b.kind c b

abbrev pub advances : Bool → Option MessageContent → List MessageBlock → Option MessageContent
advances g c [] = c
advances g c (b ∷ bs) = advances g (advance g c b) bs

settled_aps : (k : Kind) (o : Outcome) (s : CollectorState) → is_aps k ≡ true → ((after_outcome k o s).aps ≡ unfinished_of o) × ((after_outcome k o s).low ≡ s.low)
settled_aps k Broken s e = (ap (λ (t : Bool). cond t None s.aps) e, ap (λ (t : Bool). cond t s.low None) e)
settled_aps k (Incomplete u) s e = (ap (λ (t : Bool). cond t (Some u) s.aps) e, ap (λ (t : Bool). cond t s.low (Some u)) e)
settled_aps k Corrupt s e = (ap (λ (t : Bool). cond t None s.aps) e, ap (λ (t : Bool). cond t s.low None) e)
settled_aps k (Whole u) s e = (ap (λ (t : Bool). cond t None s.aps) e, ap (λ (t : Bool). cond t s.low None) e)

settled_low : (k : Kind) (o : Outcome) (s : CollectorState) → is_aps k ≡ false → ((after_outcome k o s).low ≡ unfinished_of o) × ((after_outcome k o s).aps ≡ s.aps)
settled_low k Broken s e = (ap (λ (t : Bool). cond t s.low None) e, ap (λ (t : Bool). cond t None s.aps) e)
settled_low k (Incomplete u) s e = (ap (λ (t : Bool). cond t s.low (Some u)) e, ap (λ (t : Bool). cond t (Some u) s.aps) e)
settled_low k Corrupt s e = (ap (λ (t : Bool). cond t s.low None) e, ap (λ (t : Bool). cond t None s.aps) e)
settled_low k (Whole u) s e = (ap (λ (t : Bool). cond t s.low None) e, ap (λ (t : Bool). cond t None s.aps) e)

basic_coll : (g : Bool) (s : CollectorState) (b : MessageBlock) (t : Bool) → coll g (cond t (with_last_whole (basic_content b) s) s) ≡ coll g s
basic_coll true s b true = refl
basic_coll true s b false = refl
basic_coll false s b true = refl
basic_coll false s b false = refl

low_kind : (k : Kind) (g : Bool) (s : CollectorState) (b : MessageBlock) → is_aps k ≡ false → same_kind k Basic ≡ false
    → coll g (after_part k s b) ≡ cond (same_bool false g) (unfinished_of (next_outcome k s.low b)) (coll g s)
low_kind k true s b e f = (settled_low k (next_outcome k (collection_of k s) b) s e).1
low_kind k false s b e f =
    (settled_low k (next_outcome k (collection_of k s) b) s e).0 ∙ ap (λ (t : Bool). unfinished_of (next_outcome k (cond t s.aps s.low) b)) e

pub coll_kind : (g : Bool) (o : Option Kind) (s : CollectorState) (b : MessageBlock) → coll g (after_kind o s b) ≡ advance_kind g o (coll g s) b
coll_kind g None s b = refl
coll_kind g (Some Basic) s b = basic_coll g s b (one_mark b)
coll_kind true (Some Aps) s b = (settled_aps Aps (next_outcome Aps s.aps b) s refl).0
coll_kind false (Some Aps) s b = (settled_aps Aps (next_outcome Aps s.aps b) s refl).1
coll_kind true (Some Cv) s b = low_kind Cv true s b refl refl
coll_kind false (Some Cv) s b = low_kind Cv false s b refl refl
coll_kind true (Some OneDm) s b = low_kind OneDm true s b refl refl
coll_kind false (Some OneDm) s b = low_kind OneDm false s b refl refl
coll_kind true (Some TwoDmm) s b = low_kind TwoDmm true s b refl refl
coll_kind false (Some TwoDmm) s b = low_kind TwoDmm false s b refl refl
coll_kind true (Some TwoDmr) s b = low_kind TwoDmr true s b refl refl
coll_kind false (Some TwoDmr) s b = low_kind TwoDmr false s b refl refl
coll_kind true (Some Cs) s b = low_kind Cs true s b refl refl
coll_kind false (Some Cs) s b = low_kind Cs false s b refl refl

-- a block that goes elsewhere changes nothing
pub advance_other : (g : Bool) (o : Option Kind) (c : Option MessageContent) (b : MessageBlock) → goes_kind g o ≡ false → advance_kind g o c b ≡ c
advance_other g None c b e = refl
advance_other g (Some k) c b e = ap (λ (t : Bool). cond t (unfinished_of (next_outcome k c b)) c) e

coll_unasked : (g : Bool) (s : CollectorState) → coll g (with_no_question s) ≡ coll g s
coll_unasked true s = refl
coll_unasked false s = refl

pub coll_run : (g : Bool) (s : CollectorState) (cs : List CollectorCall) → coll g (state_after s cs) ≡ advances g (coll g s) (own g cs)
coll_run g s [] = refl
coll_run g s (give b ∷ cs) = coll_run g (after s b) cs ∙ ap (λ (c : Option MessageContent). advances g c (own g cs)) (coll_kind g b.kind s b) ∙ go (goes_to g b) refl
  where
    go : (t : Bool) → goes_to g b ≡ t → advances g (advance g (coll g s) b) (own g cs) ≡ advances g (coll g s) (cond t (b ∷ own g cs) (own g cs))
    go true e = refl
    go false e = ap (λ (c : Option MessageContent). advances g c (own g cs)) (advance_other g b.kind (coll g s) b e)
coll_run g s (collect ∷ cs) = coll_run g (with_no_question s) cs ∙ ap (λ (c : Option MessageContent). advances g c (own g cs)) (coll_unasked g s)

pub advances_append : (g : Bool) (c : Option MessageContent) (xs ys : List MessageBlock) → advances g c (xs ++ ys) ≡ advances g (advances g c xs) ys
advances_append g c [] ys = refl
advances_append g c (x ∷ xs) ys = advances_append g (advance g c x) xs ys

pub run_append : (s : CollectorState) (xs ys : List CollectorCall) → state_after s (xs ++ ys) ≡ state_after (state_after s xs) ys
run_append s [] ys = refl
run_append s (give b ∷ xs) ys = run_append (after s b) xs ys
run_append s (collect ∷ xs) ys = run_append (with_no_question s) xs ys

-- the blocks of a collection, with one call more
pub own_push : (g : Bool) (cs : List CollectorCall) (b : MessageBlock) (t : Bool) → goes_to g b ≡ t → own g (cs ++ give b ∷ []) ≡ own g cs ++ cond t (b ∷ []) []
own_push g [] b t e = ap (λ (x : Bool). cond x (b ∷ []) []) e
own_push g (collect ∷ cs) b t e = own_push g cs b t e
own_push g (give x ∷ cs) b t e = go (goes_to g x) (own_push g cs b t e)
  where
    go : (u : Bool) → own g (cs ++ give b ∷ []) ≡ own g cs ++ cond t (b ∷ []) []
        → cond u (x ∷ own g (cs ++ give b ∷ [])) (own g (cs ++ give b ∷ [])) ≡ cond u (x ∷ own g cs) (own g cs) ++ cond t (b ∷ []) []
    go true rest = ap (λ (l : List MessageBlock). x ∷ l) rest
    go false rest = rest

pub own_asked : (g : Bool) (cs : List CollectorCall) → own g (cs ++ collect ∷ []) ≡ own g cs
own_asked g [] = refl
own_asked g (collect ∷ cs) = own_asked g cs
own_asked g (give x ∷ cs) = ap (λ (l : List MessageBlock). cond (goes_to g x) (x ∷ l) l) (own_asked g cs)
