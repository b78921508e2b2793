-- Chains of puts: the laws, by steps of the chain, and what a loop of puts keeps.
use Rattle.std.proofs.Common.{◌≡◌, ℕ, suc, ◌+◌, ◌-◌, ◌*◌, ◌<◌, Bool, true, false, ◌&&◌, cond, eqb, is_ok, is_err, count_by, Ok, Err, List, [], ◌∷◌, ◌++◌, length, get_or, take, drop, sym, refl, ap, ◌∙◌, append_assoc, append-nil, arith}
use Rattle.std.specs.List.{list_all}
use Rattle.std.proofs.lemmas.Bool.{eqb-true, le-leb, lt-leb, false≢true}
use Rattle.std.proofs.lemmas.List.{take_more}
use Rattle.std.proofs.lemmas.List.Sums.{sum_by-cons, sum_by-append}
use Rattle.block.specs.declared.Block.{Block}
use Rattle.port.specs.declared.Offer.{Offer}
use Rattle.port.specs.Model.{Answer, Holding, Lists, Put, pair_blocks, put_answer}
use Rattle.port.specs.Chain.{ChainLaws, OffersPut, PutChain, none, more, TwoFreeAtEach, answers_by_places, blocks_accepted, blocks_offered}

-- what a put of the offer, answered so, adds to client k's list
abbrev blocks_added : Offer → Answer → ℕ → List Block
blocks_added o r k = cond (is_ok r) (cond (eqb k o.client) (pair_blocks o.pair) []) []

put_answered : (o : Offer) (r : Answer) (h i : Holding) → Put o.client o.pair r h i → r ≡ put_answer (h.free o.client)
put_answered o (Ok _) h i put = rw (le-leb 2 (h.free o.client) put.room) refl
put_answered o (Err e) h i put = rw (lt-leb 2 (h.free o.client) put.full, put.number) refl

put_grows : (o : Offer) (r : Answer) (h i : Holding) → Put o.client o.pair r h i → (k : ℕ) → i.held k ≡ h.held k ++ blocks_added o r k
put_grows o (Ok _) h i put k = ap (λ (l : Lists). l k) put.appended ∙ go (eqb k o.client) refl
  where
    go : (t : Bool) → eqb k o.client ≡ t → cond (eqb k o.client) (h.held o.client ++ pair_blocks o.pair) (h.held k) ≡ h.held k ++ cond (eqb k o.client) (pair_blocks o.pair) []
    go true q = rw (q, eqb-true k o.client q) refl
    go false q = rw q (sym (append-nil (h.held k)))
put_grows o (Err e) h i put k = ap (λ (l : Holding). l.held k) put.same ∙ sym (append-nil (h.held k))

-- the places of its client that a put, answered so, takes
put_places : (o : Offer) (r : Answer) (h i : Holding) → Put o.client o.pair r h i → i.free o.client ≡ h.free o.client - cond (is_ok r) 2 0
put_places o (Ok _) h i put = omega (arith, put.places)
put_places o (Err e) h i put = let same : i.free o.client ≡ h.free o.client = ap (λ (l : Holding). l.free o.client) put.same in omega arith

answered : {os : List Offer} {rs : List Answer} {h j : Holding} → PutChain os rs h j → length rs ≡ length os
answered none = refl
answered (more put chain) = ap suc (answered chain)

grows : {os : List Offer} {rs : List Answer} {h j : Holding} → PutChain os rs h j → (k : ℕ) → j.held k ≡ h.held k ++ blocks_accepted os rs k
grows {h = h} none k = sym (append-nil (h.held k))
grows (more {o} {os} {r} {rs} {h} {i} put chain) k =
    grows chain k
    ∙ ap (λ l. l ++ blocks_accepted os rs k) (put_grows o r h i put k)
    ∙ append_assoc (h.held k) (blocks_added o r k) (blocks_accepted os rs k)

free_accepted : {os : List Offer} {rs : List Answer} {h j : Holding} (chain : PutChain os rs h j) → TwoFreeAtEach chain → list_all is_ok rs ≡ true
free_accepted none free = refl
free_accepted (more {o} {os} {r} {rs} {h} {i} put chain) free =
    let ok : is_ok r ≡ true = ap is_ok (put_answered o r h i put) ∙ rw (le-leb 2 (h.free o.client) free.0) refl in
    rw ok (free_accepted chain free.1)

accepted_free : {os : List Offer} {rs : List Answer} {h j : Holding} (chain : PutChain os rs h j) → list_all is_ok rs ≡ true → TwoFreeAtEach chain
accepted_free none all = tt
accepted_free (more {r = Ok _} put chain) all = (put.room, accepted_free chain all)
accepted_free (more {r = Err e} put chain) all = absurd (false≢true all)

all_offered : (os : List Offer) (rs : List Answer) (k : ℕ) → length rs ≡ length os → list_all is_ok rs ≡ true → blocks_accepted os rs k ≡ blocks_offered os k
all_offered [] rs k e all = refl
all_offered (o ∷ os) [] k e all = absurd (omega arith)
all_offered (o ∷ os) (Ok u ∷ rs) k e all = ap (λ l. cond (eqb k o.client) (pair_blocks o.pair) [] ++ l) (all_offered os rs k (omega arith) all)
all_offered (o ∷ os) (Err c ∷ rs) k e all = absurd (false≢true all)

joined : {os ps : List Offer} {rs ss : List Answer} {h i j : Holding} → PutChain os rs h i → PutChain ps ss i j → PutChain (os ++ ps) (rs ++ ss) h j
joined none second = second
joined (more put chain) second = more put (joined chain second)

cut : (os ps : List Offer) {ts : List Answer} {h j : Holding} → PutChain (os ++ ps) ts h j → (i : Holding) × PutChain os (take (length os) ts) h i × PutChain ps (drop (length os) ts) i j
cut [] ps {h = h} chain = (h, none, chain)
cut (o ∷ os) ps (more put chain) = let rest = cut os ps chain in (rest.0, more put rest.1, rest.2)

-- one put more in front, of a chain whose offers are all for client c
module _ (c : ℕ) (o : Offer) (h i : Holding) (own : o.client ≡ c) where
  first_answer : (r : Answer) → Put o.client o.pair r h i → r ≡ put_answer (h.free c)
  first_answer r put = put_answered o r h i put ∙ ap (λ k. put_answer (h.free k)) own

  free_behind : (r : Answer) → Put o.client o.pair r h i → i.free c ≡ h.free c - cond (is_ok r) 2 0
  free_behind r put = ap i.free (sym own) ∙ put_places o r h i put ∙ ap (λ k. h.free k - cond (is_ok r) 2 0) own

  places_behind : (r : Answer) → Put o.client o.pair r h i → i.free c + cond (is_ok r) 2 0 ≡ h.free c
  places_behind (Ok _) put = let here : h.free o.client ≡ h.free c = ap h.free own in let behind : i.free o.client ≡ i.free c = ap i.free own in omega (arith, put.places)
  places_behind (Err e) put = let same : i.free c ≡ h.free c = ap (λ (l : Holding). l.free c) put.same in omega arith

  one_more : (os : List Offer) (r : Answer) (rs : List Answer) (n : ℕ) → Put o.client o.pair r h i → (rs ≡ answers_by_places (i.free c) os) × (n + 2 * count_by is_ok rs ≡ i.free c) → (r ∷ rs ≡ answers_by_places (h.free c) (o ∷ os)) × (n + 2 * count_by is_ok (r ∷ rs) ≡ h.free c)
  one_more os r rs n put (answers, places) = (
    ap (λ l. r ∷ l) (answers ∙ ap (λ f. answers_by_places f os) (free_behind r put ∙ ap (λ a. h.free c - cond (is_ok a) 2 0) (first_answer r put))) ∙ ap (λ a. a ∷ answers_by_places (h.free c - cond (is_ok (put_answer (h.free c))) 2 0) os) (first_answer r put),
    omega (arith, places_behind r put, sum_by-cons (λ x. cond (is_ok x) 1 0) r rs, two (is_ok r)),
  )
    where
      two : (t : Bool) → 2 * cond t 1 0 ≡ cond t 2 0
      two true = refl
      two false = refl

all_own : (c : ℕ) (o : Offer) (os : List Offer) → list_all (λ o. eqb o.client c) (o ∷ os) ≡ true → (o.client ≡ c) × (list_all (λ o. eqb o.client c) os ≡ true)
all_own c o os all = go (eqb o.client c) refl all
  where
    go : (t : Bool) → eqb o.client c ≡ t → t && list_all (λ o. eqb o.client c) os ≡ true → (o.client ≡ c) × (list_all (λ o. eqb o.client c) os ≡ true)
    go true q all = (eqb-true o.client c q, all)
    go false q all = absurd (false≢true all)

one_client : (c : ℕ) {os : List Offer} {rs : List Answer} {h j : Holding} → PutChain os rs h j → list_all (λ o. eqb o.client c) os ≡ true → (rs ≡ answers_by_places (h.free c) os) × (j.free c + 2 * count_by is_ok rs ≡ h.free c)
one_client c none all = (refl, omega arith)
one_client c {j = j} (more {o} {os} {r} {rs} {h} {i} put chain) all =
    let own = all_own c o os all in
    one_more c o h i own.0 os r rs (j.free c) put (one_client c chain own.1)

pub chain_laws_hold : ChainLaws
chain_laws_hold = record {
  answered = λ os rs h j chain. answered chain;
  grows = λ os rs h j chain k. grows chain k;
  accepted = λ os rs h j chain. (free_accepted chain, accepted_free chain);
  grows_whole = λ os rs h j chain free k. grows chain k ∙ ap (λ l. h.held k ++ l) (all_offered os rs k (answered chain) (free_accepted chain free));
  joined = λ os ps rs ss h i j first second. joined first second;
  cut = λ os ps ts h j chain. cut os ps chain;
  one_client = λ c os rs h j chain all. one_client c chain all;
}

-- what a loop of puts keeps: so many offers are put
pub offers_none : {h : Holding} → OffersPut [] 0 h h
offers_none = record { answers = []; chain = none; count = refl }

pub offers_more :
    (os : List Offer) (at : ℕ) (o : Offer) {n : ℕ} {h i j : Holding} (r : Answer) → at < length os → o ≡ get_or os at o → OffersPut (take at os) n h i →
    Put o.client o.pair r i j → OffersPut (take (at + 1) os) (n + cond (is_err r) 1 0) h j
offers_more os at o {h = h} {j = j} r within here put one = record {
  answers = put.answers ++ (r ∷ []);
  chain = rw (take_more os at o within, sym here) (joined put.chain (more one none));
  count = omega (arith, put.count, sum_by-append (λ x. cond (is_err x) 1 0) put.answers (r ∷ []));
}
