-- Puts one after another, for whichever clients. What a put leaves free for another client is open, so which of them are refused
-- is no function of what the outlet held at first: of a call that makes several there is a list of answers.
use Rattle.std.specs.Prelude.{◌≡◌, ℕ, ◌+◌, ◌-◌, ◌*◌, ◌≤◌, ◌↔◌, true, if◌then◌else◌, List, [], ◌∷◌, ◌++◌, length, take, drop, is_ok, is_err, count_by, ◌==◌, ⊤}
use Rattle.std.specs.List.{list_all}
use Rattle.block.specs.declared.Block.{Block}
use Rattle.port.specs.declared.Offer.{Offer}
use Rattle.port.specs.Model.{Answer, Holding, Put, pair_blocks, put_answer}

-- the offers put in order, the answers to them, and the outlet before the first and after the last
pub data PutChain : List Offer → List Answer → Holding → Holding → Type 0 where
  none : {h : Holding} → PutChain [] [] h h
  more : {o : Offer} {os : List Offer} {r : Answer} {rs : List Answer} {h i j : Holding} → Put o.client o.pair r h i → PutChain os rs i j → PutChain (o ∷ os) (r ∷ rs) h j

-- the offers put, of which so many are refused
pub record OffersPut (os : List Offer) (refused : ℕ) (before after : Holding) : Type 0 where
  pub answers : List Answer
  pub chain : PutChain os answers before after
  pub count : refused ≡ count_by is_err answers

-- the blocks that the offers have for client k, in order
abbrev pub blocks_offered : List Offer → ℕ → List Block
blocks_offered [] k = []
blocks_offered (o ∷ os) k = (if k == o.client then pair_blocks o.pair else []) ++ blocks_offered os k

-- and those of the accepted offers alone
abbrev pub blocks_accepted : List Offer → List Answer → ℕ → List Block
blocks_accepted [] rs k = []
blocks_accepted (o ∷ os) [] k = []
blocks_accepted (o ∷ os) (r ∷ rs) k = (if is_ok r then (if k == o.client then pair_blocks o.pair else []) else []) ++ blocks_accepted os rs k

-- at each put of the chain two places are free for its client
abbrev pub TwoFreeAtEach : {os : List Offer} {rs : List Answer} {h j : Holding} → PutChain os rs h j → Type 0
TwoFreeAtEach none = ⊤
TwoFreeAtEach (more {o} {h = h} put chain) = (2 ≤ h.free o.client) × TwoFreeAtEach chain

-- the answers to offers that are all for one client, which has so many places free
abbrev pub answers_by_places : ℕ → List Offer → List Answer
answers_by_places free [] = []
answers_by_places free (o ∷ os) = put_answer free ∷ answers_by_places (free - (if is_ok (put_answer free) then 2 else 0)) os

-- What every chain of puts keeps.
pub record ChainLaws : Type 0 where
  -- each offer is answered
  pub answered : (os : List Offer) (rs : List Answer) (h j : Holding) → PutChain os rs h j → length rs ≡ length os
  -- each client's list grows by just its accepted pairs
  pub grows : (os : List Offer) (rs : List Answer) (h j : Holding) → PutChain os rs h j → (k : ℕ) → j.held k ≡ h.held k ++ blocks_accepted os rs k
  -- just where two places are free at each put, all are accepted
  pub accepted : (os : List Offer) (rs : List Answer) (h j : Holding) (chain : PutChain os rs h j) → TwoFreeAtEach chain ↔ (list_all is_ok rs ≡ true)
  -- and each client's list grows by all the pairs that are offered for it
  pub grows_whole : (os : List Offer) (rs : List Answer) (h j : Holding) (chain : PutChain os rs h j) → TwoFreeAtEach chain → (k : ℕ) → j.held k ≡ h.held k ++ blocks_offered os k
  -- two chains, one after the other, are one
  pub joined : (os ps : List Offer) (rs ss : List Answer) (h i j : Holding) → PutChain os rs h i → PutChain ps ss i j → PutChain (os ++ ps) (rs ++ ss) h j
  -- and one is two, wherever it is cut
  pub cut : (os ps : List Offer) (ts : List Answer) (h j : Holding) → PutChain (os ++ ps) ts h j → (i : Holding) × PutChain os (take (length os) ts) h i × PutChain ps (drop (length os) ts) i j
  -- where all offers are for one client, the places free at first decide
  pub one_client : (c : ℕ) (os : List Offer) (rs : List Answer) (h j : Holding) → PutChain os rs h j → list_all (λ o. o.client == c) os ≡ true → (rs ≡ answers_by_places (h.free c) os) × (j.free c + 2 * count_by is_ok rs ≡ h.free c)
