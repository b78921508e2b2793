-- What adding and removing entries does to the lists of the clients.
use Rattle.std.proofs.Common.{◌≡◌, ℕ, suc, ◌+◌, ◌-◌, ◌≤◌, Bool, true, false, cond, eqb, leb, List, [], ◌∷◌, ◌++◌, length, Some, Ok, Err, Option, sym, refl, ap, ◌∙◌, append-nil, arith, length-append}
use Rattle.std.proofs.Math.Path.{fun_ext}
use Rattle.std.proofs.lemmas.Bool.{eqb-true, eqb-false, eq-eqb, ne_eqb, leb-true, leb-false}
use Rattle.std.specs.Option.{option_map}
use Rattle.std.specs.Borrow.{GName}
use Rattle.block.specs.declared.Block.{Block}
use Rattle.block.specs.declared.Pair.{Pair}
use Rattle.refusal.specs.declared.Refusal.TheVariants.{NoFreePlace}
use Rattle.port.specs.Model.{Answer, Holding, Put, PutAccepted, PutRefused, block_count_given, first_of, lists_after_next, pair_blocks, put_answer, rest_of, updated_lists}
use Rattle.port.proofs.Lists.{by_client, holding_by}
use Rattle.queue.specs.Entries.{QueueContents, first_with, without_first_with}
use Rattle.tape.specs.declared.TaggedBlock.{TaggedBlock}
use Rattle.tape.specs.Lists.{client_blocks, client_of, entries_after_put, pair_entries, tape_holding_after_next, tape_holding_after_put}

abbrev pub block_of : TaggedBlock → Block
block_of e = e.block

-- a search by the client's number gives the client's first block
pub first_is : (es : List TaggedBlock) (c : ℕ) → option_map block_of (first_with client_of c es) ≡ first_of (client_blocks es c)
first_is [] c = refl
first_is (e ∷ es) c = go (eqb (client_of e) c) (first_is es c)
  where
    go : (t : Bool) → option_map block_of (first_with client_of c es) ≡ first_of (client_blocks es c) → option_map block_of (cond t (Some e) (first_with client_of c es)) ≡ first_of (cond t (e.block ∷ client_blocks es c) (client_blocks es c))
    go true h = refl
    go false h = h

rest_same : (es : List TaggedBlock) (c : ℕ) → client_blocks (without_first_with client_of c es) c ≡ rest_of (client_blocks es c)
rest_same [] c = refl
rest_same (e ∷ es) c = go (eqb (client_of e) c) refl (rest_same es c)
  where
    go : (t : Bool) → eqb (client_of e) c ≡ t → client_blocks (without_first_with client_of c es) c ≡ rest_of (client_blocks es c) → client_blocks (without_first_with client_of c (e ∷ es)) c ≡ rest_of (client_blocks (e ∷ es) c)
    go true q h = rw q refl
    go false q h = rw (q, q) h

rest_other : (es : List TaggedBlock) (c k : ℕ) → eqb k c ≡ false → client_blocks (without_first_with client_of c es) k ≡ client_blocks es k
rest_other [] c k n = refl
rest_other (e ∷ es) c k n = go (eqb (client_of e) c) refl (rest_other es c k n)
  where
    go : (t : Bool) → eqb (client_of e) c ≡ t → client_blocks (without_first_with client_of c es) k ≡ client_blocks es k → client_blocks (without_first_with client_of c (e ∷ es)) k ≡ client_blocks (e ∷ es) k
    go true q h =
        let z : eqb (client_of e) k ≡ false = ne_eqb (client_of e) k (λ s. eqb-false k c n (sym s ∙ eqb-true (client_of e) c q)) in
        rw (q, z) refl
    go false q h = rw (q, h) refl

-- and a removal by it leaves the lists without that block
pub rest_is : (es : List TaggedBlock) (c : ℕ) → client_blocks (without_first_with client_of c es) ≡ lists_after_next c (client_blocks es)
rest_is es c = by_client (client_blocks (without_first_with client_of c es)) (client_blocks es) c (rest_of (client_blocks es c)) (rest_same es c) (rest_other es c)

-- entries behind others
blocks_append : (es fs : List TaggedBlock) (k : ℕ) → client_blocks (es ++ fs) k ≡ client_blocks es k ++ client_blocks fs k
blocks_append [] fs k = refl
blocks_append (e ∷ es) fs k = rw (blocks_append es fs k) (go (eqb (client_of e) k))
  where
    go : (t : Bool) → cond t (e.block ∷ (client_blocks es k ++ client_blocks fs k)) (client_blocks es k ++ client_blocks fs k) ≡ cond t (e.block ∷ client_blocks es k) (client_blocks es k) ++ client_blocks fs k
    go true = refl
    go false = refl

pub pair_added : (es : List TaggedBlock) (c : ℕ) (pair : Pair) → client_blocks (es ++ pair_entries c pair) ≡ updated_lists (client_blocks es) c (client_blocks es c ++ pair_blocks pair)
pair_added es c pair = by_client (client_blocks (es ++ pair_entries c pair)) (client_blocks es) c (client_blocks es c ++ pair_blocks pair) own other
  where
    own : client_blocks (es ++ pair_entries c pair) c ≡ client_blocks es c ++ pair_blocks pair
    own = blocks_append es (pair_entries c pair) c ∙ rw (eq-eqb c c refl) refl

    other : (k : ℕ) → eqb k c ≡ false → client_blocks (es ++ pair_entries c pair) k ≡ client_blocks es k
    other k n =
        let z : eqb c k ≡ false = ne_eqb c k (λ s. eqb-false k c n (sym s)) in
        blocks_append es (pair_entries c pair) k ∙ rw z (append-nil (client_blocks es k))

abbrev shared : List TaggedBlock → ℕ → Holding
shared es n = record { held = client_blocks es; free = λ _. n - length es }

-- the entries are fewer by the block that is given
count_less : (es : List TaggedBlock) (c : ℕ) → length (without_first_with client_of c es) + block_count_given (first_of (client_blocks es c)) ≡ length es
count_less [] c = refl
count_less (e ∷ es) c = go (eqb (client_of e) c) (count_less es c)
  where
    go : (t : Bool) → length (without_first_with client_of c es) + block_count_given (first_of (client_blocks es c)) ≡ length es → length (cond t es (e ∷ without_first_with client_of c es)) + block_count_given (first_of (cond t (e.block ∷ client_blocks es c) (client_blocks es c))) ≡ suc (length es)
    go true h = omega arith
    go false h = omega arith

-- a removal frees the place of what it gives, for every client
pub place_freed : (es : List TaggedBlock) (n c : ℕ) → length es ≤ n → shared (without_first_with client_of c es) n ≡ tape_holding_after_next c (shared es n)
place_freed es n c h =
    let fewer : n - length (without_first_with client_of c es) ≡ n - length es + block_count_given (first_of (client_blocks es c)) = omega (arith, count_less es c) in
    holding_by (client_blocks (without_first_with client_of c es)) (lists_after_next c (client_blocks es)) _ _ (rest_is es c) (fun_ext (λ _. fewer))

-- the same, over what the queue answers
pub first_by : (es : List TaggedBlock) (c i : ℕ) (r : Option TaggedBlock) → r ≡ first_with client_of i es → i ≡ c → option_map block_of r ≡ first_of (client_blocks es c)
first_by es c i r e q = ap (option_map block_of) (e ∙ ap (λ j. first_with client_of j es) q) ∙ first_is es c

pub next_by : (es : List TaggedBlock) (n c i : ℕ) (g : GName) (left : QueueContents TaggedBlock) → i ≡ c → length es ≤ n → left ≡ record { entries = without_first_with client_of i es; places = n; lender = g } → shared left.entries left.places ≡ tape_holding_after_next c (shared es n)
next_by es n c i g left q h e = ap (λ (k : QueueContents TaggedBlock). shared k.entries k.places) e ∙ ap (λ j. shared (without_first_with client_of j es) n) q ∙ place_freed es n c h

-- what a put leaves, by its answer
module _ (es : List TaggedBlock) (n c : ℕ) (pair : Pair) where
  pair_held : shared (es ++ pair_entries c pair) n ≡ tape_holding_after_put (Ok tt) c pair (shared es n)
  pair_held =
      let fewer : n - length (es ++ pair_entries c pair) ≡ n - length es - 2 = simp length-append (omega arith) in
      holding_by (client_blocks (es ++ pair_entries c pair)) _ _ _ (pair_added es c pair) (fun_ext (λ _. fewer))

  pub pair_put : (r : Answer) → r ≡ put_answer (n - length es) → Put c pair r (shared es n) (shared (entries_after_put r c pair es) n) × (shared (entries_after_put r c pair es) n ≡ tape_holding_after_put r c pair (shared es n))
  pair_put (Ok _) e = go (leb 2 (n - length es)) refl e
    where
      go : (t : Bool) → leb 2 (n - length es) ≡ t → ◌≡◌ {A = Answer} (Ok tt) (cond t (Ok tt) (Err NoFreePlace)) → PutAccepted c pair (shared es n) (shared (es ++ pair_entries c pair) n) × (shared (es ++ pair_entries c pair) n ≡ tape_holding_after_put (Ok tt) c pair (shared es n))
      go true q e =
          let room : 2 ≤ n - length es = leb-true 2 (n - length es) q in
          (record { room = room; appended = pair_added es c pair; places = simp length-append (omega arith) }, pair_held)
      go false q e = absurd (let z : ◌≡◌ {A = ℕ} 0 1 = cc in omega arith)
  pair_put (Err cause) e = go (leb 2 (n - length es)) refl e
    where
      go : (t : Bool) → leb 2 (n - length es) ≡ t → ◌≡◌ {A = Answer} (Err cause) (cond t (Ok tt) (Err NoFreePlace)) → PutRefused c cause (shared es n) (shared es n) × (shared es n ≡ shared es n)
      go true q e = absurd (let z : ◌≡◌ {A = ℕ} 0 1 = cc in omega arith)
      go false q e = (record { full = leb-false 2 (n - length es) q; number = cc; same = refl }, refl)

  -- the same, over the entries that the queue is left with
  pub put_by : (r : Answer) (g : GName) (left : QueueContents TaggedBlock) → r ≡ put_answer (n - length es) → left ≡ record { entries = entries_after_put r c pair es; places = n; lender = g } → Put c pair r (shared es n) (shared left.entries left.places) × (shared left.entries left.places ≡ tape_holding_after_put r c pair (shared es n))
  put_by r g left answer e =
      let held : shared left.entries left.places ≡ shared (entries_after_put r c pair es) n = ap (λ (k : QueueContents TaggedBlock). shared k.entries k.places) e in
      rw held (pair_put r answer)
