-- The first of the blocks left, and the rest.
use Rattle.std.proofs.Common.{◌≡◌, ℕ, zero, suc, ◌+◌, ◌<◌, ◌≤◌, min, true, false, eqb, List, [], ◌∷◌, ◌++◌, length, get_or, take, drop, Some, None, Ok, Option, sym, refl, ◌∙◌, ⊎_elim, add-one, arith}
use Rattle.std.specs.List.{slice_get}
use Rattle.std.proofs.lemmas.List.{take_all, drop_all}
use Rattle.std.proofs.lemmas.Bool.{cases_lt, eq-eqb}
use Rattle.block.specs.declared.Block.{Block}
use Rattle.port.specs.Model.{first_of, rest_of, lists_after_next}
use Rattle.port.proofs.Lists.{by_client}
use Rattle.packet.specs.Format.{opening_block, packet_blocks}
use Rattle.packet.proofs.Blocks.{blocks_are}
use Rattle.packet_inlet.specs.Packets.{packets_of, all_packet_blocks, are_lengths}
use Rattle.packet_inlet.specs.Waiting.{only_for, new_answer}

-- a list by its entry at a place
pub drop_some : {A : Type 0} (xs : List A) (k : ℕ) (a : A) → Some a ≡ slice_get xs k → drop k xs ≡ a ∷ drop (k + 1) xs
drop_some xs k a e = rw add-one (go xs k e)
  where
    go : (xs : List _) (k : ℕ) → Some a ≡ slice_get xs k → drop k xs ≡ a ∷ drop (suc k) xs
    go [] k e = absurd (let z : ◌≡◌ {A = ℕ} 0 1 = cc in omega arith)
    go (x ∷ xs) zero e = let same : x ≡ a = cc in rw same refl
    go (x ∷ xs) (suc k) e = go xs k e

pub drop_none : {A : Type 0} (xs : List A) (k : ℕ) → None ≡ slice_get xs k → drop k xs ≡ []
drop_none [] zero e = refl
drop_none [] (suc k) e = refl
drop_none (x ∷ xs) zero e = absurd (let z : ◌≡◌ {A = ℕ} 0 1 = cc in omega arith)
drop_none (x ∷ xs) (suc k) e = drop_none xs k e

pub nth_within : {A : Type 0} (xs : List A) (k : ℕ) (a : A) → Some a ≡ slice_get xs k → k < length xs
nth_within [] k a e = absurd (let z : ◌≡◌ {A = ℕ} 0 1 = cc in omega arith)
nth_within (x ∷ xs) zero a e = omega arith
nth_within (x ∷ xs) (suc k) a e = let l = nth_within xs k a e in omega arith

-- a part of the bytes, cut where they end
pub cuts : (bytes : List ℕ) (n cut : ℕ) → cut ≡ min (length bytes) n → (take cut bytes ≡ take n bytes) × (drop cut bytes ≡ drop n bytes)
cuts bytes n cut e = ⊎_elim inside past (cases_lt n (length bytes))
  where
    inside : n < length bytes → (take cut bytes ≡ take n bytes) × (drop cut bytes ≡ drop n bytes)
    inside l = let s : cut ≡ n = omega arith in (rw s refl, rw s refl)

    past : length bytes ≤ n → (take cut bytes ≡ take n bytes) × (drop cut bytes ≡ drop n bytes)
    past l =
        let m : length bytes ≤ cut = omega arith in
        (take_all cut bytes m ∙ sym (take_all n bytes l), drop_all cut bytes m ∙ sym (drop_all n bytes l))

-- the blocks of the first packet, then those of the others
all_more : (lengths bytes : List ℕ) (d : ℕ) → 0 < length lengths → all_packet_blocks lengths bytes ≡ packet_blocks (take (get_or lengths 0 d) bytes) ++ all_packet_blocks (drop 1 lengths) (drop (get_or lengths 0 d) bytes)
unfolding all_packet_blocks packets_of
all_more [] bytes d l = absurd (omega arith)
all_more (n ∷ lengths) bytes d l = refl

pub all_none : (lengths bytes : List ℕ) → length lengths ≡ 0 → all_packet_blocks lengths bytes ≡ []
unfolding all_packet_blocks packets_of
all_none [] bytes e = refl
all_none (n ∷ lengths) bytes e = absurd (omega arith)

-- a packet opens
module _ (lengths bytes : List ℕ) (d : ℕ) (l : 0 < length lengths) (packet rest : List ℕ) (p : packet ≡ take (get_or lengths 0 d) bytes) (b : rest ≡ drop (get_or lengths 0 d) bytes) where
  opened : all_packet_blocks lengths bytes ≡ opening_block ∷ (drop 1 (packet_blocks packet) ++ all_packet_blocks (drop 1 lengths) rest)
  opened = all_more lengths bytes d l ∙ rw (sym p, sym b) (rw (blocks_are packet) refl)

  pub opened_first : (r : Option Block) → r ≡ slice_get (packet_blocks packet) 0 → r ≡ first_of (all_packet_blocks lengths bytes)
  opened_first r e = e ∙ rw (opened, blocks_are packet) refl

  pub opened_rest : drop 1 (packet_blocks packet) ++ all_packet_blocks (drop 1 lengths) rest ≡ rest_of (all_packet_blocks lengths bytes)
  opened_rest = rw opened refl

-- the lists of an inlet for one client c, asked for that client
pub own_list : (c k : ℕ) (l : List Block) → k ≡ c → only_for c l k ≡ l
own_list c k l e = rw (eq-eqb k c e) refl

pub own_taken : (c d k : ℕ) (l rest : List Block) → k ≡ c → d ≡ c → rest ≡ rest_of l → only_for d rest ≡ lists_after_next k (only_for c l)
own_taken c d k l rest e f r =
    let own : only_for d rest k ≡ rest_of (only_for c l k) = rw (own_list d k rest (e ∙ sym f), own_list c k l e) r in
    by_client (only_for d rest) (only_for c l) k (rest_of (only_for c l k)) own (λ j n. other j (rw e at n))
  where
    other : (j : ℕ) → eqb j c ≡ false → only_for d rest j ≡ only_for c l j
    other j n = rw (f, n) refl

-- a new inlet: the blocks of no packet are given, those of all packets are left
pub new_made : (c k count : ℕ) (lengths bytes : List ℕ) → k ≡ c → length (packet_blocks []) ≡ count → true ≡ are_lengths lengths (length bytes) → Ok (only_for k (drop count (packet_blocks []) ++ all_packet_blocks lengths bytes)) ≡ new_answer c lengths bytes
new_made c k count lengths bytes e n t = rw (sym t, e, drop_all count (packet_blocks []) (omega arith)) refl
