-- Pairs filled one after the other.
use Rattle.std.proofs.Common.{◌≡◌, ℕ, suc, ◌+◌, ◌-◌, ◌%◌, ◌<◌, ◌≤◌, List, [], ◌∷◌, ◌++◌, length, take, set, sym, refl, ap, ◌∙◌, ap₂, append_assoc, arith}
use Rattle.std.specs.Int.Bits.{bit_and}
use Rattle.std.proofs.lemmas.Nat.{and_mask}
use Rattle.std.proofs.lemmas.List.{append-nil, take_all, take_more_set}
use Rattle.block.specs.declared.Block.{Block}
use Rattle.block.specs.declared.Sync.{Sync}
use Rattle.block.specs.declared.Sync.TheVariants.{Zeros, Control, Data, Ones}
use Rattle.block.specs.Syncs.{sync_number, sync_of}
use Rattle.block.specs.declared.Pair.{Pair}
use Rattle.bench.specs.Filled.{counted_block, next, pairs_from}

-- sync bits are told by their number
by_number : (s : Sync) → s ≡ sync_of (sync_number s)
by_number Zeros = refl
by_number Control = refl
by_number Data = refl
by_number Ones = refl

pub sync_is : (s : Sync) (n : ℕ) → sync_number s ≡ bit_and n 3 % 4 → s ≡ sync_of (n % 4)
sync_is s n e =
    let m : bit_and n 3 ≡ n % 4 = and_mask n 2 in
    let f : sync_number s ≡ n % 4 = omega arith in
    by_number s ∙ ap sync_of f

-- one pair more
pub filled_more : (ps whole : List Pair) (k x f y : ℕ) (a b : Block) → k < length ps → k < 480
    → f ≡ next x → y ≡ next f → a ≡ counted_block f → b ≡ counted_block y
    → take k ps ++ pairs_from x (480 - k) ≡ whole → take (k + 1) (set ps k (record { first = a; second = b })) ++ pairs_from y (480 - (k + 1)) ≡ whole
unfolding pairs_from
filled_more ps whole k x f y a b room small ef ey ea eb e =
    let p : Pair = record { first = a; second = b } in
    let n : 480 - k ≡ suc (480 - (k + 1)) = omega arith in
    let pair : Block → Block → Pair = λ u v. record { first = u; second = v } in
    let rest : pairs_from x (480 - k) ≡ p ∷ pairs_from y (480 - (k + 1))
    = ap (pairs_from x) n
    ∙ ap (λ (z : ℕ). pair (counted_block z) (counted_block (next z)) ∷ pairs_from (next z) (480 - (k + 1))) (sym ef)
    ∙ ap (λ (z : ℕ). pair (counted_block f) (counted_block z) ∷ pairs_from z (480 - (k + 1))) (sym ey)
    ∙ ap₂ (λ (u v : Block). pair u v ∷ pairs_from y (480 - (k + 1))) (sym ea) (sym eb) in
    rw (take_more_set ps k p room, append_assoc) (ap (λ (l : List Pair). take k ps ++ l) (sym rest) ∙ e)

-- all are filled
pub filled_all : (ps whole : List Pair) (k x : ℕ) → length ps ≤ k → 480 ≤ k → take k ps ++ pairs_from x (480 - k) ≡ whole → ps ≡ whole
unfolding pairs_from
filled_all ps whole k x long all e =
    let n : 480 - k ≡ 0 = omega arith in
    sym (append-nil ps) ∙ ap (λ (l : List Pair). l ++ []) (sym (take_all k ps long)) ∙ ap (λ (m : ℕ). take k ps ++ pairs_from x m) (sym n) ∙ e
