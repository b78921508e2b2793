-- The writer's answer and output, case by case; and its loop.
use Rattle.std.proofs.Common.{◌≡◌, ℕ, zero, suc, ◌+◌, ◌-◌, ◌*◌, ◌<◌, ◌≤◌, Bool, true, false, cond, eqb, List, [], ◌∷◌, ◌++◌, length, get_or, take, drop, set, Ok, Err, Result, sym, ap, ◌∙◌, ap₂, arith}
use Rattle.std.proofs.lemmas.Bool.{le-leb, lt-leb}
use Rattle.std.proofs.lemmas.Bool.Decides.{nat_tests}
use Rattle.std.proofs.lemmas.List.{length-take-le, length-drop}
use Rattle.refusal.specs.declared.Refusal.{Refusal}
use Rattle.refusal.specs.declared.Refusal.TheVariants.{MessageInvalid, OutputTooShort}
use Rattle.block.specs.declared.Block.{Block}
use Rattle.message.specs.declared.Kind.{Kind}
use Rattle.message.specs.declared.Kind.TheVariants.{Basic, Aps, Cv, OneDm, TwoDmm, TwoDmr, Cs}
use Rattle.message.specs.Kinds.{block_count_of}
use Rattle.message.specs.Blocks.{message_block}
use Rattle.message.specs.Values.{filled_values, lawful}
use Rattle.message.specs.Written.{message_answer, output_with_message, message_block_at, message_blocks}
use Rattle.message.proofs.Pairs.{put_pair, take_two, front_pair}

choice : Kind → List Block → Bool → Bool → Result ℕ Refusal
choice k out x y = cond x (cond y (Ok (block_count_of k)) (Err OutputTooShort)) (Err MessageInvalid)

pub answer_short : (k : Kind) (vs : List ℕ) (out : List Block) → lawful k vs ≡ true → length out < block_count_of k → Err OutputTooShort ≡ message_answer k vs out
unfolding choice
answer_short k vs out e h = sym (ap₂ (choice k out) e (lt-leb (block_count_of k) (length out) h))

pub answer_ok : (k : Kind) (vs : List ℕ) (out : List Block) → lawful k vs ≡ true → block_count_of k ≤ length out → Ok (block_count_of k) ≡ message_answer k vs out
unfolding choice
answer_ok k vs out e h = sym (ap₂ (choice k out) e (le-leb (block_count_of k) (length out) h))

result : Kind → List ℕ → List Block → Bool → Bool → List Block
result k vs out x y = cond x (cond y (message_blocks k (filled_values vs) ++ drop (block_count_of k) out) out) out

pub written_short : (k : Kind) (vs : List ℕ) (out : List Block) → lawful k vs ≡ true → length out < block_count_of k → out ≡ output_with_message k vs out
unfolding result
written_short k vs out e h = sym (ap₂ (result k vs out) e (lt-leb (block_count_of k) (length out) h))

pub written_ok : (k : Kind) (vs : List ℕ) (out : List Block) → lawful k vs ≡ true → block_count_of k ≤ length out
    → message_blocks k (filled_values vs) ++ drop (block_count_of k) out ≡ output_with_message k vs out
unfolding result
written_ok k vs out e h = sym (ap₂ (result k vs out) e (le-leb (block_count_of k) (length out) h))

-- what lawful values are
pub lawful_length : (k : Kind) (vs : List ℕ) → lawful k vs ≡ true → length vs ≡ 2 * block_count_of k
lawful_length Basic vs e = grind (arith, nat_tests)
lawful_length Aps vs e = grind (arith, nat_tests)
lawful_length Cv vs e = grind (arith, nat_tests)
lawful_length OneDm vs e = grind (arith, nat_tests)
lawful_length TwoDmm vs e = grind (arith, nat_tests)
lawful_length TwoDmr vs e = grind (arith, nat_tests)
lawful_length Cs vs e = grind (arith, nat_tests)

pub some_blocks : (k : Kind) → 1 ≤ block_count_of k
some_blocks Basic = omega arith
some_blocks Aps = omega arith
some_blocks Cv = omega arith
some_blocks OneDm = omega arith
some_blocks TwoDmm = omega arith
some_blocks TwoDmr = omega arith
some_blocks Cs = omega arith

no_end : (i n : ℕ) → i < n - 1 → false ≡ eqb (i + 1) n
no_end i n h = grind (arith, nat_tests)

end_at : (n : ℕ) → 1 ≤ n → true ≡ eqb (n - 1 + 1) n
end_at n h = grind (arith, nat_tests)

-- one turn of the loop, for the next two of the value bytes that are left
pub one_more : (k : Kind) (vs p t : List ℕ) (out₀ out : List Block) (i n m : ℕ) (b : Block)
    → length vs ≡ 2 * block_count_of k → i < block_count_of k - 1 → block_count_of k ≤ length out₀
    → out ≡ message_blocks k (take (2 * i) vs) ++ drop i out₀
    → drop (2 * i) vs ≡ p ++ t → length p ≡ 2 → n ≡ i → m ≡ i + 1
    → b ≡ message_block k (eqb n 0) false (get_or p 0 0) (get_or p 1 0)
    → (set out n b ≡ message_blocks k (take (2 * m) vs) ++ drop m out₀) × (t ≡ drop (2 * m) vs)
one_more k vs p t out₀ out i n m b l h room inv left two at next e =
    let q = front_pair vs p t (2 * i) left two in
    let first : ℕ = get_or vs (2 * i) 0 in
    let second : ℕ = get_or vs (2 * i + 1) 0 in
    let is : b ≡ message_block_at k i first second
    = e ∙ ap₂ (λ (x y : ℕ). message_block k (eqb n 0) false x y) q.0 q.1
    ∙ ap₂ (λ (j : ℕ) (t : Bool). message_block k (eqb j 0) t first second) at (no_end i (block_count_of k) h) in (
      ap₂ (λ (o : List Block) (j : ℕ). set o j b) inv at
          ∙ put_pair (message_block_at k) i (take (2 * i) vs) first second out₀ b (length-take-le (2 * i) vs (omega arith)) (omega arith) is
          ∙ ap (λ (us : List ℕ). message_blocks k us ++ drop (i + 1) out₀) (sym (take_two vs i (omega arith)))
          ∙ sym (ap (λ (j : ℕ). message_blocks k (take (2 * j) vs) ++ drop j out₀) next),
      q.2 ∙ ap (λ (j : ℕ). drop j vs) (let z : 2 * i + 2 ≡ 2 * m = omega arith in z),
    )

-- the loop ends with all but the last two value bytes
pub all_but_last : (vs rest : List ℕ) (i n size last : ℕ) → length vs ≡ 2 * (last + 1) → rest ≡ drop (2 * i) vs → size ≡ 2 → i + n ≡ last
    → (0 < n → length rest < size) → i ≡ last
all_but_last vs rest i zero size last l r s e short = omega arith
all_but_last vs rest i (suc n) size last l r s e short =
    let few : length rest < size = short (omega arith) in
    absurd (omega (arith, few, ap length r ∙ length-drop (2 * i) vs))

-- the last block
pub last_one : (k : Kind) (vs tail : List ℕ) (out₀ out : List Block) (i : ℕ) (b : Block) → length vs ≡ 2 * block_count_of k → i ≡ block_count_of k - 1 → block_count_of k ≤ length out₀
    → out ≡ message_blocks k (take (2 * i) vs) ++ drop i out₀
    → length tail ≡ 2 → take (length vs - 2) vs ++ tail ≡ filled_values vs
    → b ≡ message_block k (eqb i 0) true (get_or tail 0 0) (get_or tail 1 0)
    → set out i b ≡ message_blocks k (filled_values vs) ++ drop (block_count_of k) out₀
last_one k vs [] out₀ out i b l h room inv two f e = absurd (omega arith)
last_one k vs (x ∷ []) out₀ out i b l h room inv two f e = absurd (omega arith)
last_one k vs (x ∷ y ∷ z ∷ tail) out₀ out i b l h room inv two f e = absurd (omega arith)
last_one k vs (x ∷ y ∷ []) out₀ out i b l h room inv two f e =
    let n : ℕ = block_count_of k in
    let some : 1 ≤ n = some_blocks k in
    ap (λ (o : List Block). set o i b) inv
    ∙ put_pair (message_block_at k) i (take (2 * i) vs) x y out₀ b
    (length-take-le (2 * i) vs (omega arith)) (omega arith)
    (e ∙ ap (λ (t : Bool). message_block k (eqb i 0) t x y) (end_at n some ∙ ap (λ (j : ℕ). eqb (j + 1) n) (sym h)))
    ∙ ap₂ (λ (us : List ℕ) (m : ℕ). message_blocks k us ++ drop m out₀)
    (ap (λ (m : ℕ). take m vs ++ x ∷ y ∷ []) (let g : 2 * i ≡ length vs - 2 = omega arith in g) ∙ f)
    (let g : i + 1 ≡ n = omega arith in g)
