-- The blocks of the messages that a sender writes of itself.
use Rattle.std.proofs.Common.{◌≡◌, ℕ, ◌+◌, ◌-◌, ◌*◌, ◌<◌, ◌≤◌, true, cond, if◌then◌else◌, List, [], ◌∷◌, ◌++◌, length, get_or, take, drop, sym, refl, ap, ◌∙◌, arith, length-append, le-leb}
use Rattle.std.proofs.lemmas.List.{get_or_append_left, get_or_default, get_or-append_right}
use Rattle.block.specs.declared.Block.{Block}
use Rattle.block.specs.Fixed.{idle_block}
use Rattle.message.specs.declared.Kind.{Kind}
use Rattle.message.specs.declared.Kind.TheVariants.{Cv, Cs}
use Rattle.message.specs.Kinds.{block_count_of}
use Rattle.message.specs.Values.{filled_values, lawful}
use Rattle.message.specs.Written.{message_blocks, output_with_message}
use Rattle.sending.specs.Messages.{cs_block, cv_block}
use Rattle.message.proofs.Laws.{laws}

-- a block of a message that was written to enough places
pub written_block : (k : Kind) (vs : List ℕ) (out : List Block) (i : ℕ) (d e : Block) → lawful k vs ≡ true → block_count_of k ≤ length out → i < block_count_of k
    → get_or (output_with_message k vs out) i d ≡ get_or (message_blocks k (filled_values vs)) i e
written_block k vs out i d e ok room h =
    let blocks : List Block = message_blocks k (filled_values vs) in
    let long : length blocks ≡ block_count_of k = laws.block_count k vs ok in
    let made : output_with_message k vs out ≡ blocks ++ drop (block_count_of k) out = rw (ok, le-leb (block_count_of k) (length out) room) refl in
    ap (λ (l : List Block). get_or l i d) made
    ∙ get_or_append_left blocks (drop (block_count_of k) out) d i (omega (arith, long))
    ∙ get_or_default blocks i d e (omega (arith, long))

-- 32 trail bytes and two zeros are lawful for CV
trail_lawful : (trail : List ℕ) → length trail ≡ 32 → lawful Cv (trail ++ 0 ∷ 0 ∷ []) ≡ true
trail_lawful trail l =
    let long : length (trail ++ 0 ∷ 0 ∷ []) ≡ 34 = length-append trail (0 ∷ 0 ∷ []) ∙ omega arith in
    let first : get_or (trail ++ 0 ∷ 0 ∷ []) 32 0 ≡ 0 = get_or-append_right trail (0 ∷ 0 ∷ []) 32 32 0 l (omega arith) in
    let second : get_or (trail ++ 0 ∷ 0 ∷ []) 33 0 ≡ 0 = get_or-append_right trail (0 ∷ 0 ∷ []) 32 33 0 l (omega arith) in
    rw (long, first, second) refl

pub cv_is : (trail values : List ℕ) (out : List Block) (i : ℕ) (d : Block) → values ≡ trail ++ 0 ∷ 0 ∷ [] → length trail ≡ 32 → length out ≡ 17 → i < 17
    → get_or (output_with_message Cv values out) i d ≡ cv_block trail i
unfolding cv_block
cv_is trail values out i d v l m h =
    ap (λ (vs : List ℕ). get_or (output_with_message Cv vs out) i d) v
    ∙ written_block Cv (trail ++ 0 ∷ 0 ∷ []) out i d idle_block (trail_lawful trail l) (omega (arith, m)) h

pub cs_is : (out : List Block) (d : Block) → length out ≡ 1 → get_or (output_with_message Cs (3 ∷ 0 ∷ []) out) 0 d ≡ cs_block
unfolding cs_block
cs_is out d m = written_block Cs (3 ∷ 0 ∷ []) out 0 d idle_block refl (omega (arith, m)) (omega arith)
