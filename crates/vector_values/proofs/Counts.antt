-- What the writers answer, and what they leave in an output of idles, as text.
use Rattle.std.proofs.Common.{◌≡◌, ℕ, ◌<◌, ◌≤◌, Bool, true, false, cond, leb, List, length, get_or, replicate, Ok, Err, codes, Result, sym, ap, ◌∙◌, ap₂, arith}
use Rattle.std.proofs.lemmas.List.{get_or_default}
use Rattle.std.proofs.lemmas.Bool.{lt-ltb}
use Rattle.block.specs.declared.Block.{Block}
use Rattle.block.specs.Fixed.{idle_block}
use Rattle.refusal.specs.declared.Refusal.{Refusal}
use Rattle.refusal.specs.declared.Refusal.TheVariants.{PacketLength, OutputTooShort}
use Rattle.packet.specs.Answers.{leaves, write_answer}
use Rattle.packet.specs.Format.{packet_blocks, is_packet_length}
use Rattle.packet.proofs.Blocks.{length_packet_blocks}
use Rattle.message.specs.declared.Kind.{Kind}
use Rattle.message.specs.Written.{message_answer, output_with_message}
use Rattle.value_text.specs.Texts.{block_text}
use Rattle.vector_values.specs.Values.{end_type_text, idles, made_text, packet_text, place_text}

chosen : (a b : Bool) (m n : ℕ) (d e : Refusal) → ◌≡◌ {A = Result ℕ Refusal} (cond a (cond b (Ok m) (Err d)) (Err e)) (Ok n) → n ≡ m
chosen true true m n d e h = cc
chosen true false m n d e h = let z : ◌≡◌ {A = ℕ} 0 1 = cc in absurd (omega arith)
chosen false b m n d e h = let z : ◌≡◌ {A = ℕ} 0 1 = cc in absurd (omega arith)

-- a packet that is written has two blocks at least
pub two_at_least : (p : List ℕ) (places n : ℕ) → write_answer p places ≡ Ok n → 2 ≤ n
two_at_least p places n h =
    let e : n ≡ length (packet_blocks p) = chosen (is_packet_length (length p)) (leb (length (packet_blocks p)) places) (length (packet_blocks p)) n OutputTooShort PacketLength h in
    let k = length_packet_blocks p in
    omega (arith, e, k)

pub packet_is : (p : List ℕ) (w : Result ℕ Refusal) (n end : ℕ) (out : List Block) (idle : Block)
    → w ≡ write_answer p 253 → w ≡ Ok n → idle ≡ idle_block → out ≡ leaves w (packet_blocks p) (replicate 253 idle) → end ≡ end_type_text out n
    → made_text n end ≡ packet_text (write_answer p 253) (leaves (write_answer p 253) (packet_blocks p) (idles 253))
packet_is p w n end out idle h k i o e =
    let left : List Block = leaves (write_answer p 253) (packet_blocks p) (idles 253) in
    let same : out ≡ left = o ∙ ap₂ (λ (v : Result ℕ Refusal) (b : Block). leaves v (packet_blocks p) (replicate 253 b)) h i in
    ap (made_text n) (e ∙ ap (λ (bs : List Block). end_type_text bs n) same)
    ∙ ap (λ (v : Result ℕ Refusal). packet_text v left) (sym k ∙ h)

pub place_is : (k : Kind) (vs : List ℕ) (w : Result ℕ Refusal) (n place : ℕ) (out : List Block) (idle d : Block)
    → w ≡ message_answer k vs (replicate 17 idle) → w ≡ Ok n → idle ≡ idle_block → out ≡ output_with_message k vs (replicate 17 idle) → place < n → place < length out
    → block_text (get_or out place d) ≡ place_text (message_answer k vs (idles 17)) (output_with_message k vs (idles 17)) place
place_is k vs w n place out idle d h o i e l m =
    let left : List Block = output_with_message k vs (idles 17) in
    let same : out ≡ left = e ∙ ap (λ (b : Block). output_with_message k vs (replicate 17 b)) i in
    let answered : w ≡ message_answer k vs (idles 17) = h ∙ ap (λ (b : Block). message_answer k vs (replicate 17 b)) i in
    ap block_text (get_or_default out place d idle_block m ∙ ap (λ (bs : List Block). get_or bs place idle_block) same)
    ∙ ap (λ (b : Bool). cond b (block_text (get_or left place idle_block)) (codes "no block")) (sym (lt-ltb place n l))
    ∙ ap (λ (v : Result ℕ Refusal). place_text v left place) (sym o ∙ answered)
