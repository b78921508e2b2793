-- Where in a frame a slot begins.
use Rattle.std.proofs.Common.{◌≡◌, ℕ, ◌+◌, ◌-◌, ◌*◌, ◌/◌, ◌%◌, ◌<◌, List, ◌++◌, length, get_or, drop, ap, ◌∙◌, arith}
use Rattle.std.proofs.lemmas.List.{get_or-append_right, get_or-drop, get_or-take}
use Rattle.block.specs.declared.Block.{Block}
use Rattle.payload.specs.Payloads.{slot_bit}
use Rattle.frame.specs.Frames.{frame_block}
use Rattle.frame.specs.SlotStarts.{SlotsBeginThere}
use Rattle.frame.proofs.Carried.{frame_data}

byte_there : (o p : List ℕ) (q : ℕ) → length o ≡ 7 → q < 7912 →
    get_or (frame_block (o ++ p) ((7 + q) / 8 + 1 + 1)).bytes ((7 + q) % 8) 0 ≡ get_or p q 0
byte_there o p q h k =
    let n : ℕ = (7 + q) / 8 + 1 + 1 in
    let e : 8 * ((7 + q) / 8 + 1 + 1 - 2) + (7 + q) % 8 ≡ 7 + q = omega arith in
    let b : (7 + q) % 8 < 8 = omega arith in
    let r : 7 + q - 7 ≡ q = omega arith in
    ap (λ (b : Block). get_or b.bytes ((7 + q) % 8) 0) (frame_data (o ++ p) n (λ e. omega arith) (λ e. omega arith))
    ∙ get_or-take 8 (drop (8 * (n - 2)) (o ++ p)) ((7 + q) % 8) 0 b
    ∙ get_or-drop (8 * (n - 2)) (o ++ p) ((7 + q) % 8) 0
    ∙ ap (λ (i : ℕ). get_or (o ++ p) i 0) e
    ∙ get_or-append_right o p 7 (7 + q) 0 h (omega arith)
    ∙ ap (λ (i : ℕ). get_or p i 0) r

pub slots_begin_there : SlotsBeginThere
slots_begin_there o p k h a b = byte_there o p (slot_bit k / 8) h (omega arith)
