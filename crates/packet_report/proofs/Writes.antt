-- Bytes written in hexadecimal, one more each time; how long a line is; and a text written from place 0 on, as an answer.
use Rattle.std.proofs.Common.{◌≡◌, ℕ, ◌+◌, ◌*◌, ◌/◌, ◌%◌, ◌^◌, ◌<◌, ◌≤◌, true, leb, List, [], ◌∷◌, ◌++◌, length, codes, decimal, get_or, take, drop, set, Ok, sym, refl, ap, ◌∙◌, add-one, add-zero, zero-add, arith}
use Rattle.std.proofs.lemmas.Fmt.{length-decimal-le}
use Rattle.std.proofs.lemmas.List.{append_assoc, flat_map_more, length-append, length-set, length-take-le, set_split, take_all, take_more}
use Rattle.std.proofs.lemmas.Bool.{cond-true}
use Rattle.bits.specs.Splices.{splice}
use Rattle.bits.proofs.Splices.{length_splice, splice_none}
use Rattle.packet.specs.Answers.{over}
use Rattle.packet_text.specs.Hex.{hex_byte, hex_digit, hex_text}
use Rattle.packet_report.specs.Texts.{carried_text, counts_text, print_answer, refused_line_text, report_room}
use Rattle.refusal.specs.declared.Refusal.{Refusal}
use Rattle.refusal.specs.Numbers.{number_of}
use Rattle.text_out.specs.Wrote.{Wrote}
use Rattle.text_out.proofs.Laid.{wrote_more}

pub length_hex_text : (bs : List ℕ) → length (hex_text bs) ≡ 2 * length bs
length_hex_text [] = refl
length_hex_text (b ∷ bs) = omega (arith, length_hex_text bs)

pub wrote_byte : (at x : ℕ) (o : List ℕ) → at < length o → Wrote at (x ∷ []) o (set o at x) (at + 1)
wrote_byte at x o room = record { bytes = rw add-one (set_split o at x room); end_is = refl }

wrote_to : {at m n : ℕ} {s t b o : List ℕ} → s ≡ t → m ≡ n → Wrote at s b o m → Wrote at t b o n
wrote_to {at} {m} {n} {s} {t} {b} {o} e f w =
    record { bytes = w.bytes ∙ ap (λ u. splice at u b) e; end_is = sym f ∙ w.end_is ∙ ap (λ u. at + length u) e }

-- two bytes more
wrote_pair :
    (at end x y : ℕ) (s b o : List ℕ) → at + (length s + 2) ≤ length b → Wrote at s b o end →
    Wrote at (s ++ (x ∷ y ∷ [])) b (set (set o end x) (end + 1) y) (end + 2)
wrote_pair at end x y s b o room w =
    let same : length o ≡ length b = ap length w.bytes ∙ length_splice at s b (omega arith) in
    let first : Wrote at (s ++ (x ∷ [])) b (set o end x) (end + 1) = wrote_more (omega arith) w (wrote_byte end x o (omega (arith, w.end_is))) in
    let long = length-set o end x in
    let second : Wrote at ((s ++ (x ∷ [])) ++ (y ∷ [])) b (set (set o end x) (end + 1) y) (end + 1 + 1) =
    wrote_more (omega arith) first (wrote_byte (end + 1) y (set o end x) (omega (arith, w.end_is))) in
    wrote_to (append_assoc s (x ∷ []) (y ∷ [])) (omega arith) second

-- so many bytes are written in hexadecimal
abbrev pub HexWritten : ℕ → ℕ → ℕ → List ℕ → List ℕ → List ℕ → Type 0
HexWritten at end i bytes before out = Wrote at (hex_text (take i bytes)) before out end

front_length : (i : ℕ) (bytes : List ℕ) → i ≤ length bytes → length (hex_text (take i bytes)) ≡ 2 * i
front_length i bytes low = length_hex_text (take i bytes) ∙ ap (λ k. 2 * k) (length-take-le i bytes low)

pub hex_none : (at : ℕ) (bytes out : List ℕ) → HexWritten at at 0 bytes out out
hex_none at bytes out = record { bytes = sym (splice_none at out); end_is = sym (add-zero at) }

pub hex_place :
    (at end i : ℕ) (bytes before out : List ℕ) → at + 2 * length bytes ≤ length before → i ≤ length bytes →
    HexWritten at end i bytes before out → (end ≡ at + 2 * i) × (length out ≡ length before)
hex_place at end i bytes before out room low w =
    let long = front_length i bytes low in
    (omega (arith, w.end_is), ap length w.bytes ∙ length_splice at (hex_text (take i bytes)) before (omega arith))

pub hex_more :
    (at end i x y : ℕ) (bytes before out : List ℕ) → at + 2 * length bytes ≤ length before → i < length bytes →
    x ≡ hex_digit (get_or bytes i 0 / 16) → y ≡ hex_digit (get_or bytes i 0 % 16) → HexWritten at end i bytes before out →
    HexWritten at (end + 2) (i + 1) bytes before (set (set out end x) (end + 1) y)
hex_more at end i x y bytes before out room low high_is low-is w =
    let long = front_length i bytes (omega arith) in
    let pair : x ∷ y ∷ [] ≡ hex_byte (get_or bytes i 0) = ap (λ d. d ∷ y ∷ []) high_is ∙ ap (λ d. hex_digit (get_or bytes i 0 / 16) ∷ d ∷ []) low-is in
    let grown : hex_text (take i bytes) ++ (x ∷ y ∷ []) ≡ hex_text (take (i + 1) bytes) =
    ap (λ t. hex_text (take i bytes) ++ t) pair
    ∙ flat_map_more hex_byte [] (take i bytes) (get_or bytes i 0)
    ∙ ap hex_text (sym (take_more bytes i 0 low)) in
    wrote_to grown refl (wrote_pair at end x y (hex_text (take i bytes)) before out (omega arith) w)

pub hex_all :
    (at end i : ℕ) (bytes before out : List ℕ) → length bytes ≤ i → HexWritten at end i bytes before out → Wrote at (hex_text bytes) before out end
hex_all at end i bytes before out all w = wrote_to (ap hex_text (take_all i bytes all)) refl w

-- what stands in front of the bytes is short
pub short_front :
    (client bytes blocks back : ℕ) → client < 2 ^ 16 → bytes < 2 ^ 64 → blocks < 2 ^ 64 → back < 2 ^ 64 →
    length (counts_text client bytes blocks ++ (decimal back ++ codes " bytes ")) < 128
unfolding counts_text
short_front client bytes blocks back a b c d =
    let one = length-decimal-le 5 client (omega arith) (omega arith) (omega arith) in
    let two = length-decimal-le 20 bytes (omega arith) (omega arith) (omega arith) in
    let three = length-decimal-le 20 blocks (omega arith) (omega arith) (omega arith) in
    let four = length-decimal-le 20 back (omega arith) (omega arith) (omega arith) in
    simp length-append (omega arith)

-- front, bytes and newline are the line
pub line_whole :
    (client bytes blocks : ℕ) (back before front out : List ℕ) (at end : ℕ) →
    128 + 2 * length back ≤ length before → at < 128 →
    Wrote 0 (counts_text client bytes blocks ++ (decimal (length back) ++ codes " bytes ")) before front at →
    Wrote at (hex_text back) front out end →
    (end < length out) × Wrote 0 (carried_text client bytes blocks back) before (set out end 10) (end + 1)
unfolding carried_text
line_whole client bytes blocks back before front out at end room low one two =
    let hex = length_hex_text back in
    let head = counts_text client bytes blocks ++ (decimal (length back) ++ codes " bytes ") in
    let first : length front ≡ length before = ap length one.bytes ∙ length_splice 0 head before (omega (arith, one.end_is)) in
    let second : length out ≡ length front = ap length two.bytes ∙ length_splice at (hex_text back) front (omega arith) in
    let within : end < length out = omega (arith, two.end_is) in
    let whole = wrote_more (omega arith) (wrote_more (omega arith) one two) (wrote_byte end 10 out within) in
    (within, wrote_to (simp append_assoc refl) refl whole)

-- a refusal's line fits
pub short_refused : (line : ℕ) (cause : Refusal) → line < 2 ^ 64 → number_of cause < 2 ^ 8 → length (refused_line_text line cause) ≤ report_room 0
unfolding refused_line_text
short_refused line cause a b =
    let one = length-decimal-le 20 line (omega arith) (omega arith) (omega arith) in
    let two = length-decimal-le 3 (number_of cause) (omega arith) (omega arith) (omega arith) in
    simp length-append (omega arith)

-- a text written from place 0 on
pub written_over : {text before after now : List ℕ} {end : ℕ} → Wrote 0 text before after end → now ≡ after → now ≡ over text before
written_over {text} {before} w e = e ∙ w.bytes ∙ ap (λ k. text ++ drop k before) (zero-add (length text))

pub written_answer :
    {text before after : List ℕ} {end : ℕ} (bytes places : ℕ) → leb (report_room bytes) places ≡ true → Wrote 0 text before after end →
    Ok end ≡ print_answer text bytes places
written_answer {text} bytes places room w =
    ap Ok (w.end_is ∙ zero-add (length text)) ∙ sym (cond-true (leb (report_room bytes) places) _ _ room)
