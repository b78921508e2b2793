-- A packet as a line: the client's number in decimal, a blank, the bytes in hexadecimal, a newline.
use Rattle.std.specs.Prelude.{◌≡◌, ℕ, ◌<◌, if◌then◌else◌, List, [], ◌++◌, length, Some, None, Ok, Err, codes, decimal, Option, Result, nat_le}
use Rattle.std.specs.List.{AllByRecursion}
use Rattle.form.specs.Cut.{ended_text}
use Rattle.form.specs.Form.{rest_after, bind, number}
use Rattle.refusal.specs.declared.Refusal.{Refusal}
use Rattle.refusal.specs.declared.Refusal.TheVariants.{FormBroken, OutputTooShort}
use Rattle.packet_text.specs.declared.PacketLine.{PacketLine}
use Rattle.packet_text.specs.Hex.{hex_bytes, hex_text, is_hex}

-- the line of a client's packet, written out
abbrev pub packet_line_text : ℕ → List ℕ → List ℕ
packet_line_text client bytes = decimal client ++ (codes " " ++ (hex_text bytes ++ codes "\n"))

-- a line's client, of at most three digits, and the hexadecimal digits of its bytes
abbrev pub packet_line_parts : List ℕ → Option (ℕ × List ℕ)
packet_line_parts xs =
    bind (number xs) λ client.
    bind (rest_after (codes " ") client.1) λ rest.
    bind (ended_text rest) λ digits.
    if is_hex digits then Some (client.0, digits) else None

-- a line's client and bytes
abbrev pub packet_line_form : List ℕ → Option (ℕ × List ℕ)
packet_line_form xs = bind (packet_line_parts xs) λ parts. Some (parts.0, hex_bytes parts.1)

-- the bytes of a line, if it has the form
abbrev pub packet_line_bytes : Option (ℕ × List ℕ) → List ℕ
packet_line_bytes None = []
packet_line_bytes (Some line) = line.1

-- how many bytes go to an output of so many places
abbrev pub length_answer : List ℕ → ℕ → Result ℕ Refusal
length_answer bytes places = if nat_le (length bytes) places then Ok (length bytes) else Err OutputTooShort

-- the reader's answer for an output of so many places
abbrev pub line_answer : Option (ℕ × List ℕ) → ℕ → Result PacketLine Refusal
line_answer None places = Err FormBroken
line_answer (Some line) places =
    if nat_le (length line.1) places then Ok (record { client = line.0; length = length line.1 }) else Err OutputTooShort

-- Each client below 1,000 and its bytes, written out as a line, are read as just these.
abbrev pub LinesRead : Type 0
LinesRead = (c : ℕ) (bs : List ℕ) → c < 1000 → AllByRecursion (λ b. b < 256) bs → packet_line_form (packet_line_text c bs) ≡ Some (c, bs)

-- And what is read as a client and bytes is their line written out, and no other text.
abbrev pub OnlyLinesRead : Type 0
OnlyLinesRead = (xs : List ℕ) (c : ℕ) (bs : List ℕ) → packet_line_form xs ≡ Some (c, bs) → (c < 1000) × AllByRecursion (λ b. b < 256) bs × (xs ≡ packet_line_text c bs)
