-- What is printed of a line: a packet that was carried, or a refusal.
use Rattle.std.specs.Prelude.{ℕ, ◌+◌, ◌*◌, if◌then◌else◌, List, ◌++◌, length, Ok, Err, codes, decimal, Result, nat_le}
use Rattle.refusal.specs.declared.Refusal.{Refusal}
use Rattle.refusal.specs.declared.Refusal.TheVariants.{OutputTooShort}
use Rattle.refusal.specs.Numbers.{number_of}
use Rattle.packet_text.specs.Hex.{hex_text}

-- client, bytes and blocks of a packet
unfoldable pub counts_text : ℕ → ℕ → ℕ → List ℕ
counts_text client bytes blocks =
    codes "client " ++ (decimal client ++ (codes ": " ++ (decimal bytes ++ (codes " bytes, " ++ (decimal blocks ++ codes " blocks, read back ")))))

-- and what was read back
unfoldable pub carried_text : ℕ → ℕ → ℕ → List ℕ → List ℕ
carried_text client bytes blocks back =
    counts_text client bytes blocks ++ (decimal (length back) ++ (codes " bytes " ++ (hex_text back ++ codes "\n")))

-- the refused line's number and the cause's
unfoldable pub refused_line_text : ℕ → Refusal → List ℕ
refused_line_text line cause = codes "line " ++ (decimal line ++ (codes ": refused " ++ (decimal (number_of cause) ++ codes "\n")))

-- places that hold any printed line with so many bytes in it
abbrev pub report_room : ℕ → ℕ
report_room bytes = 128 + 2 * bytes

-- a printer's answer: the length of its text, if there are places for it
abbrev pub print_answer : List ℕ → ℕ → ℕ → Result ℕ Refusal
print_answer text bytes places = if nat_le (report_room bytes) places then Ok (length text) else Err OutputTooShort
