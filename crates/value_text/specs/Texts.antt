-- How values are written as text.
use Rattle.std.specs.Prelude.{◌≡◌, ◌↔◌, ℕ, ◌+◌, ◌-◌, ◌*◌, ◌/◌, ◌%◌, if◌then◌else◌, List, [], ◌∷◌, ◌++◌, map, codes, decimal, nat_lt, IsTrue}
use Rattle.std.specs.List.{flat_map}
use Rattle.std.specs.Str.{bytes_eq}
use Rattle.block.specs.declared.Block.{Block}
use Rattle.block.specs.declared.Sync.{Sync}
use Rattle.block.specs.Syncs.{sync_bits}
use Rattle.block.specs.Whole.{Bytes}
use Rattle.refusal.specs.declared.Refusal.{Refusal}
use Rattle.refusal.specs.Numbers.{number_of}

-- a hexadecimal digit: 0 to 9, A to F, as characters
abbrev pub capital_digit : ℕ → ℕ
capital_digit d = if nat_lt d 10 then 48 + d else 55 + d

-- a byte, its high digit first
abbrev pub capital_byte : ℕ → List ℕ
capital_byte b = capital_digit (b / 16) ∷ capital_digit (b % 16) ∷ []

-- with a blank before it
abbrev pub spaced_byte : ℕ → List ℕ
spaced_byte b = 32 ∷ capital_byte b

-- bytes in hexadecimal, with single blanks between them
abbrev pub hex_of : List ℕ → List ℕ
hex_of [] = []
hex_of (b ∷ bs) = capital_byte b ++ flat_map spaced_byte bs

-- the two sync bits in the order of sending
abbrev pub sync_text : Sync → List ℕ
sync_text s = map (λ b. if b then 49 else 48) (sync_bits s)

-- a block: its sync bits and its bytes
abbrev pub block_text : Block → List ℕ
block_text b = sync_text b.sync ++ (codes " " ++ hex_of b.bytes)

-- seven binary digits, the highest first
abbrev pub seven_digits : ℕ → List ℕ
seven_digits n =
    decimal (n / 64 % 2) ++ (decimal (n / 32 % 2) ++ (decimal (n / 16 % 2) ++ (decimal (n / 8 % 2)
    ++ (decimal (n / 4 % 2) ++ (decimal (n / 2 % 2) ++ decimal (n % 2))))))

-- the number of the cause
abbrev pub refusal_text : Refusal → List ℕ
refusal_text cause = codes "refused with " ++ decimal (number_of cause)

-- ok only for equal texts
abbrev pub verdict_of : List ℕ → List ℕ → List ℕ
verdict_of expected computed = if bytes_eq expected computed then codes "ok" else codes "differs"

-- texts are judged equal exactly if they are
abbrev pub SameTexts : Type 0
SameTexts = (expected computed : List ℕ) → IsTrue (bytes_eq expected computed) ↔ (expected ≡ computed)

-- a line: the value's name, what is expected, what was computed, and whether they are the same
abbrev pub comparison_line : List ℕ → List ℕ → List ℕ → List ℕ
comparison_line name expected computed =
    name ++ (codes ": expected " ++ (expected ++ (codes ", computed " ++ (computed ++ (codes ": " ++ verdict_of expected computed)))))

-- the value of a hexadecimal digit
abbrev pub digit_value : ℕ → ℕ
digit_value c = if nat_lt c 65 then c - 48 else c - 55

-- the bytes of a text with a blank and two digits for each
abbrev pub spaced_bytes : List ℕ → List ℕ
spaced_bytes [] = []
spaced_bytes (_ ∷ []) = []
spaced_bytes (_ ∷ _ ∷ []) = []
spaced_bytes (_ ∷ high ∷ low ∷ text) = (16 * digit_value high + digit_value low) ∷ spaced_bytes text

-- the bytes that a hexadecimal text says
abbrev pub bytes_of_hex : List ℕ → List ℕ
bytes_of_hex text = spaced_bytes (32 ∷ text)

-- bytes are read back from their text, so other bytes have another text
abbrev pub HexReadsBack : Type 0
HexReadsBack = (bs : List ℕ) → Bytes bs → bytes_of_hex (hex_of bs) ≡ bs
