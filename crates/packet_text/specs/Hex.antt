-- Bytes as hexadecimal digits: two a byte, the higher four bits first, in small letters.
use Rattle.std.specs.Prelude.{ℕ, ◌+◌, ◌-◌, ◌*◌, ◌/◌, ◌%◌, Bool, true, ◌&&◌, if◌then◌else◌, List, [], ◌∷◌, length, ◌==◌, nat_lt}
use Rattle.std.specs.List.{flat_map, list_all}
use Rattle.form.specs.Marks.{is_between}

-- the digit that stands for 0 to 15
abbrev pub hex_digit : ℕ → ℕ
hex_digit n = if nat_lt n 10 then 48 + n else 87 + n

abbrev pub hex_byte : ℕ → List ℕ
hex_byte b = hex_digit (b / 16) ∷ hex_digit (b % 16) ∷ []

-- bytes written out
abbrev pub hex_text : List ℕ → List ℕ
hex_text bs = flat_map hex_byte bs

-- 0 to 9 and a to f
abbrev pub is_hex_digit : ℕ → Bool
is_hex_digit c = if is_between 48 57 c then true else is_between 97 102 c

-- what a digit stands for; 0 for another byte
abbrev pub hex_value : ℕ → ℕ
hex_value c = if is_between 48 57 c then c - 48 else if is_between 97 102 c then c - 87 else 0

abbrev pub all_hex : List ℕ → Bool
all_hex xs = list_all is_hex_digit xs

-- a text of digits, two for each byte
abbrev pub is_hex : List ℕ → Bool
is_hex xs = all_hex xs && (length xs % 2 == 0)

-- the bytes that a text writes
unfoldable pub hex_bytes : List ℕ → List ℕ
hex_bytes [] = []
hex_bytes (x ∷ []) = []
hex_bytes (x ∷ y ∷ zs) = (16 * hex_value x + hex_value y) ∷ hex_bytes zs
