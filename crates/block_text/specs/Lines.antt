-- A block as a line: its two sync bits in the order of sending, a blank, its bytes in hexadecimal, a newline.
use Rattle.std.specs.Prelude.{◌≡◌, ℕ, ◌+◌, ◌&&◌, if◌then◌else◌, List, [], ◌∷◌, ◌++◌, map, length, Some, None, codes, Option, ◌==◌}
use Rattle.block.specs.declared.Block.{Block}
use Rattle.block.specs.declared.Sync.{Sync}
use Rattle.block.specs.declared.Sync.TheVariants.{Zeros, Control, Data, Ones}
use Rattle.block.specs.Syncs.{sync_bits}
use Rattle.block.specs.Whole.{Whole}
use Rattle.form.specs.Cut.{ended_text}
use Rattle.form.specs.Form.{bind, rest_after}
use Rattle.packet_text.specs.Hex.{hex_bytes, hex_text, is_hex}

-- the two bits as digits
abbrev pub sync_digits : Sync → List ℕ
sync_digits s = map (λ bit. if bit then 49 else 48) (sync_bits s)

-- the line of a block, written out
abbrev pub block_line : Block → List ℕ
block_line b = sync_digits b.sync ++ (codes " " ++ (hex_text b.bytes ++ codes "\n"))

-- the sync bits that two digits say
abbrev pub sync_of : ℕ → ℕ → Option Sync
sync_of a b =
    if a == 48 then (if b == 48 then Some Zeros else if b == 49 then Some Data else None)
    else if a == 49 then (if b == 48 then Some Control else if b == 49 then Some Ones else None)
    else None

-- the sync bits that a line begins with, and what follows them
abbrev pub leading_sync : List ℕ → Option (Sync × List ℕ)
leading_sync [] = None
leading_sync (a ∷ []) = None
leading_sync (a ∷ b ∷ xs) = bind (sync_of a b) λ s. Some (s, xs)

-- the bytes of a block, of sixteen digits
abbrev pub block_bytes : List ℕ → Option (List ℕ)
block_bytes digits = if is_hex digits && (length digits == 16) then Some (hex_bytes digits) else None

-- the block that a line says
abbrev pub block_form : List ℕ → Option Block
block_form xs =
    bind (leading_sync xs) λ sync.
    bind (rest_after (codes " ") sync.1) λ rest.
    bind (ended_text rest) λ digits.
    bind (block_bytes digits) λ bytes.
    Some (record { sync = sync.0; bytes = bytes })

-- Each block written out is read as just that block.
abbrev pub BlocksRead : Type 0
BlocksRead = (b : Block) → Whole b → block_form (block_line b) ≡ Some b

-- And what is read as a block is that block written out, and no other text.
abbrev pub OnlyBlocksRead : Type 0
OnlyBlocksRead = (xs : List ℕ) (b : Block) → block_form xs ≡ Some b → Whole b × (xs ≡ block_line b)
