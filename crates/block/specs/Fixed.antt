-- The blocks that are fixed whole.
use Rattle.std.specs.Prelude.{ℕ, List, [], ◌∷◌}
use Rattle.block.specs.declared.Block.{Block}
use Rattle.block.specs.declared.Sync.TheVariants.{Control}

-- the bytes of an idle
abbrev pub idle_bytes : List ℕ
idle_bytes = 0x1E ∷ 0 ∷ 0 ∷ 0 ∷ 0 ∷ 0 ∷ 0 ∷ 0 ∷ []

abbrev pub idle_block : Block
idle_block = record { sync = Control; bytes = idle_bytes }

-- what stands in an empty slot, and in the place of an unlawful block
abbrev pub error_block : Block
error_block = record { sync = Control; bytes = 0x1E ∷ 0x1E ∷ 0x8F ∷ 0xC7 ∷ 0xE3 ∷ 0xF1 ∷ 0x78 ∷ 0x3C ∷ [] }

-- the start block that opens a frame
abbrev pub start_block : Block
start_block = record { sync = Control; bytes = 0x78 ∷ 0 ∷ 0 ∷ 0 ∷ 0 ∷ 0 ∷ 0 ∷ 0 ∷ [] }
