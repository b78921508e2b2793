-- What the types say of a block's bytes: there are eight, each below 256.
use Rattle.std.specs.Prelude.{◌≡◌, ℕ, ◌<◌, List, length, slice_index}
use Rattle.block.specs.declared.Block.{Block}
use Rattle.block.specs.declared.Pair.{Pair}

-- each entry is a byte
abbrev pub Bytes : List ℕ → Type 0
Bytes bs = (i : ℕ) → slice_index bs i < 256

-- a block as a program can hold one
abbrev pub Whole : Block → Type 0
Whole b = (length b.bytes ≡ 8) × Bytes b.bytes

-- a pair as a program can hold one
abbrev pub WholePair : Pair → Type 0
WholePair p = Whole p.first × Whole p.second
