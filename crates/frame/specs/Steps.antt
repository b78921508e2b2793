-- A frame block by block: what is left of one that is sent, and what one that comes is with a block more.
use Rattle.std.specs.Prelude.{◌≡◌, ℕ, ◌+◌, ◌<◌, ◌≤◌, List, [], ◌∷◌, ◌++◌, length, take, drop}
use Rattle.std.specs.List.{All}
use Rattle.block.specs.declared.Block.{Block}
use Rattle.block.specs.declared.Class.TheVariants.{Data, End}
use Rattle.block.specs.Classes.{class_of}
use Rattle.block.specs.Fixed.{start_block}
use Rattle.frame.specs.Frames.{IsFrameShape, carried_by, frame_block, frame_of, carried_after, carried_after_all}

-- behind n blocks the next one is that of place n + 1
abbrev pub Leaves : Type 0
Leaves = (carried : List ℕ) (n : ℕ) → n < 992 → drop n (frame_of carried) ≡ frame_block carried (n + 1) ∷ drop (n + 1) (frame_of carried)

-- the start block stands first, whatever is carried
abbrev pub Opens : Type 0
Opens = (carried : List ℕ) → take 1 (frame_of carried) ≡ start_block ∷ []

-- with a data block stored behind n blocks, the frame is these n and that block
abbrev pub Grows : Type 0
Grows = (carried : List ℕ) (n : ℕ) (b : Block) → length carried ≡ 7927 → 1 ≤ n → n ≤ 990 → length b.bytes ≡ 8 → class_of b ≡ Data
    → take (n + 1) (frame_of (carried_after (n + 1) b.bytes carried)) ≡ take n (frame_of carried) ++ (b ∷ [])

-- and so with the end behind 991 blocks
abbrev pub Closes : Type 0
Closes = (carried : List ℕ) (b : Block) → length carried ≡ 7927 → length b.bytes ≡ 8 → class_of b ≡ End 7
    → frame_of (carried_after 992 b.bytes carried) ≡ take 991 (frame_of carried) ++ (b ∷ [])

-- any 992 blocks, stored one after the other over whatever was there, leave what they carry
abbrev pub CarriedStored : Type 0
CarriedStored = (blocks : List Block) (before : List ℕ) → length blocks ≡ 992 → All (λ b. length b.bytes ≡ 8) blocks → length before ≡ 7927
    → carried_after_all 1 blocks before ≡ carried_by blocks

-- a frame taken apart: the start block, the data blocks, the end
pub record InParts (blocks : List Block) : Type 0 where
  pub middle : List Block
  pub last : Block
  pub are : blocks ≡ start_block ∷ (middle ++ (last ∷ []))
  pub many : length middle ≡ 990
  pub data_blocks : All (λ b. class_of b ≡ Data) middle
  pub ends : class_of last ≡ End 7

pub record ByBlocks : Type 0 where
  pub leaves : Leaves
  pub opens : Opens
  pub grows : Grows
  pub closes : Closes
  pub carried : CarriedStored
  pub parts : (blocks : List Block) → IsFrameShape blocks → InParts blocks
