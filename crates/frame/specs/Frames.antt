-- A frame carries seven overhead bytes and 7,920 payload bytes, one after the other, in its data blocks and its end block.
use Rattle.std.specs.Prelude.{◌≡◌, ℕ, ◌+◌, ◌-◌, ◌*◌, ◌≤◌, if◌then◌else◌, List, [], ◌∷◌, ◌++◌, map, length, take, drop, ◌==◌, Some, slice_get, slice_index_or}
use Rattle.std.specs.List.{range_with_len, flat_map}
use Rattle.std.specs.Option.{option_map}
use Rattle.block.specs.declared.Block.{Block}
use Rattle.block.specs.declared.Sync.TheVariants.{Control, Data}
use Rattle.block.specs.declared.Class.TheVariants.{Data as DataClass, End}
use Rattle.block.specs.Classes.{class_of}
use Rattle.block.specs.Fixed.{start_block}
use Rattle.bits.specs.Splices.{splice}
use Rattle.frame.specs.Places.{frame_blocks, is_data_place}

-- the block at a place of the frame that carries these bytes: data blocks take eight each, the end block the last seven
abbrev pub frame_block : List ℕ → ℕ → Block
frame_block carried n =
    if n == 1 then start_block
    else if n == 992 then record { sync = Control; bytes = 0xFF ∷ drop 7920 carried }
    else record { sync = Data; bytes = take 8 (drop (8 * (n - 2)) carried) }

-- the 992 blocks of that frame
unfoldable pub frame_of : List ℕ → List Block
frame_of carried = map (frame_block carried) (range_with_len 1 992)

-- the bytes that a frame's blocks carry
abbrev pub carried_by : List Block → List ℕ
carried_by blocks = flat_map (λ (b : Block). b.bytes) (take 990 (drop 1 blocks)) ++ drop 1 (slice_index_or blocks 991 start_block).bytes

-- the carried bytes, with those of the block at a place stored
abbrev pub carried_after : ℕ → List ℕ → List ℕ → List ℕ
carried_after n bytes carried =
    if n == 1 then carried
    else if n == 992 then splice 7920 (drop 1 bytes) carried
    else splice (8 * (n - 2)) bytes carried

-- the carried bytes, with those of all blocks from a place on stored one after the other
abbrev pub carried_after_all : ℕ → List Block → List ℕ → List ℕ
carried_after_all n [] carried = carried
carried_after_all n (b ∷ bs) carried = carried_after_all (n + 1) bs (carried_after n b.bytes carried)

-- a frame's blocks, stored one after the other, leave what it was made of, whatever was there before
abbrev pub FrameRestored : Type 0
FrameRestored = (carried before : List ℕ) → length carried ≡ 7927 → length before ≡ 7927 → carried_after_all 1 (frame_of carried) before ≡ carried

-- the carried bytes, with those of a data block stored, where the place is a data block's
abbrev pub with_data : ℕ → List ℕ → List ℕ → List ℕ
with_data n bytes carried = if is_data_place n then splice (8 * (n - 2)) bytes carried else carried

-- the shape of a frame: the start block, 990 data blocks, an end that carries seven bytes
pub record IsFrameShape (blocks : List Block) : Type 0 where
  pub many : length blocks ≡ frame_blocks
  pub opens : slice_get blocks 0 ≡ Some start_block
  pub data_blocks : (n : ℕ) → 1 ≤ n → n ≤ 990 → option_map class_of (slice_get blocks n) ≡ Some DataClass
  pub ends : option_map class_of (slice_get blocks 991) ≡ Some (End 7)
