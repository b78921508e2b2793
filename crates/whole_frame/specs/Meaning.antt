-- What a frame says: the 992 blocks that say it, and what 992 blocks are read as.
use Rattle.std.specs.Prelude.{List, ◌++◌, take, drop, Ok, Err, Result}
use Rattle.block.specs.declared.Block.{Block}
use Rattle.block.specs.declared.Pair.{Pair}
use Rattle.payload.specs.Payloads.{pairs_of, payload_of}
use Rattle.overhead.specs.Format.{Fields, overhead_bytes, read_bytes}
use Rattle.overhead.specs.declared.OverheadFault.{OverheadFault}
use Rattle.frame.specs.Frames.{carried_by, frame_of}

-- the fields of the overhead, and the pairs of slots 1 to 480
pub record FrameContent : Type 0 where
  pub fields : Fields
  pub pairs : List Pair

-- the blocks of the frame that says these fields and carries these pairs
unfoldable pub frame_written : Fields → List Pair → List Block
frame_written f pairs = frame_of (overhead_bytes f ++ payload_of pairs)

-- the pairs beside what the overhead was read as; the first fault of the overhead is that of the frame
abbrev pub content_with : List Pair → Result Fields OverheadFault → Result FrameContent OverheadFault
content_with pairs (Ok f) = Ok (record { fields = f; pairs = pairs })
content_with pairs (Err e) = Err e

-- what the overhead of a frame's blocks is read as
unfoldable pub overhead_read : List Block → Result Fields OverheadFault
overhead_read blocks = read_bytes (take 7 (carried_by blocks))

-- the pairs that a frame's blocks carry
unfoldable pub pairs_read : List Block → List Pair
pairs_read blocks = pairs_of (drop 7 (carried_by blocks))

-- what a frame's blocks are read as, whatever their sync bits and types
unfoldable pub frame_read : List Block → Result FrameContent OverheadFault
frame_read blocks = content_with (pairs_read blocks) (overhead_read blocks)
