-- What is read is what was written, and few changed overhead bits are seen.
use Rattle.std.specs.Prelude.{◌≡◌, ◌<◌, ◌≤◌, List, ◌∷◌, length, take, Ok, Err}
use Rattle.std.specs.List.{All}
use Rattle.block.specs.declared.Block.{Block}
use Rattle.block.specs.declared.Pair.{Pair}
use Rattle.block.specs.Whole.{Whole, WholePair}
use Rattle.crc.specs.Laws.{weight}
use Rattle.numbers.specs.Range.{slots}
use Rattle.overhead.specs.Format.{Fields}
use Rattle.overhead.specs.Laws.{FieldsInRange, changes}
use Rattle.overhead.specs.declared.OverheadFault.TheVariants.{WrongRemainder}
use Rattle.frame.specs.Frames.{IsFrameShape}
use Rattle.whole_frame.specs.Meaning.{FrameContent, frame_read, frame_written}

-- what a program can send
pub record Sendable (f : Fields) (pairs : List Pair) : Type 0 where
  pub fields : FieldsInRange f
  pub many : length pairs ≡ slots
  pub whole : All WholePair pairs

-- the same blocks but for the second, in which one, two or three of the overhead's bits 10 to 55 differ; its bits 0 to 9 and the payload's
-- first byte may differ too
pub record IsAltered (sent came : List Block) : Type 0 where
  pub first : Block
  pub head : Block
  pub other : Block
  pub rest : List Block
  pub was : sent ≡ first ∷ head ∷ rest
  pub is : came ≡ first ∷ other ∷ rest
  pub sync : other.sync ≡ head.sync
  pub eight : length other.bytes ≡ 8
  pub some : 0 < weight (changes (take 7 head.bytes) (take 7 other.bytes))
  pub few : weight (changes (take 7 head.bytes) (take 7 other.bytes)) ≤ 3

-- the frames of all fields in range and all whole pairs: their shape and blocks, what is read from them, and few changes are seen
pub record FramesCoded : Type 0 where
  pub shape : (f : Fields) (pairs : List Pair) → Sendable f pairs → IsFrameShape (frame_written f pairs)
  pub whole : (f : Fields) (pairs : List Pair) → Sendable f pairs → All Whole (frame_written f pairs)
  pub back : (f : Fields) (pairs : List Pair) → Sendable f pairs → frame_read (frame_written f pairs) ≡ Ok (record { fields = f; pairs = pairs })
  pub seen : (f : Fields) (pairs : List Pair) (came : List Block) → Sendable f pairs → IsAltered (frame_written f pairs) came
      → frame_read came ≡ Err WrongRemainder

-- an altered frame has the shape of a frame, so that its overhead alone tells it
abbrev pub AlteredShaped : Type 0
AlteredShaped = (sent came : List Block) → IsFrameShape sent → IsAltered sent came → IsFrameShape came

-- whatever blocks are read, what they say could be sent
abbrev pub OnlySendable : Type 0
OnlySendable = (blocks : List Block) (c : FrameContent) → frame_read blocks ≡ Ok c → Sendable c.fields c.pairs

-- the laws speak of something
pub record SomeSendable : Type 0 where
  pub fields : Fields
  pub pairs : List Pair
  pub sendable : Sendable fields pairs

pub record Alterable (f : Fields) (pairs : List Pair) : Type 0 where
  pub came : List Block
  pub altered : IsAltered (frame_written f pairs) came

abbrev pub EachAlterable : Type 0
EachAlterable = (f : Fields) (pairs : List Pair) → Alterable f pairs
