-- A frame's blocks: the start block, and 991 behind it.
use Rattle.std.proofs.Common.{◌≡◌, ℕ, List, ◌∷◌, ◌++◌, length, drop, ap, ◌∙◌, arith}
use Rattle.std.proofs.lemmas.List.{drop_more}
use Rattle.block.specs.declared.Block.{Block}
use Rattle.block.specs.declared.Pair.{Pair}
use Rattle.block.specs.Fixed.{start_block}
use Rattle.overhead.specs.Format.{overhead_bytes}
use Rattle.payload.specs.Payloads.{payload_of}
use Rattle.frame.specs.Frames.{frame_of}
use Rattle.frame.proofs.Frames.{frame_at, frame_length}
use Rattle.whole_frame.specs.Meaning.{frame_written}
use Rattle.sending.specs.Frames.{fields, frame_rest}

opens : (carried : List ℕ) → frame_of carried ≡ start_block ∷ drop 1 (frame_of carried)
opens carried =
    drop_more (frame_of carried) 0 start_block (omega (arith, frame_length carried))
    ∙ ap (λ (b : Block). b ∷ drop 1 (frame_of carried)) (frame_at carried 0 start_block (omega arith))

pub frame_opens : (number entry : ℕ) (pairs : List Pair) → frame_written (fields number entry) pairs ≡ start_block ∷ frame_rest number entry pairs
unfolding frame_written frame_rest
frame_opens number entry pairs = opens (overhead_bytes (fields number entry) ++ payload_of pairs)

pub length-frame_written : (number entry : ℕ) (pairs : List Pair) → length (frame_written (fields number entry) pairs) ≡ 992
unfolding frame_written
length-frame_written number entry pairs = frame_length (overhead_bytes (fields number entry) ++ payload_of pairs)
