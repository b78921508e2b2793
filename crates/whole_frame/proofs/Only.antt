-- What is read could be sent, and something can be sent.
use Rattle.std.proofs.Common.{◌≡◌, ℕ, List, length, drop, replicate, Ok, Err, Result, sym, ap, ◌∙◌, subst, lit<, lit≤}
use Rattle.std.specs.List.{All}
use Rattle.block.specs.declared.Pair.{Pair}
use Rattle.block.specs.Whole.{WholePair}
use Rattle.payload.specs.Payloads.{pairs_of}
use Rattle.payload.proofs.Slots.{pairs_length}
use Rattle.overhead.specs.Format.{Fields}
use Rattle.overhead.specs.declared.OverheadFault.{OverheadFault}
use Rattle.overhead.proofs.Coding.{in_range_read}
use Rattle.frame.specs.Frames.{carried_by}
use Rattle.whole_frame.specs.Meaning.{FrameContent, content_with, frame_read, overhead_read, pairs_read}
use Rattle.whole_frame.specs.Laws.{OnlySendable, SomeSendable}
use Rattle.payload.proofs.Payloads.{pairs_whole}

-- what an answer of both was read from
record Beside (pairs : List Pair) (r : Result Fields OverheadFault) (c : FrameContent) : Type 0 where
  fields : r ≡ Ok c.fields
  same : pairs ≡ c.pairs

content_ok : (pairs : List Pair) (r : Result Fields OverheadFault) (c : FrameContent) → content_with pairs r ≡ Ok c → Beside pairs r c
content_ok pairs (Ok f) c e = record { fields = cc; same = cc }
content_ok pairs (Err w) c e = cc

pub only_sendable : OnlySendable
unfolding frame_read overhead_read pairs_read
only_sendable blocks c e =
    let p : List ℕ = drop 7 (carried_by blocks) in
    let b : Beside (pairs_of p) (overhead_read blocks) c = content_ok (pairs_of p) (overhead_read blocks) c e in
    record {
      fields = in_range_read _ c.fields b.fields;
      many = ap length (sym b.same) ∙ pairs_length p;
      whole = subst (All WholePair) b.same (pairs_whole p);
    }

pub some_sendable : SomeSendable
some_sendable = record {
  fields = record { entry = 0; frame = 0 };
  pairs = pairs_of (replicate 7920 0);
  sendable = record {
    fields = record { entry = lit≤ tt; frame = lit< tt };
    many = pairs_length (replicate 7920 0);
    whole = pairs_whole (replicate 7920 0);
  };
}
