-- What a collector holds, as lists of value bytes.
use Rattle.std.specs.Prelude.{◌≡◌, ℕ, ◌*◌, List, length, None, Option, IfSome, slice_index_or}
use Rattle.message.specs.declared.Kind.{Kind}
use Rattle.message.specs.declared.Kind.TheVariants.{Basic, Aps, Cv, OneDm, TwoDmm, TwoDmr, Cs}
use Rattle.message.specs.Kinds.{block_count_of}
use Rattle.collector.specs.Content.{MessageContent, IsPart}

-- the message that each collection has begun, if one; by kind, the message that came whole last; when the waiting question was sent
pub record CollectorState : Type 0 where
  pub aps : Option MessageContent
  pub low : Option MessageContent
  pub kept : List (Option MessageContent)
  pub question : Option (List ℕ)

-- where a kind's last message is kept
abbrev pub place_of : Kind → ℕ
place_of Basic = 0
place_of Aps = 1
place_of Cv = 2
place_of OneDm = 3
place_of TwoDmm = 4
place_of TwoDmr = 5
place_of Cs = 6

-- the last whole message of a kind
abbrev pub last_of : Kind → CollectorState → Option MessageContent
last_of k s = slice_index_or s.kept (place_of k) None

-- all value bytes of a message of kind k
pub record IsFull (k : Kind) (m : MessageContent) : Type 0 where
  pub kind : m.kind ≡ k
  pub long : length m.values ≡ 2 * block_count_of k

-- What holds of every collector.
pub record IsSoundState (s : CollectorState) : Type 0 where
  -- there is a place for each kind
  pub places : length s.kept ≡ 7
  -- a message that is collected lacks blocks
  pub aps_part : IfSome s.aps IsPart
  pub low_part : IfSome s.low IsPart
  -- the last message of a kind is of that kind and whole
  pub last_full : (k : Kind) → IfSome (last_of k s) (IsFull k)
  -- a time has eight bytes
  pub time_long : IfSome s.question (λ t. length t ≡ 8)
