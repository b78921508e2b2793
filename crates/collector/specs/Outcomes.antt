-- What a block makes of the message that its collection holds.
use Rattle.std.specs.Prelude.{◌≡◌, ◌*◌, Bool, true, false, if◌then◌else◌, [], ◌∷◌, ◌++◌, length, Some, None, Option, ◌==◌}
use Rattle.bits.specs.Bits.{bits}
use Rattle.message.specs.declared.Kind.{Kind}
use Rattle.message.specs.declared.MessageBlock.{MessageBlock}
use Rattle.message.specs.Kinds.{block_count_of, code_of}
use Rattle.message.specs.Values.{crc12}
use Rattle.collector.specs.Content.{MessageContent, IsPart}
use Rattle.collector.specs.declared.assembly.Outcome.{Outcome}
use Rattle.collector.specs.declared.assembly.Outcome.TheVariants.{Broken, Incomplete, Corrupt, Whole}

-- what is collected further
abbrev pub unfinished_of : Outcome → Option MessageContent
unfinished_of Broken = None
unfinished_of (Incomplete u) = Some u
unfinished_of Corrupt = None
unfinished_of (Whole u) = None

abbrev pub same_kind : Kind → Kind → Bool
same_kind a b = code_of a == code_of b

-- a message of which no block has come
abbrev pub empty_message : Kind → MessageContent
empty_message k = record { kind = k; values = [] }

-- a message all of whose blocks have come is whole if its bits leave the remainder 0
abbrev pub tested_outcome : MessageContent → Outcome
tested_outcome u = if crc12 (bits u.values) == 0 then Whole u else Corrupt

-- by the end mark, and by whether the last block has come: the mark must stand on the last block and on no other
abbrev pub marked_outcome : MessageContent → Bool → Bool → Outcome
marked_outcome u true true = tested_outcome u
marked_outcome u true false = Broken
marked_outcome u false true = Broken
marked_outcome u false false = Incomplete u

-- a message with one more block
abbrev pub with_block : MessageContent → MessageBlock → MessageContent
with_block u b = record { kind = u.kind; values = u.values ++ b.first ∷ b.second ∷ [] }

abbrev pub extended_outcome : MessageContent → MessageBlock → Outcome
extended_outcome u b =
    let more : MessageContent = with_block u b in
    marked_outcome more b.ends (length more.values == 2 * block_count_of u.kind)

-- without a start mark, a block goes on with a message of its own kind
abbrev pub continued_outcome : Kind → Option MessageContent → MessageBlock → Outcome
continued_outcome k None b = Broken
continued_outcome k (Some u) b = if same_kind u.kind k then extended_outcome u b else Broken

-- with a start mark it begins its own
abbrev pub next_outcome : Kind → Option MessageContent → MessageBlock → Outcome
next_outcome k c b = if b.starts then extended_outcome (empty_message k) b else continued_outcome k c b

-- a message of which more blocks are to come lacks blocks, and a whole one does not
abbrev pub IsSized : Outcome → Type 0
IsSized Broken = Unit {0}
IsSized (Incomplete u) = IsPart u
IsSized Corrupt = Unit {0}
IsSized (Whole u) = length u.values ≡ 2 * block_count_of u.kind
