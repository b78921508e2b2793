-- What a collector does at a message block, and what it reports.
use Rattle.std.specs.Prelude.{Bool, true, false, if◌then◌else◌, not, ◌&&◌, ◌||◌, [], ◌∷◌, take, replicate, is_some, Some, None, Ok, Err, Option, Result, slice_set}
use Rattle.message.specs.declared.Kind.{Kind}
use Rattle.message.specs.declared.Kind.TheVariants.{Basic, Aps, TwoDmm}
use Rattle.message.specs.declared.MessageBlock.{MessageBlock}
use Rattle.collector.specs.declared.Report.{Report}
use Rattle.collector.specs.declared.BlockError.{BlockError}
use Rattle.collector.specs.declared.BlockError.TheVariants.{WrongRemainder, UnknownCode}
use Rattle.collector.specs.Content.{MessageContent}
use Rattle.collector.specs.declared.assembly.Outcome.{Outcome}
use Rattle.collector.specs.declared.assembly.Outcome.TheVariants.{Broken, Incomplete, Corrupt, Whole}
use Rattle.collector.specs.Outcomes.{next_outcome, same_kind}
use Rattle.collector.specs.State.{CollectorState, place_of}

abbrev pub same_bool : Bool → Bool → Bool
same_bool true b = b
same_bool false b = not b

-- no block has come, and nothing is kept
abbrev pub new_state : CollectorState
new_state = record { aps = None; low = None; kept = replicate 7 None; question = None }

-- the protection messages are collected apart
abbrev pub is_aps : Kind → Bool
is_aps k = same_kind k Aps

abbrev pub collection_of : Kind → CollectorState → Option MessageContent
collection_of k s = if is_aps k then s.aps else s.low

abbrev pub with_collection : Kind → Option MessageContent → CollectorState → CollectorState
with_collection k c s = record {
  aps = if is_aps k then c else s.aps;
  low = if is_aps k then s.low else c;
  kept = s.kept;
  question = s.question;
}

-- A whole message replaces the one kept of its kind. Of a two-way delay message the time is kept as well, as the waiting question: only
-- the newest is worth an answer, so a question that still waits is replaced.
abbrev pub with_last_whole : MessageContent → CollectorState → CollectorState
with_last_whole u s = record {
  aps = s.aps;
  low = s.low;
  kept = slice_set s.kept (place_of u.kind) (Some u);
  question = if same_kind u.kind TwoDmm then Some (take 8 u.values) else s.question;
}

abbrev pub after_outcome : Kind → Outcome → CollectorState → CollectorState
after_outcome k Broken s = with_collection k None s
after_outcome k (Incomplete u) s = with_collection k (Some u) s
after_outcome k Corrupt s = with_collection k None s
after_outcome k (Whole u) s = with_last_whole u (with_collection k None s)

-- the kind of the message that is whole, if one is, or the fault
abbrev pub found_of : Outcome → Result (Option Kind) BlockError
found_of Broken = Ok None
found_of (Incomplete u) = Ok None
found_of Corrupt = Err WrongRemainder
found_of (Whole u) = Ok (Some u.kind)

abbrev pub is_broken : Outcome → Bool
is_broken Broken = true
is_broken (Incomplete u) = false
is_broken Corrupt = false
is_broken (Whole u) = false

-- a block of a kind that is collected
abbrev pub after_part : Kind → CollectorState → MessageBlock → CollectorState
after_part k s b = after_outcome k (next_outcome k (collection_of k s) b) s

abbrev pub report_part : Kind → CollectorState → MessageBlock → Report
report_part k s b =
    let o : Outcome = next_outcome k (collection_of k s) b in
    record { broken = (b.starts && is_some (collection_of k s)) || is_broken o; found = found_of o }

-- a basic message has exactly one mark, and disturbs no collection
abbrev pub one_mark : MessageBlock → Bool
one_mark b = not (same_bool b.starts b.ends)

abbrev pub basic_content : MessageBlock → MessageContent
basic_content b = record { kind = Basic; values = b.first ∷ b.second ∷ [] }

abbrev pub after_basic : CollectorState → MessageBlock → CollectorState
after_basic s b = if one_mark b then with_last_whole (basic_content b) s else s

abbrev pub report_basic : MessageBlock → Report
report_basic b = if one_mark b then record { broken = false; found = Ok (Some Basic) } else record { broken = true; found = Ok None }

-- an unknown kind disturbs nothing
abbrev pub after_kind : Option Kind → CollectorState → MessageBlock → CollectorState
after_kind None s b = s
after_kind (Some k) s b = if same_kind k Basic then after_basic s b else after_part k s b

abbrev pub after : CollectorState → MessageBlock → CollectorState
after s b = after_kind b.kind s b

abbrev pub report_kind : Option Kind → CollectorState → MessageBlock → Report
report_kind None s b = record { broken = false; found = Err UnknownCode }
report_kind (Some k) s b = if same_kind k Basic then report_basic b else report_part k s b

abbrev pub report_of : CollectorState → MessageBlock → Report
report_of s b = report_kind b.kind s b

-- once the question has been handed out, none waits
abbrev pub with_no_question : CollectorState → CollectorState
with_no_question s = record { aps = s.aps; low = s.low; kept = s.kept; question = None }
