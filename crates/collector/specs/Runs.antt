-- Calls on a collector in a row, and the messages whose blocks come in them.
use Rattle.std.specs.Prelude.{◌≡◌, ℕ, ◌+◌, ◌*◌, ◌<◌, ◌≤◌, Bool, true, false, if◌then◌else◌, not, ◌&&◌, List, [], ◌∷◌, ◌++◌, length, take, Some, None, Ok, Option, ◌==◌, ◌≢◌}
use Rattle.std.specs.List.{All}
use Rattle.bits.specs.Bits.{bits}
use Rattle.message.specs.declared.Kind.{Kind}
use Rattle.message.specs.declared.Kind.TheVariants.{Basic, TwoDmm}
use Rattle.message.specs.declared.MessageBlock.{MessageBlock}
use Rattle.message.specs.Kinds.{block_count_of}
use Rattle.message.specs.Values.{crc12}
use Rattle.message.specs.Written.{message_parts}
use Rattle.collector.specs.declared.Report.{Report}
use Rattle.collector.specs.Content.{MessageContent}
use Rattle.collector.specs.Outcomes.{same_kind}
use Rattle.collector.specs.State.{CollectorState}
use Rattle.collector.specs.Step.{after, is_aps, new_state, one_mark, report_of, same_bool, with_no_question}

-- whether a block goes to the collection of protection messages (true) or to that of low priority ones (false);
-- basic messages and unknown kinds go to neither
abbrev pub goes_kind : Bool → Option Kind → Bool
goes_kind aps None = false
goes_kind aps (Some k) = not (same_kind k Basic) && same_bool (is_aps k) aps

abbrev pub goes_to : Bool → MessageBlock → Bool
goes_to aps b = goes_kind aps b.kind

-- the calls that change a collector: a block is given, or the question collected
pub data CollectorCall : Type 0 where
  give : MessageBlock → CollectorCall
  collect : CollectorCall

-- the blocks that go to one collection, in their order
abbrev pub own : Bool → List CollectorCall → List MessageBlock
own aps [] = []
own aps (give b ∷ cs) = if goes_to aps b then b ∷ own aps cs else own aps cs
own aps (collect ∷ cs) = own aps cs

-- what a collector holds after some calls
abbrev pub state_after : CollectorState → List CollectorCall → CollectorState
state_after s [] = s
state_after s (give b ∷ cs) = state_after (after s b) cs
state_after s (collect ∷ cs) = state_after (with_no_question s) cs

-- what is reported of the blocks, in their order
abbrev pub reports : CollectorState → List CollectorCall → List Report
reports s [] = []
reports s (give b ∷ cs) = report_of s b ∷ reports (after s b) cs
reports s (collect ∷ cs) = reports (with_no_question s) cs

-- ---- messages that arrive

-- The blocks given for the collection of k, the last one b included, end with those of a message of kind k with these values.
pub record Arrives (before : List CollectorCall) (b : MessageBlock) (k : Kind) (us : List ℕ) : Type 0 where
  pub front : List MessageBlock
  pub goes : goes_to (is_aps k) b ≡ true
  pub is : own (is_aps k) (before ++ give b ∷ []) ≡ front ++ message_parts k us
  pub long : length us ≡ 2 * block_count_of k

-- And these leave the remainder 0.
abbrev pub Completes : List CollectorCall → MessageBlock → Kind → List ℕ → Type 0
Completes before b k us = Arrives before b k us × (crc12 (bits us) ≡ 0)

-- Or they leave another.
pub record ArrivesCorrupt (before : List CollectorCall) (b : MessageBlock) : Type 0 where
  pub kind : Kind
  pub values : List ℕ
  pub arrives : Arrives before b kind values
  pub remainder : crc12 (bits values) ≢ 0

-- b makes a message of kind k whole: a basic message is one block with exactly one mark
pub data MakesWhole (before : List CollectorCall) (b : MessageBlock) (k : Kind) (us : List ℕ) : Type 0 where
  by_basic : k ≡ Basic → b.kind ≡ Some Basic → one_mark b ≡ true → us ≡ b.first ∷ b.second ∷ [] → MakesWhole before b k us
  by_blocks : Completes before b k us → MakesWhole before b k us

-- Of a message of kind k the first blocks have come for a collection, with these values, and others are to come.
pub record UnderWay (aps : Bool) (before : List CollectorCall) (k : Kind) (us : List ℕ) : Type 0 where
  pub front : List MessageBlock
  pub is : own aps before ≡ front ++ message_parts k us
  pub blocks : ℕ
  pub long : length us ≡ 2 * blocks
  pub some : 1 ≤ blocks
  pub few : blocks < block_count_of k

abbrev pub NoneUnderWay : Bool → List CollectorCall → Type 0
NoneUnderWay aps before = (k : Kind) (us : List ℕ) → ¬ UnderWay aps before k us

-- b, of kind k, follows what has come for its collection: it begins a message where none is under way, or goes on with the one of its kind
-- that is, and it has the end mark exactly if it is the last block of its kind
pub data Follows (before : List CollectorCall) (b : MessageBlock) (k : Kind) : Type 0 where
  begins : b.starts ≡ true → NoneUnderWay (is_aps k) before → b.ends ≡ (1 == block_count_of k) → Follows before b k
  continues : (us : List ℕ) (u : UnderWay (is_aps k) before k us) → b.starts ≡ false → b.ends ≡ (u.blocks + 1 == block_count_of k) → Follows before b k

-- ---- messages sent one behind the other

-- the blocks of some messages
abbrev pub row_of : List MessageContent → List MessageBlock
row_of [] = []
row_of (m ∷ ms) = message_parts m.kind m.values ++ row_of ms

-- a message has all its values, and they leave the remainder 0
pub record IsUndamaged (m : MessageContent) : Type 0 where
  pub long : length m.values ≡ 2 * block_count_of m.kind
  pub remainder : crc12 (bits m.values) ≡ 0

-- a block of a message that is collected, or a basic message with exactly one mark
abbrev pub collected_or_basic : Option Kind → MessageBlock → Bool
collected_or_basic None b = false
collected_or_basic (Some k) b = if same_kind k Basic then one_mark b else true

-- the blocks given, in their order
abbrev pub blocks_received : List CollectorCall → List MessageBlock
blocks_received [] = []
blocks_received (give b ∷ cs) = b ∷ blocks_received cs
blocks_received (collect ∷ cs) = blocks_received cs

-- The blocks given are those of undamaged messages, of each collection in their order, with basic messages between them.
pub record IsWoven (cs : List CollectorCall) (protection low : List MessageContent) : Type 0 where
  pub protection_row : own true cs ≡ row_of protection
  pub low_row : own false cs ≡ row_of low
  pub protection_undamaged : All IsUndamaged protection
  pub low_undamaged : All IsUndamaged low
  pub kinds : All (λ b. collected_or_basic b.kind b ≡ true) (blocks_received cs)

-- ---- the latest whole message

-- no block of these calls is reported to make a message of kind k whole
abbrev pub NoneWhole : Kind → CollectorState → List CollectorCall → Type 0
NoneWhole k s cs = All (λ r. r.found ≢ Ok (Some k)) (reports s cs)

-- the latest message of kind k that some calls to a new collector made whole
pub record LatestWhole (cs : List CollectorCall) (k : Kind) (m : MessageContent) : Type 0 where
  pub before : List CollectorCall
  pub block : MessageBlock
  pub since : List CollectorCall
  pub is : cs ≡ before ++ give block ∷ since
  pub kind : m.kind ≡ k
  pub whole : MakesWhole before block k m.values
  pub none_since : NoneWhole k (state_after new_state (before ++ give block ∷ [])) since

abbrev pub IsLatest : List CollectorCall → Kind → Option MessageContent → Type 0
IsLatest cs k None = NoneWhole k new_state cs
IsLatest cs k (Some m) = LatestWhole cs k m

abbrev pub never_collects : List CollectorCall → Bool
never_collects [] = true
never_collects (give b ∷ cs) = never_collects cs
never_collects (collect ∷ cs) = false

-- the last of some calls collects the question, or there is none
pub data JustCollected : List CollectorCall → Type 0 where
  no_call : JustCollected []
  collect_last : (cs : List CollectorCall) → JustCollected (cs ++ collect ∷ [])

-- no whole question has come since the question was last collected, or since the first call
pub record NoQuestion (cs : List CollectorCall) : Type 0 where
  pub before : List CollectorCall
  pub since : List CollectorCall
  pub is : cs ≡ before ++ since
  pub at : JustCollected before
  pub none_since : NoneWhole TwoDmm (state_after new_state before) since

-- the time of the latest whole question, which has not been collected since
pub record Waiting (cs : List CollectorCall) (time : List ℕ) : Type 0 where
  pub values : List ℕ
  pub latest : LatestWhole cs TwoDmm (record { kind = TwoDmm; values = values })
  pub unasked : never_collects latest.since ≡ true
  pub time_is : time ≡ take 8 values

abbrev pub IsWaiting : List CollectorCall → Option (List ℕ) → Type 0
IsWaiting cs None = NoQuestion cs
IsWaiting cs (Some time) = Waiting cs time
