-- What is reported of blocks, and what a collector holds after them, in terms of the messages that they are of.
use Rattle.std.specs.Prelude.{◌≡◌, ◌↔◌, ℕ, ◌<◌, ◌≤◌, true, false, List, [], ◌∷◌, ◌++◌, length, take, Some, None, Ok, Err, ◌≢◌}
use Rattle.std.specs.List.{All}
use Rattle.bits.specs.Bits.{bits}
use Rattle.crc.specs.Laws.{weight, xors}
use Rattle.message.specs.declared.Kind.{Kind}
use Rattle.message.specs.declared.Kind.TheVariants.{Basic, TwoDmm}
use Rattle.message.specs.declared.MessageBlock.{MessageBlock}
use Rattle.message.specs.Values.{crc12, filled_values, lawful}
use Rattle.message.specs.Written.{message_blocks, reads_of}
use Rattle.collector.specs.declared.BlockError.TheVariants.{WrongRemainder, UnknownCode}
use Rattle.collector.specs.Content.{MessageContent}
use Rattle.collector.specs.Faults.{report_faults}
use Rattle.collector.specs.State.{CollectorState, IsSoundState, last_of}
use Rattle.collector.specs.Step.{is_aps, new_state, report_of, same_bool}
use Rattle.collector.specs.Runs.{Arrives, ArrivesCorrupt, CollectorCall, Completes, Follows, IsLatest, IsWaiting, MakesWhole, IsUndamaged, IsWoven, give, goes_to, own, reports, state_after}

-- b, taken after some calls, is reported to make a message of kind k whole, which is then the last of its kind;
-- one of two-way delay then waits as the question
pub record FoundWhole (s : CollectorState) (before : List CollectorCall) (b : MessageBlock) (k : Kind) (us : List ℕ) : Type 0 where
  pub found : (report_of (state_after s before) b).found ≡ Ok (Some k)
  pub last : last_of k (state_after s (before ++ give b ∷ [])) ≡ Some (record { kind = k; values = us })
  pub waits : k ≡ TwoDmm → (state_after s (before ++ give b ∷ [])).question ≡ Some (take 8 us)

-- What is reported whole: exactly the messages whose blocks came in a row for their collection.
pub record CollectorLaws : Type 0 where
  -- a collector never loses a place
  pub places_kept : (s : CollectorState) (cs : List CollectorCall) → length s.kept ≡ 7 → length (state_after s cs).kept ≡ 7
  -- what holds of every collector still holds after some calls
  pub sound : (s : CollectorState) (cs : List CollectorCall) → IsSoundState s → IsSoundState (state_after s cs)
  -- In whatever state with a place for each kind the blocks begin, and with any blocks of basic messages, unknown kinds or the other collection, and questions
  -- collected, between its own, a message whose blocks have come in a row is found whole at its last block, with its values.
  pub whole_found : (s : CollectorState) (before : List CollectorCall) (b : MessageBlock) (k : Kind) (us : List ℕ)
      → length s.kept ≡ 7 → Completes before b k us → FoundWhole s before b k us
  -- So is what the writer makes of lawful values.
  pub written_found : (s : CollectorState) (before : List CollectorCall) (front : List MessageBlock) (b : MessageBlock) (k : Kind) (vs : List ℕ)
      → length s.kept ≡ 7 → lawful k vs ≡ true → goes_to (is_aps k) b ≡ true
      → own (is_aps k) (before ++ give b ∷ []) ≡ front ++ reads_of (message_blocks k (filled_values vs))
      → FoundWhole s before b k (filled_values vs)
  -- If one to three of its value bits, the remainder's included, were changed on the way, it is found to have a wrong remainder.
  pub change_found : (s : CollectorState) (before : List CollectorCall) (b : MessageBlock) (k : Kind) (us ws : List ℕ)
      → Arrives before b k ws → length us ≡ length ws → crc12 (bits us) ≡ 0
      → 0 < weight (xors (bits us) (bits ws)) → weight (xors (bits us) (bits ws)) ≤ 3
      → (report_of (state_after s before) b).found ≡ Err WrongRemainder
  -- A new collector reports a message whole exactly where its last block makes it so.
  pub whole_exactly : (before : List CollectorCall) (b : MessageBlock) (k : Kind)
      → ((report_of (state_after new_state before) b).found ≡ Ok (Some k)) ↔ ((us : List ℕ) × MakesWhole before b k us)
  -- So it reports no other message whole but a basic one.
  pub only_whole : (before : List CollectorCall) (b : MessageBlock) (k : Kind)
      → (report_of (state_after new_state before) b).found ≡ Ok (Some k) → (k ≢ Basic)
      → (us : List ℕ) × Completes before b k us × FoundWhole new_state before b k us

-- When each fault is reported.
pub record FaultLaws : Type 0 where
  -- P3 of a block of a kind that is collected: exactly if it does not follow what has come to a new collector
  pub sequence : (before : List CollectorCall) (b : MessageBlock) (k : Kind) → b.kind ≡ Some k → k ≢ Basic
      → ((report_of (state_after new_state before) b).broken ≡ false) ↔ Follows before b k
  -- P3 of a basic message: exactly if its marks are alike; of an unknown kind: never
  pub basic_sequence : (s : CollectorState) (b : MessageBlock) → b.kind ≡ Some Basic → (report_of s b).broken ≡ same_bool b.starts b.ends
  pub unknown_sequence : (s : CollectorState) (b : MessageBlock) → b.kind ≡ None → (report_of s b).broken ≡ false
  -- P1: exactly at the last block of a message whose blocks have come in a row to a new collector and leave another remainder than 0
  pub remainder : (before : List CollectorCall) (b : MessageBlock)
      → ((report_of (state_after new_state before) b).found ≡ Err WrongRemainder) ↔ ArrivesCorrupt before b
  -- P2: exactly for unknown kinds
  pub unknown : (s : CollectorState) (b : MessageBlock) → ((report_of s b).found ≡ Err UnknownCode) ↔ (b.kind ≡ None)
  -- None at all of messages that come undamaged to a new collector, woven in any order that keeps that of each collection.
  pub undamaged : (cs : List CollectorCall) (protection low : List MessageContent)
      → IsWoven cs protection low → All (λ r. report_faults r ≡ None ∷ None ∷ []) (reports new_state cs)
  -- What the writer makes of lawful values is undamaged.
  pub written_undamaged : (k : Kind) (vs : List ℕ) → lawful k vs ≡ true → IsUndamaged (record { kind = k; values = filled_values vs })

-- What a new collector holds after some calls.
pub record LatestLaws : Type 0 where
  -- the last message of a kind is the latest that was whole, if one was
  pub last : (cs : List CollectorCall) (k : Kind) → IsLatest cs k (last_of k (state_after new_state cs))
  -- the question that waits is the latest whole one since the last that was collected, if there is one
  pub waits : (cs : List CollectorCall) → IsWaiting cs (state_after new_state cs).question
