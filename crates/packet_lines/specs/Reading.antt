-- What packets' lines bring to clients' queues, and which line is not taken.
use Rattle.std.specs.Prelude.{◌≡◌, ℕ, ◌+◌, if◌then◌else◌, List, [], ◌∷◌, ◌++◌, length, Some, None, Ok, Err, Option, Result, ◌==◌}
use Rattle.std.specs.List.{flat_map}
use Rattle.block.specs.declared.Block.{Block}
use Rattle.refusal.specs.declared.Refusal.{Refusal}
use Rattle.refusal.specs.declared.Refusal.TheVariants.{FormBroken, PacketLength}
use Rattle.numbers.specs.Range.{checked_number}
use Rattle.calendar.specs.Share.{slot_count}
use Rattle.port.specs.Model.{Lists}
use Rattle.packet.specs.Format.{packet_blocks, is_packet_length}
use Rattle.packet_text.specs.Lines.{packet_line_form}
use Rattle.packet_lines.specs.declared.LineError.{LineError}
use Rattle.packet_lines.specs.declared.LineError.TheVariants.{NoSlot, Refused}
use Rattle.packet_lines.specs.declared.BadLine.{BadLine}
use Rattle.packet_lines.specs.declared.ReadError.{ReadError}
use Rattle.packet_lines.specs.declared.ReadError.TheVariants.{Line, Memory}

-- a packet of a client in range: its length first, then whether the client has a slot among the entries
abbrev pub by_client : List ℕ → List ℕ → Result ℕ Refusal → Result (ℕ × List ℕ) LineError
by_client entries bytes (Err cause) = Err (Refused cause)
by_client entries bytes (Ok client) =
    if is_packet_length (length bytes) then (if slot_count client entries == 0 then Err (NoSlot client) else Ok (client, bytes))
    else Err (Refused PacketLength)

abbrev pub by_form : List ℕ → Option (ℕ × List ℕ) → Result (ℕ × List ℕ) LineError
by_form entries None = Err (Refused FormBroken)
by_form entries (Some line) = by_client entries line.1 (checked_number line.0)

-- the client and the packet of a line, by the calendar's entries, or why the line is not taken
abbrev pub packet_of : List ℕ → List ℕ → Result (ℕ × List ℕ) LineError
packet_of entries line = by_form entries (packet_line_form line)

abbrev pub bad_or : Result (ℕ × List ℕ) LineError → ℕ → Option BadLine → Option BadLine
bad_or (Err error) n bad = Some (record { error = error; line = n })
bad_or (Ok packet) n bad = bad

-- the first of these lines that is not taken, where the first of them has number n
abbrev pub first_bad : List ℕ → ℕ → List (List ℕ) → Option BadLine
first_bad entries n [] = None
first_bad entries n (l ∷ ls) = bad_or (packet_of entries l) n (first_bad entries (n + 1) ls)

-- the blocks that a line brings to client k
abbrev pub blocks_brought : Result (ℕ × List ℕ) LineError → Lists
blocks_brought (Err error) k = []
blocks_brought (Ok packet) k = if k == packet.0 then packet_blocks packet.1 else []

-- the blocks that lines bring to each client, in the order of the lines
abbrev pub lists_of : List ℕ → List (List ℕ) → Lists
lists_of entries ls k = flat_map (λ l. blocks_brought (packet_of entries l) k) ls

-- these lists with more blocks behind each
abbrev pub joined_lists : Lists → Lists → Lists
joined_lists lists more k = lists k ++ more k

-- why reading ends: for the line that is not taken, or since there is no memory
abbrev pub IsReason : Option BadLine → ReadError → Type 0
IsReason bad (Line line) = bad ≡ Some line
IsReason bad Memory = Unit {0}
