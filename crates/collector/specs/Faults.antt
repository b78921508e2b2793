-- The faults of message blocks: their numbers, and those that a report names.
use Rattle.std.specs.Prelude.{ℕ, List, [], ◌∷◌, ◌++◌, Option, codes, decimal}
use Rattle.std.specs.Bool.{then_some}
use Rattle.std.specs.Option.{option_map}
use Rattle.std.specs.Result.{result_err}
use Rattle.collector.specs.declared.BlockError.{BlockError}
use Rattle.collector.specs.declared.BlockError.TheVariants.{WrongRemainder, UnknownCode}
use Rattle.collector.specs.declared.MessageFault.{MessageFault}
use Rattle.collector.specs.declared.MessageFault.TheVariants.{Remainder, UnknownKind, Sequence}
use Rattle.collector.specs.declared.Report.{Report}

-- P1, P2 and P3
abbrev pub message_fault_number : MessageFault → ℕ
message_fault_number Remainder = 1
message_fault_number UnknownKind = 2
message_fault_number Sequence = 3

-- a P and the number
abbrev pub message_fault_text : MessageFault → List ℕ
message_fault_text f = codes "P" ++ decimal (message_fault_number f)

-- P1 or P2, and so never P3
abbrev pub message_fault_of : BlockError → MessageFault
message_fault_of WrongRemainder = Remainder
message_fault_of UnknownCode = UnknownKind

-- a broken sequence stands before a wrong remainder
abbrev pub report_faults : Report → List (Option MessageFault)
report_faults r = then_some r.broken Sequence ∷ option_map message_fault_of (result_err r.found) ∷ []
