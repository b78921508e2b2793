-- Why packets' lines are not read, as text.
use Rattle.std.specs.Prelude.{ℕ, List, ◌++◌, codes, decimal}
use Rattle.refusal.specs.Numbers.{number_of}
use Rattle.packet_lines.specs.declared.LineError.{LineError}
use Rattle.packet_lines.specs.declared.LineError.TheVariants.{NoSlot, Refused}
use Rattle.packet_lines.specs.declared.BadLine.{BadLine}
use Rattle.packet_lines.specs.declared.ReadError.{ReadError}
use Rattle.packet_lines.specs.declared.ReadError.TheVariants.{Line, Memory}

-- a line that is not taken, by its number, counted from 1
abbrev pub line_error_text : LineError → ℕ → List ℕ
line_error_text (Refused cause) line = codes "refused " ++ (decimal (number_of cause) ++ (codes " line " ++ decimal line))
line_error_text (NoSlot client) line = codes "no slot for client " ++ (decimal client ++ (codes ", line " ++ decimal line))

abbrev pub bad_text : BadLine → List ℕ
bad_text bad = line_error_text bad.error bad.line

abbrev pub error_text : ReadError → List ℕ
error_text (Line bad) = bad_text bad
error_text Memory = codes "no memory for the packets"
