-- When two blocks are the same: by their sync bits and their bytes.
use Rattle.std.specs.Prelude.{◌≡◌, ◌↔◌, Bool, IsTrue, ◌==◌}
use Rattle.std.specs.Str.{bytes_eq}
use Rattle.std.specs.Ordering.{on, eq_of_both}
use Rattle.block.specs.declared.Block.{Block}
use Rattle.block.specs.Syncs.{sync_number}

abbrev pub is_same : Block → Block → Bool
is_same = eq_of_both (on (λ b. sync_number b.sync) ◌==◌) (on (λ b. b.bytes) bytes_eq)

-- it decides whether they are equal
abbrev pub SameDecides : Type 0
SameDecides = (a b : Block) → IsTrue (is_same a b) ↔ (a ≡ b)
