use Rattle.std.proofs.Common.{◌≡◌, ℕ, List, ap, ◌∙◌}
use Rattle.block.specs.declared.Sync.{Sync}
use Rattle.block.specs.declared.Block.{Block}

-- blocks with the same sync bits and the same bytes are the same
pub same_block : (a b : Block) → a.sync ≡ b.sync → a.bytes ≡ b.bytes → a ≡ b
same_block a b s t =
    let synced : Sync → Block = λ y. record { sync = y; bytes = a.bytes } in
    let filled : List ℕ → Block = λ bs. record { sync = b.sync; bytes = bs } in
    ap synced s ∙ ap filled t
