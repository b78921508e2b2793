-- The blocks of a message that waits stand at the front of its places.
use Rattle.std.proofs.Common.{◌≡◌, ℕ, ◌<◌, ◌≤◌, true, List, length, take, sym, ap, ◌∙◌, arith, length-take, ltb}
use Rattle.std.proofs.lemmas.Bool.{ltb-true}
use Rattle.block.specs.declared.Block.{Block}
use Rattle.waiting.specs.Messages.{waits}

pub front_waits : (blocks : List Block) (count gone : ℕ) → length blocks ≡ 13 → count ≤ 13
    → waits (record { blocks = take count blocks; gone = gone }) ≡ ltb gone count
front_waits blocks count gone l h = ap (ltb gone) (simp length-take (omega arith))

pub front_below : (blocks : List Block) (count gone : ℕ) → length blocks ≡ 13 → count ≤ 13
    → waits (record { blocks = take count blocks; gone = gone }) ≡ true → gone < count
front_below blocks count gone l h e = ltb-true gone count (sym (front_waits blocks count gone l h) ∙ e)
