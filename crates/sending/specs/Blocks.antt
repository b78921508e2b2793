-- Blocks as the laws of a sender tell them apart.
use Rattle.std.specs.Prelude.{Bool, if◌then◌else◌, List, [], ◌∷◌}
use Rattle.block.specs.declared.Block.{Block}
use Rattle.block.specs.Classes.{class_of, is_end, is_idle, is_start}

unfoldable pub is_start_block : Block → Bool
is_start_block b = is_start (class_of b)

unfoldable pub is_end_block : Block → Bool
is_end_block b = is_end (class_of b)

unfoldable pub is_idle_block : Block → Bool
is_idle_block b = is_idle (class_of b)

unfoldable pub without_idles : List Block → List Block
without_idles [] = []
without_idles (b ∷ bs) = if is_idle_block b then without_idles bs else b ∷ without_idles bs
