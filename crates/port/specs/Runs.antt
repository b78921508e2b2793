-- Runs of blocks: taken from a client's list, and moved in pairs, with a filler for those that are missing.
use Rattle.std.specs.Prelude.{◌≡◌, ℕ, zero, suc, ◌+◌, ◌*◌, ◌<◌, List, [], ◌∷◌, ◌++◌, length, drop, replicate, Ok, Err}
use Rattle.block.specs.declared.Block.{Block}
use Rattle.refusal.specs.declared.Refusal.{Refusal}
use Rattle.refusal.specs.declared.Refusal.TheVariants.{NoFreePlace}
use Rattle.port.specs.Model.{Answer, Lists, Holding, updated_lists, first_of, rest_of}
use Rattle.port.specs.Pairs.{or_filler}

-- the first n blocks of a list, with the filler for each that is missing
unfoldable pub padded_blocks : Block → ℕ → List Block → List Block
padded_blocks filler zero l = []
padded_blocks filler (suc n) l = or_filler filler (first_of l) ∷ padded_blocks filler n (rest_of l)

-- the lists after client c's first n blocks, or all if there are fewer, are removed
abbrev pub without_first : ℕ → ℕ → Lists → Lists
without_first n c lists = updated_lists lists c (drop n (lists c))

-- n pairs moved for client c: what waits after, and what is held after
pub record MovesAll (c n : ℕ) (filler : Block) (from left : Lists) (before after : Holding) : Type 0 where
  pub taken : left ≡ without_first (2 * n) c from
  pub appended : after.held ≡ updated_lists before.held c (before.held c ++ padded_blocks filler (2 * n) (from c))
  pub places : after.free c + 2 * n ≡ before.free c

-- a move of n pairs refused: the places are not free, and nothing changes
pub record MovesNone (c n : ℕ) (cause : Refusal) (from left : Lists) (before after : Holding) : Type 0 where
  pub full : before.free c < 2 * n
  pub number : cause ≡ NoFreePlace
  pub waits : left ≡ from
  pub same : after ≡ before

-- a move of n pairs, by its answer
abbrev pub MovesPairs : ℕ → ℕ → Block → Answer → Lists → Lists → Holding → Holding → Type 0
MovesPairs c n filler (Ok _) from left before after = MovesAll c n filler from left before after
MovesPairs c n filler (Err cause) from left before after = MovesNone c n cause from left before after

-- A list that n places hold is given whole, and the filler fills the places behind it.
abbrev pub FillsBehind : Type 0
FillsBehind = (filler : Block) (n : ℕ) (l : List Block) (e : ℕ) → length l + e ≡ n → padded_blocks filler n l ≡ l ++ replicate e filler
