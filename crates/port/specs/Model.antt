-- What an inlet and an outlet are to a contract: lists of blocks by the client's number.
use Rattle.std.specs.Prelude.{◌≡◌, ℕ, ◌+◌, ◌<◌, ◌≤◌, if◌then◌else◌, List, [], ◌∷◌, ◌++◌, Some, None, Ok, Err, Option, Result, ◌==◌, nat_le}
use Rattle.block.specs.declared.Block.{Block}
use Rattle.block.specs.declared.Pair.{Pair}
use Rattle.refusal.specs.declared.Refusal.{Refusal}
use Rattle.refusal.specs.declared.Refusal.TheVariants.{NoFreePlace}

-- a list of blocks for each client
abbrev pub Lists : Type 0
Lists = ℕ → List Block

-- the lists, with l for client c and all others as they are
abbrev pub updated_lists : Lists → ℕ → List Block → Lists
updated_lists lists c l k = if k == c then l else lists k

abbrev pub first_of : List Block → Option Block
first_of [] = None
first_of (b ∷ bs) = Some b

abbrev pub rest_of : List Block → List Block
rest_of [] = []
rest_of (b ∷ bs) = bs

-- the lists after client c's first block, if any, is removed
abbrev pub lists_after_next : ℕ → Lists → Lists
lists_after_next c lists = updated_lists lists c (rest_of (lists c))

-- how many blocks an answer gives
abbrev pub block_count_given : Option Block → ℕ
block_count_given None = 0
block_count_given (Some b) = 1

-- a pair's blocks, in the order in which they are sent
abbrev pub pair_blocks : Pair → List Block
pair_blocks pair = pair.first ∷ pair.second ∷ []

-- what an outlet holds: for each client a list of blocks and a number of free places
pub record Holding : Type 0 where
  pub held : Lists
  pub free : ℕ → ℕ

-- an outlet that holds nothing, with so many places free for each client
abbrev pub empty_with : (ℕ → ℕ) → Holding
empty_with free = record { held = λ _. []; free = free }

abbrev pub Answer : Type 0
Answer = Result (Unit {0}) Refusal

-- the answer to a put, where so many places are free for its client
abbrev pub put_answer : ℕ → Answer
put_answer free = if nat_le 2 free then Ok tt else Err NoFreePlace

-- a put of a pair for client c is accepted; of other clients' free places it says nothing
pub record PutAccepted (c : ℕ) (pair : Pair) (before after : Holding) : Type 0 where
  pub room : 2 ≤ before.free c
  pub appended : after.held ≡ updated_lists before.held c (before.held c ++ pair_blocks pair)
  pub places : after.free c + 2 ≡ before.free c

-- a put for client c is refused: two places are not free, and nothing changes
pub record PutRefused (c : ℕ) (cause : Refusal) (before after : Holding) : Type 0 where
  pub full : before.free c < 2
  pub number : cause ≡ NoFreePlace
  pub same : after ≡ before

-- one put, by its answer
abbrev pub Put : ℕ → Pair → Answer → Holding → Holding → Type 0
Put c pair (Ok _) before after = PutAccepted c pair before after
Put c pair (Err cause) before after = PutRefused c cause before after
