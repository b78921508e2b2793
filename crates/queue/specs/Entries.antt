-- What a queue means: the list of its entries, over a number of places.
use Rattle.std.specs.Prelude.{ℕ, ◌-◌, List, [], ◌∷◌, ◌++◌, if◌then◌else◌, length, take, Some, None, Ok, Err, Option, Result, ◌==◌, nat_lt}
use Rattle.std.specs.Borrow.{GName}
use Rattle.refusal.specs.declared.Refusal.{Refusal}
use Rattle.refusal.specs.declared.Refusal.TheVariants.{NoFreePlace}
use Rattle.queue.specs.declared.Queue.{Queue}

-- the entries, first to last: the places in use
abbrev pub entries : {T : Type 0} → Queue T → List T
entries q = take q.len q.places.now

-- the number of places, in use or not
abbrev pub place_count : {T : Type 0} → Queue T → ℕ
place_count q = length q.places.now

-- the places not in use
abbrev pub free_places : {T : Type 0} → Queue T → ℕ
free_places q = place_count q - length (entries q)

-- what a queue is to its callers: entries, a number of places, and the name of the loan that the places are
pub record QueueContents (T : Type 0) : Type 0 where
  pub entries : List T
  pub places : ℕ
  pub lender : GName

abbrev pub queue_contents : {T : Type 0} → Queue T → QueueContents T
queue_contents q = record { entries = entries q; places = place_count q; lender = q.places.ghost_name }

-- the answer to an add where so many places are free
abbrev pub add_answer : ℕ → Result (Unit {0}) Refusal
add_answer free = if nat_lt 0 free then Ok tt else Err NoFreePlace

-- the entries after an add, by its answer
abbrev pub entries_after_add : {T : Type 0} → Result (Unit {0}) Refusal → List T → T → List T
entries_after_add (Ok _) es x = es ++ (x ∷ [])
entries_after_add (Err _) es x = es

-- the first entry that has key k, where `key` names each entry's key
abbrev pub first_with : {T : Type 0} → (T → ℕ) → ℕ → List T → Option T
first_with key k [] = None
first_with key k (x ∷ xs) = if key x == k then Some x else first_with key k xs

-- the entries without that one; the others keep their order
abbrev pub without_first_with : {T : Type 0} → (T → ℕ) → ℕ → List T → List T
without_first_with key k [] = []
without_first_with key k (x ∷ xs) = if key x == k then xs else x ∷ without_first_with key k xs
