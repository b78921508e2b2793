-- Places in use, over the first n of a list of places.
use Rattle.std.proofs.Common.{◌≡◌, ℕ, suc, ◌+◌, ◌-◌, ◌<◌, ◌≤◌, List, ◌++◌, length, take, drop, arith, length-append, length-drop, ◌∙◌, ap}
use Rattle.std.proofs.lemmas.List.{length-take-le, drop-take}
use Rattle.std.proofs.Math.Seq.{take-append_seam}
use Rattle.std.proofs.lemmas.Grind.{common_steps}
use Rattle.std.specs.List.{copy_within, remove}

-- where the entries behind one move up by one place, that one is removed
pub closed : {T : Type 0} (xs : List T) (n i : ℕ) → i < n → n ≤ length xs → take (n - 1) (copy_within xs (i + 1) n i) ≡ remove (take n xs) i
closed xs n i below within =
    let front = take i xs ++ take (n - (i + 1)) (drop (i + 1) xs) in
    let rest = drop (i + (n - (i + 1))) xs in
    let room : n - (i + 1) ≤ length (drop (i + 1) xs) = simp length-drop (omega arith) in
    let in_front : i ≤ length xs = omega arith in
    let size : length front ≡ n - 1 = simp (length-append, length-take-le i xs in_front, length-take-le (n - (i + 1)) (drop (i + 1) xs) room) (omega arith) in
    let seam : take (n - 1) (front ++ rest) ≡ front = rw (← size) (take-append_seam front rest) in
    let n_is : n ≡ suc i + (n - (i + 1)) = omega arith in
    let behind : drop (suc i) (take n xs) ≡ take (n - (i + 1)) (drop (suc i) xs) = ap (λ m. drop (suc i) (take m xs)) n_is ∙ drop-take (suc i) (n - (i + 1)) xs in
    grind (arith, common_steps, seam, behind)
