-- One pair among those of a payload.
use Rattle.std.proofs.Common.{◌≡◌, ℕ, ◌+◌, ◌-◌, ◌<◌, List, Some, ap, ◌∙◌, arith}
use Rattle.std.specs.Prelude.{slice_get}
use Rattle.std.proofs.lemmas.Option.{slice_get-get_or}
use Rattle.numbers.specs.Range.{IsOneTo480}
use Rattle.payload.specs.Payloads.{pair_at, pairs_of}
use Rattle.payload.proofs.Slots.{blank, pairs_at, pairs_length}

pub pair_among : (p : List ℕ) (k : ℕ) → IsOneTo480 k → slice_get (pairs_of p) (k - 1) ≡ Some (pair_at k p)
pair_among p k h =
    let m : k - 1 < 480 = omega (arith, h.0, h.1) in
    let e : k - 1 + 1 ≡ k = omega (arith, h.0) in
    slice_get-get_or (pairs_of p) (k - 1) blank (omega (arith, pairs_length p))
    ∙ ap Some (pairs_at p (k - 1) blank m ∙ ap (λ (i : ℕ). pair_at i p) e)
