use Rattle.std.proofs.Common.{◌≡◌, ℕ, List, ◌++◌, take, drop, ap, ◌∙◌, arith}
use Rattle.std.proofs.lemmas.List.{length-drop, take_all}
use Rattle.bits.specs.Splices.{splice}
use Rattle.frame.specs.Frames.{carried_after}
use Rattle.frame.proofs.Storing.{past_stored}
use Rattle.frame.proofs.store_block.Goals as goal

pub returns-then-n-eq992-clause-kept : goal.returns-then-n-eq992-clause-kept
returns-then-n-eq992-clause-kept c =
    let o : List ℕ = c.args.overhead.now in
    let p : List ℕ = c.args.payload.now in
    let bs : List ℕ = c.args.block.now.bytes in
    let e : 992 ≡ c.args.place = omega arith in
    let t : take 7 (drop 1 bs) ≡ drop 1 bs = take_all 7 (drop 1 bs) (omega (arith, length-drop 1 c.args.block.now.bytes)) in
    ap (λ (l : List ℕ). o ++ l) (c.store.ensures ∙ ap (λ (l : List ℕ). splice 7913 l p) t)
    ∙ past_stored o p (drop 1 bs) 7913 7920 c.told-overhead (omega arith)
    ∙ ap (λ (n : ℕ). carried_after n bs (o ++ p)) e
