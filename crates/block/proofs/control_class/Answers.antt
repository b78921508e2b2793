use Rattle.std.proofs.Common.{◌≡◌, true, false, sym, ap, ◌∙◌, ⊎_elim}
use Rattle.std.specs.Str.{bytes_eq}
use Rattle.std.proofs.lemmas.Slice.Eq.{slice_eq-Decides, bytes_eq-Decides}
use Rattle.std.proofs.lemmas.Bool.{cases_Bool, both_ways}
use Rattle.block.specs.declared.Block.{Block}
use Rattle.block.specs.Fixed.{idle_bytes}
use Rattle.block.specs.Classes.{control_class}
use Rattle.block.proofs.control_class.Goals as goal
use Rattle.std.proofs.lemmas.Bool.Decides.{Decides-eqb}

pub returns-in-30 : goal.returns-in-30
returns-in-30 c =
    let same : c.args.bytes.now ≡ idle_bytes =
    (slice_eq-Decides Decides-eqb _ _ _ c.eq.ensures).0 c.if-eq.true ∙ ap (λ (b : Block). b.bytes) c.idle.ensures in
    sym (ap control_class same)

pub returns-in-30-2 : goal.returns-in-30-2
returns-in-30-2 c =
    let other : bytes_eq c.args.bytes.now idle_bytes ≡ true → ⊥ =
    λ t. both_ways _ c.if-eq.false ((slice_eq-Decides Decides-eqb _ _ _ c.eq.ensures).1
    ((bytes_eq-Decides _ _).0 t ∙ sym (ap (λ (b : Block). b.bytes) c.idle.ensures))) in
    let apart : bytes_eq c.args.bytes.now idle_bytes ≡ false =
    ⊎_elim (λ t. absurd (other t)) (λ f. f) (cases_Bool (bytes_eq c.args.bytes.now idle_bytes)) in
    simp (c.in-30.is, apart)
