-- When two kinds are the same.
use Rattle.std.proofs.Common.{◌≡◌, true, Some, sym, refl, ap, ◌∙◌}
use Rattle.std.proofs.lemmas.Bool.{eqb-true}
use Rattle.message.specs.declared.Kind.{Kind}
use Rattle.message.specs.declared.Kind.TheVariants.{Basic, Aps, Cv, OneDm, TwoDmm, TwoDmr, Cs}
use Rattle.message.specs.Kinds.{code_of, kind_of}
use Rattle.collector.specs.Outcomes.{same_kind}

pub same_true : (a b : Kind) → a ≡ b → same_kind a b ≡ true
same_true a b e = ap (λ (k : Kind). same_kind a k) (sym e) ∙ refls a
  where
    refls : (k : Kind) → same_kind k k ≡ true
    refls Basic = refl
    refls Aps = refl
    refls Cv = refl
    refls OneDm = refl
    refls TwoDmm = refl
    refls TwoDmr = refl
    refls Cs = refl

-- kinds with one code are one kind
pub one_kind : (a b : Kind) → same_kind a b ≡ true → a ≡ b
one_kind a b e =
    let s : Some a ≡ Some b = sym (named a) ∙ ap kind_of (eqb-true (code_of a) (code_of b) e) ∙ named b in
    cc
  where
    named : (k : Kind) → kind_of (code_of k) ≡ Some k
    named Basic = refl
    named Aps = refl
    named Cv = refl
    named OneDm = refl
    named TwoDmm = refl
    named TwoDmr = refl
    named Cs = refl
