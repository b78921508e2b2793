use Rattle.std.proofs.Common.{ℕ, ◌*◌, ◌%◌, ◌^◌, ◌<◌, sym, ap, ◌∙◌, subst}
use Rattle.crc.proofs.Laws.{step_lt}
use Rattle.crc.proofs.Stepping.{code_then, code_else, placed}
use Rattle.crc.proofs.Generator.advance.Goals as goal

pub returns-then-sum-self-eq1 : goal.returns-then-sum-self-eq1
returns-then-sum-self-eq1 c =
    let w : ℕ = c.args.self.now.degree in
    let G : ℕ = c.args.self.now.terms in
    let h = ap (λ (n : ℕ). n * 2 ^ w % 65536) c.from.ensures ∙ placed w c.args.bit c.args.self.now.fits in
    let e = code_then w G c.args.register _ c.args.bit c.args.self.now.fits c.requires h c.if-sum-self-eq1.true in
    record { below = subst (λ (x : ℕ). x < 2 ^ w) (sym e) (step_lt w G c.args.register c.args.bit c.args.self.now.highest c.requires); value = e }

pub returns-else-sum-self-eq1 : goal.returns-else-sum-self-eq1
returns-else-sum-self-eq1 c =
    let w : ℕ = c.args.self.now.degree in
    let G : ℕ = c.args.self.now.terms in
    let h = ap (λ (n : ℕ). n * 2 ^ w % 65536) c.from.ensures ∙ placed w c.args.bit c.args.self.now.fits in
    let e = code_else w G c.args.register _ c.args.bit c.args.self.now.fits c.requires h c.if-sum-self-eq1.false in
    record { below = subst (λ (x : ℕ). x < 2 ^ w) (sym e) (step_lt w G c.args.register c.args.bit c.args.self.now.highest c.requires); value = e }
