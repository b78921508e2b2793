-- One line of the sheet after another.
use Rattle.std.proofs.Common.{◌≡◌, ℕ, ◌+◌, ◌<◌, ◌≤◌, true, false, ltb, List, length, replicate, Some, None, Option, Bor, Ok, Err, sym, refl, ap, ◌∙◌, arith}
use Rattle.std.specs.Option.{ok_or, option_copied}
use Rattle.std.proofs.lemmas.Bool.{cond-true, cond-false, le-ltb}
use Rattle.refusal.specs.declared.Refusal.TheVariants.{FormBroken, MarkNotAllowed}
use Rattle.refusal.specs.declared.Level.TheVariants.{Forms, Marks}
use Rattle.refusal.specs.declared.SheetRefusal.{SheetRefusal}
use Rattle.form.specs.declared.FormError.{FormError}
use Rattle.form.specs.Marks.{LineOf, first_line, lines, all_marks}
use Rattle.form.proofs.Lines.{lines_from_first}
use Rattle.sheet.specs.Verdict.{chain, lines_verdict, lease_verdict, lease_line_form, line_verdict, longest_sheet, refusal_at, verdict}

module _ (n : ℕ) (es xs : List ℕ) (some : 0 < length xs) where
  first_judged : lines_verdict n es (lines xs) ≡ chain (line_verdict n es (first_line xs).0) (λ after. lines_verdict (n + 1) after (lines (first_line xs).1))
  first_judged = ap (lines_verdict n es) (lines_from_first xs some)

  pub mark_refused : all_marks (first_line xs).0.text ≡ false → lines_verdict n es (lines xs) ≡ Err (refusal_at MarkNotAllowed Marks n)
  mark_refused e =
      first_judged
      ∙ ap (λ r. chain r (λ after. lines_verdict (n + 1) after (lines (first_line xs).1)))
      (cond-false (all_marks (first_line xs).0.text) (lease_verdict n es (lease_line_form (first_line xs).0)) (Err (refusal_at MarkNotAllowed Marks n)) e)

  module _ (l : LineOf) (ys : List ℕ) (is : (l, ys) ≡ first_line xs) (marks : all_marks (first_line xs).0.text ≡ true) where
    line_judged : lines_verdict n es (lines xs) ≡ chain (lease_verdict n es (lease_line_form l)) (λ after. lines_verdict (n + 1) after (lines ys))
    line_judged =
        first_judged
        ∙ ap (λ r. chain r (λ after. lines_verdict (n + 1) after (lines (first_line xs).1)))
        (cond-true (all_marks (first_line xs).0.text) (lease_verdict n es (lease_line_form (first_line xs).0)) (Err (refusal_at MarkNotAllowed Marks n)) marks)
        ∙ ap (λ p. chain (lease_verdict n es (lease_line_form p.0)) (λ after. lines_verdict (n + 1) after (lines p.1))) (sym is)

    pub line_refused : (e : SheetRefusal) → lease_verdict n es (lease_line_form l) ≡ Err e → lines_verdict n es (lines xs) ≡ Err e
    line_refused e h = line_judged ∙ ap (λ r. chain r (λ after. lines_verdict (n + 1) after (lines ys))) h

    pub line_read : (out : List ℕ) → lease_verdict n es (lease_line_form l) ≡ Ok out → lines_verdict n es (lines xs) ≡ lines_verdict (n + 1) out (lines ys)
    line_read out h = line_judged ∙ ap (λ r. chain r (λ after. lines_verdict (n + 1) after (lines ys))) h

-- a sheet that is not too long is judged line by line
pub not_long : (xs : List ℕ) → length xs ≤ longest_sheet → verdict xs ≡ lines_verdict 1 (replicate 480 0) (lines xs)
not_long xs h = cond-false (ltb longest_sheet (length xs)) (Err (refusal_at FormBroken Forms 1)) (lines_verdict 1 (replicate 480 0) (lines xs)) (le-ltb longest_sheet (length xs) h)

-- a line that there is, or is not, as `ok_or` answers it
pub copied_none : (o : Option (Bor (List ℕ))) (e f : FormError) → ok_or o e ≡ Err f → option_copied o ≡ None
copied_none None e f h = refl
copied_none (Some x) e f h = absurd (let z : ◌≡◌ {A = ℕ} 0 1 = cc in omega arith)

pub copied_some : (o : Option (Bor (List ℕ))) (e : FormError) (x : Bor (List ℕ)) → ok_or o e ≡ Ok x → option_copied o ≡ Some x.now
copied_some None e x h = absurd (let z : ◌≡◌ {A = ℕ} 0 1 = cc in omega arith)
copied_some (Some y) e x h = let same : y ≡ x = cc in ap (λ z. Some z.now) same
