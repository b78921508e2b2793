-- A text's first line, and the lines behind it.
use Rattle.std.proofs.Common.{◌≡◌, ℕ, ◌+◌, ◌<◌, ◌≤◌, Bool, true, false, cond, eqb, List, [], ◌∷◌, ◌++◌, length, take, drop, Some, None, Option, subst, sym, refl, ap, ◌∙◌, arith}
use Rattle.std.proofs.lemmas.Bool.{eqb-true}
use Rattle.std.proofs.lemmas.Bool.Decides.{nat_tests}
use Rattle.form.specs.Cut.{cut_line, longer_cut}
use Rattle.packet_lines.specs.Lines.{lines_with_byte, text_lines}

pub next_line : (xs : List ℕ) → 0 < length xs → text_lines xs ≡ (cut_line xs).0 ∷ text_lines (cut_line xs).1
next_line [] l = absurd (omega arith)
next_line (c ∷ cs) l = go (eqb c 10) cs refl (next_line cs)
  where
    behind : (ds : List ℕ) → cs ≡ ds → (0 < length cs → text_lines cs ≡ (cut_line cs).0 ∷ text_lines (cut_line cs).1) → lines_with_byte c (text_lines cs) ≡ (c ∷ (cut_line cs).0) ∷ text_lines (cut_line cs).1
    behind [] e more = rw e refl
    behind (d ∷ ds) e more = ap (lines_with_byte c) (more (rw e (omega arith)))

    go : (t : Bool) (ds : List ℕ) → cs ≡ ds → (0 < length cs → text_lines cs ≡ (cut_line cs).0 ∷ text_lines (cut_line cs).1) →
        cond t ((c ∷ []) ∷ text_lines cs) (lines_with_byte c (text_lines cs))
        ≡ (cond t (c ∷ [], cs) (longer_cut c (cut_line cs))).0 ∷ text_lines (cond t (c ∷ [], cs) (longer_cut c (cut_line cs))).1
    go true ds e more = refl
    go false ds e more = behind ds e more

-- a line has at least one byte, and it and what is behind it are the text
pub cut_long : (xs : List ℕ) → 0 < length xs → (0 < length (cut_line xs).0) × (length (cut_line xs).0 + length (cut_line xs).1 ≡ length xs)
cut_long [] l = absurd (omega arith)
cut_long (c ∷ cs) l = go (eqb c 10) cs refl (cut_long cs)
  where
    behind : (ds : List ℕ) → cs ≡ ds → (0 < length cs → (0 < length (cut_line cs).0) × (length (cut_line cs).0 + length (cut_line cs).1 ≡ length cs)) → length (cut_line cs).0 + length (cut_line cs).1 ≡ length cs
    behind [] e more = rw e refl
    behind (d ∷ ds) e more = (more (rw e (omega arith))).1

    go : (t : Bool) (ds : List ℕ) → cs ≡ ds → (0 < length cs → (0 < length (cut_line cs).0) × (length (cut_line cs).0 + length (cut_line cs).1 ≡ length cs)) →
        (0 < length (cond t (c ∷ [], cs) (longer_cut c (cut_line cs))).0)
        × (length (cond t (c ∷ [], cs) (longer_cut c (cut_line cs))).0 + length (cond t (c ∷ [], cs) (longer_cut c (cut_line cs))).1 ≡ length (c ∷ cs))
    go true ds e more = (omega arith, omega arith)
    go false ds e more = (omega arith, omega (arith, behind ds e more))

-- the same of a text that is cut
module _ (xs line behind : List ℕ) (cut : (line, behind) ≡ cut_line xs) (l : 0 < length xs) where
  pub next_is : text_lines xs ≡ line ∷ text_lines behind
  next_is = next_line xs l ∙ ap (λ p. p.0 ∷ text_lines p.1) (sym cut)

  pub long_is : (0 < length line) × (length line + length behind ≡ length xs)
  long_is = let P : List ℕ × List ℕ → Type 0 = λ p. (0 < length p.0) × (length p.0 + length p.1 ≡ length xs) in subst P (sym cut) (cut_long xs l)

pub some_left : (n : ℕ) (b : Bool) → b ≡ eqb n 0 → b ≡ false → 0 < n
some_left n b e f = grind (arith, nat_tests)

pub none_left : (n : ℕ) (b : Bool) → b ≡ eqb n 0 → b ≡ true → n ≡ 0
none_left n b e f = eqb-true n 0 (sym e ∙ f)
