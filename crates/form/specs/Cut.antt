-- A text cut behind its first newline.
use Rattle.std.specs.Prelude.{ℕ, List, [], ◌∷◌, if◌then◌else◌, ◌==◌, Option, Some, None}

-- a cut with one more byte in front
abbrev pub longer_cut : ℕ → List ℕ × List ℕ → List ℕ × List ℕ
longer_cut c cut = (c ∷ cut.0, cut.1)

-- a text up to its first newline, which is included, and what follows it
abbrev pub cut_line : List ℕ → List ℕ × List ℕ
cut_line [] = ([], [])
cut_line (c ∷ cs) = if c == 10 then (c ∷ [], cs) else longer_cut c (cut_line cs)

-- a text, if there is one, with one more byte in front
abbrev pub text_with_byte : ℕ → Option (List ℕ) → Option (List ℕ)
text_with_byte x None = None
text_with_byte x (Some xs) = Some (x ∷ xs)

-- the text in front of the newline that ends it, if one does
abbrev pub ended_text : List ℕ → Option (List ℕ)
ended_text [] = None
ended_text (x ∷ []) = if x == 10 then Some [] else None
ended_text (x ∷ y ∷ zs) = text_with_byte x (ended_text (y ∷ zs))
