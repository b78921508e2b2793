-- The lines of a text.
use Rattle.std.specs.Prelude.{ℕ, if◌then◌else◌, List, [], ◌∷◌, ◌==◌}

-- lines with one more byte in front
abbrev pub lines_with_byte : ℕ → List (List ℕ) → List (List ℕ)
lines_with_byte c [] = (c ∷ []) ∷ []
lines_with_byte c (l ∷ ls) = (c ∷ l) ∷ ls

-- each line with the newline that ends it; what stands behind the last newline is a line too
abbrev pub text_lines : List ℕ → List (List ℕ)
text_lines [] = []
text_lines (c ∷ cs) = if c == 10 then (c ∷ []) ∷ text_lines cs else lines_with_byte c (text_lines cs)
