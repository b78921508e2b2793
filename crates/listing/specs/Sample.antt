-- A listing and a refused line, written out.
use Rattle.std.specs.Prelude.{◌≡◌, ℕ, List, [], ◌∷◌, ◌++◌, replicate, codes}
use Rattle.refusal.specs.declared.Refusal.TheVariants.{OutOfRange}
use Rattle.listing.specs.Lines.{listing_of, refused_line}

-- slots 1 to 4 to client 7, 5 and 480 to client 12, 6 and 7 to client 3
abbrev pub sample : List ℕ
sample = replicate 4 7 ++ (12 ∷ (replicate 2 3 ++ (replicate 472 0 ++ (12 ∷ []))))

-- the bytes by their definitions
pub record Samples : Type 0 where
  pub listed : listing_of sample ≡ codes "3 2 6\n7 4 1\n12 2 5\n"
  pub refused : refused_line OutOfRange 2 ≡ codes "refused 3 line 2\n"
