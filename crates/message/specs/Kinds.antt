-- The kinds of messages: code, number of blocks and name, and the kind that a code names.
use Rattle.std.specs.Prelude.{ℕ, if◌then◌else◌, List, [], ◌∷◌, Some, None, Option, Result, ◌==◌, codes}
use Rattle.std.specs.Option.{ok_or}
use Rattle.message.specs.declared.Kind.{Kind}
use Rattle.message.specs.declared.Kind.TheVariants.{Basic, Aps, Cv, OneDm, TwoDmm, TwoDmr, Cs}
use Rattle.message.specs.declared.UnknownKind.{UnknownKind}

abbrev pub code_of : Kind → ℕ
code_of Basic = 0x0F
code_of Aps = 0x11
code_of Cv = 0x33
code_of OneDm = 0x35
code_of TwoDmm = 0x39
code_of TwoDmr = 0x30
code_of Cs = 0x36

abbrev pub block_count_of : Kind → ℕ
block_count_of Basic = 1
block_count_of Aps = 2
block_count_of Cv = 17
block_count_of OneDm = 5
block_count_of TwoDmm = 5
block_count_of TwoDmr = 13
block_count_of Cs = 1

-- as the standard writes it
abbrev pub name_of : Kind → List ℕ
name_of Basic = codes "basic"
name_of Aps = codes "APS"
name_of Cv = codes "CV"
name_of OneDm = codes "1DM"
name_of TwoDmm = codes "2DMM"
name_of TwoDmr = codes "2DMR"
name_of Cs = codes "CS"

-- the first of some kinds that has this code
abbrev pub first_with_code : List Kind → ℕ → Option Kind
first_with_code [] c = None
first_with_code (k ∷ ks) c = if c == code_of k then Some k else first_with_code ks c

-- the kind that a code names, none if it is unknown
abbrev pub kind_of : ℕ → Option Kind
kind_of c = first_with_code (Basic ∷ Aps ∷ Cv ∷ OneDm ∷ TwoDmm ∷ TwoDmr ∷ Cs ∷ []) c

-- the same as a conversion
abbrev pub kind_or_unknown : ℕ → Result Kind UnknownKind
kind_or_unknown c = ok_or (kind_of c) (record { code = c })
