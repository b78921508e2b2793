-- The value bytes of a message: two a block. Their last 12 bits are the remainder of the bits before, by x^12 + x^11 + x^3 + x^2 + x + 1;
-- the writer is given them with zeros there, since it fills them in.
use Rattle.std.specs.Prelude.{ℕ, suc, ◌-◌, ◌*◌, Bool, true, false, not, ◌&&◌, List, [], ◌∷◌, ◌++◌, length, take, ◌==◌, nat_lt, slice_index}
use Rattle.bits.specs.Bits.{field, high_first, packed_bytes}
use Rattle.crc.specs.Remainder.{remainder}
use Rattle.message.specs.declared.Kind.{Kind}
use Rattle.message.specs.declared.Kind.TheVariants.{Basic, Aps, Cv, OneDm, TwoDmm, TwoDmr, Cs}
use Rattle.message.specs.Kinds.{block_count_of}

-- the value bits that the remainder covers, in the order of sending
abbrev pub covered_value_bits : List ℕ → List Bool
covered_value_bits vs = field vs 0 (8 * length vs - 12)

-- the remainder of some bits
abbrev pub crc12 : List Bool → ℕ
crc12 bs = remainder 12 0x180F bs

-- the value bytes with the remainder as their last 12 bits, its highest coefficient first
unfoldable pub filled_values : List ℕ → List ℕ
filled_values vs =
    let n : ℕ = length vs in
    take (n - 2) vs ++ packed_bytes 2 (field vs (8 * n - 16) (8 * n - 12) ++ high_first 12 (crc12 (covered_value_bits vs)))

-- the byte with the first four bits of the remainder is below this before they are filled in:
-- CS has its payload type there in the two lowest bits, the others have zeros
abbrev pub free_below : Kind → ℕ
free_below Basic = 1
free_below Aps = 1
free_below Cv = 1
free_below OneDm = 1
free_below TwoDmm = 1
free_below TwoDmr = 1
free_below Cs = 4

abbrev pub is_basic : Kind → Bool
is_basic Basic = true
is_basic Aps = false
is_basic Cv = false
is_basic OneDm = false
is_basic TwoDmm = false
is_basic TwoDmr = false
is_basic Cs = false

-- no basic message, as many value bytes as the blocks carry, and zeros in the places that are not the sender's
abbrev pub lawful : Kind → List ℕ → Bool
lawful k vs =
    not (is_basic k) && (length vs == 2 * block_count_of k
    && (nat_lt (slice_index vs (2 * block_count_of k - 2)) (free_below k) && slice_index vs (2 * block_count_of k - 1) == 0))

-- what f makes of each two value bytes, with their block's place from j on
abbrev pub map_pairs : {X : Type 0} → (ℕ → ℕ → ℕ → X) → ℕ → List ℕ → List X
map_pairs f j [] = []
map_pairs f j (a ∷ []) = []
map_pairs f j (a ∷ b ∷ vs) = f j a b ∷ map_pairs f (suc j) vs
