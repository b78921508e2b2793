-- The sync bits of a block: 10 is control and 01 is data, the first bit sent standing first.
use Rattle.std.specs.Prelude.{◌≡◌, ℕ, ◌%◌, Bool, true, false, if◌then◌else◌, List, [], ◌∷◌, ◌==◌}
use Rattle.bits.specs.Bits.{low_value}
use Rattle.block.specs.declared.Sync.{Sync}
use Rattle.block.specs.declared.Sync.TheVariants.{Zeros, Control, Data, Ones}

-- the two bits in the order in which they are sent
abbrev pub sync_bits : Sync → List Bool
sync_bits Zeros = false ∷ false ∷ []
sync_bits Control = true ∷ false ∷ []
sync_bits Data = false ∷ true ∷ []
sync_bits Ones = true ∷ true ∷ []

-- the same bits as a number, the first bit sent the lowest
abbrev pub sync_number : Sync → ℕ
sync_number s = low_value (sync_bits s)

-- the sync bits that the two lowest bits of a number are
abbrev pub sync_of : ℕ → Sync
sync_of n =
    if n % 4 == 0 then Zeros else (if n % 4 == 1 then Control else (if n % 4 == 2 then Data else Ones))

-- the numbers, computed: data is 2 and control is 1
abbrev pub FirstBitLowest : Type 0
FirstBitLowest = (sync_number Zeros ≡ 0) × (sync_number Control ≡ 1) × (sync_number Data ≡ 2) × (sync_number Ones ≡ 3)
