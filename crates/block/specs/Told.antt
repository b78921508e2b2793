-- What a class says of a block's sync bits and type, in both directions.
use Rattle.std.specs.Prelude.{◌≡◌, ◌≢◌, ◌⊎◌, ◌↔◌, ◌<◌, ℕ, slice_index}
use Rattle.block.specs.declared.Sync.TheVariants.{Zeros, Control, Data as DataSync, Ones}
use Rattle.block.specs.declared.Block.{Block}
use Rattle.block.specs.declared.Class.{Class}
use Rattle.block.specs.declared.Class.TheVariants.{Data, Idle, Characters, OrderedSet, Start, End, Unlawful}
use Rattle.block.specs.Classes.{class_of, end_type}
use Rattle.block.specs.Fixed.{idle_bytes}

-- a block's type
abbrev pub type_of : Block → ℕ
type_of b = slice_index b.bytes 0

-- it is the type of no control characters, ordered set, start or end
abbrev pub IsNoType : ℕ → Type 0
IsNoType t = (t ≢ 0x1E) × (t ≢ 0x4B) × (t ≢ 0x78) × ((n : ℕ) → n < 8 → t ≢ end_type n)

-- the sync bits and the bytes of a block of this class
abbrev pub IsOfClass : Class → Block → Type 0
IsOfClass Data b = b.sync ≡ DataSync
IsOfClass Idle b = (b.sync ≡ Control) × (b.bytes ≡ idle_bytes)
IsOfClass Characters b = (b.sync ≡ Control) × (type_of b ≡ 0x1E) × (b.bytes ≢ idle_bytes)
IsOfClass OrderedSet b = (b.sync ≡ Control) × (type_of b ≡ 0x4B)
IsOfClass Start b = (b.sync ≡ Control) × (type_of b ≡ 0x78)
IsOfClass (End n) b = (b.sync ≡ Control) × (n < 8) × (type_of b ≡ end_type n)
IsOfClass Unlawful b = (b.sync ≡ Zeros) ⊎ (b.sync ≡ Ones) ⊎ ((b.sync ≡ Control) × IsNoType (type_of b))

-- a block has a class exactly if its sync bits and its bytes are those of the class
abbrev pub ClassesTold : Type 0
ClassesTold = (b : Block) (c : Class) → (class_of b ≡ c) ↔ IsOfClass c b
