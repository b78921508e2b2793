-- Which blocks are message blocks.
use Rattle.std.proofs.Common.{◌≡◌, ◌↔◌, ℕ, ◌%◌, ◌&&◌, List, eqb, get_or, cond, Some, None, IsSome, refl, arith}
use Rattle.std.proofs.lemmas.Bool.Decides.{nat_tests}
use Rattle.block.specs.declared.Sync.{Sync}
use Rattle.block.specs.declared.Sync.TheVariants.{Zeros, Control, Data, Ones}
use Rattle.message.specs.declared.MessageBlock.{MessageBlock}
use Rattle.message.specs.Blocks.{MessageBlocksTold, read_of}

by_bytes : (t c : ℕ) (m : MessageBlock) → IsSome (cond (eqb t 0x4B && eqb (c % 16) 0x0C) (Some m) None) ↔ ((t ≡ 0x4B) × (c % 16 ≡ 0x0C))
by_bytes t c m = grind (arith, nat_tests)

by_sync : (s : Sync) (bytes : List ℕ)
    → IsSome (read_of (record { sync = s; bytes = bytes })) ↔ ((s ≡ Control) × (get_or bytes 0 0 ≡ 0x4B) × (get_or bytes 4 0 % 16 ≡ 0x0C))
by_sync Zeros bytes = ((λ h. cc), (λ h. cc))
by_sync Data bytes = ((λ h. cc), (λ h. cc))
by_sync Ones bytes = ((λ h. cc), (λ h. cc))
by_sync Control bytes = let e = by_bytes (get_or bytes 0 0) (get_or bytes 4 0) _ in ((λ h. let p = e.0 h in (refl, p.0, p.1)), (λ h. e.1 (h.1, h.2)))

pub told : MessageBlocksTold
told b = by_sync b.sync b.bytes
