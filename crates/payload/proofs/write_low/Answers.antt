use Rattle.std.proofs.Common.{ℕ, ◌*◌, Bool, List, ap, ◌∙◌, arith}
use Rattle.bits.specs.Bits.{bits}
use Rattle.bits.specs.Splices.{splice}
use Rattle.bits.proofs.Places.{length_bits}
use Rattle.payload.proofs.Writing.{low_write, pair_sent, sync_small}
use Rattle.payload.proofs.write_low.Goals as goal

pub returns-clause-sent : goal.returns-clause-sent
returns-clause-sent c =
    let s : ℕ = c.bits.result in
    let t : ℕ = c.bits-sync.result in
    let v : ℕ = c.word-first.result in
    let w : ℕ = c.word-second.result in
    low_write s v t w c.args.start.byte (bits c.args.payload.now) _ _ _
    (sync_small c.args.pair.first.sync s c.bits.ensures.number) c.word-first.type_inv
    (sync_small c.args.pair.second.sync t c.bits-sync.ensures.number) c.word-second.type_inv
    (omega (arith, length_bits c.args.payload.now)) c.put_word.ensures c.put_word-2.ensures c.put_half.ensures
    ∙ ap (λ (l : List Bool). splice (8 * c.args.start.byte) l (bits c.args.payload.now))
    (pair_sent c.args.pair s v t w c.bits.ensures.number c.word-first.ensures.value c.bits-sync.ensures.number c.word-second.ensures.value)
