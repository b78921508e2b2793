-- Whole payloads: how long they are, and what is read of those that were made of pairs.
use Rattle.std.proofs.Common.{◌≡◌, ℕ, suc, ◌+◌, ◌*◌, List, [], ◌∷◌, length, sym, refl, ◌∙◌, subst, arith, length-append}
use Rattle.std.specs.List.{All, flat_map}
use Rattle.bits.specs.Bits.{bits}
use Rattle.bits.proofs.Packing.{length_packed, packed_below}
use Rattle.bits.proofs.Places.{numbered}
use Rattle.block.specs.declared.Pair.{Pair}
use Rattle.block.specs.Whole.{Bytes, WholePair}
use Rattle.payload.specs.Pairs.{pair_bits}
use Rattle.payload.specs.Payloads.{pair_at, pairs_of, payload_of, slot_bits}
use Rattle.payload.specs.Laws.{PayloadLaws}
use Rattle.payload.proofs.Back.{pair_length, pair_whole}
use Rattle.payload.proofs.Slots.{blank, pairs_at, pairs_length, pairs_packed, unpacking_undone}

pub pair_at_whole : (slot : ℕ) (payload : List ℕ) → WholePair (pair_at slot payload)
pair_at_whole slot payload = pair_whole (slot_bits slot payload)

pub pairs_whole : (payload : List ℕ) → All WholePair (pairs_of payload)
pairs_whole payload k d h =
    subst WholePair (sym (pairs_at payload k d (omega (arith, pairs_length payload)))) (pair_at_whole (k + 1) payload)

pub payload_length : (pairs : List Pair) → length (payload_of pairs) ≡ 7920
unfolding payload_of
payload_length pairs = length_packed 7920 (flat_map pair_bits pairs)

pub payload_is_bytes : (pairs : List Pair) → Bytes (payload_of pairs)
unfolding payload_of
payload_is_bytes pairs = packed_below 7920 (flat_map pair_bits pairs)

joined_length : (pairs : List Pair) → All WholePair pairs → length (flat_map pair_bits pairs) ≡ 132 * length pairs
joined_length [] w = refl
joined_length (p ∷ ps) w =
    length-append (pair_bits p) (flat_map pair_bits ps)
    ∙ omega (arith, pair_length p (w 0 p (omega arith)), joined_length ps (λ k d h. w (suc k) d (omega arith)))

pub payload_sent : (pairs : List Pair) → length pairs ≡ 480 → All WholePair pairs → bits (payload_of pairs) ≡ flat_map pair_bits pairs
unfolding payload_of
payload_sent pairs n w = numbered.unpacks 7920 (flat_map pair_bits pairs) (joined_length pairs w ∙ omega arith)

pub pairs_back : (pairs : List Pair) → length pairs ≡ 480 → All WholePair pairs → pairs_of (payload_of pairs) ≡ pairs
pairs_back pairs n w = pairs_packed (payload_of pairs) pairs blank n (λ j h. w j blank (omega arith)) (payload_sent pairs n w)

pub payload_laws : PayloadLaws
payload_laws = record {
  slot_whole = pair_at_whole;
  all_whole = pairs_whole;
  slots = pairs_length;
  size = payload_length;
  bytes = payload_is_bytes;
  sent = payload_sent;
  read_back = pairs_back;
  made_again = unpacking_undone;
}
