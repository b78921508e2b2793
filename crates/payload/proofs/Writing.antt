-- What is written at half-byte places: a word, a half byte, and the pieces of a pair side by side.
use Rattle.std.proofs.Common.{◌≡◌, ℕ, suc, ◌+◌, ◌*◌, ◌/◌, ◌%◌, ◌^◌, ◌<◌, ◌≤◌, ◌⊎◌, inl, inr, Bool, List, [], ◌∷◌, ◌++◌, length, get_or, take, drop, set, sym, refl, ap, ◌∙◌, append_assoc, arith, lit<, length-append, drop-cons}
use Rattle.std.proofs.lemmas.List.{take-append-drop, set_split, length-take-le}
use Rattle.std.specs.Int.Bits.{bit_and, bit_or, or_shifted_r}
use Rattle.std.proofs.lemmas.Nat.{and_mask, or_shifted}
use Rattle.std.proofs.lemmas.Nat.Bits.{and_high}
use borrow.Rule.Slice.PartMut.{put_mid}
use Rattle.block.specs.declared.Sync.{Sync}
use Rattle.block.specs.declared.Sync.TheVariants.{Zeros, Control, Data, Ones}
use Rattle.block.specs.Syncs.{sync_bits, sync_number}
use Rattle.block.specs.declared.Pair.{Pair}
use Rattle.payload.specs.Pairs.{block_bits, pair_bits}
use Rattle.payload.proofs.Reading.{or_shl_62, or_shl_2, sync_low}
use Rattle.bits.specs.Bits.{low_first, bits}
use Rattle.bits.specs.Splices.{splice}
use Rattle.bits.proofs.Digits.{low_join}
use Rattle.bits.proofs.Parts.{bits_append, bits_taken, splice_bytes}
use Rattle.bits.proofs.Places.{length_bits, length_low}
use Rattle.bits.proofs.Splices.{splice_at, splice_next}
use Rattle.bits.proofs.Words.{bits_word, low_append, low_more}
use Rattle.payload.proofs.Halves.{pair_join}

-- eight bytes within others, as bits
pub eight_taken : (P : List ℕ) (at k : ℕ) → k ≡ 8 → bits (take k (drop at P)) ≡ take 64 (drop (8 * at) (bits P))
eight_taken P at k e = ap (λ (n : ℕ). bits (take n (drop at P))) e ∙ bits_taken P at 8

pub put_word : (P : List ℕ) (at w k : ℕ) (ys : List ℕ) → at + 8 ≤ length P → w < 2 ^ 64 → k ≡ 8 →
    ys ≡ (w % 256) ∷ (w / 256 % 256) ∷ (w / 65536 % 256) ∷ (w / 16777216 % 256) ∷ (w / 4294967296 % 256) ∷ (w / 1099511627776 % 256) ∷ (w / 281474976710656 % 256) ∷ (w / 72057594037927936 % 256) ∷ [] →
    bits (put_mid at k P ys) ≡ splice (8 * at) (low_first 64 w) (bits P)
put_word P at w k ys h l e f =
    ap (λ (k : ℕ). bits (put_mid at k P ys)) e ∙ ap (λ (ys : List ℕ). bits (put_mid at 8 P ys)) f
    ∙ splice_bytes P _ at h ∙ ap (λ (l : List Bool). splice (8 * at) l (bits P)) (bits_word w l)

bits_cons : (T D : List ℕ) (v : ℕ) → bits (T ++ (v ∷ D)) ≡ bits T ++ ((low_first 4 v ++ low_first 4 (v / 16)) ++ bits D)
unfolding bits
bits_cons T D v = bits_append T (v ∷ D) ∙ ap (λ (l : List Bool). bits T ++ (l ++ bits D)) (low_join 4 4 v)

bits_at : (P : List ℕ) (at : ℕ) → at < length P →
    bits P ≡ bits (take at P) ++ ((low_first 4 (get_or P at 0) ++ low_first 4 (get_or P at 0 / 16)) ++ bits (drop (suc at) P))
bits_at P at h =
    ap bits (sym (take-append-drop at P) ∙ ap (λ (l : List ℕ). take at P ++ l) (drop-cons P at 0 h))
    ∙ bits_cons (take at P) (drop (suc at) P) (get_or P at 0)

length_front : (P : List ℕ) (at : ℕ) → at < length P → length (bits (take at P)) ≡ 8 * at
length_front P at h = length_bits (take at P) ∙ ap (λ (n : ℕ). 8 * n) (length-take-le at P (omega arith))

put_low_law : (P : List ℕ) (at n : ℕ) → at < length P → get_or P at 0 < 256 → n < 16 →
    bits (set P at (bit_or (bit_and (get_or P at 0) 240) n)) ≡ splice (8 * at) (low_first 4 n) (bits P)
put_low_law P at n h t m =
    let b : ℕ = get_or P at 0 in
    let T : List Bool = bits (take at P) in
    let D : List Bool = bits (drop (suc at) P) in
    let v : bit_or (bit_and (get_or P at 0) 240) n ≡ n + 16 * (get_or P at 0 / 16) =
    ap (λ (z : ℕ). bit_or z n) (and_high (get_or P at 0) 4 4) ∙ or_shifted (get_or P at 0 / 16 % 16) 4 n m ∙ omega arith in
    let q : (n + 16 * (get_or P at 0 / 16)) / 16 ≡ get_or P at 0 / 16 = omega arith in
    ap (λ (z : ℕ). bits (set P at z)) v
    ∙ ap bits (set_split P at (n + 16 * (get_or P at 0 / 16)) h)
    ∙ bits_cons (take at P) (drop (suc at) P) (n + 16 * (get_or P at 0 / 16))
    ∙ ap (λ (l : List Bool). T ++ ((l ++ low_first 4 ((n + 16 * (get_or P at 0 / 16)) / 16)) ++ D)) (low_more 4 n (get_or P at 0 / 16))
    ∙ ap (λ (z : ℕ). T ++ ((low_first 4 n ++ low_first 4 z) ++ D)) q
    ∙ ap (λ (l : List Bool). T ++ l) (append_assoc (low_first 4 n) (low_first 4 (b / 16)) D)
    ∙ sym (splice_at (8 * at) T (low_first 4 b) (low_first 4 (b / 16) ++ D) (low_first 4 n) (length_front P at h) (length_low 4 b ∙ sym (length_low 4 n)))
    ∙ sym (ap (λ (l : List Bool). splice (8 * at) (low_first 4 n) l) (bits_at P at h ∙ ap (λ (l : List Bool). T ++ l) (append_assoc (low_first 4 b) (low_first 4 (b / 16)) D)))

put_high_law : (P : List ℕ) (at n : ℕ) → at < length P → n < 16 →
    bits (set P at (bit_or (bit_and (get_or P at 0) 15) ((n * 16) % 256))) ≡ splice (8 * at + 4) (low_first 4 n) (bits P)
put_high_law P at n h m =
    let b : ℕ = get_or P at 0 in
    let T : List Bool = bits (take at P) in
    let D : List Bool = bits (drop (suc at) P) in
    let a : bit_and (get_or P at 0) 15 ≡ get_or P at 0 % 16 = and_mask (get_or P at 0) 4 in
    let w : (n * 16) % 256 ≡ n * 2 ^ 4 = omega arith in
    let s : get_or P at 0 % 16 < 2 ^ 4 = omega arith in
    let v : bit_or (bit_and (get_or P at 0) 15) ((n * 16) % 256) ≡ get_or P at 0 % 16 + 16 * n =
    ap (λ (z : ℕ). bit_or z ((n * 16) % 256)) a ∙ ap (λ (z : ℕ). bit_or (get_or P at 0 % 16) z) w
    ∙ or_shifted_r n 4 (get_or P at 0 % 16) s ∙ omega arith in
    let q : (get_or P at 0 % 16 + 16 * n) / 16 ≡ n = omega arith in
    let r : get_or P at 0 ≡ get_or P at 0 % 16 + 2 ^ 4 * (get_or P at 0 / 16) = omega arith in
    let e : low_first 4 (get_or P at 0 % 16 + 16 * n) ≡ low_first 4 b =
    low_more 4 (get_or P at 0 % 16) n ∙ sym (ap (λ (z : ℕ). low_first 4 z) r ∙ low_more 4 (get_or P at 0 % 16) (get_or P at 0 / 16)) in
    let g : length (T ++ low_first 4 b) ≡ 8 * at + 4 = length-append T (low_first 4 b) ∙ ap (λ (z : ℕ). z + length (low_first 4 b)) (length_front P at h) ∙ ap (λ (z : ℕ). 8 * at + z) (length_low 4 b) in
    ap (λ (z : ℕ). bits (set P at z)) v
    ∙ ap bits (set_split P at (get_or P at 0 % 16 + 16 * n) h)
    ∙ bits_cons (take at P) (drop (suc at) P) (get_or P at 0 % 16 + 16 * n)
    ∙ ap (λ (l : List Bool). T ++ ((l ++ low_first 4 ((get_or P at 0 % 16 + 16 * n) / 16)) ++ D)) e
    ∙ ap (λ (z : ℕ). T ++ ((low_first 4 b ++ low_first 4 z) ++ D)) q
    ∙ ap (λ (l : List Bool). T ++ l) (append_assoc (low_first 4 b) (low_first 4 n) D)
    ∙ sym (append_assoc T (low_first 4 b) (low_first 4 n ++ D))
    ∙ sym (splice_at (8 * at + 4) (T ++ low_first 4 b) (low_first 4 (b / 16)) D (low_first 4 n) g (length_low 4 (b / 16) ∙ sym (length_low 4 n)))
    ∙ sym (ap (λ (l : List Bool). splice (8 * at + 4) (low_first 4 n) l) (bits_at P at h ∙ ap (λ (l : List Bool). T ++ l) (append_assoc (low_first 4 b) (low_first 4 (b / 16)) D) ∙ sym (append_assoc T (low_first 4 b) (low_first 4 (b / 16) ++ D))))

pub put_half_law : (P : List ℕ) (at n s : ℕ) → at < length P → get_or P at 0 < 256 → n < 16 → (s ≡ 0) ⊎ (s ≡ 4) →
    bits (set P at (bit_or (bit_and (get_or P at 0) (240 / 2 ^ s)) (n * 2 ^ s % 256))) ≡ splice (8 * at + s) (low_first 4 n) (bits P)
put_half_law P at n s h t m (inl e) =
    let same : n * 1 % 256 ≡ n = omega arith in
    let here : 8 * at ≡ 8 * at + 0 = omega arith in
    rw e (ap (λ (z : ℕ). bits (set P at (bit_or (bit_and (get_or P at 0) 240) z))) same ∙ put_low_law P at n h t m
    ∙ ap (λ (z : ℕ). splice z (low_first 4 n) (bits P)) here)
put_half_law P at n s h t m (inr e) = rw e (put_high_law P at n h m)

-- three pieces side by side are one
pub splice_three : (a b c s t u x y z : ℕ) (B B1 B2 B3 : List Bool) → s ≤ length B → x < 2 ^ a → x + 2 ^ a * y < 2 ^ (a + b) →
    t ≡ s + a → u ≡ s + (a + b) →
    B1 ≡ splice s (low_first a x) B → B2 ≡ splice t (low_first b y) B1 → B3 ≡ splice u (low_first c z) B2 →
    B3 ≡ splice s (low_first (a + b + c) (x + 2 ^ a * y + 2 ^ (a + b) * z)) B
splice_three a b c s t u x y z B B1 B2 B3 h m n e f p q r =
    let e' : t ≡ s + length (low_first a x) = e ∙ ap (λ (z : ℕ). s + z) (sym (length_low a x)) in
    let f' : u ≡ s + length (low_first (a + b) (x + 2 ^ a * y)) = f ∙ ap (λ (z : ℕ). s + z) (sym (length_low (a + b) (x + 2 ^ a * y))) in
    let two : B2 ≡ splice s (low_first (a + b) (x + 2 ^ a * y)) B =
    q ∙ ap (λ (l : List Bool). splice t (low_first b y) l) p ∙ splice_next s t (low_first a x) (low_first b y) B h e'
    ∙ ap (λ (l : List Bool). splice s l B) (low_append a b x y m) in
    r ∙ ap (λ (l : List Bool). splice u (low_first c z) l) two ∙ splice_next s u (low_first (a + b) (x + 2 ^ a * y)) (low_first c z) B h f'
    ∙ ap (λ (l : List Bool). splice s l B) (low_append (a + b) c (x + 2 ^ a * y) z n)

or_shl_4 : (x y : ℕ) → x < 2 ^ 4 → bit_or x ((y * 16) % 2 ^ 64) ≡ x + 16 * (y % 2 ^ 60)
or_shl_4 x y h =
    let e : (y * 16) % 2 ^ 64 ≡ (y % 2 ^ 60) * 2 ^ 4 = omega arith in
    ap (λ (z : ℕ). bit_or x z) e ∙ or_shifted_r (y % 2 ^ 60) 4 x h ∙ omega arith

-- the pieces that `write_low` puts are the two blocks
pub low_write : (s v t w at : ℕ) (B B1 B2 B3 : List Bool) → s < 4 → v < 2 ^ 64 → t < 4 → w < 2 ^ 64 → 8 * at ≤ length B →
    B1 ≡ splice (8 * at) (low_first 64 (bit_or s ((v * 4) % 2 ^ 64))) B →
    B2 ≡ splice (8 * (at + 8)) (low_first 64 (bit_or (bit_or (v / 2 ^ 62) ((t * 4) % 2 ^ 64)) ((w * 16) % 2 ^ 64))) B1 →
    B3 ≡ splice (8 * (at + 16) + 0) (low_first 4 (w / 2 ^ 60)) B2 →
    B3 ≡ splice (8 * at) ((low_first 2 s ++ low_first 64 v) ++ (low_first 2 t ++ low_first 64 w)) B
low_write s v t w at B B1 B2 B3 a b c d h p q r =
    let lo : bit_or s ((v * 4) % 2 ^ 64) ≡ s + 4 * (v % 2 ^ 62) = or_shl_2 s v a in
    let hi : bit_or (v / 2 ^ 62) ((t * 4) % 2 ^ 64) ≡ v / 2 ^ 62 + 4 * (t % 2 ^ 62) = or_shl_2 (v / 2 ^ 62) t (omega arith) in
    let hi' = or_shl_4 (bit_or (v / 2 ^ 62) ((t * 4) % 2 ^ 64)) w (omega arith) in
    let x : bit_or s ((v * 4) % 2 ^ 64) + 2 ^ 64 * bit_or (bit_or (v / 2 ^ 62) ((t * 4) % 2 ^ 64)) ((w * 16) % 2 ^ 64) + 2 ^ 128 * (w / 2 ^ 60)
    ≡ s + 4 * v + 2 ^ 66 * (t + 4 * w) = omega arith in
    splice_three 64 64 4 (8 * at) (8 * (at + 8)) (8 * (at + 16) + 0) _ _ _ B B1 B2 B3 h (omega arith) (omega arith) (omega arith) (omega arith) p q r
    ∙ ap (λ (z : ℕ). splice (8 * at) (low_first 132 z) B) x
    ∙ ap (λ (l : List Bool). splice (8 * at) l B) (sym (pair_join s v t w a b c))

pub high_nibble : (s v : ℕ) → s < 4 → bit_or s ((bit_and v 3 * 4) % 256) ≡ s + 4 * (v % 4)
high_nibble s v a =
    let m : bit_and v 3 ≡ v % 4 = and_mask v 2 in
    let e : (bit_and v 3 * 4) % 256 ≡ (v % 4) * 2 ^ 2 = omega arith in
    ap (λ (z : ℕ). bit_or s z) e ∙ or_shifted_r (v % 4) 2 s a ∙ omega arith

pub high_write : (s v t w at : ℕ) (B B1 B2 B3 : List Bool) → s < 4 → v < 2 ^ 64 → t < 4 → w < 2 ^ 64 → 8 * at + 4 ≤ length B →
    B1 ≡ splice (8 * at + 4) (low_first 4 (bit_or s ((bit_and v 3 * 4) % 256))) B →
    B2 ≡ splice (8 * (at + 1)) (low_first 64 (bit_or (v / 4) ((t * 2 ^ 62) % 2 ^ 64))) B1 →
    B3 ≡ splice (8 * (at + 9)) (low_first 64 w) B2 →
    B3 ≡ splice (8 * at + 4) ((low_first 2 s ++ low_first 64 v) ++ (low_first 2 t ++ low_first 64 w)) B
high_write s v t w at B B1 B2 B3 a b c d h p q r =
    let n = high_nibble s v a in
    let lo = or_shl_62 (v / 4) t (omega arith) in
    let x : bit_or s ((bit_and v 3 * 4) % 256) + 16 * bit_or (v / 4) ((t * 2 ^ 62) % 2 ^ 64) + 2 ^ 68 * w
    ≡ s + 4 * v + 2 ^ 66 * (t + 4 * w) = omega arith in
    splice_three 4 64 64 (8 * at + 4) (8 * (at + 1)) (8 * (at + 9)) _ _ _ B B1 B2 B3 h (omega arith) (omega arith) (omega arith) (omega arith) p q r
    ∙ ap (λ (z : ℕ). splice (8 * at + 4) (low_first 132 z) B) x
    ∙ ap (λ (l : List Bool). splice (8 * at + 4) l B) (sym (pair_join s v t w a b c))

sync_known : (y : Sync) → (sync_number y < 4) × (low_first 2 (sync_number y) ≡ sync_bits y)
sync_known Zeros = (lit< tt, sym (sync_low Zeros 0 refl))
sync_known Control = (lit< tt, sym (sync_low Control 1 refl))
sync_known Data = (lit< tt, sym (sync_low Data 2 refl))
sync_known Ones = (lit< tt, sym (sync_low Ones 3 refl))

pub sync_small : (y : Sync) (s : ℕ) → s ≡ sync_number y → s < 4
sync_small y s e = let h = (sync_known y).0 in omega arith

-- two blocks, by the numbers of their sync bits and of their bytes
pub pair_sent : (p : Pair) (s v t w : ℕ) → s ≡ sync_number p.first.sync → low_first 64 v ≡ bits p.first.bytes →
    t ≡ sync_number p.second.sync → low_first 64 w ≡ bits p.second.bytes → (low_first 2 s ++ low_first 64 v) ++ (low_first 2 t ++ low_first 64 w) ≡ pair_bits p
pair_sent p s v t w a b c d =
    let e : low_first 2 s ≡ sync_bits p.first.sync = ap (λ (z : ℕ). low_first 2 z) a ∙ (sync_known p.first.sync).1 in
    let f : low_first 2 t ≡ sync_bits p.second.sync = ap (λ (z : ℕ). low_first 2 z) c ∙ (sync_known p.second.sync).1 in
    ap (λ (l : List Bool). (l ++ low_first 64 v) ++ (low_first 2 t ++ low_first 64 w)) e
    ∙ ap (λ (l : List Bool). (sync_bits p.first.sync ++ l) ++ (low_first 2 t ++ low_first 64 w)) b
    ∙ ap (λ (l : List Bool). block_bits p.first ++ (l ++ low_first 64 w)) f
    ∙ ap (λ (l : List Bool). block_bits p.first ++ (sync_bits p.second.sync ++ l)) d
