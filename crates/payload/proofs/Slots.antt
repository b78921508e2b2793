-- Slots in a whole payload: what is written to one is read from it, and all of them make up the payload.
use Rattle.std.proofs.Common.{◌≡◌, ℕ, zero, suc, ◌+◌, ◌-◌, ◌*◌, ◌<◌, ◌≤◌, Bool, List, [], ◌∷◌, ◌++◌, map, length, get_or, take, drop, set, sym, refl, ap, ◌∙◌, ⊎_elim, append_assoc, arith, length-append, length-drop, below_more}
use Rattle.std.specs.List.{range_with_len, flat_map}
use Rattle.std.proofs.Math.Seq.{take-add}
use Rattle.std.proofs.lemmas.List.FromFn.{get_or-map-range_with_len, length-map-range_with_len}
use Rattle.std.proofs.lemmas.List.{drop_at, drop-drop, ext_get_or, get_or-set_other, get_or-set_same, flat_map_more, length-set, length-take-le, take_all, take_more, take_at}
use Rattle.std.proofs.lemmas.Bool.{cases_order}
use Rattle.block.specs.declared.Sync.TheVariants.{Zeros}
use Rattle.block.specs.Whole.{Bytes, WholePair}
use Rattle.block.specs.declared.Pair.{Pair}
use Rattle.bits.specs.Bits.{bits, packed_bytes}
use Rattle.bits.specs.Splices.{splice}
use Rattle.bits.proofs.Places.{length_bits, numbered}
use Rattle.bits.proofs.Splices.{splice_above, splice_below, splice_same}
use Rattle.payload.specs.Pairs.{pair_bits, pair_of}
use Rattle.payload.specs.Payloads.{pair_at, pairs_of, payload_of}
use Rattle.payload.proofs.Back.{pair_back, pair_bits_back, pair_length}

-- what the code reads past the end of a list of pairs, which it never does
abbrev pub blank : Pair
blank = record { first = record { sync = Zeros; bytes = [] }; second = record { sync = Zeros; bytes = [] } }

-- the first i slots and one more
pub pack_more : (i j : ℕ) (B C X : List Bool) → j ≡ i + 1 → 132 * i ≤ length B → length X ≡ 132 → C ≡ splice (132 * i) X B →
    take (132 * j) C ≡ take (132 * i) B ++ X
pack_more i j B C X f h k e =
    let R : List Bool = drop (132 * i + length X) B in
    let m : length (take (132 * i) B ++ X) ≡ 132 * j = length-append (take (132 * i) B) X ∙ omega (arith, length-take-le (132 * i) B h) in
    ap (λ (z : List Bool). take (132 * j) z) (e ∙ sym (append_assoc (take (132 * i) B) X R)) ∙ take_at (take (132 * i) B ++ X) R (132 * j) m

-- the bits of slot i + 1 lie within the payload
slot_length : (p : List ℕ) (i : ℕ) → length p ≡ 7920 → i < 480 → length (take 132 (drop (132 * i) (bits p))) ≡ 132
slot_length p i h k = length-take-le 132 (drop (132 * i) (bits p)) (omega (arith, length-drop (132 * i) (bits p), length_bits p))

-- a pair that has the bits of a slot is the pair of the slot
pub pair_at_is : (p : List ℕ) (k s : ℕ) (r : Pair) → s ≡ 132 * (k - 1) → WholePair r → pair_bits r ≡ take 132 (drop s (bits p)) → r ≡ pair_at k p
pair_at_is p k s r e w h = sym (pair_back r w) ∙ ap pair_of (h ∙ ap (λ (z : ℕ). take 132 (drop z (bits p))) e)

-- pairs are told apart by what stands in each slot
pub pairs_are : (ps : List Pair) (p : List ℕ) (d : Pair) → length ps ≡ 480 → ((i : ℕ) → i < 480 → get_or ps i d ≡ pair_at (i + 1) p) → ps ≡ pairs_of p
unfolding pairs_of
pairs_are ps p d h f = ext_get_or d ps (map (λ k. pair_at k p) (range_with_len 1 480)) (h ∙ sym (length-map-range_with_len (λ k. pair_at k p) 1 480))
    (λ i k. let m : i < 480 = omega arith in f i m ∙ sym (get_or-map-range_with_len (λ k. pair_at k p) 1 480 i (i + 1) d m (omega arith)))

pub pairs_at : (p : List ℕ) (i : ℕ) (d : Pair) → i < 480 → get_or (pairs_of p) i d ≡ pair_at (i + 1) p
unfolding pairs_of
pairs_at p i d h = get_or-map-range_with_len (λ k. pair_at k p) 1 480 i (i + 1) d h (omega arith)

pub pairs_length : (p : List ℕ) → length (pairs_of p) ≡ 480
unfolding pairs_of
pairs_length p = length-map-range_with_len (λ k. pair_at k p) 1 480

-- a slot written: its pair is the new one, and all others stay
pub pairs_written : (p q : List ℕ) (i : ℕ) (r : Pair) → length p ≡ 7920 → i < 480 → WholePair r →
    bits q ≡ splice (132 * i) (pair_bits r) (bits p) → pairs_of q ≡ set (pairs_of p) i r
pairs_written p q i r h k w e =
    let B : List Bool = bits p in
    let X : List Bool = pair_bits r in
    let n : length (pair_bits r) ≡ 132 = pair_length r w in
    let m : 132 * i ≤ length (bits p) = omega (arith, length_bits p) in
    let here : (j : ℕ) → j ≡ i → get_or (set (pairs_of p) i r) j r ≡ pair_at (j + 1) q =
    λ j f. ap (λ (z : ℕ). get_or (set (pairs_of p) i r) z r) f ∙ get_or-set_same (pairs_of p) i r r (omega (arith, pairs_length p))
    ∙ pair_at_is q (j + 1) (132 * i) r (omega arith) w (sym (ap (λ (z : List Bool). take 132 (drop (132 * i) z)) e ∙ splice_same (132 * i) 132 X B m n)) in
    let other : (j : ℕ) → j < 480 → (j ≡ i → ⊥) → take 132 (drop (132 * (j + 1 - 1)) B) ≡ take 132 (drop (132 * (j + 1 - 1)) (bits q)) → get_or (set (pairs_of p) i r) j r ≡ pair_at (j + 1) q =
    λ j l f g. get_or-set_other (pairs_of p) i j r r f ∙ pairs_at p j r l ∙ ap pair_of g in
    sym (pairs_are (set (pairs_of p) i r) q r (length-set (pairs_of p) i r ∙ pairs_length p) (λ j l. ⊎_elim (here j)
    (λ f. ⊎_elim
    (λ (a : j < i). other j l (λ g. omega arith)
    (sym (ap (λ (z : List Bool). take 132 (drop (132 * (j + 1 - 1)) z)) e ∙ splice_below (132 * i) (132 * (j + 1 - 1)) 132 X B m (omega arith))))
    (λ (a : i < j). other j l (λ g. omega arith)
    (sym (ap (λ (z : List Bool). take 132 (drop (132 * (j + 1 - 1)) z)) e ∙ ap (λ (z : List Bool). take 132 z) (splice_above (132 * i) (132 * (j + 1 - 1)) X B m (omega arith)))))
    f)
    (cases_order j i)))

-- one of as many pieces of 132 bits
joined_slot : (ps : List Pair) (i : ℕ) (d : Pair) → ((j : ℕ) → j < length ps → WholePair (get_or ps j d)) → i < length ps →
    take 132 (drop (132 * i) (flat_map pair_bits ps)) ≡ pair_bits (get_or ps i d)
joined_slot [] i d w h = absurd (omega arith)
joined_slot (p ∷ ps) zero d w h = take_at (pair_bits p) (flat_map pair_bits ps) 132 (pair_length p (w 0 (omega arith)))
joined_slot (p ∷ ps) (suc i) d w h =
    let e : 132 * suc i ≡ 132 + 132 * i = omega arith in
    ap (λ (n : ℕ). take 132 (drop n (pair_bits p ++ flat_map pair_bits ps))) e
    ∙ ap (λ (z : List Bool). take 132 z) (sym (drop-drop (132 * i) 132 (pair_bits p ++ flat_map pair_bits ps)))
    ∙ ap (λ (z : List Bool). take 132 (drop (132 * i) z)) (drop_at (pair_bits p) (flat_map pair_bits ps) 132 (pair_length p (w 0 (omega arith))))
    ∙ joined_slot ps i d (λ j l. w (suc j) (omega arith)) (omega arith)

-- a payload that has the bits of the pairs, one pair after the other, holds just these pairs
pub pairs_packed : (p : List ℕ) (ps : List Pair) (d : Pair) → length ps ≡ 480 → ((j : ℕ) → j < 480 → WholePair (get_or ps j d)) →
    bits p ≡ flat_map pair_bits ps → pairs_of p ≡ ps
pairs_packed p ps d h w e =
    sym (pairs_are ps p d h (λ i l. pair_at_is p (i + 1) (132 * i) (get_or ps i d) (omega arith) (w i l)
    (sym (ap (λ (z : List Bool). take 132 (drop (132 * i) z)) e ∙ joined_slot ps i d (λ j m. w j (omega arith)) (omega arith)))))

-- and is the one payload that does
pub payload_is : (p : List ℕ) (ps : List Pair) → length p ≡ 7920 → Bytes p → bits p ≡ flat_map pair_bits ps → p ≡ payload_of ps
unfolding payload_of
payload_is p ps h t e = sym (ap (λ (z : List Bool). packed_bytes 7920 z) (sym e) ∙ ap (λ (n : ℕ). packed_bytes n (bits p)) (sym h) ∙ numbered.packs p (λ i h. t i))

slices : (p : List ℕ) (a n : ℕ) → length p ≡ 7920 → a + n ≤ 480 →
    flat_map pair_bits (map (λ k. pair_at k p) (range_with_len (a + 1) n)) ≡ take (132 * n) (drop (132 * a) (bits p))
slices p a zero h k = refl
slices p a (suc n) h k =
    let e : 132 * (a + 1 - 1) ≡ 132 * a = omega arith in
    let f : 132 * suc n ≡ 132 + 132 * n = omega arith in
    let g : 132 * a + 132 ≡ 132 * (a + 1) = omega arith in
    let one : pair_bits (pair_at (a + 1) p) ≡ take 132 (drop (132 * a) (bits p)) =
    ap (λ (z : ℕ). pair_bits (pair_of (take 132 (drop z (bits p))))) e
    ∙ pair_bits_back (take 132 (drop (132 * a) (bits p))) (slot_length p a h (omega arith)) in
    ap (λ (z : List Bool). z ++ flat_map pair_bits (map (λ k. pair_at k p) (range_with_len (a + 1 + 1) n))) one
    ∙ ap (λ (z : List Bool). take 132 (drop (132 * a) (bits p)) ++ z) (slices p (a + 1) n h (omega arith)
    ∙ ap (λ (z : ℕ). take (132 * n) (drop z (bits p))) (sym g) ∙ ap (λ (z : List Bool). take (132 * n) z) (sym (drop-drop 132 (132 * a) (bits p))))
    ∙ sym (ap (λ (z : ℕ). take z (drop (132 * a) (bits p))) f ∙ take-add 132 (132 * n) (drop (132 * a) (bits p)))

-- the pairs of a payload, one after the other, are its bits
pub pairs_joined : (p : List ℕ) → length p ≡ 7920 → flat_map pair_bits (pairs_of p) ≡ bits p
unfolding pairs_of
pairs_joined p h = slices p 0 480 h (omega arith) ∙ take_all 63360 (bits p) (omega (arith, length_bits p))

pub unpacking_undone : (p : List ℕ) → length p ≡ 7920 → Bytes p → payload_of (pairs_of p) ≡ p
unpacking_undone p h t = sym (payload_is p (pairs_of p) h t (sym (pairs_joined p h)))

-- two slots more, while packing
one_joined : (ps : List Pair) (i j : ℕ) (B C : List Bool) → j ≡ i + 1 → i < length ps → 132 * i ≤ length B → WholePair (get_or ps i blank) →
    C ≡ splice (132 * i) (pair_bits (get_or ps i blank)) B → take (132 * i) B ≡ flat_map pair_bits (take i ps) →
    take (132 * j) C ≡ flat_map pair_bits (take j ps)
one_joined ps i j B C e h k w s g =
    let X : List Bool = pair_bits (get_or ps i blank) in
    pack_more i j B C X e k (pair_length (get_or ps i blank) w) s
    ∙ ap (λ (z : List Bool). z ++ X) g
    ∙ flat_map_more pair_bits [] (take i ps) (get_or ps i blank)
    ∙ ap (λ (z : List Pair). flat_map pair_bits z) (sym (take_more ps i blank h))
    ∙ ap (λ (n : ℕ). flat_map pair_bits (take n ps)) (sym e)

pub packed_two : (ps : List Pair) (t : ℕ) (p q r : List ℕ) → length ps ≡ 480 → t < 240 → length p ≡ 7920 → length q ≡ 7920 →
    WholePair (get_or ps (2 * t) blank) → WholePair (get_or ps (2 * t + 1) blank) →
    bits q ≡ splice (132 * (2 * t)) (pair_bits (get_or ps (2 * t) blank)) (bits p) →
    bits r ≡ splice (132 * (2 * t + 1)) (pair_bits (get_or ps (2 * t + 1) blank)) (bits q) →
    take (132 * (2 * t)) (bits p) ≡ flat_map pair_bits (take (2 * t) ps) →
    take (132 * (2 * (t + 1))) (bits r) ≡ flat_map pair_bits (take (2 * (t + 1)) ps)
packed_two ps t p q r h k m n v w a b g =
    one_joined ps (2 * t + 1) (2 * (t + 1)) (bits q) (bits r) (omega arith) (omega arith) (omega (arith, length_bits q)) w b
    (one_joined ps (2 * t) (2 * t + 1) (bits p) (bits q) refl (omega arith) (omega (arith, length_bits p)) v a g)

-- what holds below 2 t and at the next two holds below 2 (t + 1)
pub below_two : (Q : ℕ → Type 0) (t : ℕ) → ((j : ℕ) → j < 2 * t → Q j) → Q (2 * t) → Q (2 * t + 1) → (j : ℕ) → j < 2 * (t + 1) → Q j
below_two Q t below a b j h = below_more Q (2 * t + 1) (below_more Q (2 * t) below a) b j (omega arith)

-- two slots more, while unpacking
pub unpacked_two : (ps : List Pair) (t : ℕ) (p : List ℕ) (a b : Pair) → length ps ≡ 480 → t < 240 →
    ((j : ℕ) → j < 2 * t → get_or ps j blank ≡ pair_at (j + 1) p) → a ≡ pair_at (2 * t + 1) p → b ≡ pair_at (2 * t + 1 + 1) p →
    (j : ℕ) → j < 2 * (t + 1) → get_or (set (set ps (2 * t) a) (2 * t + 1) b) j blank ≡ pair_at (j + 1) p
unpacked_two ps t p a b h k below e f =
    let n : length (set ps (2 * t) a) ≡ length ps = length-set ps (2 * t) a in
    below_two (λ j. get_or (set (set ps (2 * t) a) (2 * t + 1) b) j blank ≡ pair_at (j + 1) p) t
    (λ j l. get_or-set_other (set ps (2 * t) a) (2 * t + 1) j b blank (λ g. omega arith)
    ∙ get_or-set_other ps (2 * t) j a blank (λ g. omega arith) ∙ below j l)
    (get_or-set_other (set ps (2 * t) a) (2 * t + 1) (2 * t) b blank (λ g. omega arith)
    ∙ get_or-set_same ps (2 * t) a blank (omega arith) ∙ e)
    (get_or-set_same (set ps (2 * t) a) (2 * t + 1) b blank (omega arith) ∙ f)
