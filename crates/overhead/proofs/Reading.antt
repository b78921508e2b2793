-- What is read: back again what was written, and a wrong remainder after few changes.
use Rattle.std.proofs.Common.{◌≡◌, ℕ, ◌/◌, ◌%◌, ◌<◌, ◌≤◌, Bool, true, false, cond, ltb, List, [], ◌∷◌, ◌++◌, length, get_or, take, drop, Ok, Err, Result, sym, refl, ap, ◌∙◌, ap₂, mod-eq_of_lt, arith, lit≤, pow_pos}
use Rattle.std.specs.Int.Bits.{bit_and}
use Rattle.std.proofs.lemmas.Nat.{and_mask}
use Rattle.std.specs.Int.{reverse_bits_onto}
use Rattle.std.proofs.lemmas.List.{length-take, length-drop, take-append-drop, take-take, same_lists, places}
use Rattle.std.proofs.lemmas.Bool.{eq-eqb, ne_eqb, le-ltb}
use Rattle.bits.specs.Bits.{low_first, high_first, high_value, bits, field}
use Rattle.crc.specs.Laws.{Detects}
use Rattle.crc.specs.Remainder.{remainder}
use Rattle.crc.proofs.Laws.{onto_lt, appended}
use Rattle.bits.proofs.Places.{length_bits}
use Rattle.bits.proofs.Values.{high_value_is, value_high}
use Rattle.crc.proofs.Detect.{detects}
use Rattle.crc.proofs.Generators.{seven}
use Rattle.overhead.specs.Format.{Fields, fields_in, covered_bits, overhead_bits, remainder_of, read_word, read_bytes}
use Rattle.overhead.specs.Entry.{read_entry, read_frame_number}
use Rattle.overhead.specs.Laws.{ChangesSeen}
use Rattle.overhead.proofs.Words.{word_of, numbers_in, word_read}
use Rattle.overhead.specs.declared.OverheadFault.{OverheadFault}
use Rattle.overhead.specs.declared.OverheadFault.TheVariants.{WrongRemainder, ClientTooHigh, FrameTooHigh}

-- ---- the four answers
abbrev pub right : List Bool → Type 0
right word = high_value (drop 39 word) ≡ remainder_of (take 39 word)

pub read_wrong : (word : List Bool) → (right word → ⊥) → read_word word ≡ Err WrongRemainder
unfolding read_word
read_wrong word h = simp (ne_eqb (high_value (drop 39 word)) (remainder_of (take 39 word)) h)

pub read_fields : (word : List Bool) (f : Fields) → right word → fields_in word ≡ f → f.entry ≤ 480 → f.frame ≤ 479 → read_word word ≡ Ok f
unfolding read_word
read_fields word f r e h k =
    simp (
      eq-eqb (high_value (drop 39 word)) (remainder_of (take 39 word)) r,
      ap (λ (g : Fields). ltb 480 g.entry) e ∙ le-ltb 480 f.entry h,
      ap (λ (g : Fields). ltb 479 g.frame) e ∙ le-ltb 479 f.frame k,
    )
    (ap Ok e)

-- what entry and frame number are read as together, the entry first
abbrev pub both : Result ℕ OverheadFault → Result ℕ OverheadFault → Result Fields OverheadFault
both (Err e) b = Err e
both (Ok n) (Err e) = Err e
both (Ok n) (Ok m) = Ok (record { entry = n; frame = m })

read_both : (word : List Bool) → right word → read_word word ≡ both (read_entry (fields_in word).entry) (read_frame_number (fields_in word).frame)
unfolding read_word
read_both word r =
    simp (eq-eqb (high_value (drop 39 word)) (remainder_of (take 39 word)) r)
    (go (ltb 480 (fields_in word).entry) (ltb 479 (fields_in word).frame))
  where
    go : (p q : Bool)
        → ◌≡◌ {A = Result Fields OverheadFault} (cond p (Err ClientTooHigh) (cond q (Err FrameTooHigh) (Ok (fields_in word))))
        (both (cond p (Err ClientTooHigh) (Ok (fields_in word).entry)) (cond q (Err FrameTooHigh) (Ok (fields_in word).frame)))
    go true q = refl
    go false true = refl
    go false false = refl

-- ---- back again
word_written : (f : Fields) (bytes : List ℕ) → bits bytes ≡ overhead_bits f
    → field bytes 10 56 ≡ covered_bits f ++ high_first 7 (remainder_of (covered_bits f))
unfolding high_first covered_bits overhead_bits
word_written f bytes e = ap (λ (l : List Bool). take 46 (drop 10 l)) e

word_fields : (f : Fields) (r : ℕ) → f.entry < 1024 → f.frame < 512 → fields_in (covered_bits f ++ high_first 7 r) ≡ f
unfolding high_first covered_bits
word_fields f r h k =
    ap₂ (λ (x y : ℕ). let g : Fields = record { entry = x; frame = y } in g)
    (value_high 10 f.entry ∙ mod-eq_of_lt h) (value_high 9 f.frame ∙ mod-eq_of_lt k)

word_right : (f : Fields) → right (covered_bits f ++ high_first 7 (remainder_of (covered_bits f)))
unfolding high_first covered_bits
word_right f =
    value_high 7 (remainder_of (covered_bits f)) ∙ mod-eq_of_lt (onto_lt 7 0xB7 (covered_bits f) 0 refl (pow_pos 7))

pub reads_back : (f : Fields) (bytes : List ℕ) → f.entry ≤ 480 → f.frame < 480 → bits bytes ≡ overhead_bits f → read_bytes bytes ≡ Ok f
unfolding read_bytes
reads_back f bytes h k e =
    ap read_word (word_written f bytes e)
    ∙ read_fields (covered_bits f ++ high_first 7 (remainder_of (covered_bits f))) f (word_right f)
    (word_fields f (remainder_of (covered_bits f)) (omega arith) (omega arith)) h (omega arith)

-- ---- few changes
right_zero : (word : List Bool) → length word ≡ 46 → right word → remainder_of word ≡ 0
right_zero word l r =
    ap remainder_of
    (sym (take-append-drop 39 word)
    ∙ ap (λ (bs : List Bool). take 39 word ++ bs)
    (sym (high_value_is (drop 39 word))
    ∙ ap₂ high_first (let n : length (drop 39 word) ≡ 7 = simp length-drop (omega arith) in n) r))
    ∙ appended 7 0xB7 (take 39 word) refl

length_word : (bytes : List ℕ) → length bytes ≡ 7 → length (field bytes 10 56) ≡ 46
length_word bytes l = simp (length-take, length-drop, length_bits, l)

sent_zero : (f : Fields) (bytes : List ℕ) → bits bytes ≡ overhead_bits f → remainder_of (field bytes 10 56) ≡ 0
sent_zero f bytes e = ap remainder_of (word_written f bytes e) ∙ appended 7 0xB7 (covered_bits f) refl

pub changes_seen : (f : Fields) (bytes : List ℕ) → length bytes ≡ 7 → bits bytes ≡ overhead_bits f → ChangesSeen bytes
unfolding read_bytes
changes_seen f bytes l e =
    let d : Detects 7 0xB7 63 = detects 7 0xB7 63 seven in
    let len : length (field bytes 10 56) ≡ 46 = length_word bytes l in
    record {
      few = λ came n h k.
          read_wrong (field came 10 56)
          (λ r. d.0 (field bytes 10 56) (field came 10 56) (len ∙ sym (length_word came n)) (omega arith) (sent_zero f bytes e)
          (right_zero (field came 10 56) (length_word came n) r) h k);
      burst = λ came i k b n c lb wb.
          read_wrong (field came 10 56)
          (λ r. d.1 (field bytes 10 56) (field came 10 56) i k b (len ∙ sym (length_word came n)) c lb wb (sent_zero f bytes e)
          (right_zero (field came 10 56) (length_word came n) r));
    }

-- ---- what the code reads
-- seven bytes, one by one
seven_bytes : (bytes : List ℕ) → length bytes ≡ 7
    → bytes ≡ get_or bytes 0 0 ∷ get_or bytes 1 0 ∷ get_or bytes 2 0 ∷ get_or bytes 3 0 ∷ get_or bytes 4 0 ∷ get_or bytes 5 0 ∷ get_or bytes 6 0 ∷ []
seven_bytes bytes l = same_lists bytes _ l (λ k d h. grind (arith, places))

abbrev pub word_in : List ℕ → ℕ
word_in bytes = word_of (get_or bytes 0 0) (get_or bytes 1 0) (get_or bytes 2 0) (get_or bytes 3 0)

pub record Read (bytes : List ℕ) : Type 0 where
  pub rest : high_value (drop 39 (field bytes 10 56)) ≡ reverse_bits_onto 8 (get_or bytes 6 0) 0 % 128
  pub covered : take 39 (field bytes 10 56) ≡ field bytes 10 49
  pub entry : (fields_in (field bytes 10 56)).entry ≡ numbers_in (word_in bytes) / 512 % 1024
  pub frame : (fields_in (field bytes 10 56)).frame ≡ numbers_in (word_in bytes) % 512

pub read : (bytes : List ℕ) → length bytes ≡ 7 → ((i : ℕ) → get_or bytes i 0 < 256) → Read bytes
unfolding high_first low_first
read bytes l h =
    let word : field bytes 10 56
    ≡ high_first 10 (numbers_in (word_in bytes) / 512)
    ++ (high_first 9 (numbers_in (word_in bytes))
    ++ (high_first 3 (reverse_bits_onto 32 (word_in bytes) 0) ++ (low_first 8 (get_or bytes 4 0) ++ (low_first 8 (get_or bytes 5 0) ++ high_first 8 (reverse_bits_onto 8 (get_or bytes 6 0) 0)))))
    = ap (λ (xs : List ℕ). field xs 10 56) (seven_bytes bytes l)
    ∙ word_read (get_or bytes 0 0) (get_or bytes 1 0) (get_or bytes 2 0) (get_or bytes 3 0) (get_or bytes 4 0) (get_or bytes 5 0) (get_or bytes 6 0) (h 0) (h 1) (h 2) (h 3) in
    record {
      rest = ap (λ (w : List Bool). high_value (drop 39 w)) word ∙ value_high 7 (reverse_bits_onto 8 (get_or bytes 6 0) 0);
      covered = take-take 39 46 (drop 10 (bits bytes)) (lit≤ tt);
      entry = ap (λ (w : List Bool). high_value (take 10 w)) word ∙ value_high 10 (numbers_in (word_in bytes) / 512);
      frame = ap (λ (w : List Bool). high_value (take 9 (drop 10 w))) word ∙ value_high 9 (numbers_in (word_in bytes));
    }

-- the remainder as the code computes it, and as it compares it
pub covered_rest : (bytes : List ℕ) (d g r : ℕ) → r ≡ remainder d g (field bytes 10 49) → d ≡ 7 → g ≡ 0xB7 → r ≡ remainder_of (field bytes 10 49)
covered_rest bytes d g r e p q = e ∙ ap₂ (λ (x y : ℕ). remainder x y (field bytes 10 49)) p q

rest_is : (bytes : List ℕ) (x : ℕ) → Read bytes → x ≡ reverse_bits_onto 8 (get_or bytes 6 0) 0 → high_value (drop 39 (field bytes 10 56)) ≡ bit_and x 127
rest_is bytes x rd e = rd.rest ∙ ap (λ (y : ℕ). y % 128) (sym e) ∙ sym (and_mask x 7)

pub code_wrong : (bytes : List ℕ) (x r : ℕ) → Read bytes → x ≡ reverse_bits_onto 8 (get_or bytes 6 0) 0 → r ≡ remainder_of (field bytes 10 49)
    → (bit_and x 127 ≡ r → ⊥) → read_bytes bytes ≡ Err WrongRemainder
unfolding read_bytes
code_wrong bytes x r rd e k n =
    read_wrong (field bytes 10 56)
    (λ q. n (sym (rest_is bytes x rd e) ∙ q ∙ ap remainder_of rd.covered ∙ sym k))

code_right : (bytes : List ℕ) (x r : ℕ) → Read bytes → x ≡ reverse_bits_onto 8 (get_or bytes 6 0) 0 → r ≡ remainder_of (field bytes 10 49)
    → bit_and x 127 ≡ r → right (field bytes 10 56)
code_right bytes x r rd e k q = rest_is bytes x rd e ∙ q ∙ k ∙ sym (ap remainder_of rd.covered)

-- the numbers as the code has them
pub record Numbers (bytes : List ℕ) (v : ℕ) : Type 0 where
  pub entry : (fields_in (field bytes 10 56)).entry ≡ bit_and (v / 8 / 512) 1023
  pub frame : (fields_in (field bytes 10 56)).frame ≡ bit_and (v / 8) 511

code_numbers : (bytes : List ℕ) (w v : ℕ) → Read bytes → w ≡ word_in bytes → v ≡ reverse_bits_onto 32 w 0 → Numbers bytes v
code_numbers bytes w v rd ew ev =
    let n : numbers_in (word_in bytes) ≡ v / 8 = ap (λ (y : ℕ). y / 8) (ap (λ (y : ℕ). reverse_bits_onto 32 y 0) (sym ew) ∙ sym ev) in
    record {
      entry = rd.entry ∙ ap (λ (y : ℕ). y / 512 % 1024) n ∙ sym (and_mask (v / 8 / 512) 10);
      frame = rd.frame ∙ ap (λ (y : ℕ). y % 512) n ∙ sym (and_mask (v / 8) 9);
    }

-- past the test of the remainder: d and g are the degree and the terms of the generator, a and b what the two numbers are read as
pub code_read : (bytes : List ℕ) (d g x r w v : ℕ) (a b : Result ℕ OverheadFault) → Read bytes
    → d ≡ 7 → g ≡ 0xB7 → r ≡ remainder d g (field bytes 10 49) → x ≡ reverse_bits_onto 8 (get_or bytes 6 0) 0 → bit_and x 127 ≡ r
    → w ≡ word_in bytes → v ≡ reverse_bits_onto 32 w 0
    → a ≡ read_entry (bit_and (v / 8 / 512) 1023) → b ≡ read_frame_number (bit_and (v / 8) 511) → both a b ≡ read_bytes bytes
unfolding read_bytes
code_read bytes d g x r w v a b rd ed eg er ex q ew ev ea eb =
    let n : Numbers bytes v = code_numbers bytes w v rd ew ev in
    ap₂ both (ea ∙ ap read_entry (sym n.entry)) (eb ∙ ap read_frame_number (sym n.frame))
    ∙ sym (read_both (field bytes 10 56) (code_right bytes x r rd ex (covered_rest bytes d g r er ed eg) q))
