-- The overheads of all fields in range.
use Rattle.std.proofs.Common.{◌≡◌, ℕ, ◌<◌, Bool, true, false, cond, ltb, List, length, get_or, Some, None, Option, Ok, Err, Result, refl, ap, ap₂, subst, ◌∙◌, arith}
use Rattle.std.specs.Prelude.{IfOk}
use Rattle.std.proofs.lemmas.Bool.Decides.{nat_tests}
use Rattle.bits.specs.Bits.{bits, field, high_first}
use Rattle.bits.proofs.Packing.{length_packed, packed_below}
use Rattle.bits.proofs.Places.{numbered}
use Rattle.numbers.specs.Entries.{entry_of, is_entry}
use Rattle.overhead.specs.declared.Overhead.{Overhead}
use Rattle.overhead.specs.Format.{Fields, fields_answer, covered_bits, fields_in, fields_of, shows_fault, overhead_bits, overhead_bytes, read_bytes, read_word}
use Rattle.overhead.specs.Laws.{OverheadsCoded, FieldsTell, FieldsInRange, FieldsInRangeRead, IsOverhead, SevenBytes}
use Rattle.overhead.specs.declared.OverheadFault.{OverheadFault}
use Rattle.overhead.specs.declared.OverheadFault.TheVariants.{WrongRemainder, ClientTooHigh, FrameTooHigh}
use Rattle.overhead.proofs.Reading.{changes_seen, reads_back}

pub overhead_length : (f : Fields) → length (overhead_bits f) ≡ 56
unfolding overhead_bits covered_bits high_first
overhead_length f = refl

pub overhead_seven : (f : Fields) → length (overhead_bytes f) ≡ 7
unfolding overhead_bytes
overhead_seven f = length_packed 7 (overhead_bits f)

pub overhead_sent : (f : Fields) → bits (overhead_bytes f) ≡ overhead_bits f
unfolding overhead_bytes
overhead_sent f = numbered.unpacks 7 (overhead_bits f) (overhead_length f)

overhead_is_bytes : (f : Fields) (i : ℕ) → get_or (overhead_bytes f) i 0 < 256
unfolding overhead_bytes
overhead_is_bytes f i = packed_below 7 (overhead_bits f) i

seven_bytes : (f : Fields) → SevenBytes f
seven_bytes f = record { seven = overhead_seven f; bytes = overhead_is_bytes f; sent = overhead_sent f }

pub coded : OverheadsCoded
coded = record {
  shape = seven_bytes;
  back = λ f r. reads_back f (overhead_bytes f) r.entry r.frame (overhead_sent f);
  seen = λ f. changes_seen f (overhead_bytes f) (overhead_seven f) (overhead_sent f);
}

-- ---- what is read is in range
fields_or : Fields → Result Fields OverheadFault → Fields
fields_or d (Ok f) = f
fields_or d (Err w) = d

word_range : (word : List Bool) (f : Fields) → read_word word ≡ Ok f → FieldsInRange f
unfolding read_word fields_or
word_range word f e =
    go (shows_fault WrongRemainder word) (ltb 480 (fields_in word).entry) (ltb 479 (fields_in word).frame) (fields_in word) refl refl e
  where
    go : (a b c : Bool) (g : Fields) → b ≡ ltb 480 g.entry → c ≡ ltb 479 g.frame
        → ◌≡◌ {A = Result Fields OverheadFault} (cond a (Err WrongRemainder) (cond b (Err ClientTooHigh) (cond c (Err FrameTooHigh) (Ok g)))) (Ok f) → FieldsInRange f
    go true b c g h k e = cc
    go false true c g h k e = cc
    go false false true g h k e = cc
    go false false false g h k e = subst FieldsInRange (ap (fields_or g) e) (record { entry = grind (arith, nat_tests); frame = grind (arith, nat_tests) })

pub in_range_read : FieldsInRangeRead
unfolding read_bytes
in_range_read bytes f e = word_range (field bytes 10 56) f e

-- ---- the fields tell which overhead it is
entries_tell : (a b : Option ℕ) → is_entry a ≡ true → is_entry b ≡ true → entry_of a ≡ entry_of b → a ≡ b
entries_tell None None h k e = refl
entries_tell None (Some n) h k e = absurd (grind (arith, nat_tests))
entries_tell (Some m) None h k e = absurd (grind (arith, nat_tests))
entries_tell (Some m) (Some n) h k e = ap Some e

pub fields_tell : FieldsTell
fields_tell o p h k e =
    let a : o.announced ≡ p.announced = entries_tell o.announced p.announced h.0 k.0 (ap (λ (f : Fields). f.entry) e) in
    let b : o.frame ≡ p.frame = ap (λ (f : Fields). f.frame) e in
    ap₂ (λ (x : Option ℕ) (y : ℕ). let q : Overhead = record { announced = x; frame = y } in q) a b

-- so what was written is what is read
pub same_read : (r : Result Overhead OverheadFault) (o : Overhead) (bs : List ℕ) → fields_answer r ≡ read_bytes bs → read_bytes bs ≡ Ok (fields_of o)
    → IfOk r IsOverhead → IsOverhead o → r ≡ Ok o
unfolding fields_or
same_read (Ok q) o bs h e i k =
    let same : fields_of q ≡ fields_of o = ap (fields_or (fields_of o)) (h ∙ e) in
    ap Ok (fields_tell q o i k same)
same_read (Err w) o bs h e i k = cc
