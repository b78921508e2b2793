-- A text laid into a buffer: its length, and one text after another.
use Rattle.std.proofs.Common.{◌≡◌, ℕ, ◌+◌, ◌-◌, ◌<◌, ◌≤◌, List, [], ◌++◌, length, take, sym, ap, ◌∙◌, ⊎_elim, subst, add-zero, arith}
use Rattle.std.proofs.Math.Seq.{take-append-add}
use Rattle.std.proofs.lemmas.List.{append_assoc, append-nil, length-append, length-take, length-take-le, take-append-le, take_all}
use Rattle.std.proofs.lemmas.Bool.{cases_lt}
use Rattle.bits.proofs.Splices.{length_splice, splice_next, splice_none}
use Rattle.text_out.specs.Wrote.{Puts, Wrote}

-- one text after another
pub wrote_more :
    {at m n : ℕ} {s t b o v : List ℕ} → at ≤ length b → Wrote at s b o m → Wrote m t o v n → Wrote at (s ++ t) b v n
wrote_more {at} {m} {n} {s} {t} {b} {o} {v} room one two =
    let both = splice_next at m s t b room one.end_is in
    record {
      bytes = cc (one.bytes, two.bytes);
      end_is = omega (arith, one.end_is, two.end_is, length-append s t);
    }

take_within : (n : ℕ) (s : List ℕ) → length (take n s) ≤ n
take_within n s = omega (arith, length-take n s)

take_join : (n : ℕ) (s t : List ℕ) → take n (s ++ t) ≡ take n s ++ take (n - length (take n s)) t
take_join n s t =
    ⊎_elim
    (λ short. let cut : n - length (take n s) ≡ 0 = omega (arith, length-take-le n s (omega arith)) in
    take-append-le n s t (omega arith) ∙ sym (rw cut (append-nil (take n s))))
    (λ long. let all = take_all n s long in
    let sum : length s + (n - length s) ≡ n = omega arith in
    rw all (ap (λ k. take k (s ++ t)) (sym sum) ∙ take-append-add s t (n - length s)))
    (cases_lt n (length s))

near : {at m n : ℕ} {s t b o v : List ℕ} → at ≤ length b → Puts at s b o m → Puts m t o v n → Puts at (s ++ t) b v n
near {at} {m} {n} {s} {t} {b} {o} {v} room one two =
    let head = take (length b - at) s in
    let within : length head ≤ length b - at = take_within (length b - at) s in
    let same : length o ≡ length b = ap length one.wrote.bytes ∙ length_splice at head b (omega arith) in
    let left : length o - m ≡ length b - at - length head = omega (arith, one.wrote.end_is) in
    let tail : Wrote m (take (length b - at - length head) t) o v n = rw left at two.wrote in
    record { wrote = rw (take_join (length b - at) s t) (wrote_more room one.wrote tail) }

-- behind the last place nothing is written
none_left : (n : ℕ) (s : List ℕ) → n ≡ 0 → take n s ≡ []
none_left n s e = ap (λ k. take k s) e

far : {at m n : ℕ} {s t b o v : List ℕ} → length b < at → Puts at s b o m → Puts m t o v n → Puts at (s ++ t) b v n
far {at} {m} {n} {s} {t} {b} {o} {v} past one two =
    let first : Wrote at [] b o m = rw (none_left (length b - at) s (omega arith)) at one.wrote in
    let same : o ≡ b = first.bytes ∙ splice_none at b in
    let place : m ≡ at = first.end_is ∙ add-zero at in
    let second : Wrote m [] o v n = rw (none_left (length o - m) t (omega (arith, ap length same))) at two.wrote in
    let third : Wrote at [] b v n = rw (same, place) at second in
    record { wrote = rw (none_left (length b - at) (s ++ t) (omega arith)) third }

-- one text after another, each as far as it fits, is their join as far as it fits
pub puts_more : {at m n : ℕ} {s t b o v : List ℕ} → Puts at s b o m → Puts m t o v n → Puts at (s ++ t) b v n
puts_more {at} {m} {n} {s} {t} {b} {o} {v} one two =
    ⊎_elim (λ past. far past one two) (λ room. near room one two) (cases_lt (length b) at)

-- a text that fits is written whole
pub puts_whole : {at n : ℕ} {s b o : List ℕ} → at + length s ≤ length b → Puts at s b o n → Wrote at s b o n
puts_whole {at} {n} {s} {b} {o} fits puts = rw (take_all (length b - at) s (omega arith)) at puts.wrote

-- the same of other values that are known to be equal
pub wrote_as : {at m n : ℕ} {s b o v : List ℕ} → Wrote at s b o m → v ≡ o → n ≡ m → Wrote at s b v n
wrote_as w e f = record { bytes = e ∙ w.bytes; end_is = f ∙ w.end_is }

pub puts_text : {at n : ℕ} {s t b o : List ℕ} → s ≡ t → Puts at s b o n → Puts at t b o n
puts_text {at} {n} {s} {t} {b} {o} e puts = let P : List ℕ → Type 0 = λ x. Puts at x b o n in subst P e puts

-- a text of two parts before another
pub puts_parts : {at m n : ℕ} {t b o v : List ℕ} (s r : List ℕ) → Puts at (s ++ r) b o m → Puts m t o v n → Puts at (s ++ (r ++ t)) b v n
puts_parts {at} {m} {n} {t} {b} {o} {v} s r one two = puts_text (append_assoc s r t) (puts_more one two)
