-- The kit's hexadecimal text of bytes is ours.
use Rattle.std.proofs.Common.{◌≡◌, ℕ, ◌+◌, ◌/◌, ◌%◌, ◌<◌, Bool, true, false, cond, eqb, Some, None, Ok, Err, Result, MatchResult, subst, List, [], ◌∷◌, ◌++◌, length, get_or, sym, refl, ap, ◌∙◌, arith}
use Rattle.std.specs.List.{AllByRecursion, list_all, range_with_len}
use Rattle.std.proofs.lemmas.List.Folds.{list_all_at}
use Rattle.std.proofs.lemmas.List.FromFn.{get_or-range_with_len, length-range_with_len}
use Rattle.std.proofs.lemmas.Bool.{and_parts, eqb-false, eqb-true, false≢true}
use Rattle.hex.specs.Hex.{decode_sized, encode_lower, encode_with, lower_digits}
use Rattle.hex.specs.declared.error.FromHexError.{FromHexError}
use Rattle.hex.specs.declared.error.FromHexError.TheVariants.{InvalidStringLength}
use Rattle.hex.proofs.HexLemmas.{decode_sized-other}
use Rattle.block_text.specs.Lines.{block_bytes}
use Rattle.block_text.proofs.Decoding.{decodes}
use Rattle.packet_text.specs.Hex.{all_hex, hex_bytes, hex_digit, hex_text, is_hex}

ok-err : (u : Unit {0}) (f : FromHexError) → ◌≡◌ {A = Result Unit FromHexError} (Ok u) (Err f) → ⊥
ok-err u f e = let z : ◌≡◌ {A = ℕ} 0 1 = cc in omega arith

abbrev same_digit : ℕ → Bool
same_digit n = eqb (get_or lower_digits n 0) (hex_digit n)

digit_at : (n : ℕ) → n < 16 → get_or lower_digits n 0 ≡ hex_digit n
digit_at n h = eqb-true _ _ (go (same_digit n) refl)
  where
    all : list_all same_digit (range_with_len 0 16) ≡ true
    all = refl

    go : (t : Bool) → same_digit n ≡ t → t ≡ true
    go true e = refl
    go false e =
        let place : get_or (range_with_len 0 16) n 0 ≡ n = get_or-range_with_len 0 16 n 0 h ∙ omega arith in
        absurd (false≢true (sym (list_all_at same_digit (range_with_len 0 16) n 0 (omega (arith, h, length-range_with_len 0 16)) (ap same_digit place ∙ e)) ∙ all))

pub encoded : (bs : List ℕ) → AllByRecursion (λ b. b < 256) bs → encode_lower bs ≡ hex_text bs
unfolding encode_with
encoded [] h = refl
encoded (b ∷ bs) h =
    let high = digit_at (b / 16) (omega (arith, h.0)) in
    let low = digit_at (b % 16) (omega arith) in
    rw (high, low, encoded bs h.1) refl

-- the kit's reader and eight bytes: it succeeds on sixteen digits alone
module _ (xs out : List ℕ) (r : Result Unit FromHexError) (hex : is_hex xs ≡ true) (done : MatchResult (decode_sized xs 8) (λ bytes. (r ≡ Ok tt) × (out ≡ bytes)) (λ e. r ≡ Err e)) where
  even : length xs % 2 ≡ 0
  even = eqb-true (length xs % 2) 0 (and_parts (all_hex xs) (eqb (length xs % 2) 0) hex).1

  sixteen : eqb (length xs) 16 ≡ true → (r ≡ Ok tt) × (out ≡ hex_bytes xs)
  sixteen e = decodes xs out 8 r hex (omega (arith, eqb-true (length xs) 16 e)) done

  other : eqb (length xs) 16 ≡ false → r ≡ Err InvalidStringLength
  other e =
      let P : Result (List ℕ) FromHexError → Type 0 = λ d. MatchResult d (λ bytes. (r ≡ Ok tt) × (out ≡ bytes)) (λ f. r ≡ Err f) in
      subst P (decode_sized-other xs 8 even (λ h. eqb-false (length xs) 16 e (omega (arith, h, even)))) done

  test : (t : Bool) → eqb (length xs) 16 ≡ t → block_bytes xs ≡ cond t (Some (hex_bytes xs)) None
  test t e = rw (hex, e) refl

  pub eight_read : r ≡ Ok tt → block_bytes xs ≡ Some out
  eight_read ok = go (eqb (length xs) 16) refl
    where
      go : (t : Bool) → eqb (length xs) 16 ≡ t → block_bytes xs ≡ Some out
      go true e = test true e ∙ ap Some (sym (sixteen e).1)
      go false e = absurd (ok-err tt InvalidStringLength (sym ok ∙ other e))

  pub none_read : (f : FromHexError) → r ≡ Err f → block_bytes xs ≡ None
  none_read f err = go (eqb (length xs) 16) refl
    where
      go : (t : Bool) → eqb (length xs) 16 ≡ t → block_bytes xs ≡ None
      go true e = absurd (ok-err tt f (sym (sixteen e).0 ∙ err))
      go false e = test false e
