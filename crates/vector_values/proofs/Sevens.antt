-- Seven binary digits.
use Rattle.std.proofs.Common.{◌≡◌, ℕ, ◌-◌, ◌^◌, ◌<◌, false, List, [], map, get_or, Some, Option, sym, refl, ap, ◌∙◌, arith}
use Rattle.std.specs.Option.{option_map}
use Rattle.std.specs.List.{range_with_len}
use Rattle.std.specs.Fmt.{char_count, digits, format_spec, padded_integral, radix_digits}
use Rattle.std.proofs.lemmas.List.FromFn.{get_or-map-range_with_len}
use Rattle.value_text.specs.Texts.{seven_digits}

-- what `{:07b}` writes
abbrev written : ℕ → List ℕ
written n = padded_integral (format_spec 32 0 4 7 (2 ^ 64 - 1)) false [] (digits 2 false n)

-- each by computation
table : map written (range_with_len 0 128) ≡ map seven_digits (range_with_len 0 128)
unfolding padded_integral digits char_count
table = refl

seven_written : (n : ℕ) → n < 128 → written n ≡ seven_digits n
seven_written n h =
    sym (get_or-map-range_with_len written 0 128 n n [] h (omega arith))
    ∙ ap (λ (ts : List (List ℕ)). get_or ts n []) table
    ∙ get_or-map-range_with_len seven_digits 0 128 n n [] h (omega arith)

pub seven_output : (o : Option (List ℕ)) (n : ℕ) → n < 128 → o ≡ Some (radix_digits 2 false n)
    → option_map (padded_integral (format_spec 32 0 4 7 (2 ^ 64 - 1)) false []) o ≡ Some (seven_digits n)
seven_output o n h e =
    ap (option_map (padded_integral (format_spec 32 0 4 7 (2 ^ 64 - 1)) false [])) e
    ∙ ap (λ (t : List ℕ). Some t) (seven_written n h)
