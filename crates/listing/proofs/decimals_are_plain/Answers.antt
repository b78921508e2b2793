use Rattle.std.proofs.Common.{decimal, ap, ◌∙◌, arith}
use Rattle.std.proofs.lemmas.Fmt.{decimal_digit, decimal_is_IsNumeral, first_decimal}
use Rattle.listing.proofs.decimals_are_plain.Goals as goal

pub returns : goal.returns
returns c =
    λ n small. record {
      digits = (decimal_is_IsNumeral n small).0;
      reads = (decimal_is_IsNumeral n small).1;
      lead = λ some. first_decimal n some small;
      nought = λ none. ap decimal none ∙ decimal_digit 0 (omega arith);
    }
