-- The kit's writer succeeds, since there are two places for each byte.
use Rattle.std.proofs.Common.{◌≡◌, ◌∙◌, rules, arith}
use Rattle.hex.specs.Hex.{encode_lower}
use Rattle.block_text.proofs.Digits.{encoded}
use Rattle.block_text.proofs.Forms.{all_bytes}
use Rattle.block_text.proofs.byte_digits.Goals as goal

pub returns : goal.returns
returns c =
    let ok = c.encode_to_slice.ensures.fits.1 (omega (arith, c.told-bytes)) in
    let text : c.encode_to_slice.new.output ≡ encode_lower c.args.bytes.now = search (rules, ok, c.encode_to_slice.ensures.written) in
    text ∙ encoded c.args.bytes.now (all_bytes c.args.bytes.now c.fits-bytes)
