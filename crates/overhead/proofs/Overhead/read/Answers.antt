use Rattle.std.proofs.Common.{Err, Ok, refl, sym}
use Rattle.std.proofs.lemmas.Result.{err_from_is_err_and}
use Rattle.numbers.specs.Entries.{entry_of}
use Rattle.overhead.proofs.Reading.{read, covered_rest, code_wrong, code_read}
use Rattle.overhead.proofs.Overhead.read.Goals as goal

pub returns-then-reverse_bits-remainder-clause-read : goal.returns-then-reverse_bits-remainder-clause-read
returns-then-reverse_bits-remainder-clause-read c =
    sym (code_wrong c.args.bytes.now c.reverse_bits.result c.remainder-remainder.result
    (read c.args.bytes.now c.told-bytes c.fits-bytes) c.reverse_bits.ensures
    (covered_rest c.args.bytes.now _ _ c.remainder-remainder.result c.remainder-remainder.ensures.value c.degree_seven.ensures.degree c.degree_seven.ensures.terms)
    c.if-reverse_bits-remainder.true)

pub returns-in_err-announced-clause-read : goal.returns-in_err-announced-clause-read
returns-in_err-announced-clause-read c =
    let p = err_from_is_err_and c.from_residual.result c.from_residual.ensures.1 in
    rw (p.1, p.2)
    (code_read c.args.bytes.now _ _ c.reverse_bits.result c.remainder-remainder.result c.from_le_bytes.result c.reverse_bits-numbers.result (Err c.in_err-announced.field-0.0) _
    (read c.args.bytes.now c.told-bytes c.fits-bytes)
    c.degree_seven.ensures.degree c.degree_seven.ensures.terms c.remainder-remainder.ensures.value c.reverse_bits.ensures
    c.if-reverse_bits-remainder.false c.from_le_bytes.ensures c.reverse_bits-numbers.ensures c.in_err-announced.ensures.read refl)

pub returns-in_err-frame-clause-read : goal.returns-in_err-frame-clause-read
returns-in_err-frame-clause-read c =
    let p = err_from_is_err_and c.from_residual-in_err-frame.result c.from_residual-in_err-frame.ensures.1 in
    rw (p.1, p.2)
    (code_read c.args.bytes.now _ _ c.reverse_bits.result c.remainder-remainder.result c.from_le_bytes.result c.reverse_bits-numbers.result (Ok (entry_of c.in_ok-announced.announced)) (Err c.in_err-frame.field-0.0)
    (read c.args.bytes.now c.told-bytes c.fits-bytes)
    c.degree_seven.ensures.degree c.degree_seven.ensures.terms c.remainder-remainder.ensures.value c.reverse_bits.ensures
    c.if-reverse_bits-remainder.false c.from_le_bytes.ensures c.reverse_bits-numbers.ensures c.in_ok-announced.ensures.read c.in_err-frame.ensures.read)

pub returns-clause-read : goal.returns-clause-read
returns-clause-read c =
    (code_read c.args.bytes.now _ _ c.reverse_bits.result c.remainder-remainder.result c.from_le_bytes.result c.reverse_bits-numbers.result (Ok (entry_of c.in_ok-announced.announced)) (Ok c.in_ok-frame.frame)
    (read c.args.bytes.now c.told-bytes c.fits-bytes)
    c.degree_seven.ensures.degree c.degree_seven.ensures.terms c.remainder-remainder.ensures.value c.reverse_bits.ensures
    c.if-reverse_bits-remainder.false c.from_le_bytes.ensures c.reverse_bits-numbers.ensures c.in_ok-announced.ensures.read c.in_ok-frame.ensures.read)
