use Rattle.std.proofs.Common.{arith}
use Rattle.std.proofs.lemmas.List.{length-set}
use Rattle.packet_report.proofs.Writes.{hex_all, hex_more, hex_none, hex_place}
use Rattle.packet_report.proofs.put_hex.Goals as goal

pub loop-byte-init : goal.loop-byte-init
loop-byte-init c = hex_none c.args.at c.args.bytes.now c.args.out.now

pub bounds-out-end : goal.bounds-out-end
bounds-out-end c =
    let p = hex_place c.args.at c.loop-byte.end c.loop-byte.byte-index c.args.bytes.now c.args.out.now c.loop-byte.out c.requires (omega arith) c.loop-byte.invariant in
    omega (arith, p.0)

pub overflow_add-out : goal.overflow_add-out
overflow_add-out c =
    let p = hex_place c.args.at c.loop-byte.end c.loop-byte.byte-index c.args.bytes.now c.args.out.now c.loop-byte.out c.requires (omega arith) c.loop-byte.invariant in
    omega (arith, p.0)

pub bounds-out-end-in-loop-byte : goal.bounds-out-end-in-loop-byte
bounds-out-end-in-loop-byte c =
    let p = hex_place c.args.at c.loop-byte.end c.loop-byte.byte-index c.args.bytes.now c.args.out.now c.loop-byte.out c.requires (omega arith) c.loop-byte.invariant in
    omega (arith, p.0, p.1, length-set c.loop-byte.out c.loop-byte.end c.hex_digit.result)

pub overflow_add-end : goal.overflow_add-end
overflow_add-end c =
    let p = hex_place c.args.at c.loop-byte.end c.loop-byte.byte-index c.args.bytes.now c.args.out.now c.loop-byte.out c.requires (omega arith) c.loop-byte.invariant in
    omega (arith, p.0)

pub loop-byte-preserved : goal.loop-byte-preserved
loop-byte-preserved c =
    hex_more c.args.at c.loop-byte.end c.loop-byte.byte-index _ _ c.args.bytes.now c.args.out.now c.loop-byte.out c.requires (omega arith)
    c.hex_digit.ensures c.hex_digit-in-loop-byte.ensures c.loop-byte.invariant

pub returns : goal.returns
returns c = hex_all c.args.at c.loop-byte.end c.loop-byte.byte-index c.args.bytes.now c.args.out.now c.loop-byte.out (omega arith) c.loop-byte.invariant
