use Rattle.std.proofs.Common.{◌≡◌, ◌^◌, ◌<◌}
use Rattle.bits.specs.Bits.{field}
use Rattle.crc.specs.Remainder.{remainder_onto}
use Rattle.crc.proofs.Generator.remainder.Given as goal

-- what is left of the field gives the remainder of the whole
abbrev pub invariant-loop-i : goal.invariant-loop-i
invariant-loop-i l =
    (l.register < 2 ^ l.self.degree)
    × (remainder_onto l.self.degree l.self.terms l.register (field l.bytes l.i l.end)
    ≡ remainder_onto l.self.degree l.self.terms 0 (field l.bytes l.from l.to))
