-- The checksum of bytes.
use Rattle.std.specs.Prelude.{ℕ, ◌+◌, ◌*◌, ◌%◌, ◌^◌}

-- one byte more
abbrev pub sum_with : ℕ → ℕ → ℕ
sum_with s b = (s * 31 % 2 ^ 64 + b) % 2 ^ 64
