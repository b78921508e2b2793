-- A message, whole or in part, as a list of value bytes.
use Rattle.std.specs.Prelude.{◌≡◌, ℕ, ◌-◌, ◌*◌, ◌<◌, List, ◌++◌, length, replicate}
use Rattle.message.specs.declared.Kind.{Kind}
use Rattle.message.specs.Kinds.{block_count_of}

-- a message, or the part of it that has come: its kind and its value bytes
pub record MessageContent : Type 0 where
  pub kind : Kind
  pub values : List ℕ

-- fewer blocks have come than a message of its kind has, each with two value bytes
pub record IsPart (u : MessageContent) : Type 0 where
  pub blocks : ℕ
  pub few : blocks < block_count_of u.kind
  pub long : length u.values ≡ 2 * blocks

-- value bytes in the memory of the longest message: zeros stand behind them
abbrev pub zero_padded : List ℕ → List ℕ
zero_padded vs = vs ++ replicate (34 - length vs) 0
