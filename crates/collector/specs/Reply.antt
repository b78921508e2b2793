-- The response to a question of two-way delay.
use Rattle.std.specs.Prelude.{◌≡◌, ℕ, Bool, true, List, [], ◌∷◌, ◌++◌, length, Ok, Err, Result}
use Rattle.refusal.specs.declared.Refusal.{Refusal}
use Rattle.message.specs.declared.Kind.TheVariants.{TwoDmr}
use Rattle.message.specs.Values.{lawful}

-- a question that has been handed out: when it was sent, and whether it has been answered or declined
pub record AskedQuestion : Type 0 where
  pub time : List ℕ
  pub settled : Bool

-- when the question was sent, when it was received, when the response is sent; then zeros, where the remainder goes
abbrev pub reply_values : List ℕ → List ℕ → List ℕ → List ℕ
reply_values asked received sent = asked ++ (received ++ (sent ++ 0 ∷ 0 ∷ []))

-- the writer takes them
abbrev pub RepliesLawful : Type 0
RepliesLawful = (asked received sent : List ℕ) → length asked ≡ 8 → length received ≡ 8 → length sent ≡ 8
    → lawful TwoDmr (reply_values asked received sent) ≡ true

-- the answer, without the question that a refusal gives back
abbrev pub reply_answer : Result (Unit {0}) (Refusal × AskedQuestion) → Result (Unit {0}) Refusal
reply_answer (Ok u) = Ok u
reply_answer (Err e) = Err e.0
