use Rattle.std.proofs.Common.{ℕ, List, take, drop, sym, ap, ap₂, ◌∙◌}
use Rattle.std.proofs.lemmas.List.{drop_at, take_at}
use Rattle.overhead.specs.Format.{read_bytes}
use Rattle.payload.specs.Payloads.{pairs_of}
use Rattle.whole_frame.specs.Meaning.{content_with, frame_read, overhead_read, pairs_read}
use Rattle.whole_frame.proofs.read_frame.Goals as goal

pub returns-clause-read : goal.returns-clause-read
unfolding frame_read overhead_read pairs_read
returns-clause-read c =
    let o : List ℕ = c.take_apart.new.overhead in
    let p : List ℕ = c.take_apart.new.payload in
    ap (content_with (pairs_of p)) c.read.ensures.read
    ∙ sym (ap (λ (F : List ℕ). content_with (pairs_of (drop 7 F)) (read_bytes (take 7 F))) (sym c.take_apart.ensures)
    ∙ ap₂ (λ (x y : List ℕ). content_with (pairs_of y) (read_bytes x)) (take_at o p 7 c.take_apart.array_long) (drop_at o p 7 c.take_apart.array_long))

pub returns-clause-payload : goal.returns-clause-payload
returns-clause-payload c =
    let o : List ℕ = c.take_apart.new.overhead in
    let p : List ℕ = c.take_apart.new.payload in
    sym (drop_at o p 7 c.take_apart.array_long) ∙ ap (λ (F : List ℕ). drop 7 F) c.take_apart.ensures
