use Rattle.std.proofs.Common.{◌≡◌, [], ◌∷◌, ◌++◌, IfOk, string_bytes, codes, decimal, rules}
use Rattle.std.proofs.lemmas.Result.{IfOk-at_ok}
use Rattle.value_text.specs.Texts.{hex_of}
use Rattle.vector_values.proofs.packet_made.Goals as goal

pub returns : goal.returns
returns c =
    let p : IfOk c.format.result (λ t. string_bytes t ≡ decimal c.args.count ++ (codes " blocks, end " ++ string_bytes c.in_ok-end.end)) = search rules in
    let e = IfOk-at_ok (λ t. string_bytes t ≡ hex_of (c.args.end ∷ [])) c.in_ok-end.was c.hex.ensures in
    rw e at p
