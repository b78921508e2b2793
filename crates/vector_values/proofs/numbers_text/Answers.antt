use Rattle.std.proofs.Common.{◌≡◌, ◌++◌, IfOk, string_bytes, codes, decimal, rules}
use Rattle.vector_values.proofs.numbers_text.Goals as goal

pub returns : goal.returns
returns c =
    let p : IfOk c.format.result (λ t. string_bytes t ≡ codes "client number " ++ (decimal c.entry-client.result ++ (codes ", frame number " ++ decimal c.number-frame.result))) = search rules in
    rw (c.entry-client.ensures.value, c.number-frame.ensures.value) at p
