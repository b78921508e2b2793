use Rattle.std.proofs.lemmas.Slice.Eq.{bytes_eq-Decides}
use Rattle.value_text.proofs.same_texts.Goals as goal

pub returns : goal.returns
returns c = bytes_eq-Decides
