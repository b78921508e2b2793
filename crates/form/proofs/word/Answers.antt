use Rattle.std.proofs.lemmas.Slice.Eq.{strip_prefix_is}
use Rattle.std.proofs.lemmas.Bool.Decides.{Decides-eqb}
use Rattle.form.proofs.Words.{word_read}
use Rattle.form.proofs.word.Goals as goal

pub returns : goal.returns
returns c =
    rw c.ok_or.ensures.value
    (word_read _ c.args.text.now c.args.word.now c.strip_prefix.result
    (strip_prefix_is Decides-eqb c.args.text.now c.args.word.now c.strip_prefix.result c.strip_prefix.ensures.cases))
