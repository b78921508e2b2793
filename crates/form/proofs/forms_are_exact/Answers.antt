use Rattle.form.proofs.Texts.{form_is, form_reads}
use Rattle.form.proofs.forms_are_exact.Goals as goal

pub returns : goal.returns
returns c = (form_reads, form_is)
