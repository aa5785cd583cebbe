use Rattle.px_terms.proofs.NormalForm.{normal_form_laws}
use Rattle.px_terms.proofs.laws.normal_forms.Goals as goal

pub returns : goal.returns
returns c = normal_form_laws
