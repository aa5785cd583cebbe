use Rattle.px_report.proofs.FormLemmas.{forms_agreement}
use Rattle.px_report.proofs.laws.forms_agree.Goals as goal

pub returns : goal.returns
returns c = forms_agreement
