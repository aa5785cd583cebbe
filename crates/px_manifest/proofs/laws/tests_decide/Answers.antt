use Rattle.px_manifest.proofs.TestLemmas.{tests_decide}
use Rattle.px_manifest.proofs.laws.tests_decide.Goals as goal

pub returns : goal.returns
returns c = tests_decide
