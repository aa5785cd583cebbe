use Rattle.px_entry.proofs.TestLemmas.{tests_decide}
use Rattle.px_entry.proofs.laws.tests_decide.Goals as goal

pub returns : goal.returns
returns c = tests_decide
