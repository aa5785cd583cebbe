use Rattle.px_leak.proofs.LeakLemmas.{losses_exact}
use Rattle.px_leak.proofs.laws.losses_are_exact.Goals as goal

pub returns : goal.returns
returns c = losses_exact c.tests_decide.ensures
