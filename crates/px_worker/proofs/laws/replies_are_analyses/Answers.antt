use Rattle.px_worker.proofs.WordLemmas.{analyses}
use Rattle.px_worker.proofs.laws.replies_are_analyses.Goals as goal

pub returns : goal.returns
returns c = analyses c.one_spelling.ensures
