use Rattle.px_meaning.proofs.RenamedTreeRuns.{tree_traces_whole}
use Rattle.px_meaning.proofs.laws.tree_traces_are_whole.Goals as goal

pub returns : goal.returns
returns c = λ P f parameters arguments heap state s t more d e m n h h' eq. tree_traces_whole P f parameters arguments heap state s t more d e m n h h' eq
