use Rattle.px_explore.proofs.OwnLemmas.{one_analysis}
use Rattle.px_explore.proofs.laws.one_analysis.Goals as goal

pub returns : goal.returns
returns c = one_analysis
