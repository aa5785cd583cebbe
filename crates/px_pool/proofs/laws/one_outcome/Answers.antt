use Rattle.px_pool.proofs.CauseLemmas.{one_outcome}
use Rattle.px_pool.proofs.laws.one_outcome.Goals as goal

pub returns : goal.returns
returns c = one_outcome
