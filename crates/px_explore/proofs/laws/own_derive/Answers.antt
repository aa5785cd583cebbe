use Rattle.px_explore.proofs.DerivedLemmas.{own_derive}
use Rattle.px_explore.proofs.laws.own_derive.Goals as goal

pub returns : goal.returns
returns c = own_derive
