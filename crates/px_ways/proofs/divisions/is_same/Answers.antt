use Rattle.px_ways.proofs.DivisionLemmas.{same_as_test}
use Rattle.px_ways.proofs.divisions.is_same.Goals as goal

pub returns : goal.returns
returns c = same_as_test c.equals.result c.args.p.now c.args.q.now c.equals.ensures
