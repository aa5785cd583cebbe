use Rattle.px_explore.proofs.SaidLemmas.{is_tested}
use Rattle.px_explore.proofs.said.tested.Goals as goal

pub returns-in-Assumes : goal.returns-in-Assumes
returns-in-Assumes c = λ n. is_tested c.args.state.now c.args.how c.args.a c.args.b c.args.way _ c.in-Assumes.conjunct c.in-Assumes.is c.in_ok-conjunct.ensures n
