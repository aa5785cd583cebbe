use Rattle.std.proofs.Common.{sym, subst}
use Rattle.std.specs.Prelude.{IsSomeAnd}
use Rattle.px_explore.specs.Known.{LeadsElsewhere}
use Rattle.px_explore.proofs.thin.is_elsewhere.Goals as goal

pub returns-in-Some : goal.returns-in-Some
returns-in-Some c = λ yes. subst (λ z. IsSomeAnd z (λ k. LeadsElsewhere c.args.state.now k c.args.way)) (sym c.in-Some.is) (c.leads_elsewhere.ensures yes)
