use Rattle.std.proofs.Common.{sym, subst}
use Rattle.px_explore.specs.Known.{LeadsElsewhere}
use Rattle.px_explore.proofs.known.leads_elsewhere.Goals as goal

pub returns-in-Atom : goal.returns-in-Atom
returns-in-Atom c = λ yes. subst (LeadsElsewhere c.args.state.now c.args.known) (sym c.in-Atom.is) (c.is_other_at.ensures yes)
