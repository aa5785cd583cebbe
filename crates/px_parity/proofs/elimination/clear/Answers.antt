use Rattle.px_parity.proofs.Eliminating.{same_sum}
use Rattle.px_parity.proofs.elimination.clear.Goals as goal

pub returns-in_ok-add-clause-same : goal.returns-in_ok-add-clause-same
returns-in_ok-add-clause-same c = λ w z. same_sum w c.args.row.now c.args.pivot.now.row c.add.new.self c.in_ok-add.ensures z
