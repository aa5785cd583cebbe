use Rattle.px_leak.proofs.PointerLemmas.{cells_of_one}
use Rattle.px_leak.proofs.pointers.add_atom.Goals as goal

pub returns-in_ok-add_state : goal.returns-in_ok-add_state
returns-in_ok-add_state c = cells_of_one c.args.count c.args.graph.now c.add_state.new.graph c.args.atom.now c.if-atom-count.true c.in_ok-add_state.ensures
