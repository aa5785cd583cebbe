use Rattle.std.proofs.Common.{subst}
use Rattle.px_leak.specs.Pointers.{GainsCells}
use Rattle.px_leak.proofs.PointerLemmas.{all_pointers}
use Rattle.px_leak.proofs.pointers.pointers.Goals as goal

pub returns : goal.returns
returns c =
    all_pointers c.args.entry.now c.args.count c.in_ok-graph.graph c.add_result.new.graph c.add_atoms.new.graph c.add_back.new.graph c.in_ok-graph.ensures c.in_ok-add_result.ensures
    (subst (λ atoms. GainsCells c.args.count c.add_result.new.graph atoms c.add_atoms.new.graph) c.as_slice.ensures c.in_ok-add_atoms.ensures) c.in_ok-add_back.ensures c.requires.all
