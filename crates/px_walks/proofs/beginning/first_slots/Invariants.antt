use Rattle.std.proofs.Common.{◌≡◌, ◌++◌, take, replicate}
use Rattle.px_terms.specs.declared.conjuncts.Content.TheVariants.{Unwritten}
use Rattle.px_callgraph.specs.States.{given_slots}
use Rattle.px_walks.proofs.beginning.first_slots.Given as goal

abbrev pub invariant-loop-slot : goal.invariant-loop-slot
invariant-loop-slot l = l.slots ≡ take l.slot (given_slots 0 l.body.parameters ++ replicate l.body.slots Unwritten)
