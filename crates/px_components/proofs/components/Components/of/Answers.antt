use Rattle.std.proofs.Common.{arith}
use Rattle.px_components.specs.Searches.{state_of}
use Rattle.px_components.proofs.Ending.{components_found}
use Rattle.px_components.proofs.components.Components.of.Goals as goal

pub returns : goal.returns
returns c = components_found c.args.graph.now (state_of c.loop-node.search) c.loop-node.invariant.search c.loop-node.invariant.idle (λ x l. c.loop-node.invariant.known x (omega arith))
