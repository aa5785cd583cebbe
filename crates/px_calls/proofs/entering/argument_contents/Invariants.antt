use Rattle.std.proofs.Common.{◌≡◌, take}
use Rattle.px_callgraph.specs.Commands.{argument_contents}
use Rattle.px_calls.proofs.entering.argument_contents.Given as goal

abbrev pub invariant-loop-operand : goal.invariant-loop-operand
invariant-loop-operand l = l.contents ≡ argument_contents l.state (take l.operand-index l.operands)
