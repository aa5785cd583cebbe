-- The operands of a state.
use Rattle.std.proofs.Common.{◌≡◌, refl}
use Rattle.px_core.specs.declared.command.Operand.{Operand}
use Rattle.px_core.specs.declared.command.Operand.TheVariants as operand
use Rattle.px_callgraph.specs.declared.states.State.{State}
use Rattle.px_callgraph.specs.States.{operand_content}
use Rattle.px_match.specs.Operated.{operand_in}

-- an operand has the content that the slots of the state give it
pub operand_is : (s : State) (o : Operand) → operand_in s.slots o ≡ operand_content s o
operand_is s (operand.Slot n) = refl
operand_is s (operand.Word z) = refl
operand_is s operand.Null = refl
