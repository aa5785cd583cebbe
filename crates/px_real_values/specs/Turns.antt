-- What the code does at one turn.
use Rattle.px_real_values.specs.declared.operand.Turn.{Turn}
use Rattle.px_real_values.specs.declared.operand.Turn.TheVariants as T
use Rattle.px_real_values.specs.Operands.{Operand}
use Rattle.px_real_values.specs.Views.{operand_seen}

-- on with a value, or the `Stop` behind which nothing follows
abbrev pub goes_on : (Operand → Operand) → Turn → Operand
goes_on next (T.GoesOn a) = next (operand_seen a)
goes_on next (T.Stops a) = operand_seen a
