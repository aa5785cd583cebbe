use Rattle.std.proofs.Common.{◌≡◌, drop, Some}
use Rattle.px_bodies.specs.Environment.{environment_of}
use Rattle.px_bodies.specs.Operands.{operand_seen}
use Rattle.px_bodies.proofs.ChainLemmas.{typed_path}
use Rattle.px_bodies.proofs.expressions.arrows.Given as goal

abbrev pub invariant-loop-i : goal.invariant-loop-i
invariant-loop-i l =
    typed_path (environment_of l.environment) (Some (operand_seen l.initial.pointer)) l.path
    ≡ typed_path (environment_of l.environment) (Some (operand_seen l.pointer)) (drop l.i l.path)
