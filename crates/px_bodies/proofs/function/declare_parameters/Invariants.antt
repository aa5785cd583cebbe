use Rattle.std.proofs.Common.{◌≡◌, drop}
use Rattle.px_bodies.specs.Environment.{environment_of}
use Rattle.px_bodies.specs.Locals.{typed_parameters}
use Rattle.px_bodies.proofs.function.declare_parameters.Given as goal

abbrev pub invariant-loop-i : goal.invariant-loop-i
invariant-loop-i l =
    typed_parameters (environment_of l.environment) l.initial.locals l.parameters ≡ typed_parameters (environment_of l.environment) l.locals (drop l.i l.parameters)
