use Rattle.px_terms.specs.Fitting.{StandsApartBelow}
use Rattle.px_terms.proofs.fitting.stands_apart.Given as goal

abbrev pub invariant-loop-y : goal.invariant-loop-y
invariant-loop-y l = StandsApartBelow l.vars l.values l.y l.fn.x
