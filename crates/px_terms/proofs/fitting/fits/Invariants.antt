use Rattle.std.specs.Prelude.{ℕ, ◌<◌}
use Rattle.px_terms.specs.Fitting.{FitsAt}
use Rattle.px_terms.proofs.fitting.fits.Given as goal

abbrev pub invariant-loop-x : goal.invariant-loop-x
invariant-loop-x l = (x : ℕ) → x < l.x → FitsAt l.vars l.values x
