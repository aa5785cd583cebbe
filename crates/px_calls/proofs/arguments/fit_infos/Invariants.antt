use Rattle.std.proofs.Common.{◌≡◌, drop}
use Rattle.px_calls.specs.Arguments.{fits_infos}
use Rattle.px_calls.proofs.arguments.fit_infos.Given as goal

abbrev pub invariant-loop-i : goal.invariant-loop-i
invariant-loop-i l = fits_infos l.vars (drop l.i l.infos) (drop l.i l.arguments) ≡ fits_infos l.vars l.infos l.arguments
