use Rattle.std.proofs.Common.{◌≢◌, ℕ, ◌<◌, get_or}
use Rattle.px_terms.specs.declared.variables.Var.{Var}
use Rattle.px_cnf.proofs.reading.first_of.Given as goal

abbrev pub invariant-loop-i : goal.invariant-loop-i
invariant-loop-i l = (k : ℕ) (d : Var × ℕ) → k < l.i → (get_or l.bits k d).0.0 ≢ l.x
