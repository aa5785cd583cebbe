use Rattle.std.proofs.Common.{◌≡◌, ℕ, ◌*◌, ◌<◌, length, get_or}
use Rattle.px_terms.specs.declared.variables.Var.{Var}
use Rattle.px_cnf.proofs.names.words_of.Given as goal

abbrev pub invariant-loop-i : goal.invariant-loop-i
invariant-loop-i l = record {
  size : length l.bits.items ≡ l.i;
  names : (k : ℕ) (d : Var × ℕ) → k < l.i → (get_or l.bits.items k d).0.0 ≡ get_or l.names k 0;
  firsts : (k : ℕ) (d : Var × ℕ) → k < l.i → (get_or l.bits.items k d).1 ≡ 32 * k;
}
