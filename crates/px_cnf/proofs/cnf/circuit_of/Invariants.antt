use Rattle.std.proofs.Common.{◌≡◌, ◌↔◌, ℕ, ◌*◌, take, length}
use Rattle.px_cnf.specs.Clauses.{Assignment, Meets, AreClausesBelow}
use Rattle.px_cnf.specs.Circuits.{gates_of}
use Rattle.px_cnf.specs.Words.{Gives}
use Rattle.px_cnf.specs.Bases.{IsBase}
use Rattle.px_cnf.specs.Standing.{AreTrueOf}
use Rattle.px_cnf.proofs.cnf.circuit_of.Given as goal

abbrev pub invariant-loop-i : goal.invariant-loop-i
invariant-loop-i l = record {
  base : IsBase (gates_of l.circuit) l.base;
  inputs : l.circuit.inputs ≡ 32 * length l.fn.bits;
  below : AreClausesBelow l.circuit.variables l.asserted.items;
  value : (a : Assignment) (w : ℕ → ℕ) → Meets a l.circuit.clauses.items → Gives a l.fn.bits w → Meets a l.asserted.items ↔ AreTrueOf w (take l.i l.conjuncts);
}
