use Rattle.std.proofs.Common.{◌≡◌, ◌↔◌, ℕ, take}
use Rattle.std.specs.Prelude.{true}
use Rattle.std.specs.List.{list_all}
use Rattle.px_cnf.specs.Clauses.{Assignment, holds, Meets, AreBelow, AreClausesBelow}
use Rattle.px_cnf.proofs.requiring.put_units.Given as goal

abbrev pub invariant-loop-i : goal.invariant-loop-i
invariant-loop-i l = record {
  inside : (n : ℕ) → AreClausesBelow n l.fn.asserted.items → AreBelow n l.literals → AreClausesBelow n l.asserted.items;
  value : (a : Assignment) → (Meets a l.asserted.items ↔ (Meets a l.fn.asserted.items × (list_all (holds a) (take l.i l.literals) ≡ true)));
}
