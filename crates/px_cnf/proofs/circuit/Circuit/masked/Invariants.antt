use Rattle.std.proofs.Common.{◌≡◌, ◌*◌, take, length}
use Rattle.px_cnf.specs.Clauses.{holds, AreBelow}
use Rattle.px_cnf.specs.Circuits.{gates_of, Grows, Always}
use Rattle.px_cnf.specs.Words.{bit, number}
use Rattle.px_cnf.proofs.circuit.Circuit.masked.Given as goal

abbrev pub invariant-loop-i : goal.invariant-loop-i
invariant-loop-i l = record {
  grows : Grows (gates_of l.fn.self) (gates_of l.self);
  inside : AreBelow l.self.variables l.masked.items;
  size : length l.masked.items ≡ l.i;
  value : Always (gates_of l.self) (λ a. number a l.masked.items ≡ bit (holds a l.p) * number a (take l.i l.y));
}
