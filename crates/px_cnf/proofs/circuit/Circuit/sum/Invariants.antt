use Rattle.std.proofs.Common.{◌≡◌, ◌+◌, ◌*◌, ◌^◌, ◌<◌, take, length}
use Rattle.px_cnf.specs.Clauses.{holds, AreBelow}
use Rattle.px_cnf.specs.Circuits.{gates_of, Grows, Always}
use Rattle.px_cnf.specs.Words.{bit, number}
use Rattle.px_cnf.proofs.circuit.Circuit.sum.Given as goal

abbrev pub invariant-loop-i : goal.invariant-loop-i
invariant-loop-i l = record {
  grows : Grows (gates_of l.fn.self) (gates_of l.self);
  inside : AreBelow l.self.variables l.sum.items;
  size : length l.sum.items ≡ l.i;
  carried : l.carried.variable < l.self.variables;
  value : Always (gates_of l.self) (λ a. number a l.sum.items + 2 ^ l.i * bit (holds a l.carried) ≡ number a (take l.i l.x) + number a (take l.i l.y) + bit (holds a l.fn.carry));
}
