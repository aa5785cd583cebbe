use Rattle.std.proofs.Common.{◌≡◌, ◌-◌, ◌*◌, ◌%◌, ◌^◌, drop, length}
use Rattle.px_cnf.specs.Clauses.{AreBelow}
use Rattle.px_cnf.specs.Circuits.{gates_of, Grows, Always}
use Rattle.px_cnf.specs.Words.{number}
use Rattle.px_cnf.proofs.circuit.Circuit.product.Given as goal

abbrev pub invariant-loop-k : goal.invariant-loop-k
invariant-loop-k l = record {
  grows : Grows (gates_of l.fn.self) (gates_of l.self);
  inside : AreBelow l.self.variables l.product.items;
  size : length l.product.items ≡ l.k;
  value : Always (gates_of l.self) (λ a. number a l.product.items ≡ (number a (drop (length l.x - l.k) l.x) * number a l.y) % 2 ^ l.k);
}
