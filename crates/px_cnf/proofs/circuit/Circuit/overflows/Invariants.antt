use Rattle.std.proofs.Common.{◌≡◌, ℕ, ◌+◌, ◌*◌, ◌^◌, ◌<◌, take}
use Rattle.px_cnf.specs.Clauses.{holds}
use Rattle.px_cnf.specs.Circuits.{gates_of, Grows, Always}
use Rattle.px_cnf.specs.Words.{bit, number}
use Rattle.px_cnf.proofs.circuit.Circuit.overflows.Given as goal

-- r is what the bits below the carry make
abbrev pub invariant-loop-i : goal.invariant-loop-i
invariant-loop-i l = record {
  grows : Grows (gates_of l.fn.self) (gates_of l.self);
  carried : l.carried.variable < l.self.variables;
  value : Always (gates_of l.self) (λ a. (r : ℕ) × (r < 2 ^ l.i) × (r + 2 ^ l.i * bit (holds a l.carried) ≡ number a (take l.i l.x) + number a (take l.i l.y) + bit (holds a l.fn.carry)));
}
