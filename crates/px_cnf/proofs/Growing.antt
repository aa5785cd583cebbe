-- Circuits that grow.
use Rattle.std.proofs.Common.{◌<◌, List, refl, ◌∙◌, arith}
use Rattle.px_cnf.specs.declared.literal.Literal.{Literal}
use Rattle.px_cnf.specs.Clauses.{Assignment, AreBelow}
use Rattle.px_cnf.specs.Circuits.{Gates, IsCircuit, Grows, Always}
use Rattle.px_cnf.proofs.Meeting.{below_more}

pub grows_none : (g : Gates) → IsCircuit g → Grows g g
grows_none g c = record { circuit = c; inputs = refl; variables = omega arith; clauses = λ a h. h }

pub grows_twice : (f g h : Gates) → Grows f g → Grows g h → Grows f h
grows_twice f g h s t = record {
  circuit = t.circuit;
  inputs = t.inputs ∙ s.inputs;
  variables = let u = s.variables in let v = t.variables in omega arith;
  clauses = λ a m. s.clauses a (t.clauses a m);
}

pub below_later : (g h : Gates) (ls : List Literal) → Grows g h → AreBelow g.variables ls → AreBelow h.variables ls
below_later g h ls s k = below_more g.variables h.variables ls s.variables k

pub inside_later : (g h : Gates) (l : Literal) → Grows g h → l.variable < g.variables → l.variable < h.variables
inside_later g h l s k = let u = s.variables in omega arith

pub always_later : (g h : Gates) (P : Assignment → Type 0) → Grows g h → Always g P → Always h P
always_later g h P s k a m = k a (s.clauses a m)
