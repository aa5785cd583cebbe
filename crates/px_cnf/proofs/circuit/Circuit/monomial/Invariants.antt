use Rattle.std.proofs.Common.{◌*◌, ◌%◌, ◌^◌, take}
use Rattle.px_terms.specs.Terms.{product_at}
use Rattle.px_terms.specs.Monomials.{term_of}
use Rattle.px_cnf.specs.Circuits.{gates_of, Grows}
use Rattle.px_cnf.specs.Bases.{IsWordOr, StandsOr}
use Rattle.px_cnf.proofs.circuit.Circuit.monomial.Given as goal

abbrev pub invariant-loop-i : goal.invariant-loop-i
invariant-loop-i l = record {
  grows : Grows (gates_of l.fn.self) (gates_of l.self);
  word : IsWordOr (gates_of l.self) l.word;
  value : StandsOr (gates_of l.self) l.base 1 l.word (λ w. ((term_of l.fn.m).coefficient * product_at w (take l.i l.vars)) % 2 ^ 32);
}
