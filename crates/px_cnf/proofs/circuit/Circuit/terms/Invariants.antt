use Rattle.std.proofs.Common.{◌≡◌, ℕ, ◌+◌, ◌%◌, ◌^◌, ◌<◌, map, take}
use Rattle.px_terms.specs.Terms.{value_at}
use Rattle.px_terms.specs.Monomials.{term_of}
use Rattle.px_cnf.specs.Circuits.{gates_of, Grows, Always}
use Rattle.px_cnf.specs.Bases.{IsWordOr, StandsOr, number_or}
use Rattle.px_cnf.proofs.circuit.Circuit.terms.Given as goal

abbrev pub invariant-loop-m : goal.invariant-loop-m
invariant-loop-m l = record {
  grows : Grows (gates_of l.fn.self) (gates_of l.self);
  word : IsWordOr (gates_of l.self) l.word;
  value : (c : ℕ) → c < 2 ^ 32 → Always (gates_of l.fn.self) (λ a. number_or 0 a l.fn.start ≡ c)
      → StandsOr (gates_of l.self) l.base 0 l.word (λ w. (c + value_at w (map term_of (take l.m-index l.monomials))) % 2 ^ 32);
}
