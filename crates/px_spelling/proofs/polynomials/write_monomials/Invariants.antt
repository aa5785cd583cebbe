use Rattle.std.proofs.Common.{◌≡◌, ◌++◌, length, take, map}
use Rattle.std.specs.List.{flat_map}
use Rattle.px_terms.specs.Monomials.{term_of}
use Rattle.px_spelling.specs.Numbers.{u32_bytes}
use Rattle.px_spelling.specs.Polynomials.{term_bytes}
use Rattle.px_spelling.proofs.polynomials.write_monomials.Given as goal

-- the count, and the monomials so far
abbrev pub invariant-loop-monomial : goal.invariant-loop-monomial
invariant-loop-monomial g l = record {
  written : g.O.Output.written l.out ≡ g.O.Output.written l.fn.out ++ (u32_bytes (length l.monomials) ++ flat_map term_bytes (map term_of (take l.monomial-index l.monomials)));
  reached : (from : _) → g.O.Output.reaches from l.fn.out l.fn.target → g.O.Output.reaches from l.out l.target;
}
