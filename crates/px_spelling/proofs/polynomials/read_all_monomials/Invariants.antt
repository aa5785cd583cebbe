use Rattle.std.proofs.Common.{◌≡◌, ◌++◌, ◌-◌, length, map}
use Rattle.std.specs.List.{flat_map, AllByRecursion}
use Rattle.px_terms.specs.Monomials.{term_of}
use Rattle.px_spelling.specs.Lists.{items_at}
use Rattle.px_spelling.specs.Polynomials.{term_bytes, IsTerm, term_at}
use Rattle.px_spelling.proofs.Loop.{with_front}
use Rattle.px_spelling.proofs.polynomials.read_all_monomials.Given as goal

-- what was read and what is still read are all
abbrev pub invariant-loop : goal.invariant-loop
invariant-loop l = record {
  reads : with_front (map term_of l.monomials.items) (items_at term_at (l.count - l.counter) l.rest) ≡ items_at term_at l.count l.bytes;
  spelled : l.bytes ≡ flat_map term_bytes (map term_of l.monomials.items) ++ l.rest;
  many : length (map term_of l.monomials.items) ≡ l.counter;
  fits : AllByRecursion IsTerm (map term_of l.monomials.items);
}
