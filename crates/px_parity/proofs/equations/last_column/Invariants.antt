use Rattle.std.proofs.Common.{◌<◌, ◌+◌, take}
use Rattle.std.specs.Prelude.{All}
use Rattle.px_terms.specs.Monomials.{term_of}
use Rattle.px_parity.specs.Equations.{column_of}
use Rattle.px_parity.proofs.equations.last_column.Given as goal

abbrev pub invariant-loop-term : goal.invariant-loop-term
invariant-loop-term l = record {
  small : l.last < 65537;
  last : All (λ m. column_of (term_of m).vars < l.last + 1) (take l.term-index l.term-items);
}
