use Rattle.std.proofs.Common.{◌≡◌, ℕ, ◌+◌, length, take, map}
use Rattle.px_terms.specs.Terms.{value_at}
use Rattle.px_terms.specs.Monomials.{term_of}
use Rattle.px_parity.specs.Bits.{parity}
use Rattle.px_parity.specs.Equations.{odd, columns, row_length}
use Rattle.px_parity.proofs.equations.equation.Given as goal

abbrev pub invariant-loop-term : goal.invariant-loop-term
invariant-loop-term l = record {
  size : length l.row ≡ row_length l.last;
  says : (v : ℕ → ℕ) → parity (columns v) l.row ≡ odd (l.p.constant + value_at v (map term_of (take l.term-index l.term-items)));
}
