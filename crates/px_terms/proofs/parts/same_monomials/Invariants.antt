use Rattle.std.proofs.Common.{◌≡◌, ℕ, ◌<◌, map}
use Rattle.px_terms.specs.Parts.{term_at}
use Rattle.px_terms.specs.Monomials.{term_of}
use Rattle.px_terms.proofs.parts.same_monomials.Given as goal

abbrev pub invariant-loop-i : goal.invariant-loop-i
invariant-loop-i g l = (k : ℕ) → k < l.i → term_at (map term_of l.a) k ≡ term_at (map term_of l.b) k
