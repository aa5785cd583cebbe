use Rattle.std.proofs.Common.{ℕ, ◌<◌, map}
use Rattle.px_terms.specs.Parts.{IsNormalAt}
use Rattle.px_terms.specs.Monomials.{term_of}
use Rattle.px_terms.proofs.parts.is_normal.Given as goal

abbrev pub invariant-loop-i : goal.invariant-loop-i
invariant-loop-i g l = (k : ℕ) → k < l.i → IsNormalAt (map term_of l.monomials) k
