use Rattle.std.proofs.Common.{sym, subst}
use Rattle.std.specs.Prelude.{Option}
use Rattle.px_terms.specs.declared.variables.Var.{Var}
use Rattle.px_callgraph.specs.Renaming.{quotient_claim}
use Rattle.px_match.specs.Through.{IsClaimed}
use Rattle.px_match.proofs.claims.quotient.Goals as goal

pub returns-in-Some : goal.returns-in-Some
returns-in-Some c = λ o u h k.
    subst (λ (z : Option Var). IsClaimed c.quotient_of.result (quotient_claim z o u)) (sym c.in-Some.is) (c.quotient_of.ensures o u h k)
