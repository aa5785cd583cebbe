use Rattle.std.proofs.Common.{◌≡◌, ◌≢◌, ℕ, ◌<◌, List, [], Some}
use Rattle.std.specs.List.{slice_get}
use Rattle.px_cnf.specs.declared.literal.Literal.{Literal}
use Rattle.px_sat.specs.Steps.{ForcesWithin}
use Rattle.px_sat.specs.Searches.{Extends}
use Rattle.px_sat.proofs.propagating.begin.Given as goal

abbrev pub invariant-loop-at : goal.invariant-loop-at
invariant-loop-at l = record {
  extends : Extends l.clauses [] l.trail;
  within : (i : ℕ) (clause : List Literal) → i < l.at → slice_get l.clauses i ≡ Some clause → ForcesWithin clause [] l.trail;
  filled : (i : ℕ) (clause : List Literal) → i < l.at → slice_get l.clauses i ≡ Some clause → clause ≢ [];
}
