use Rattle.std.proofs.Common.{◌≡◌, ℕ, List, Some, take}
use Rattle.std.specs.List.{Contains, slice_get}
use Rattle.px_cnf.specs.declared.literal.Literal.{Literal}
use Rattle.px_sat.specs.Steps.{ForcesWithin}
use Rattle.px_sat.specs.Searches.{Extends}
use Rattle.px_sat.proofs.propagating.spread.Given as goal

abbrev pub invariant-loop-at : goal.invariant-loop-at
invariant-loop-at l = record {
  extends : Extends l.clauses l.initial.trail l.trail;
  within : (i : ℕ) → Contains (take l.at-index l.at-items) i → (clause : List Literal) → slice_get l.clauses i ≡ Some clause → ForcesWithin clause l.initial.trail l.trail;
}
