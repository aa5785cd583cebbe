use Rattle.std.proofs.Common.{◌≡◌, ℕ, ◌<◌, None, IfSome}
use Rattle.px_sat.specs.Steps.{HasValue, IsClosed, IsFalseAt}
use Rattle.px_sat.specs.Searches.{IsSearch}
use Rattle.px_sat.proofs.deciding.descend.Given as goal

abbrev pub invariant-loop-variable : goal.invariant-loop-variable
invariant-loop-variable l = record {
  search : IsSearch l.variables l.clauses l.trail;
  falsified : IfSome l.found (IsFalseAt l.clauses l.trail);
  closed : l.found ≡ None → IsClosed l.clauses l.trail;
  known : (x : ℕ) → x < l.variable → HasValue l.trail x;
}
