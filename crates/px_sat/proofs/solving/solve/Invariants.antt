use Rattle.std.proofs.Common.{◌≡◌, ◌≢◌, ◌++◌, [], ℕ, ◌<◌, length, take}
use Rattle.std.specs.List.{All}
use Rattle.px_cnf.specs.Clauses.{AreClausesBelow}
use Rattle.px_sat.specs.Logs.{IsSearchLog}
use Rattle.px_sat.specs.Steps.{HasValue, IsClosedTo, HasNoEmpty}
use Rattle.px_sat.specs.Searches.{IsSearch}
use Rattle.px_sat.proofs.solving.solve.Given as goal

abbrev pub invariant-loop-turn : goal.invariant-loop-turn
invariant-loop-turn l = record {
  clauses : l.clauses ≡ l.cnf.clauses ++ l.log.items;
  logged : IsSearchLog l.cnf.variables l.cnf.clauses l.log.items;
  count : length l.log.items ≡ l.turn;
  some : All (λ c. c ≢ []) l.log.items;
  below : AreClausesBelow l.cnf.variables l.clauses;
  filled : HasNoEmpty l.clauses;
  search : IsSearch l.cnf.variables l.clauses l.trail;
  closed : IsClosedTo l.clauses (take l.point.head l.trail) l.trail;
  known : (x : ℕ) → x < l.point.first → HasValue l.trail x;
}
