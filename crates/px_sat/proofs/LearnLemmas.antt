-- A conflict turned into a clause, and where the search goes on.
use Rattle.std.proofs.Common.{◌≡◌, ℕ, ◌+◌, ◌≤◌, Bool, List, [], ◌∷◌, ◌++◌, Some, refl, ap, length, take, arith}
use Rattle.std.specs.List.{slice_get}
use Rattle.px_cnf.specs.Clauses.{AreClausesBelow}
use Rattle.px_cnf.specs.declared.literal.Literal.{Literal}
use Rattle.px_sat.specs.declared.step.Step.{Step}
use Rattle.px_sat.specs.Steps.{literal_at, IsFalseAt, HasNoEmpty, forced}
use Rattle.px_sat.specs.Searches.{IsSearch, IsLastTaken, IsNextTaken, IsTracing, IsTracedFrom, AreMarked, IsTurned}
use Rattle.px_sat.proofs.ReachedLemmas.{reasons_of}
use Rattle.px_sat.proofs.TurnLemmas.{is_turn, turn_follows, turn_apart}
use Rattle.px_sat.proofs.BackLemmas.{turned, clause, search_back, closed_back, known_back, clause_below}

pub turned_of : (n : ℕ) (clauses log : List (List Literal)) (steps : List Step) (start at : ℕ) (marked : List Bool) (parts : List Literal) (low head : ℕ)
    (search : IsSearch n clauses steps) (falsified : IsFalseAt clauses steps at) (below : AreClausesBelow n clauses) (filled : HasNoEmpty clauses)
    (last : IsLastTaken steps start) (tracing : IsTracing steps start marked parts low)
    (conflict : (c : List Literal) → slice_get clauses at ≡ Some c → AreMarked steps marked c) (traced : IsTracedFrom clauses steps marked (start + 1))
    (next : IsNextTaken steps low head) (early : head ≤ start)
    → IsTurned n clauses (clauses ++ clause n clauses steps start marked parts low head search last tracing next early ∷ []) log (log ++ clause n clauses steps start marked parts low head search last tracing next early ∷ [])
    (take head steps ++ forced (turned n clauses steps start marked parts low head search last tracing next early) (length clauses) ∷ []) (record { head = head; first = (literal_at steps head).variable })
turned_of n clauses log steps start at marked parts low head search falsified below filled last tracing conflict traced next early = record {
  clause = clause n clauses steps start marked parts low head search last tracing next early;
  some = λ e. let f = ap length e in let z : length {A = Literal} [] ≡ 0 = refl in omega arith;
  is_clause = (clause_below n clauses steps start marked parts low head search last tracing next early below, turn_apart clauses steps start at marked parts low tracing traced conflict (reasons_of search) last falsified);
  follows = turn_follows clauses steps start at marked parts low tracing traced conflict (reasons_of search) last falsified;
  turns = is_turn clauses steps start at marked parts low tracing traced conflict (reasons_of search) last falsified n search below filled;
  clauses = refl;
  logged = refl;
  search = search_back n clauses steps start marked parts low head search last tracing next early;
  closed = closed_back n clauses steps start marked parts low head search last tracing next early;
  known = known_back n clauses steps start marked parts low head search last tracing next early;
}
