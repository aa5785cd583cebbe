-- An order of procedures, in which each stands after all that it calls below.
use Rattle.std.specs.Prelude.{◌≡◌, ◌≢◌, ℕ, ◌<◌, ◌≤◌, List, length, Bool, false, Option, Some, All, AllPairs, Any, slice_get}
use Rattle.px_core.specs.BodyTree.{BodyTree}
use Rattle.px_callgraph.specs.CallGraphs.{IsGraphOf}
use Rattle.px_callgraph.specs.Ranks.{IsRank}
use Rattle.px_findings.specs.declared.order.Turn.{Turn}

-- a procedure that isn't too large, with its rank
pub record IsTurn (graph : List (List ℕ)) (large : List Bool) (t : Turn) : Type 0 where
  pub small : slice_get large t.number ≡ Some false
  pub ranked : (bodies : ℕ → Option BodyTree) → IsGraphOf bodies graph → IsRank bodies (length graph) t.number t.rank

-- the turns of two procedures, the first of no higher rank
pub record IsBefore (s t : Turn) : Type 0 where
  pub rank : s.rank ≤ t.rank
  pub other : s.number ≢ t.number

-- the procedures that aren't too large, each once, by their ranks
pub record AreTurns (graph : List (List ℕ)) (large : List Bool) (order : List Turn) : Type 0 where
  pub each : All (IsTurn graph large) order
  pub all : (n : ℕ) → slice_get large n ≡ Some false → Any (λ (t : Turn). t.number ≡ n) order
  pub in_order : AllPairs IsBefore order

-- the same of the procedures below n, by their numbers
pub record AreRising (graph : List (List ℕ)) (large : List Bool) (n : ℕ) (order : List Turn) : Type 0 where
  pub each : All (λ (t : Turn). (t.number < n) × IsTurn graph large t) order
  pub all : (m : ℕ) → m < n → slice_get large m ≡ Some false → Any (λ (t : Turn). t.number ≡ m) order
  pub in_order : AllPairs (λ (s t : Turn). s.number < t.number) order

-- of equal ranks the numbers rise
abbrev pub RiseInRanks : List Turn → Type 0
RiseInRanks order = AllPairs (λ (s t : Turn). s.rank ≡ t.rank → s.number < t.number) order
