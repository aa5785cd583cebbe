-- What a search comes to.
use Rattle.std.specs.Prelude.{◌≡◌, ◌≢◌, ◌↔◌, ℕ, ◌<◌, Bool, true, false, List, [], ◌∷◌, ◌++◌, All, length, slice_index_or}
use Rattle.px_cnf.specs.Clauses.{Assignment, Meets}
use Rattle.px_cnf.specs.declared.literal.Literal.{Literal}
use Rattle.px_sat.specs.declared.step.Step.{Step}
use Rattle.px_sat.specs.Steps.{IsTrue}
use Rattle.px_sat.specs.Logs.{is_true, IsLog, IsSearchLog}
use Rattle.px_sat.specs.declared.verdict.Verdict.{Verdict}
use Rattle.px_sat.specs.declared.verdict.Verdict.TheVariants.{Met, Unmet, Spent}

-- the assignment of a list of values
abbrev pub assigned : List Bool → Assignment
assigned values x = slice_index_or values x false

-- the values that the steps give the first n variables
pub record AreValues (steps : List Step) (n : ℕ) (values : List Bool) : Type 0 where
  pub all : length values ≡ n
  pub each : (x : ℕ) → x < n → (slice_index_or values x false ≡ true) ↔ IsTrue steps (is_true x)

-- its last clause is empty
abbrev pub EndsEmpty : List (List Literal) → Type 0
EndsEmpty log = (before : List (List Literal)) × (log ≡ before ++ [] ∷ [])

-- the clauses can't all be met
abbrev pub IsRefutation : ℕ → List (List Literal) → List (List Literal) → Type 0
IsRefutation n clauses log = IsLog n clauses log × EndsEmpty log

abbrev pub IsVerdict : ℕ → List (List Literal) → ℕ → Verdict → Type 0
IsVerdict n clauses conflicts (Met values) = (length values.items ≡ n) × Meets (assigned values.items) clauses
IsVerdict n clauses conflicts (Unmet log) = IsSearchLog n clauses log.items × EndsEmpty log.items
IsVerdict n clauses conflicts (Spent log) = IsSearchLog n clauses log.items × (length log.items ≡ conflicts) × All (λ c. c ≢ []) log.items
