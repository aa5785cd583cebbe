-- Logs: lists of clauses, each of which follows by unit clauses from what stands before it.
use Rattle.std.specs.Prelude.{◌≡◌, ◌≢◌, ℕ, ◌<◌, true, false, List, [], ◌∷◌, ◌++◌, All, Contains, ⊤, ◌⊎◌}
use Rattle.px_cnf.specs.Clauses.{negated, AreBelow, Forced, IsFalsified}
use Rattle.px_cnf.specs.declared.literal.Literal.{Literal}

-- the literals of a clause are taken as false
abbrev pub IsDenied : List Literal → Literal → Type 0
IsDenied clause l = Contains clause (negated l)

-- where all its literals are taken as false, some clause is false by unit clauses
abbrev pub Follows : List (List Literal) → List Literal → Type 0
Follows clauses clause = IsFalsified clauses (IsDenied clause)

-- no variable stands twice
abbrev pub AreApart : List Literal → Type 0
AreApart [] = ⊤
AreApart (l ∷ ls) = All (λ m. m.variable ≢ l.variable) ls × AreApart ls

-- over the first n variables, each at most once
abbrev pub IsClause : ℕ → List Literal → Type 0
IsClause n clause = AreBelow n clause × AreApart clause

-- each clause follows from those before it
abbrev pub IsLog : ℕ → List (List Literal) → List (List Literal) → Type 0
IsLog n clauses [] = ⊤
IsLog n clauses (clause ∷ log) = IsClause n clause × Follows clauses clause × IsLog n (clauses ++ clause ∷ []) log

-- ---- the search

abbrev pub is_true : ℕ → Literal
is_true x = record { variable = x; positive = true }

abbrev pub is_false : ℕ → Literal
is_false x = record { variable = x; positive = false }

-- the variables that were decided are false
abbrev pub IsDecided : List ℕ → Literal → Type 0
IsDecided decided l = (l.positive ≡ false) × Contains decided l.variable

-- unit clauses give the variable a value
abbrev pub IsKnown : List (List Literal) → List ℕ → ℕ → Type 0
IsKnown clauses decided x = Forced clauses (IsDecided decided) (is_true x) ⊎ Forced clauses (IsDecided decided) (is_false x)

-- The variables that the search decides, the last first: while no clause is false, the least that has no value, as false.
pub data Decides (n : ℕ) (clauses : List (List Literal)) : List ℕ → Type 0 where
  nothing : Decides n clauses []
  next : (x : ℕ) (decided : List ℕ) → Decides n clauses decided → (IsFalsified clauses (IsDecided decided) → ⊥)
      → x < n → (IsKnown clauses decided x → ⊥) → ((y : ℕ) → y < x → IsKnown clauses decided y) → Decides n clauses (x ∷ decided)

-- the clause turns the last decision: it has that variable, and its other literals were false before
abbrev pub TurnsLast : List (List Literal) → List ℕ → List Literal → Type 0
TurnsLast clauses [] clause = clause ≡ []
TurnsLast clauses (x ∷ decided) clause =
    Contains clause (is_true x) × ((m : Literal) → Contains clause m → m ≢ is_true x → Forced clauses (IsDecided decided) (negated m))

-- the search comes to decisions by which some clause is false, and the clause turns the last
pub record IsTurn (n : ℕ) (clauses : List (List Literal)) (clause : List Literal) : Type 0 where
  pub decided : List ℕ
  pub decides : Decides n clauses decided
  pub falsified : IsFalsified clauses (IsDecided decided)
  pub turns : TurnsLast clauses decided clause

-- each clause of a log turns the last decision of the search over what stands before it
abbrev pub AreTurns : ℕ → List (List Literal) → List (List Literal) → Type 0
AreTurns n clauses [] = ⊤
AreTurns n clauses (clause ∷ log) = IsTurn n clauses clause × AreTurns n (clauses ++ clause ∷ []) log

-- a log of the search
abbrev pub IsSearchLog : ℕ → List (List Literal) → List (List Literal) → Type 0
IsSearchLog n clauses log = IsLog n clauses log × AreTurns n clauses log
