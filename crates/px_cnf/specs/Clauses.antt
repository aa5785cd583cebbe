-- Clauses: what assignments make of them, and what unit clauses force.
use Rattle.std.specs.Prelude.{◌≡◌, ◌≢◌, ℕ, ◌<◌, Bool, true, not, cond, List, All, Contains}
use Rattle.std.specs.List.{list_any, list_all}
use Rattle.px_cnf.specs.declared.literal.Literal.{Literal}

-- which variables are true
abbrev pub Assignment : Type 0
Assignment = ℕ → Bool

-- whether a literal is true
abbrev pub holds : Assignment → Literal → Bool
holds a l = cond l.positive (a l.variable) (not (a l.variable))

-- the literal that is true where this one is false
abbrev pub negated : Literal → Literal
negated l = record { variable = l.variable; positive = not l.positive }

-- whether some literal of a clause is true
abbrev pub is_met : Assignment → List Literal → Bool
is_met a clause = list_any (holds a) clause

-- whether each clause is true
abbrev pub are_met : Assignment → List (List Literal) → Bool
are_met a clauses = list_all (is_met a) clauses

-- the assignment makes all clauses true
abbrev pub Meets : Assignment → List (List Literal) → Type 0
Meets a clauses = are_met a clauses ≡ true

-- the variables of all literals are below a number
abbrev pub AreBelow : ℕ → List Literal → Type 0
AreBelow n ls = All (λ l. l.variable < n) ls

abbrev pub AreClausesBelow : ℕ → List (List Literal) → Type 0
AreClausesBelow n clauses = All (AreBelow n) clauses

-- What is true by unit clauses, where some literals are true: those, and a literal of a clause whose other literals are false.
pub data Forced (clauses : List (List Literal)) (given : Literal → Type 0) : Literal → Type 0 where
  is_given : {l : Literal} → given l → Forced clauses given l
  by_unit : {l : Literal} (clause : List Literal) → Contains clauses clause → Contains clause l
      → ((m : Literal) → Contains clause m → m ≢ l → Forced clauses given (negated m)) → Forced clauses given l

-- some clause is false by unit clauses
pub record IsFalsified (clauses : List (List Literal)) (given : Literal → Type 0) : Type 0 where
  pub clause : List Literal
  pub stands : Contains clauses clause
  pub is_false : (m : Literal) → Contains clause m → Forced clauses given (negated m)
