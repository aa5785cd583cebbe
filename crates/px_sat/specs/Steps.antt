-- What is known in a search: literals that are true, the first first. Each was taken, or a clause forced it.
use Rattle.std.specs.Prelude.{◌≡◌, ◌≢◌, ℕ, ◌<◌, false, List, [], ◌∷◌, ◌++◌, Contains, None, Some, length, slice_get, slice_index_or, map, ◌⊎◌}
use Rattle.px_cnf.specs.Clauses.{negated}
use Rattle.px_cnf.specs.declared.literal.Literal.{Literal}
use Rattle.px_sat.specs.declared.step.Step.{Step}
use Rattle.px_sat.specs.Logs.{is_true, is_false}

-- the literals of the steps
abbrev pub literals : List Step → List Literal
literals steps = map (λ s. s.literal) steps

-- the literal is true by a step
abbrev pub IsTrue : List Step → Literal → Type 0
IsTrue steps l = Contains (literals steps) l

-- no step says anything of the literal's variable
abbrev pub IsNew : List Step → Literal → Type 0
IsNew steps l = (m : Literal) → IsTrue steps m → m.variable ≢ l.variable

-- the variable has a value
abbrev pub HasValue : List Step → ℕ → Type 0
HasValue steps x = IsTrue steps (is_true x) ⊎ IsTrue steps (is_false x)

-- ---- by their places

abbrev pub variables_of : List Step → List ℕ
variables_of steps = map (λ s. s.literal.variable) steps

-- the literal of the step at this place
abbrev pub literal_at : List Step → ℕ → Literal
literal_at steps p = slice_index_or (literals steps) p (record { variable = 0; positive = false })

-- the step at this place is the variable's
abbrev pub IsPlaceOf : List Step → ℕ → ℕ → Type 0
IsPlaceOf steps x p = (p < length steps) × ((literal_at steps p).variable ≡ x)

-- no step is the variable's
abbrev pub NoneHas : List Step → ℕ → Type 0
NoneHas steps x = (p : ℕ) → IsPlaceOf steps x p → ⊥

-- each step is on a variable of its own
abbrev pub AreDistinct : List Step → Type 0
AreDistinct steps = (p q : ℕ) → p < length steps → q < length steps → (literal_at steps p).variable ≡ (literal_at steps q).variable → p ≡ q

-- ---- what they rest on

-- a literal that was taken, and one that the clause at a place forced
abbrev pub taken : Literal → Step
taken l = record { literal = l; reason = None }

abbrev pub forced : Literal → ℕ → Step
forced l at = record { literal = l; reason = Some at }

-- the clause at this place has the literal, and all its others are false
pub record IsReason (clauses : List (List Literal)) (steps : List Step) (l : Literal) (at : ℕ) : Type 0 where
  pub clause : List Literal
  pub stands : slice_get clauses at ≡ Some clause
  pub there : Contains clause l
  pub others : (m : Literal) → Contains clause m → m ≢ l → IsTrue steps (negated m)

-- Steps, each on a new variable: a literal that may be taken there, or one that a clause forces.
pub data AreSteps (clauses : List (List Literal)) (may : List Step → Literal → Type 0) : List Step → Type 0 where
  begun : {steps : List Step} → steps ≡ [] → AreSteps clauses may steps
  takes : {steps : List Step} (before : List Step) (l : Literal) → AreSteps clauses may before → IsNew before l → may before l
      → steps ≡ before ++ taken l ∷ [] → AreSteps clauses may steps
  forces : {steps : List Step} (before : List Step) (l : Literal) (at : ℕ) → AreSteps clauses may before → IsNew before l → IsReason clauses before l at
      → steps ≡ before ++ forced l at ∷ [] → AreSteps clauses may steps

-- where the false literals of a clause leave one, it is true
abbrev pub ForcesWithin : List Literal → List Step → List Step → Type 0
ForcesWithin clause before after = (l : Literal) → Contains clause l → ((m : Literal) → Contains clause m → m ≢ l → IsTrue before (negated m)) → IsTrue after l

-- each clause that the first steps leave one literal of has it among the steps
abbrev pub IsClosedTo : List (List Literal) → List Step → List Step → Type 0
IsClosedTo clauses before after = (clause : List Literal) → Contains clauses clause → ForcesWithin clause before after

abbrev pub IsClosed : List (List Literal) → List Step → Type 0
IsClosed clauses steps = IsClosedTo clauses steps steps

-- each literal of the clause at this place is false
pub record IsFalseAt (clauses : List (List Literal)) (steps : List Step) (at : ℕ) : Type 0 where
  pub clause : List Literal
  pub stands : slice_get clauses at ≡ Some clause
  pub is_false : (m : Literal) → Contains clause m → IsTrue steps (negated m)

-- no clause is empty
abbrev pub HasNoEmpty : List (List Literal) → Type 0
HasNoEmpty clauses = Contains clauses [] → ⊥
