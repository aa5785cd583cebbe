-- What is known where no literal was taken, and where the literals of a clause are taken as false.
use Rattle.std.specs.Prelude.{◌≡◌, true, false, List, [], ◌∷◌, ◌++◌, Contains, ◌⊎◌}
use Rattle.px_cnf.specs.Clauses.{negated}
use Rattle.px_cnf.specs.declared.literal.Literal.{Literal}
use Rattle.px_sat.specs.declared.step.Step.{Step}
use Rattle.px_sat.specs.declared.accepting.Checker.{Checker}
use Rattle.px_sat.specs.Logs.{IsDenied, Follows}
use Rattle.px_sat.specs.Steps.{IsTrue, IsNew, IsClosed, HasNoEmpty, taken}
use Rattle.px_sat.specs.Searches.{Extends}

-- unit clauses alone gave the steps, all of them, and no clause is false
pub record IsBase (clauses : List (List Literal)) (steps : List Step) : Type 0 where
  pub extends : Extends clauses [] steps
  pub closed : IsClosed clauses steps
  pub filled : HasNoEmpty clauses

-- these clauses were taken in, or unit clauses refute them
pub record IsChecked (checker : Checker) (all : List (List Literal)) : Type 0 where
  pub same : checker.refuted ≡ false → checker.clauses ≡ all
  pub base : checker.refuted ≡ false → IsBase checker.clauses checker.trail
  pub refuted : checker.refuted ≡ true → Follows all []

-- the literal was false, or its negation was taken
abbrev pub IsSetFalse : List Step → Literal → List Step → Type 0
IsSetFalse old l new = ((new ≡ old) × IsTrue old (negated l)) ⊎ (IsNew old (negated l) × (new ≡ old ++ taken (negated l) ∷ []))

-- negations of a clause's literals were taken after the others
pub data Denies (clause : List Literal) (old : List Step) : List Step → Type 0 where
  none_yet : {new : List Step} → new ≡ old → Denies clause old new
  one_more : {new : List Step} (before : List Step) (l : Literal) → Denies clause old before → IsNew before l → IsDenied clause l → new ≡ before ++ taken l ∷ [] → Denies clause old new

-- each literal of the clause is false
abbrev pub AreFalse : List Step → List Literal → Type 0
AreFalse steps clause = (m : Literal) → Contains clause m → IsTrue steps (negated m)

-- some literal of the clause was true
abbrev pub SomeTrue : List Step → List Literal → Type 0
SomeTrue steps clause = (l : Literal) × Contains clause l × IsTrue steps l
