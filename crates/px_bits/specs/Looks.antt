-- What a look at the bits of conjuncts comes to.
use Rattle.std.specs.Prelude.{◌≡◌, ◌≢◌, ◌⊎◌, ℕ, ◌<◌, ◌≤◌, List, [], All, length}
use Rattle.px_terms.specs.declared.conjuncts.Conj.{Conj}
use Rattle.px_cnf.specs.Words.{AreWords}
use Rattle.px_cnf.specs.Standing.{IsComparison, AreTrueOf, StandsFor, IsFirstOther, degree_sum, most_degree_sum}
use Rattle.px_cnf.specs.declared.literal.Literal.{Literal}
use Rattle.px_cnf.specs.declared.cnf.Cnf.{Cnf}
use Rattle.px_sat.specs.Logs.{IsSearchLog}
use Rattle.px_bits.specs.declared.looks.Look.{Look}
use Rattle.px_bits.specs.declared.looks.Look.TheVariants.{Refuted, Met, Open}

-- all are comparisons of words, and their degrees aren't too many
abbrev pub HaveClauses : List Conj → Type 0
HaveClauses conjuncts = All IsComparison conjuncts × (degree_sum conjuncts ≤ most_degree_sum)

-- no words make all of them true
abbrev pub HaveNoWords : List Conj → Type 0
HaveNoWords conjuncts = (w : ℕ → ℕ) → AreWords w → ¬ AreTrueOf w conjuncts

-- some words do
abbrev pub HaveWords : List Conj → Type 0
HaveWords conjuncts = (w : ℕ → ℕ) × AreWords w × AreTrueOf w conjuncts

-- a conjunct is no comparison of words
abbrev pub HaveOther : List Conj → Type 0
HaveOther conjuncts = (n : ℕ) × IsFirstOther conjuncts n

-- all are comparisons of words, and their degrees are too many
abbrev pub AreLarge : List Conj → Type 0
AreLarge conjuncts = All IsComparison conjuncts × (most_degree_sum < degree_sum conjuncts)

-- A search over clauses that stand for them has a log of so many clauses, none of them empty.
pub record AreSpent (conflicts : ℕ) (conjuncts : List Conj) : Type 0 where
  pub cnf : Cnf
  pub stands : StandsFor cnf conjuncts
  pub log : List (List Literal)
  pub searched : IsSearchLog cnf.variables cnf.clauses log
  pub many : length log ≡ conflicts
  pub filled : All (λ c. c ≢ []) log

-- what a look at their bits comes to, where a search may learn so many clauses
abbrev pub IsLook : ℕ → List Conj → Look → Type 0
IsLook conflicts conjuncts Refuted = HaveClauses conjuncts × HaveNoWords conjuncts
IsLook conflicts conjuncts Met = HaveClauses conjuncts × HaveWords conjuncts
IsLook conflicts conjuncts Open = HaveOther conjuncts ⊎ (AreLarge conjuncts ⊎ AreSpent conflicts conjuncts)
