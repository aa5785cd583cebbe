-- Assignments of candidates to the representatives of a component, and the first that makes its conjuncts true.
use Rattle.std.specs.Prelude.{◌≡◌, ℕ, ◌%◌, ◌^◌, ◌<◌, ◌≤◌, ◌⊎◌, Option, Some, None, List, [], ◌∷◌, All, Any, Contains, length, slice_index}
use Rattle.std.specs.List.{AllZip}
use Rattle.px_terms.specs.declared.conjuncts.Conj.{Conj}
use Rattle.px_terms.specs.Variables.{mentioned}
use Rattle.px_plain.specs.Ties.{KeepsTies, IsTrueOf, IsFixed, IsFixedAt}
use Rattle.px_solver.specs.Components.{AreMembers, Selects, IsOfComponent}
use Rattle.px_solver.specs.Candidates.{candidates}

-- An assignment is a list of places in the list of candidates, one for each representative, the least
-- representative first. This is the lexicographic order, so the least representative varies slowest.
abbrev pub Before : List ℕ → List ℕ → Type 0
Before [] js = ⊥
Before (k ∷ ks) [] = ⊥
Before (k ∷ ks) (j ∷ js) = (k < j) ⊎ ((k ≡ j) × Before ks js)

-- the words give each member the candidate at its place
abbrev pub GivesCandidates : (ℕ → ℕ) → List ℕ → List ℕ → List ℕ → Type 0
GivesCandidates w values members places = AllZip (λ r k. (k < length values) × (w r % 2 ^ 32 ≡ slice_index values k % 2 ^ 32)) members places

-- it is told which variables of the conjuncts the plain equalities of all fix, and their words
pub record AreFixedWords (all conjuncts : List Conj) (fixed : ℕ → Option ℕ) : Type 0 where
  pub small : (x c : ℕ) → fixed x ≡ Some c → c < 2 ^ 32
  pub told : (x c : ℕ) → Any (λ k. Contains (mentioned k) x) conjuncts → fixed x ≡ Some c → IsFixedAt all x c
  pub others : (x : ℕ) → Any (λ k. Contains (mentioned k) x) conjuncts → fixed x ≡ None → ¬ IsFixed all x

-- the candidates of conjuncts among all
pub record AreCandidates (all conjuncts : List Conj) (values : List ℕ) : Type 0 where
  pub fixed : ℕ → Option ℕ
  pub are_fixed : AreFixedWords all conjuncts fixed
  pub are : values ≡ candidates fixed conjuncts

-- some words that keep the plain equalities follow the assignment and make the conjuncts true
pub record Makes (all : List Conj) (values members : List ℕ) (conjuncts : List Conj) (places : List ℕ) : Type 0 where
  pub words : ℕ → ℕ
  pub keep : KeepsTies words all
  pub given : GivesCandidates words values members places
  pub are_true : All (IsTrueOf words) conjuncts

-- no earlier assignment does
pub record IsFirst (all : List Conj) (values members : List ℕ) (conjuncts : List Conj) (places : List ℕ) : Type 0 where
  pub makes : Makes all values members conjuncts places
  pub first : (earlier : List ℕ) → Before earlier places → ¬ Makes all values members conjuncts earlier

-- the component of r has at most three representatives, and the words give them the first assignment that
-- makes its conjuncts true
pub record IsSolvedBy (all : List Conj) (w : ℕ → ℕ) (r : ℕ) : Type 0 where
  pub members : List ℕ
  pub conjuncts : List Conj
  pub values : List ℕ
  pub places : List ℕ
  pub are_members : AreMembers all r members
  pub few : length members ≤ 3
  pub selects : Selects (IsOfComponent all r) all conjuncts
  pub are_candidates : AreCandidates all conjuncts values
  pub given : GivesCandidates w values members places
  pub is_first : IsFirst all values members conjuncts places

-- it has more representatives, or no assignment makes its conjuncts true
pub record IsUnsolved (all : List Conj) (r : ℕ) : Type 0 where
  pub members : List ℕ
  pub conjuncts : List Conj
  pub values : List ℕ
  pub are_members : AreMembers all r members
  pub selects : Selects (IsOfComponent all r) all conjuncts
  pub are_candidates : AreCandidates all conjuncts values
  pub fails : (3 < length members) ⊎ ((places : List ℕ) → ¬ Makes all values members conjuncts places)
