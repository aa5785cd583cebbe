-- The model of a list that is found.
use Rattle.std.specs.Prelude.{◌≡◌, ℕ, zero, suc, ◌+◌, ◌<◌, ◌⊎◌, List, length}
use Rattle.px_terms.specs.Valuations.{valuation_of, numbers_of, IsWord, IsUnwritten}
use Rattle.px_terms.specs.Conjuncts.{IsIntVariable, IsPointerVariable}
use Rattle.px_terms.specs.declared.types.Value.{Value}
use Rattle.px_terms.specs.declared.types.Value.TheVariants.{Null, Block}
use Rattle.px_terms.specs.declared.variables.VarInfo.{VarInfo}
use Rattle.px_terms.specs.declared.conjuncts.Conj.{Conj}
use Rattle.px_plain.specs.Ties.{KeepsTies, IsRepresentative, TakesLeast, IsSamePlace, IsNullPlace, IsSaidUnwritten}
use Rattle.px_solver.specs.Components.{IsHard, IsHardComponent}
use Rattle.px_solver.specs.Assignments.{IsSolvedBy}

-- ---- places

-- y is the least variable that is the same place as x
pub record IsLeastSame (conjuncts : List Conj) (x y : ℕ) : Type 0 where
  pub same : IsSamePlace conjuncts x y
  pub least : (z : ℕ) → z < y → ¬ IsSamePlace conjuncts x z

-- x is a written pointer that isn't null, and the least variable of its place
pub record IsNumbered (vars : List VarInfo) (conjuncts : List Conj) (x : ℕ) : Type 0 where
  pub pointer : IsPointerVariable vars x
  pub written : ¬ IsSaidUnwritten conjuncts x
  pub block : ¬ IsNullPlace vars conjuncts x
  pub least : IsLeastSame conjuncts x x

-- P holds of k numbers below n
abbrev pub Counts : (ℕ → Type 0) → ℕ → ℕ → Type 0
Counts P zero k = k ≡ 0
Counts P (suc n) k = (P n × ((j : ℕ) × (k ≡ j + 1) × Counts P n j)) ⊎ ((¬ P n) × Counts P n k)

-- x is a block, numbered from 1 by the least variables of the places
pub record HasBlock (vars : List VarInfo) (conjuncts : List Conj) (x : ℕ) (a : Value) : Type 0 where
  pub block : ¬ IsNullPlace vars conjuncts x
  pub first : ℕ
  pub earlier : ℕ
  pub is_first : IsLeastSame conjuncts x first
  pub are_earlier : Counts (IsNumbered vars conjuncts) first earlier
  pub value : a ≡ Block (earlier + 1)

-- x has null where it must, and else the block of its place
abbrev pub HasPlace : List VarInfo → List Conj → ℕ → Value → Type 0
HasPlace vars conjuncts x a = (IsNullPlace vars conjuncts x × (a ≡ Null)) ⊎ HasBlock vars conjuncts x a

-- ---- all values

pub record IsModel (vars : List VarInfo) (conjuncts : List Conj) (vs : List Value) : Type 0 where
  pub size : length vs ≡ length vars
  pub unwritten : (x : ℕ) → x < length vars → IsSaidUnwritten conjuncts x → IsUnwritten (valuation_of vs x)
  pub words : (x : ℕ) → IsIntVariable vars x → ¬ IsSaidUnwritten conjuncts x → IsWord (valuation_of vs x)
  pub places : (x : ℕ) → IsPointerVariable vars x → ¬ IsSaidUnwritten conjuncts x → HasPlace vars conjuncts x (valuation_of vs x)
  pub keep : KeepsTies (numbers_of (valuation_of vs)) conjuncts
  -- a component with a conjunct that isn't plain has its first assignment
  pub searched : (r : ℕ) → IsHardComponent conjuncts r → IsSolvedBy conjuncts (numbers_of (valuation_of vs)) r
  -- every other representative has the least word that its plain conjuncts leave it
  pub least : (r : ℕ) → IsIntVariable vars r → IsRepresentative conjuncts r → ¬ IsHard conjuncts r → TakesLeast conjuncts (numbers_of (valuation_of vs)) r
