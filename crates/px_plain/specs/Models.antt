-- The value of each variable, from the numbers of its node.
use Rattle.std.specs.Prelude.{◌≡◌, ℕ, ◌+◌, ◌-◌, ◌<◌, ◌≤◌, Bool, true, false, List, Some, cond, nat_eq, length, slice_get, slice_index}
use Rattle.px_terms.specs.Words.{signed}
use Rattle.px_terms.specs.Valuations.{Valuation, valuation_of, numbers_of, IsUnwritten, Fits}
use Rattle.px_terms.specs.Conjuncts.{MakesPlainTrue, IsIntVariable}
use Rattle.px_terms.specs.declared.types.ValueType.{ValueType}
use Rattle.px_terms.specs.declared.types.ValueType.TheVariants.{Int, Pointer}
use Rattle.px_terms.specs.declared.types.Value.{Value}
use Rattle.px_terms.specs.declared.types.Value.TheVariants.{Word, Null, Block, Unwritten}
use Rattle.px_terms.specs.declared.variables.VarInfo.{VarInfo}
use Rattle.px_terms.specs.declared.conjuncts.Conj.{Conj}
use Rattle.px_plain.specs.declared.nodes.Difference.{Difference}
use Rattle.px_plain.specs.Differences.{difference_at, AllHold}
use Rattle.px_plain.specs.Exclusions.{AreLeastOver, AreWords}
use Rattle.px_plain.specs.Marks.{MarksUnwritten, HasUnmarkedEnds}
use Rattle.px_plain.specs.NodeValues.{Satisfies}
use Rattle.px_plain.specs.Places.{mark_at, AreExactOver}
use Rattle.px_plain.specs.Ties.{IsRepresentative, TakesLeast, IsSamePlace, IsNullPlace, IsSaidUnwritten}

-- the place of a number: 0 is null, and x + 1 the block of the variable x
abbrev pub place_of_number : ℕ → Value
place_of_number n = cond (nat_eq n 0) Null (Block (n - 1))

-- what a variable has: nothing where its node is marked, else the word or the place of its node
abbrev pub value_of : Bool → ValueType → ℕ → ℕ → Value
value_of true t word place = Unwritten
value_of false Int word place = Word (signed word)
value_of false (Pointer t) word place = place_of_number place

-- the values are those of the nodes
pub record AreValuesOf (vars : List VarInfo) (marks : List Bool) (words places : List ℕ) (vs : List Value) : Type 0 where
  pub size : length vs ≡ length vars
  pub each : (x : ℕ) (i : VarInfo) → slice_get vars x ≡ Some i
      → valuation_of vs x ≡ value_of (mark_at marks (x + 1)) i.value (slice_index words (x + 1)) (slice_index places (x + 1))

-- ---- answers

-- one value for each variable: they fit, and make the plain conjuncts true
pub record IsPlainModel (vars : List VarInfo) (conjuncts : List Conj) (vs : List Value) : Type 0 where
  pub size : length vs ≡ length vars
  pub fits : Fits vars (valuation_of vs)
  pub plain : MakesPlainTrue (valuation_of vs) conjuncts

-- no valuation that fits makes the plain conjuncts true
abbrev pub IsPlainlyRefuted : List VarInfo → List Conj → Type 0
IsPlainlyRefuted vars conjuncts = (v : Valuation) → Fits vars v → ¬ MakesPlainTrue v conjuncts

-- Which model it is: a variable is unwritten only where a conjunct says so, each representative has the
-- least word that its conjuncts leave it, a place is null only where it must be, and a block is that of
-- the least variable of the place.
pub record IsLeastModel (vars : List VarInfo) (conjuncts : List Conj) (vs : List Value) : Type 0 where
  pub unwritten : (x : ℕ) → x < length vars → IsUnwritten (valuation_of vs x) → IsSaidUnwritten conjuncts x
  pub words : (r : ℕ) → IsIntVariable vars r → IsRepresentative conjuncts r → TakesLeast conjuncts (numbers_of (valuation_of vs)) r
  pub null : (x : ℕ) → x < length vars → valuation_of vs x ≡ Null → IsNullPlace vars conjuncts x
  pub least : (x b : ℕ) → x < length vars → valuation_of vs x ≡ Block b → b ≤ x
  pub block : (x b : ℕ) → x < length vars → valuation_of vs x ≡ Block b → IsSamePlace conjuncts x b

-- the same of the parts of the conjuncts
pub record IsModelOf (vars : List VarInfo) (words places : List Difference) (unwritten written : List ℕ) (vs : List Value) : Type 0 where
  pub size : length vs ≡ length vars
  pub fits : Fits vars (valuation_of vs)
  pub satisfies : Satisfies (valuation_of vs) words places unwritten written

abbrev pub HasNoModel : List VarInfo → List Difference → List Difference → List ℕ → List ℕ → Type 0
HasNoModel vars words places unwritten written = (v : Valuation) → Fits vars v → ¬ Satisfies v words places unwritten written

-- the least words and the exact numbers of places that values are made of
pub record AreLeastValues (vars : List VarInfo) (words places : List Difference) (unwritten : List ℕ) (vs : List Value) : Type 0 where
  pub marks : List Bool
  pub numbers : List ℕ
  pub blocks : List ℕ
  pub marked : MarksUnwritten vars unwritten (length unwritten) marks
  pub are_least : AreLeastOver words numbers
  pub are_exact : AreExactOver vars places blocks
  pub values : AreValuesOf vars marks numbers blocks vs
  pub ends : (i : ℕ) → i < length words → HasUnmarkedEnds marks (difference_at words i)
  pub are_words : AreWords (length vars + 1) numbers
  pub hold : AllHold (slice_index numbers) words
  pub below : (v : ℕ) → v < length vars + 1 → slice_index blocks v ≤ v
