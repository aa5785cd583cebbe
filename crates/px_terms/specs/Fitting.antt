-- Which values fit variables, variable by variable.
use Rattle.std.specs.Prelude.{◌≡◌, ◌≢◌, ℕ, ◌<◌, List, slice_index_or, ⊤}
use Rattle.px_terms.specs.Valuations.{valuation_of, IsBlock, FitsSort}
use Rattle.px_terms.specs.declared.types.ValueType.{ValueType}
use Rattle.px_terms.specs.declared.types.ValueType.TheVariants.{Int, Pointer}
use Rattle.px_terms.specs.declared.types.Value.{Value}
use Rattle.px_terms.specs.declared.variables.Sort.TheVariants.{Given, Made}
use Rattle.px_terms.specs.declared.variables.VarInfo.{VarInfo}

abbrev pub info_at : List VarInfo → ℕ → VarInfo
info_at vars x = slice_index_or vars x (record { sort = Given; value = Int })

-- they aren't pointers of different types
abbrev pub HaveOneType : ValueType → ValueType → Type 0
HaveOneType Int j = ⊤
HaveOneType (Pointer s) Int = ⊤
HaveOneType (Pointer s) (Pointer t) = s ≡ t

-- two variables have different values, or one that both may have
pub record StandApart (i : VarInfo) (a : Value) (j : VarInfo) (b : Value) : Type 0 where
  pub first : i.sort ≡ Made → a ≢ b
  pub second : j.sort ≡ Made → a ≢ b
  pub types : a ≡ b → HaveOneType i.value j.value

-- x stands apart from each of the first n variables
abbrev pub StandsApartBelow : List VarInfo → List Value → ℕ → ℕ → Type 0
StandsApartBelow vars values n x = (y : ℕ) → y < n → StandApart (info_at vars y) (valuation_of values y) (info_at vars x) (valuation_of values x)

-- x has a value of its sort and type, and stands apart from the variables before it where that is a block
pub record FitsAt (vars : List VarInfo) (values : List Value) (x : ℕ) : Type 0 where
  pub sort : FitsSort (info_at vars x).sort (info_at vars x).value (valuation_of values x)
  pub apart : IsBlock (valuation_of values x) → StandsApartBelow vars values x x
