-- Valuations: what values variables have, and which of them fit a list of variables.
--
-- A valuation is a function of all numbers. Block numbers have no bound, so that there is always a
-- block more; a word is an integer from -2^31 to 2^31 - 1.
use Rattle.std.specs.Prelude.{◌≡◌, ◌≢◌, ℕ, List, Some, ⊤, length, FitsSigned, slice_get, slice_index_or}
use Rattle.std.specs.Int.{w32}
use Rattle.px_terms.specs.Words.{word}
use Rattle.px_terms.specs.declared.types.TypeId.{TypeId}
use Rattle.px_terms.specs.declared.types.ValueType.{ValueType}
use Rattle.px_terms.specs.declared.types.ValueType.TheVariants.{Int, Pointer}
use Rattle.px_terms.specs.declared.types.Value.{Value}
use Rattle.px_terms.specs.declared.types.Value.TheVariants.{Word, Null, Block, Unwritten}
use Rattle.px_terms.specs.declared.variables.Sort.{Sort}
use Rattle.px_terms.specs.declared.variables.Sort.TheVariants.{Given, Cell, Input, Made}
use Rattle.px_terms.specs.declared.variables.VarInfo.{VarInfo}

-- the value of each variable, by its number
abbrev pub Valuation : Type 0
Valuation = ℕ → Value

-- the values in their order, and nothing written beyond them
abbrev pub valuation_of : List Value → Valuation
valuation_of values n = slice_index_or values n Unwritten

abbrev pub IsWord : Value → Type 0
IsWord (Word z) = ⊤
IsWord Null = ⊥
IsWord (Block b) = ⊥
IsWord Unwritten = ⊥

-- null or a block
abbrev pub IsPlace : Value → Type 0
IsPlace (Word z) = ⊥
IsPlace Null = ⊤
IsPlace (Block b) = ⊤
IsPlace Unwritten = ⊥

abbrev pub IsBlock : Value → Type 0
IsBlock (Word z) = ⊥
IsBlock Null = ⊥
IsBlock (Block b) = ⊤
IsBlock Unwritten = ⊥

abbrev pub IsUnwritten : Value → Type 0
IsUnwritten (Word z) = ⊥
IsUnwritten Null = ⊥
IsUnwritten (Block b) = ⊥
IsUnwritten Unwritten = ⊤

-- the word of a value, as a number below 2^32; 0 where it isn't a word
abbrev pub number_of : Value → ℕ
number_of (Word z) = word z
number_of Null = 0
number_of (Block b) = 0
number_of Unwritten = 0

-- the numbers of the values
abbrev pub numbers_of : Valuation → ℕ → ℕ
numbers_of v x = number_of (v x)

-- a written value of the type: a word of 32 bits, or null or a block
abbrev pub HasType : ValueType → Value → Type 0
HasType Int (Word z) = FitsSigned w32 z
HasType Int Null = ⊥
HasType Int (Block b) = ⊥
HasType Int Unwritten = ⊥
HasType (Pointer t) v = IsPlace v

-- what a variable of this sort and type may have: only the content of a cell may be unwritten, and
-- what `malloc` made is a block
abbrev pub FitsSort : Sort → ValueType → Value → Type 0
FitsSort Given t v = HasType t v
FitsSort Cell t Unwritten = ⊤
FitsSort Cell t (Word z) = HasType t (Word z)
FitsSort Cell t Null = HasType t Null
FitsSort Cell t (Block b) = HasType t (Block b)
FitsSort Input t v = HasType t v
FitsSort Made t v = HasType t v × IsBlock v

-- a valuation fits a list of variables
pub record Fits (vars : List VarInfo) (v : Valuation) : Type 0 where
  pub sorts : (x : ℕ) (i : VarInfo) → slice_get vars x ≡ Some i → FitsSort i.sort i.value (v x)
  -- a made block is that of no other variable
  pub made : (x y : ℕ) (i j : VarInfo) → slice_get vars x ≡ Some i → slice_get vars y ≡ Some j → i.sort ≡ Made → x ≢ y → v x ≢ v y
  -- a block has one type
  pub types : (x y : ℕ) (i j : VarInfo) (s t : TypeId) (b : ℕ) → slice_get vars x ≡ Some i → slice_get vars y ≡ Some j
      → i.value ≡ Pointer s → j.value ≡ Pointer t → v x ≡ Block b → v y ≡ Block b → s ≡ t

-- values fit a list of variables together, one for each
pub record FitTogether (vars : List VarInfo) (values : List Value) : Type 0 where
  pub size : length values ≡ length vars
  pub fits : Fits vars (valuation_of values)
