-- Which contents a cell, a parameter or a result can have, and what they mention.
use Rattle.std.specs.Prelude.{ℕ, ◌&&◌, Bool, true, false, List, [], ◌∷◌}
use Rattle.px_terms.specs.Variables.{variables_of, place_variables}
use Rattle.px_terms.specs.Substitutions.{variable}
use Rattle.px_terms.specs.declared.types.ValueType.{ValueType}
use Rattle.px_terms.specs.declared.types.ValueType.TheVariants.{Int, Pointer}
use Rattle.px_terms.specs.declared.variables.VarInfo.{VarInfo}
use Rattle.px_terms.specs.declared.conjuncts.Place.TheVariants as place
use Rattle.px_terms.specs.declared.conjuncts.Content.{Content}
use Rattle.px_terms.specs.declared.conjuncts.Content.TheVariants.{Unwritten, Word, Place, Cell}
use Rattle.px_entry.specs.Sorts.{is_cell, has_type, is_int_polynomial, is_pointer_place, is_place_of}

-- what stands in a cell of this type that was there before
abbrev pub is_cell_of : List VarInfo → ValueType → ℕ → Bool
is_cell_of vars t x = is_cell vars x && has_type vars t x

-- A written value of a type: a word in an `int`, and null or a pointer to that block type in a pointer.
abbrev pub is_written_of : List VarInfo → ValueType → Content → Bool
is_written_of vars Int (Word p) = is_int_polynomial vars p
is_written_of vars (Pointer t) (Place a) = is_place_of vars t a
is_written_of vars Int (Place a) = false
is_written_of vars (Pointer t) (Word p) = false
is_written_of vars t Unwritten = false
is_written_of vars t (Cell x) = false

-- What a cell or a result of a type may hold: nothing that was written, what stands in another such cell, or
-- a written value.
abbrev pub fits_cell : List VarInfo → ValueType → Content → Bool
fits_cell vars t Unwritten = true
fits_cell vars t (Cell x) = is_cell_of vars t x.0
fits_cell vars t (Word p) = is_written_of vars t (Word p)
fits_cell vars t (Place a) = is_written_of vars t (Place a)

-- the same of some type
abbrev pub fits_some_type : List VarInfo → Content → Bool
fits_some_type vars Unwritten = true
fits_some_type vars (Cell x) = is_cell vars x.0
fits_some_type vars (Word p) = is_int_polynomial vars p
fits_some_type vars (Place a) = is_pointer_place vars a

-- contents of these types, in order
abbrev pub fit_each : (ValueType → Content → Bool) → List ValueType → List Content → Bool
fit_each fits [] [] = true
fit_each fits [] (c ∷ cs) = false
fit_each fits (t ∷ ts) [] = false
fit_each fits (t ∷ ts) (c ∷ cs) = fits t c && fit_each fits ts cs

-- the variables by which a content is a word or a place
abbrev pub content_variables : Content → List ℕ
content_variables Unwritten = []
content_variables (Word p) = variables_of p
content_variables (Place a) = place_variables a
content_variables (Cell x) = []

-- the cell variable that a content is
abbrev pub cell_variables : Content → List ℕ
cell_variables Unwritten = []
cell_variables (Word p) = []
cell_variables (Place a) = []
cell_variables (Cell x) = x.0 ∷ []

-- a variable as a written content
abbrev pub variable_content : ValueType → ℕ → Content
variable_content Int x = Word (variable x)
variable_content (Pointer t) x = Place (place.Var (record { 0 = x }))
