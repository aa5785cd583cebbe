-- Regular entries: what can be said of any path of a procedure, whoever claims to have found it.
use Rattle.std.specs.Prelude.{◌≡◌, ℕ, zero, suc, ◌&&◌, ◌||◌, not, Bool, true, false, IsTrue, nat_eq, List, [], ◌∷◌, ◌++◌, length, map, take, flat_map, Option, Some, None, count_by, slice_get, ⊤}
use Rattle.std.specs.List.{list_all, list_any}
use Rattle.px_terms.specs.Types.{types_of}
use Rattle.px_terms.specs.Variables.{mentioned}
use Rattle.px_terms.specs.declared.types.BlockType.{BlockType}
use Rattle.px_terms.specs.declared.types.ValueType.{ValueType}
use Rattle.px_terms.specs.declared.types.ValueType.TheVariants.{Pointer}
use Rattle.px_terms.specs.declared.variables.VarInfo.{VarInfo}
use Rattle.px_terms.specs.declared.conjuncts.Content.{Content}
use Rattle.px_terms.specs.declared.conjuncts.Content.TheVariants as content
use Rattle.px_terms.specs.declared.conjuncts.Conj.{Conj}
use Rattle.px_terms.specs.declared.conjuncts.Conj.TheVariants.{Equal, Unequal, Less, AtMost, SamePlace, OtherPlace, Written, Unwritten, Quotient}
use Rattle.px_entry.specs.declared.atoms.Atom.{Atom}
use Rattle.px_entry.specs.declared.atoms.AtomState.{AtomState}
use Rattle.px_entry.specs.declared.atoms.AtomState.TheVariants.{Live, Freed}
use Rattle.px_entry.specs.declared.entries.Entry.{Entry}
use Rattle.px_entry.specs.Sorts.{is_given_sort, is_cell_sort, is_input_sort, is_made_sort, is_int_type, is_given, is_cell, is_input, has_type, is_well_sorted}
use Rattle.px_entry.specs.Equality.{same_conjunct}
use Rattle.px_entry.specs.Contents.{is_cell_of, fits_cell, fits_some_type, fit_each, content_variables, cell_variables}
use Rattle.px_entry.specs.Constraint.{found_atoms, made_atoms}

-- ---- variables

-- the first n variables are given, and no other is
abbrev pub are_given : ℕ → List VarInfo → Bool
are_given zero vars = list_all (λ (i : VarInfo). not (is_given_sort i.sort)) vars
are_given (suc n) [] = false
are_given (suc n) (i ∷ vars) = is_given_sort i.sort && are_given n vars

-- each input is an `int`
abbrev pub are_inputs_words : List VarInfo → Bool
are_inputs_words vars = list_all (λ (i : VarInfo). not (is_input_sort i.sort) || is_int_type i.value) vars

-- the number stands once in the list
abbrev pub stands_once : List ℕ → ℕ → Bool
stands_once xs x = nat_eq (count_by (nat_eq x) xs) 1

-- each variable of such a sort stands once in the list; n is the number of the first
abbrev pub each_once : (VarInfo → Bool) → List ℕ → ℕ → List VarInfo → Bool
each_once is_such xs n [] = true
each_once is_such xs n (i ∷ vars) = (not (is_such i) || stands_once xs n) && each_once is_such xs (suc n) vars

-- ---- atoms

-- the place points to the atom's block type
abbrev pub points_to_block : List VarInfo → Atom → Bool
points_to_block vars a = has_type vars (Pointer a.block) a.place.0

-- freed, or one content for each cell of the block type, which fits
abbrev pub fits_state : (ValueType → Content → Bool) → List ValueType → AtomState → Bool
fits_state fits ts (Live cells) = fit_each fits ts cells
fits_state fits ts Freed = true

abbrev pub fits_block : List BlockType → (ValueType → Content → Bool) → Atom → Bool
fits_block types fits a = fits_state fits (types_of (slice_get types a.block.0)) a.state

-- a variable for what stands in a cell of this type
abbrev pub is_own_cell : List VarInfo → ValueType → Content → Bool
is_own_cell vars t content.Unwritten = false
is_own_cell vars t (content.Word p) = false
is_own_cell vars t (content.Place a) = false
is_own_cell vars t (content.Cell x) = is_cell_of vars t x.0

abbrev pub state_cells : AtomState → List Content
state_cells (Live cells) = cells
state_cells Freed = []

-- the cell variables that atoms have as contents
abbrev pub cells_of : List Atom → List ℕ
cells_of atoms = flat_map (λ (a : Atom). flat_map cell_variables (state_cells a.state)) atoms

-- the place of each is given, or the content of a cell of an earlier one
abbrev pub are_reached : List VarInfo → List ℕ → List Atom → Bool
are_reached vars cells [] = true
are_reached vars cells (a ∷ rest) =
    (is_given vars a.place.0 || list_any (nat_eq a.place.0) cells) && are_reached vars (cells ++ cells_of (a ∷ [])) rest

-- the same places and block types, in order
abbrev pub same_blocks : List Atom → List Atom → Bool
same_blocks [] [] = true
same_blocks [] (b ∷ bs) = false
same_blocks (a ∷ rest) [] = false
same_blocks (a ∷ rest) (b ∷ bs) = nat_eq a.place.0 b.place.0 && nat_eq a.block.0 b.block.0 && same_blocks rest bs

-- ---- quotients

-- a quotient is an input: it is a word that the run itself gives
abbrev pub is_quotient_input : List VarInfo → Conj → Bool
is_quotient_input vars (Equal p) = true
is_quotient_input vars (Unequal p) = true
is_quotient_input vars (Less p q) = true
is_quotient_input vars (AtMost p q) = true
is_quotient_input vars (SamePlace a b) = true
is_quotient_input vars (OtherPlace a b) = true
is_quotient_input vars (Written x) = true
is_quotient_input vars (Unwritten x) = true
is_quotient_input vars (Quotient x p q) = is_input vars x.0

-- ---- what was written

-- the variables that a conjunct uses as words or places, or says to be written
abbrev pub used_by_conjunct : Conj → List ℕ
used_by_conjunct (Unwritten x) = []
used_by_conjunct c = mentioned c

abbrev pub used_by_atom : Atom → List ℕ
used_by_atom a = a.place.0 ∷ flat_map content_variables (state_cells a.state)

abbrev pub used_by_result : Option Content → List ℕ
used_by_result None = []
used_by_result (Some c) = content_variables c

-- the variables that an entry uses as words or places
abbrev pub used_variables : Entry → List ℕ
used_variables x = flat_map used_by_conjunct x.pure ++ flat_map used_by_atom x.pre ++ flat_map used_by_atom x.post ++ used_by_result x.result

abbrev pub is_said_written : List Conj → ℕ → Bool
is_said_written pure x = list_any (same_conjunct (Written (record { 0 = x }))) pure

-- a cell that is used as a word or a place is said to be written
abbrev pub is_used_written : Entry → ℕ → Bool
is_used_written e x = not (is_cell e.vars x) || is_said_written e.pure x

-- ---- regular entries

abbrev pub is_result : List VarInfo → Option Content → Bool
is_result vars None = true
is_result vars (Some c) = fits_some_type vars c

-- the first n variables are the given ones, and inputs are words
abbrev pub are_variables_regular : ℕ → Entry → Bool
are_variables_regular n x = are_given n x.vars && are_inputs_words x.vars

-- Each atom that is found is freed or has a variable of its own in each cell, and each cell variable stands there
-- once. Its place points to its block type, and is given or the content of a cell of an earlier one.
abbrev pub is_pre_regular : List BlockType → Entry → Bool
is_pre_regular types x =
    list_all (points_to_block x.vars) x.pre
    && list_all (fits_block types (is_own_cell x.vars)) x.pre
    && each_once (λ i. is_cell_sort i.sort) (cells_of x.pre) 0 x.vars
    && are_reached x.vars [] x.pre

-- The atoms that are left fit their block types. They are those that were found, with the same places and block
-- types, and among them those that were made: each made variable is the place of one.
abbrev pub is_post_regular : List BlockType → Entry → Bool
is_post_regular types x =
    list_all (points_to_block x.vars) x.post
    && list_all (fits_block types (fits_cell x.vars)) x.post
    && same_blocks x.pre (found_atoms x.vars x.post)
    && each_once (λ i. is_made_sort i.sort) (map (λ (a : Atom). a.place.0) (made_atoms x.vars x.post)) 0 x.vars

-- Conjuncts and result use variables by their types, cells that are used are said to be written, and quotients are
-- inputs.
abbrev pub are_terms_regular : Entry → Bool
are_terms_regular x =
    list_all (is_well_sorted x.vars) x.pure
    && is_result x.vars x.result
    && list_all (is_used_written x) (used_variables x)
    && list_all (is_quotient_input x.vars) x.pure

-- An entry is regular, of a procedure with n parameters: this is what a call tests of it.
abbrev pub is_regular : List BlockType → ℕ → Entry → Bool
is_regular types n x = are_variables_regular n x && is_pre_regular types x && is_post_regular types x && are_terms_regular x

abbrev pub FitsResult : List VarInfo → Option ValueType → Option Content → Type 0
FitsResult vars t None = ⊤
FitsResult vars None (Some c) = ⊥
FitsResult vars (Some t) (Some c) = IsTrue (fits_cell vars t c)

-- An entry is regular, of a procedure with these parameters and this result.
pub record IsRegular (types : List BlockType) (parameters : List ValueType) (result : Option ValueType) (x : Entry) : Type 0 where
  pub regular : IsTrue (is_regular types (length parameters) x)
  pub given : map (λ (i : VarInfo). i.value) (take (length parameters) x.vars) ≡ parameters
  pub gives : FitsResult x.vars result x.result
