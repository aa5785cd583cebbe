-- The variables that a regular entry mentions are in its list.
use Rattle.std.proofs.Common.{◌≡◌, ℕ, zero, suc, ◌<◌, List, [], ◌∷◌, ◌++◌, length, Bool, true, ◌&&◌, Option, Some, None, slice_get, arith}
use Rattle.std.specs.Prelude.{flat_map}
use Rattle.std.specs.List.{list_all}
use Rattle.std.proofs.lemmas.Bool.{and_parts, ltb-true}
use Rattle.px_terms.specs.Types.{types_of}
use Rattle.px_terms.specs.Polynomials.{Polynomial}
use Rattle.px_terms.specs.Variables.{variables_of, place_variables, mentioned}
use Rattle.px_terms.specs.declared.types.BlockType.{BlockType}
use Rattle.px_terms.specs.declared.types.ValueType.{ValueType}
use Rattle.px_terms.specs.declared.types.ValueType.TheVariants.{Int, Pointer}
use Rattle.px_terms.specs.declared.variables.VarInfo.{VarInfo}
use Rattle.px_terms.specs.declared.conjuncts.Place.{Place}
use Rattle.px_terms.specs.declared.conjuncts.Place.TheVariants as place
use Rattle.px_terms.specs.declared.conjuncts.Content.{Content}
use Rattle.px_terms.specs.declared.conjuncts.Content.TheVariants as content
use Rattle.px_terms.specs.declared.conjuncts.Conj.{Conj}
use Rattle.px_terms.specs.declared.conjuncts.Conj.TheVariants.{Equal, Unequal, Less, AtMost, SamePlace, OtherPlace, Written, Unwritten, Quotient}
use Rattle.px_entry.specs.declared.atoms.Atom.{Atom}
use Rattle.px_entry.specs.declared.atoms.AtomState.{AtomState}
use Rattle.px_entry.specs.declared.atoms.AtomState.TheVariants.{Live, Freed}
use Rattle.px_entry.specs.Sorts.{is_variable_with, is_cell, is_int, is_int_polynomial, is_pointer_place, is_well_sorted, has_type}
use Rattle.px_entry.specs.Contents.{is_written_of, fits_cell, fit_each, content_variables, cell_variables, is_cell_of}
use Rattle.px_entry.specs.Regular.{is_own_cell, fits_state, fits_block, points_to_block, state_cells, cells_of, used_by_conjunct, used_by_atom, used_by_result, is_result, are_variables_regular, is_pre_regular, is_post_regular, are_terms_regular}
use Rattle.px_entry.specs.Laws.{RegularEntriesAreScoped}
use Rattle.px_entry.proofs.Lists.{Each, each_append, each_all, each_from, each_given}

-- below the length of a list
abbrev Below : List VarInfo → ℕ → Type 0
Below vars x = x < length vars

in_list : (vars : List VarInfo) (test : VarInfo → Bool) (x : ℕ) → is_variable_with vars test x ≡ true → x < length vars
in_list [] test x e = cc
in_list (i ∷ vars) test zero e = omega arith
in_list (i ∷ vars) test (suc x) e = let h = in_list vars test x e in omega arith

-- ---- terms

polynomial_scoped : (vars : List VarInfo) (p : Polynomial) → is_int_polynomial vars p ≡ true → Each (Below vars) (variables_of p)
polynomial_scoped vars p e = each_from (is_int vars) (Below vars) (λ x. in_list vars _ x) (variables_of p) e

place_scoped : (vars : List VarInfo) (a : Place) → is_pointer_place vars a ≡ true → Each (Below vars) (place_variables a)
place_scoped vars place.Null e = tt
place_scoped vars (place.Var x) e = (in_list vars _ x.0 e, tt)

two_scoped : {A : Type 0} (vars : List VarInfo) (test : A → Bool) (f : A → List ℕ) → ((a : A) → test a ≡ true → Each (Below vars) (f a)) →
    (a b : A) → (test a && test b) ≡ true → Each (Below vars) (f a ++ f b)
two_scoped vars test f from a b e = let p = and_parts (test a) (test b) e in each_append (Below vars) (f a) (f b) (from a p.0) (from b p.1)

pub conjunct_scoped : (vars : List VarInfo) (c : Conj) → is_well_sorted vars c ≡ true → Each (Below vars) (mentioned c)
conjunct_scoped vars (Equal p) e = polynomial_scoped vars p e
conjunct_scoped vars (Unequal p) e = polynomial_scoped vars p e
conjunct_scoped vars (Less p q) e = two_scoped vars (is_int_polynomial vars) variables_of (polynomial_scoped vars) p q e
conjunct_scoped vars (AtMost p q) e = two_scoped vars (is_int_polynomial vars) variables_of (polynomial_scoped vars) p q e
conjunct_scoped vars (SamePlace a b) e = two_scoped vars (is_pointer_place vars) place_variables (place_scoped vars) a b e
conjunct_scoped vars (OtherPlace a b) e = two_scoped vars (is_pointer_place vars) place_variables (place_scoped vars) a b e
conjunct_scoped vars (Written x) e = (ltb-true x.0 (length vars) e, tt)
conjunct_scoped vars (Unwritten x) e = (ltb-true x.0 (length vars) e, tt)
conjunct_scoped vars (Quotient x p q) e =
    let b = and_parts (is_int vars x.0) (is_int_polynomial vars p && is_int_polynomial vars q) e in
    (in_list vars _ x.0 b.0, two_scoped vars (is_int_polynomial vars) variables_of (polynomial_scoped vars) p q b.1)

used_scoped : (vars : List VarInfo) (c : Conj) → is_well_sorted vars c ≡ true → Each (Below vars) (used_by_conjunct c)
used_scoped vars (Equal p) e = conjunct_scoped vars (Equal p) e
used_scoped vars (Unequal p) e = conjunct_scoped vars (Unequal p) e
used_scoped vars (Less p q) e = conjunct_scoped vars (Less p q) e
used_scoped vars (AtMost p q) e = conjunct_scoped vars (AtMost p q) e
used_scoped vars (SamePlace a b) e = conjunct_scoped vars (SamePlace a b) e
used_scoped vars (OtherPlace a b) e = conjunct_scoped vars (OtherPlace a b) e
used_scoped vars (Written x) e = conjunct_scoped vars (Written x) e
used_scoped vars (Unwritten x) e = tt
used_scoped vars (Quotient x p q) e = conjunct_scoped vars (Quotient x p q) e

-- ---- contents

written_scoped : (vars : List VarInfo) (t : ValueType) (c : Content) → is_written_of vars t c ≡ true → Each (Below vars) (content_variables c)
written_scoped vars Int content.Unwritten e = tt
written_scoped vars Int (content.Word p) e = polynomial_scoped vars p e
written_scoped vars Int (content.Place a) e = cc
written_scoped vars Int (content.Cell x) e = tt
written_scoped vars (Pointer t) content.Unwritten e = tt
written_scoped vars (Pointer t) (content.Word p) e = cc
written_scoped vars (Pointer t) (content.Place place.Null) e = tt
written_scoped vars (Pointer t) (content.Place (place.Var x)) e = (in_list vars _ x.0 e, tt)
written_scoped vars (Pointer t) (content.Cell x) e = tt

cell_scoped : (vars : List VarInfo) (t : ValueType) (c : Content) → fits_cell vars t c ≡ true → Each (Below vars) (content_variables c)
cell_scoped vars t content.Unwritten e = tt
cell_scoped vars t (content.Word p) e = written_scoped vars t (content.Word p) e
cell_scoped vars t (content.Place a) e = written_scoped vars t (content.Place a) e
cell_scoped vars t (content.Cell x) e = tt

cell_of_scoped : (vars : List VarInfo) (t : ValueType) (x : ℕ) → is_cell_of vars t x ≡ true → x < length vars
cell_of_scoped vars t x e = in_list vars _ x (and_parts (is_cell vars x) (has_type vars t x) e).0

cell_cells_scoped : (vars : List VarInfo) (t : ValueType) (c : Content) → fits_cell vars t c ≡ true → Each (Below vars) (cell_variables c)
cell_cells_scoped vars t content.Unwritten e = tt
cell_cells_scoped vars t (content.Word p) e = tt
cell_cells_scoped vars t (content.Place a) e = tt
cell_cells_scoped vars t (content.Cell x) e = (cell_of_scoped vars t x.0 e, tt)

own_scoped : (vars : List VarInfo) (t : ValueType) (c : Content) → is_own_cell vars t c ≡ true → Each (Below vars) (content_variables c)
own_scoped vars t content.Unwritten e = tt
own_scoped vars t (content.Word p) e = cc
own_scoped vars t (content.Place a) e = cc
own_scoped vars t (content.Cell x) e = tt

own_cells_scoped : (vars : List VarInfo) (t : ValueType) (c : Content) → is_own_cell vars t c ≡ true → Each (Below vars) (cell_variables c)
own_cells_scoped vars t content.Unwritten e = tt
own_cells_scoped vars t (content.Word p) e = tt
own_cells_scoped vars t (content.Place a) e = tt
own_cells_scoped vars t (content.Cell x) e = (cell_of_scoped vars t x.0 e, tt)

result_scoped : (vars : List VarInfo) (r : Option Content) → is_result vars r ≡ true → Each (Below vars) (used_by_result r)
result_scoped vars None e = tt
result_scoped vars (Some content.Unwritten) e = tt
result_scoped vars (Some (content.Word p)) e = polynomial_scoped vars p e
result_scoped vars (Some (content.Place a)) e = place_scoped vars a e
result_scoped vars (Some (content.Cell x)) e = tt

-- ---- atoms

each_fits : (fits : ValueType → Content → Bool) (P : ℕ → Type 0) (f : Content → List ℕ) → ((t : ValueType) (c : Content) → fits t c ≡ true → Each P (f c)) →
    (ts : List ValueType) (cs : List Content) → fit_each fits ts cs ≡ true → Each P (flat_map f cs)
each_fits fits P f from [] [] e = tt
each_fits fits P f from [] (c ∷ cs) e = cc
each_fits fits P f from (t ∷ ts) [] e = cc
each_fits fits P f from (t ∷ ts) (c ∷ cs) e =
    let b = and_parts (fits t c) (fit_each fits ts cs) e in each_append P (f c) (flat_map f cs) (from t c b.0) (each_fits fits P f from ts cs b.1)

state_fits : (fits : ValueType → Content → Bool) (P : ℕ → Type 0) (f : Content → List ℕ) → ((t : ValueType) (c : Content) → fits t c ≡ true → Each P (f c)) →
    (ts : List ValueType) (state : AtomState) → fits_state fits ts state ≡ true → Each P (flat_map f (state_cells state))
state_fits fits P f from ts (Live cells) e = each_fits fits P f from ts cells e
state_fits fits P f from ts Freed e = tt

-- the places and contents of atoms that fit
module _ (types : List BlockType) (vars : List VarInfo) (fits : ValueType → Content → Bool)
    (contents : (t : ValueType) (c : Content) → fits t c ≡ true → Each (Below vars) (content_variables c))
    (cells : (t : ValueType) (c : Content) → fits t c ≡ true → Each (Below vars) (cell_variables c)) where
  atoms_used : (atoms : List Atom) → list_all (points_to_block vars) atoms ≡ true → list_all (fits_block types fits) atoms ≡ true → Each (Below vars) (flat_map used_by_atom atoms)
  atoms_used [] e h = tt
  atoms_used (a ∷ rest) e h =
      let p = and_parts (points_to_block vars a) (list_all (points_to_block vars) rest) e in
      let q = and_parts (fits_block types fits a) (list_all (fits_block types fits) rest) h in
      each_append (Below vars) (used_by_atom a) (flat_map used_by_atom rest)
      (in_list vars _ a.place.0 p.0, state_fits fits (Below vars) content_variables contents (types_of (slice_get types a.block.0)) a.state q.0) (atoms_used rest p.1 q.1)

  atoms_cells : (atoms : List Atom) → list_all (fits_block types fits) atoms ≡ true → Each (Below vars) (cells_of atoms)
  atoms_cells atoms h =
      each_given (fits_block types fits) (Below vars) (λ (a : Atom). flat_map cell_variables (state_cells a.state))
      (λ a e. state_fits fits (Below vars) cell_variables cells (types_of (slice_get types a.block.0)) a.state e) atoms h

-- ---- entries

pub regular_scoped : RegularEntriesAreScoped
regular_scoped types n x e =
    let B = Below x.vars in
    let r = and_parts (are_variables_regular n x && is_pre_regular types x && is_post_regular types x) (are_terms_regular x) e in
    let s = and_parts (are_variables_regular n x && is_pre_regular types x) (is_post_regular types x) r.0 in
    let pre = (and_parts (are_variables_regular n x) (is_pre_regular types x) s.0).1 in
    let pre_fits = (and_parts _ _ (and_parts _ _ (and_parts _ _ pre).0).0) in
    let post_fits = (and_parts _ _ (and_parts _ _ (and_parts _ _ s.1).0).0) in
    let terms = and_parts _ _ (and_parts _ _ (and_parts _ _ r.1).0).0 in
    let pure_used = each_given (is_well_sorted x.vars) B used_by_conjunct (used_scoped x.vars) x.pure terms.0 in
    let pre_used = atoms_used types x.vars (is_own_cell x.vars) (own_scoped x.vars) (own_cells_scoped x.vars) x.pre pre_fits.0 pre_fits.1 in
    let post_used = atoms_used types x.vars (fits_cell x.vars) (cell_scoped x.vars) (cell_cells_scoped x.vars) x.post post_fits.0 post_fits.1 in
    each_all B _
    (each_append B _ _ (each_append B _ _ (each_append B _ _ (each_given (is_well_sorted x.vars) B mentioned (conjunct_scoped x.vars) x.pure terms.0)
    (each_append B _ _ (each_append B _ _ (each_append B _ _ pure_used pre_used) post_used) (result_scoped x.vars x.result terms.1)))
    (atoms_cells types x.vars (is_own_cell x.vars) (own_scoped x.vars) (own_cells_scoped x.vars) x.pre pre_fits.1))
    (atoms_cells types x.vars (fits_cell x.vars) (cell_scoped x.vars) (cell_cells_scoped x.vars) x.post post_fits.1))
