-- Valuations that agree on the variables of a regular entry: what it says is the same under both.
use Rattle.std.proofs.Common.{◌≡◌, ℕ, ◌<◌, Bool, true, ◌&&◌, List, [], ◌∷◌, ◌++◌, length, slice_get, refl, sym, ap, ap₂}
use Rattle.std.specs.Prelude.{All}
use Rattle.std.specs.List.{list_all}
use Rattle.std.proofs.lemmas.Bool.{and_parts, ltb-true}
use Rattle.std.proofs.lemmas.Option.{slice_get_within}
use Rattle.px_terms.specs.Types.{types_of}
use Rattle.px_terms.specs.Words.{signed}
use Rattle.px_terms.specs.Variables.{variables_of, place_variables, mentioned}
use Rattle.px_terms.specs.Valuations.{Valuation}
use Rattle.px_terms.specs.Conjuncts.{IsTrueUnder}
use Rattle.px_terms.specs.declared.types.Value.{Value}
use Rattle.px_terms.specs.declared.types.Value.TheVariants as value
use Rattle.px_terms.specs.declared.types.BlockType.{BlockType}
use Rattle.px_terms.specs.declared.types.ValueType.{ValueType}
use Rattle.px_terms.specs.declared.types.ValueType.TheVariants.{Int, Pointer}
use Rattle.px_terms.specs.declared.variables.VarInfo.{VarInfo}
use Rattle.px_terms.specs.declared.conjuncts.Place.{Place as PlaceOf}
use Rattle.px_terms.specs.declared.conjuncts.Place.TheVariants as place
use Rattle.px_terms.specs.declared.conjuncts.Content.{Content}
use Rattle.px_terms.specs.declared.conjuncts.Content.TheVariants.{Unwritten, Word, Place, Cell}
use Rattle.px_terms.specs.declared.conjuncts.Conj.{Conj}
use Rattle.px_terms.specs.declared.conjuncts.Conj.TheVariants as conjunct
use Rattle.px_terms.proofs.Agreement.{word_agrees, truth_agrees}
use Rattle.px_entry.specs.declared.atoms.Atom.{Atom}
use Rattle.px_entry.specs.declared.atoms.AtomState.{AtomState}
use Rattle.px_entry.specs.declared.atoms.AtomState.TheVariants.{Live, Freed}
use Rattle.px_entry.specs.Sorts.{is_variable_with, is_int, is_cell, has_type, is_pointer_place, is_well_sorted}
use Rattle.px_entry.specs.Contents.{fits_cell, fits_some_type, fit_each}
use Rattle.px_entry.specs.Regular.{points_to_block, fits_state, fits_block}
use Rattle.px_entry.specs.Standing.{content_value, contents_value}
use Rattle.px_entry.proofs.Lists.{Each, each_append, each_all, each_from}
use Rattle.px_meaning.specs.Heaps.{«Live» as block_live}
use Rattle.px_meaning.specs.Triples.{state_of}
use Rattle.px_soundness.proofs.Truths.{variable_is}
use Rattle.px_soundness.proofs.CallReads.{type_pointer}
use Rattle.px_coverage.proofs.SameHeaps.{IsSame}
use Rattle.px_callgraph.proofs.KeepLemmas.{each_weaker}

-- what may stand in a cell may stand in one of some type
some_type : (vars : List VarInfo) (t : ValueType) (c : Content) → fits_cell vars t c ≡ true → fits_some_type vars c ≡ true
some_type vars t Unwritten e = refl
some_type vars t (Cell y) e = (and_parts (is_cell vars y.0) (has_type vars t y.0) e).0
some_type vars Int (Word p) e = e
some_type vars (Pointer b) (Word p) e = cc
some_type vars Int (Place a) e = cc
some_type vars (Pointer b) (Place place.Null) e = refl
some_type vars (Pointer b) (Place (place.Var y)) e = type_pointer vars b y.0 e

module _ (vars : List VarInfo) (v w : Valuation) (agree : (y : ℕ) → y < length vars → w y ≡ v y) where
  variable_below : (test : VarInfo → Bool) (y : ℕ) → is_variable_with vars test y ≡ true → y < length vars
  variable_below test y e = let (i, at, t) = variable_is vars test y e in slice_get_within vars y i at

  ints_below : (ys : List ℕ) → list_all (is_int vars) ys ≡ true → Each (λ y. y < length vars) ys
  ints_below ys e = each_from (is_int vars) (λ y. y < length vars) (λ y h. variable_below _ y h) ys e

  all_same : (ys : List ℕ) → Each (λ y. y < length vars) ys → All (λ y. w y ≡ v y) ys
  all_same ys h = each_all (λ y. w y ≡ v y) ys (each_weaker (λ y. y < length vars) (λ y. w y ≡ v y) (λ y l. agree y l) ys h)

  all_back : (ys : List ℕ) → Each (λ y. y < length vars) ys → All (λ y. v y ≡ w y) ys
  all_back ys h = each_all (λ y. v y ≡ w y) ys (each_weaker (λ y. y < length vars) (λ y. v y ≡ w y) (λ y l. sym (agree y l)) ys h)

  -- ---- contents

  pub content_same : (c : Content) → fits_some_type vars c ≡ true → content_value w c ≡ content_value v c
  content_same Unwritten e = refl
  content_same (Word p) e = ap (λ n. value.Word (signed n)) (word_agrees w v p (all_same (variables_of p) (ints_below (variables_of p) e)))
  content_same (Place place.Null) e = refl
  content_same (Place (place.Var y)) e = agree y.0 (variable_below _ y.0 e)
  content_same (Cell y) e = agree y.0 (variable_below _ y.0 e)

  module _ (fits : ValueType → Content → Bool) (fit : (t : ValueType) (c : Content) → fits t c ≡ true → fits_cell vars t c ≡ true) where
    contents_same : (ts : List ValueType) (cs : List Content) → fit_each fits ts cs ≡ true → contents_value w cs ≡ contents_value v cs
    contents_same [] [] e = refl
    contents_same [] (c ∷ cs) e = cc
    contents_same (t ∷ ts) [] e = cc
    contents_same (t ∷ ts) (c ∷ cs) e =
        let b = and_parts (fits t c) (fit_each fits ts cs) e in
        ap₂ (λ (u : Value) us. u ∷ us) (content_same c (some_type vars t c (fit t c b.0))) (contents_same ts cs b.1)

    state_same : (ts : List ValueType) (st : AtomState) → fits_state fits ts st ≡ true → state_of w st ≡ state_of v st
    state_same ts (Live cells) e = ap block_live (contents_same ts cells e)
    state_same ts Freed e = refl

    -- ---- atoms

    pub atoms_same : (types : List BlockType) (atoms : List Atom) → list_all (points_to_block vars) atoms ≡ true → list_all (fits_block types fits) atoms ≡ true → Each (IsSame v w) atoms
    atoms_same types [] p e = tt
    atoms_same types (a ∷ rest) p e =
        let first = and_parts (points_to_block vars a) (list_all (points_to_block vars) rest) p in
        let other = and_parts (fits_block types fits a) (list_all (fits_block types fits) rest) e in (
          (agree a.place.0 (variable_below _ a.place.0 first.0), state_same (types_of (slice_get types a.block.0)) a.state other.0),
          atoms_same types rest first.1 other.1,
        )

  -- ---- conjuncts

  place_below : (a : PlaceOf) → is_pointer_place vars a ≡ true → Each (λ y. y < length vars) (place_variables a)
  place_below place.Null e = tt
  place_below (place.Var y) e = (variable_below _ y.0 e, tt)

  two_words : (p q : List ℕ) → (list_all (is_int vars) p && list_all (is_int vars) q) ≡ true → Each (λ y. y < length vars) (p ++ q)
  two_words p q e = let b = and_parts (list_all (is_int vars) p) (list_all (is_int vars) q) e in each_append (λ y. y < length vars) p q (ints_below p b.0) (ints_below q b.1)

  two_places : (a b : PlaceOf) → (is_pointer_place vars a && is_pointer_place vars b) ≡ true → Each (λ y. y < length vars) (place_variables a ++ place_variables b)
  two_places a b e =
      let r = and_parts (is_pointer_place vars a) (is_pointer_place vars b) e in each_append (λ y. y < length vars) (place_variables a) (place_variables b) (place_below a r.0) (place_below b r.1)

  mentioned_below : (c : Conj) → is_well_sorted vars c ≡ true → Each (λ y. y < length vars) (mentioned c)
  mentioned_below (conjunct.Equal p) e = ints_below (variables_of p) e
  mentioned_below (conjunct.Unequal p) e = ints_below (variables_of p) e
  mentioned_below (conjunct.Less p q) e = two_words (variables_of p) (variables_of q) e
  mentioned_below (conjunct.AtMost p q) e = two_words (variables_of p) (variables_of q) e
  mentioned_below (conjunct.SamePlace a b) e = two_places a b e
  mentioned_below (conjunct.OtherPlace a b) e = two_places a b e
  mentioned_below (conjunct.Written y) e = (ltb-true y.0 (length vars) e, tt)
  mentioned_below (conjunct.Unwritten y) e = (ltb-true y.0 (length vars) e, tt)
  mentioned_below (conjunct.Quotient y p q) e =
      let b = and_parts (is_int vars y.0) (list_all (is_int vars) (variables_of p) && list_all (is_int vars) (variables_of q)) e in
      (variable_below _ y.0 b.0, two_words (variables_of p) (variables_of q) b.1)

  pub truths_same : (cs : List Conj) → list_all (is_well_sorted vars) cs ≡ true → Each (IsTrueUnder v) cs → Each (IsTrueUnder w) cs
  truths_same [] e h = tt
  truths_same (c ∷ cs) e h =
      let b = and_parts (is_well_sorted vars c) (list_all (is_well_sorted vars) cs) e in
      (truth_agrees v w c (all_back (mentioned c) (mentioned_below c b.0)) h.0, truths_same cs b.1 h.1)
