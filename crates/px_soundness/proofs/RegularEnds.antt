-- The end of a path is a regular entry.
use Rattle.std.proofs.Common.{◌≡◌, ℕ, suc, ◌+◌, Bool, true, false, not, nat_eq, ◌||◌, Option, Some, None, List, [], ◌∷◌, ◌++◌, map, take, length, slice_get, refl, sym, ap, ◌∙◌, subst, arith}
use Rattle.std.specs.Prelude.{flat_map, count_by}
use Rattle.std.specs.List.{list_all}
use Rattle.std.proofs.lemmas.Bool.{and_parts, and_from, eq-eqb, lt-ltb}
use Rattle.px_terms.specs.Types.{types_of}
use Rattle.px_terms.specs.Variables.{variables_of, place_variables}
use Rattle.px_terms.specs.declared.types.Value.{Value}
use Rattle.px_terms.specs.declared.types.BlockType.{BlockType}
use Rattle.px_terms.specs.declared.types.ValueType.{ValueType}
use Rattle.px_terms.specs.declared.variables.VarInfo.{VarInfo}
use Rattle.px_terms.specs.declared.conjuncts.Place.{Place as PlaceOf}
use Rattle.px_terms.specs.declared.conjuncts.Place.TheVariants as place
use Rattle.px_terms.specs.declared.conjuncts.Content.{Content}
use Rattle.px_terms.specs.declared.conjuncts.Content.TheVariants.{Unwritten, Word, Place, Cell}
use Rattle.px_terms.specs.declared.conjuncts.Conj.{Conj}
use Rattle.px_terms.specs.declared.conjuncts.Conj.TheVariants as conjunct
use Rattle.px_entry.specs.declared.atoms.Atom.{Atom}
use Rattle.px_entry.specs.declared.atoms.AtomState.{AtomState}
use Rattle.px_entry.specs.declared.atoms.AtomState.TheVariants.{Live, Freed}
use Rattle.px_entry.specs.declared.entries.Entry.{Entry}
use Rattle.px_entry.specs.declared.entries.Exit.{Exit}
use Rattle.px_entry.specs.declared.entries.Exit.TheVariants.{Ok, Error}
use Rattle.px_entry.specs.Sorts.{is_given_sort, is_cell_sort, is_made_sort, is_int, is_pointer_place, is_well_sorted}
use Rattle.px_entry.specs.Constraint.{made_atoms}
use Rattle.px_entry.specs.Contents.{fits_cell, fits_some_type, fit_each, content_variables}
use Rattle.px_entry.specs.Regular.{are_given, stands_once, each_once, points_to_block, fits_state, fits_block, is_own_cell, state_cells, cells_of, is_quotient_input, used_by_conjunct, used_by_atom, used_by_result, used_variables, is_used_written, is_result, are_variables_regular, is_pre_regular, is_post_regular, are_terms_regular, FitsResult, IsRegular}
use Rattle.px_entry.proofs.Lists.{Each, each_append, each_to}
use Rattle.px_callgraph.specs.declared.states.State.{State}
use Rattle.px_callgraph.specs.JobTree.{JobTree}
use Rattle.px_callgraph.specs.States.{ends, given_variables}
use Rattle.px_soundness.proofs.WellFormed.{is_usable, UsableWord, Good, GoodAtom, WellTyped, times, GoodConj, GoodFound, Once, CompleteAt, FitsResults, EndsWell}
use Rattle.px_soundness.proofs.Complete.{times_is}
use Rattle.px_soundness.proofs.Valid.{entry_at}
use Rattle.px_callgraph.proofs.KeepLemmas.{each_weaker}

-- ---- lists

each_flat : {A B : Type 0} (Q : B → Type 0) (f : A → List B) (xs : List A) → Each (λ x. Each Q (f x)) xs → Each Q (flat_map f xs)
each_flat Q f [] h = tt
each_flat Q f (x ∷ xs) h = each_append Q (f x) (flat_map f xs) h.0 (each_flat Q f xs h.1)

test_all : {A : Type 0} (test : A → Bool) (xs : List A) → Each (λ x. test x ≡ true) xs → list_all test xs ≡ true
test_all test xs h = each_to test (λ x. test x ≡ true) (λ x e. e) xs h

-- ---- variables

given_first : (ts : List ValueType) (more : List VarInfo) → list_all (λ (i : VarInfo). not (is_given_sort i.sort)) more ≡ true → are_given (length ts) (given_variables ts ++ more) ≡ true
given_first [] more h = h
given_first (t ∷ ts) more h = and_from _ _ refl (given_first ts more h)

given_types : (ts : List ValueType) (more : List VarInfo) → map (λ (i : VarInfo). i.value) (take (length ts) (given_variables ts ++ more)) ≡ ts
given_types [] more = refl
given_types (t ∷ ts) more = ap (λ (us : List ValueType). t ∷ us) (given_types ts more)

once_to : (such : VarInfo → Bool) (xs : List ℕ) (vars : List VarInfo) (n : ℕ) → ((k : ℕ) (i : VarInfo) → slice_get vars k ≡ Some i → such i ≡ true → (x : ℕ) → x ≡ n + k → times x xs ≡ 1) → each_once such xs n vars ≡ true
once_to such xs [] n f = refl
once_to such xs (i ∷ vars) n f = and_from _ _ (by (such i) refl) (once_to such xs vars (suc n) (λ k z e t x at. f (suc k) z e t x (omega (arith, at))))
  where
    by : (b : Bool) → such i ≡ b → (not b || stands_once xs n) ≡ true
    by true t = eq-eqb (count_by (nat_eq n) xs) 1 (sym (times_is n xs) ∙ f 0 i refl t n (omega arith))
    by false t = refl

all_once : (such : VarInfo → Bool) (xs : List ℕ) (vars : List VarInfo) → Once such xs vars → each_once such xs 0 vars ≡ true
all_once such xs vars h = once_to such xs vars 0 (λ k i e t x at. let same : x ≡ k = omega (arith, at) in h x i (ap (slice_get vars) same ∙ e) t)

-- ---- terms

module _ (vars : List VarInfo) (pure : List Conj) where
  abbrev Usable : ℕ → Type 0
  Usable x = is_usable vars pure x ≡ true

  words_sorted : (xs : List ℕ) → Each (UsableWord vars pure) xs → list_all (is_int vars) xs ≡ true
  words_sorted xs h = each_to (is_int vars) (UsableWord vars pure) (λ x u. u.0) xs h

  words_usable : (xs : List ℕ) → Each (UsableWord vars pure) xs → Each Usable xs
  words_usable xs h = each_weaker (UsableWord vars pure) Usable (λ x u. u.1) xs h

  place_sorted : (a : PlaceOf) → Good vars pure (Place a) → is_pointer_place vars a ≡ true
  place_sorted place.Null g = refl
  place_sorted (place.Var x) g = g.0

  place_usable : (a : PlaceOf) → Good vars pure (Place a) → Each Usable (place_variables a)
  place_usable place.Null g = tt
  place_usable (place.Var x) g = (g.1, tt)

  conj_sorted : (c : Conj) → GoodConj vars pure c → is_well_sorted vars c ≡ true
  conj_sorted (conjunct.Equal p) g = words_sorted (variables_of p) g
  conj_sorted (conjunct.Unequal p) g = words_sorted (variables_of p) g
  conj_sorted (conjunct.Less p q) g = and_from _ _ (words_sorted (variables_of p) g.0) (words_sorted (variables_of q) g.1)
  conj_sorted (conjunct.AtMost p q) g = and_from _ _ (words_sorted (variables_of p) g.0) (words_sorted (variables_of q) g.1)
  conj_sorted (conjunct.SamePlace a b) g = and_from _ _ (place_sorted a g.0) (place_sorted b g.1)
  conj_sorted (conjunct.OtherPlace a b) g = and_from _ _ (place_sorted a g.0) (place_sorted b g.1)
  conj_sorted (conjunct.Written x) g = lt-ltb x.0 (length vars) g.0
  conj_sorted (conjunct.Unwritten x) g = lt-ltb x.0 (length vars) g
  conj_sorted (conjunct.Quotient x p q) g = and_from _ _ g.1.0 (and_from _ _ (words_sorted (variables_of p) g.2) (words_sorted (variables_of q) g.3))

  conj_input : (c : Conj) → GoodConj vars pure c → is_quotient_input vars c ≡ true
  conj_input (conjunct.Equal p) g = refl
  conj_input (conjunct.Unequal p) g = refl
  conj_input (conjunct.Less p q) g = refl
  conj_input (conjunct.AtMost p q) g = refl
  conj_input (conjunct.SamePlace a b) g = refl
  conj_input (conjunct.OtherPlace a b) g = refl
  conj_input (conjunct.Written x) g = refl
  conj_input (conjunct.Unwritten x) g = refl
  conj_input (conjunct.Quotient x p q) g = g.0

  conj_usable : (c : Conj) → GoodConj vars pure c → Each Usable (used_by_conjunct c)
  conj_usable (conjunct.Equal p) g = words_usable (variables_of p) g
  conj_usable (conjunct.Unequal p) g = words_usable (variables_of p) g
  conj_usable (conjunct.Less p q) g = each_append Usable (variables_of p) (variables_of q) (words_usable (variables_of p) g.0) (words_usable (variables_of q) g.1)
  conj_usable (conjunct.AtMost p q) g = each_append Usable (variables_of p) (variables_of q) (words_usable (variables_of p) g.0) (words_usable (variables_of q) g.1)
  conj_usable (conjunct.SamePlace a b) g = each_append Usable (place_variables a) (place_variables b) (place_usable a g.0) (place_usable b g.1)
  conj_usable (conjunct.OtherPlace a b) g = each_append Usable (place_variables a) (place_variables b) (place_usable a g.0) (place_usable b g.1)
  conj_usable (conjunct.Written x) g = (g.1, tt)
  conj_usable (conjunct.Unwritten x) g = tt
  conj_usable (conjunct.Quotient x p q) g = (g.1.1, each_append Usable (variables_of p) (variables_of q) (words_usable (variables_of p) g.2) (words_usable (variables_of q) g.3))

  good_type : (c : Content) → Good vars pure c → fits_some_type vars c ≡ true
  good_type Unwritten g = refl
  good_type (Word p) g = words_sorted (variables_of p) g.1
  good_type (Place a) g = place_sorted a g
  good_type (Cell x) g = g

  good_usable : (c : Content) → Good vars pure c → Each Usable (content_variables c)
  good_usable Unwritten g = tt
  good_usable (Word p) g = words_usable (variables_of p) g.1
  good_usable (Place a) g = place_usable a g
  good_usable (Cell x) g = tt

  own_usable : (t : ValueType) (c : Content) → is_own_cell vars t c ≡ true → Each Usable (content_variables c)
  own_usable t Unwritten e = cc
  own_usable t (Word p) e = cc
  own_usable t (Place a) e = cc
  own_usable t (Cell x) e = tt

  owns_usable : (ts : List ValueType) (cs : List Content) → fit_each (is_own_cell vars) ts cs ≡ true → Each Usable (flat_map content_variables cs)
  owns_usable [] [] e = tt
  owns_usable [] (c ∷ cs) e = cc
  owns_usable (t ∷ ts) [] e = cc
  owns_usable (t ∷ ts) (c ∷ cs) e =
      let b = and_parts (is_own_cell vars t c) (fit_each (is_own_cell vars) ts cs) e in each_append Usable (content_variables c) (flat_map content_variables cs) (own_usable t c b.0) (owns_usable ts cs b.1)

  found_usable : (types : List BlockType) (a : Atom) → GoodFound types vars pure a → Each Usable (used_by_atom a)
  found_usable types a g = (g.usable, by (types_of (slice_get types a.block.0)) a.state g.fits)
    where
      by : (ts : List ValueType) (st : AtomState) → fits_state (is_own_cell vars) ts st ≡ true → Each Usable (flat_map content_variables (state_cells st))
      by ts (Live cells) e = owns_usable ts cells e
      by ts Freed e = tt

  atom_usable : (types : List BlockType) (a : Atom) → GoodAtom types vars pure a → Each Usable (used_by_atom a)
  atom_usable types a g = (g.usable, each_flat Usable content_variables (state_cells a.state) (each_weaker (Good vars pure) (λ c. Each Usable (content_variables c)) good_usable (state_cells a.state) g.cells))

-- ---- entries

module _ (j : JobTree) (t : State) (well_typed : WellTyped j.types t) (complete : CompleteAt j t) where
  result_type : (e : Exit) (r : Option Content) → EndsWell j t (ends e r) → (is_result t.vars r ≡ true) × Each (λ x. is_usable t.vars t.pure x ≡ true) (used_by_result r) × FitsResult t.vars j.body.result r
  result_type Ok None w = (refl, tt, tt)
  result_type Ok (Some c) w = (good_type t.vars t.pure c w.0, good_usable t.vars t.pure c w.0, fits j.body.result w.1)
    where
      fits : (ty : Option ValueType) → FitsResults t.vars ty c → FitsResult t.vars ty (Some c)
      fits None f = absurd f
      fits (Some u) f = f
  result_type (Error kind site) r w = subst (λ z. (is_result t.vars z ≡ true) × Each (λ x. is_usable t.vars t.pure x ≡ true) (used_by_result z) × FitsResult t.vars j.body.result z) (sym w) (refl, tt, tt)

  pub end_regular : (e : Exit) (r : Option Content) (model : List Value) → EndsWell j t (ends e r) → IsRegular j.types j.body.parameters j.body.result (entry_at j t e r model)
  end_regular e r model well =
      let x : Entry = entry_at j t e r model in
      let U : ℕ → Type 0 = λ y. is_usable t.vars t.pure y ≡ true in
      let (result, result_usable, gives) = result_type e r well in
      let variables : are_variables_regular (length j.body.parameters) x ≡ true =
      and_from _ _ (ap (are_given (length j.body.parameters)) complete.split ∙ given_first j.body.parameters complete.more complete.others) complete.words in
      let pre : is_pre_regular j.types x ≡ true =
      and_from _ _ (and_from _ _ (and_from _ _ (each_to (points_to_block t.vars) (GoodFound j.types t.vars t.pure) (λ a g. g.points) t.pre complete.found)
      (each_to (fits_block j.types (is_own_cell t.vars)) (GoodFound j.types t.vars t.pure) (λ a g. g.fits) t.pre complete.found))
      (all_once (λ i. is_cell_sort i.sort) (cells_of t.pre) t.vars complete.cells)) complete.reached in
      let post : is_post_regular j.types x ≡ true =
      and_from _ _ (and_from _ _ (and_from _ _ (each_to (points_to_block t.vars) (GoodAtom j.types t.vars t.pure) (λ a g. g.points) t.atoms well_typed.atoms)
      (each_to (fits_block j.types (fits_cell t.vars)) (GoodAtom j.types t.vars t.pure) (λ a g. g.fits) t.atoms well_typed.atoms))
      complete.blocks) (all_once (λ i. is_made_sort i.sort) (map (λ (a : Atom). a.place.0) (made_atoms t.vars t.atoms)) t.vars complete.made) in
      let used : Each U (used_variables x) =
      each_append U (flat_map used_by_conjunct t.pure ++ flat_map used_by_atom t.pre ++ flat_map used_by_atom t.atoms) (used_by_result r)
      (each_append U (flat_map used_by_conjunct t.pure ++ flat_map used_by_atom t.pre) (flat_map used_by_atom t.atoms)
      (each_append U (flat_map used_by_conjunct t.pure) (flat_map used_by_atom t.pre)
      (each_flat U used_by_conjunct t.pure (each_weaker (GoodConj t.vars t.pure) (λ c. Each U (used_by_conjunct c)) (conj_usable t.vars t.pure) t.pure complete.conjuncts))
      (each_flat U used_by_atom t.pre (each_weaker (GoodFound j.types t.vars t.pure) (λ a. Each U (used_by_atom a)) (found_usable t.vars t.pure j.types) t.pre complete.found)))
      (each_flat U used_by_atom t.atoms (each_weaker (GoodAtom j.types t.vars t.pure) (λ a. Each U (used_by_atom a)) (atom_usable t.vars t.pure j.types) t.atoms well_typed.atoms)))
      result_usable in
      let terms : are_terms_regular x ≡ true =
      and_from _ _ (and_from _ _ (and_from _ _ (each_to (is_well_sorted t.vars) (GoodConj t.vars t.pure) (conj_sorted t.vars t.pure) t.pure complete.conjuncts) result) (test_all (is_used_written x) (used_variables x) used))
      (each_to (is_quotient_input t.vars) (GoodConj t.vars t.pure) (conj_input t.vars t.pure) t.pure complete.conjuncts) in
      record {
        regular = and_from _ _ (and_from _ _ (and_from _ _ variables pre) post) terms;
        given = ap (λ vs. map (λ (i : VarInfo). i.value) (take (length j.body.parameters) vs)) complete.split ∙ given_types j.body.parameters complete.more;
        gives = gives;
      }
