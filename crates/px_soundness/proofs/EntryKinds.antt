-- The values that a regular entry uses as words or places are such, where they fit and what is said to be written is.
use Rattle.std.proofs.Common.{◌≡◌, ℕ, Bool, true, false, not, ◌||◌, Option, Some, List, [], ◌∷◌, slice_get, refl, sym, ap, ◌∙◌, subst, ◌&&◌}
use Rattle.std.specs.Prelude.{flat_map}
use Rattle.std.specs.List.{list_all, list_any}
use Rattle.std.proofs.lemmas.Bool.{and_parts}
use Rattle.px_terms.specs.Variables.{variables_of}
use Rattle.px_terms.specs.Valuations.{Valuation, IsWord, IsPlace, IsUnwritten, HasType, FitsSort, Fits}
use Rattle.px_terms.specs.Substitutions.{content_for}
use Rattle.px_terms.specs.Conjuncts.{place_of, IsTrueUnder}
use Rattle.px_terms.specs.declared.types.ValueType.{ValueType}
use Rattle.px_terms.specs.declared.types.ValueType.TheVariants.{Int, Pointer}
use Rattle.px_terms.specs.declared.types.Value.{Value}
use Rattle.px_terms.specs.declared.types.Value.TheVariants as value
use Rattle.px_terms.specs.declared.variables.VarInfo.{VarInfo}
use Rattle.px_terms.specs.declared.variables.Sort.{Sort}
use Rattle.px_terms.specs.declared.variables.Sort.TheVariants as sort
use Rattle.px_terms.specs.declared.conjuncts.Place.{Place as PlaceOf}
use Rattle.px_terms.specs.declared.conjuncts.Place.TheVariants as place
use Rattle.px_terms.specs.declared.conjuncts.Conj.{Conj}
use Rattle.px_terms.specs.declared.conjuncts.Conj.TheVariants as conjunct
use Rattle.px_entry.specs.declared.entries.Entry.{Entry}
use Rattle.px_entry.specs.Sorts.{is_some_and, is_cell_sort, is_int_type, is_pointer_type, is_cell, is_int, is_pointer, is_pointer_place, is_well_sorted, is_int_polynomial}
use Rattle.px_entry.specs.Equality.{same_conjunct}
use Rattle.px_entry.specs.Regular.{is_said_written, is_used_written, used_by_conjunct}
use Rattle.px_entry.proofs.Lists.{Each, each_all}
use Rattle.px_entry.proofs.TestLemmas.{tests_decide}
use Rattle.px_callgraph.specs.Renaming.{Substitution, claim_through}
use Rattle.px_soundness.proofs.Truths.{variable_is}
use Rattle.px_soundness.proofs.Through.{through, GoodSubstitution, good_for}
use Rattle.px_soundness.proofs.ClaimsThrough.{IsClaimed, HasKinds, of_written, claimed_true}
use Rattle.px_check.proofs.ValueLemmas.{each_split}

-- ---- kinds of values

written_type : (s : Sort) (t : ValueType) (u : Value) → (s ≡ sort.Cell → IsUnwritten u → ⊥) → FitsSort s t u → HasType t u
written_type sort.Given t u f h = h
written_type sort.Input t u f h = h
written_type sort.Made t u f h = h.0
written_type sort.Cell t value.Unwritten f h = absurd (f refl tt)
written_type sort.Cell t (value.Word z) f h = h
written_type sort.Cell t value.Null f h = h
written_type sort.Cell t (value.Block n) f h = h

word_type : (t : ValueType) (u : Value) → is_int_type t ≡ true → HasType t u → IsWord u
word_type Int (value.Word z) e h = tt
word_type Int value.Null e h = h
word_type Int (value.Block n) e h = h
word_type Int value.Unwritten e h = h
word_type (Pointer t) u e h = cc

place_type : (t : ValueType) (u : Value) → is_pointer_type t ≡ true → HasType t u → IsPlace u
place_type Int u e h = cc
place_type (Pointer t) u e h = h

module _ (x : Entry) (w : Valuation) (fits : Fits x.vars w) (said : (y : ℕ) → is_said_written x.pure y ≡ true → IsUnwritten (w y) → ⊥) where
  abbrev pub IsUsed : ℕ → Type 0
  IsUsed y = is_used_written x y ≡ true

  not_unwritten : (y : ℕ) (i : VarInfo) → slice_get x.vars y ≡ Some i → IsUsed y → i.sort ≡ sort.Cell → IsUnwritten (w y) → ⊥
  not_unwritten y i at used is = said y (by (is_cell x.vars y) (is_said_written x.pure y) cell used)
    where
      cell : is_cell x.vars y ≡ true
      cell = ap (λ (o : Option VarInfo). is_some_and o (λ (k : VarInfo). is_cell_sort k.sort)) at ∙ ap is_cell_sort is

      by : (p q : Bool) → p ≡ true → (not p || q) ≡ true → q ≡ true
      by true q e f = f
      by false q e f = cc

  has_type : (y : ℕ) (i : VarInfo) → slice_get x.vars y ≡ Some i → IsUsed y → HasType i.value (w y)
  has_type y i at used = written_type i.sort i.value (w y) (not_unwritten y i at used) (fits.sorts y i at)

  pub word_kind : (y : ℕ) → is_int x.vars y ≡ true → IsUsed y → IsWord (w y)
  word_kind y e used = let (i, at, is) = variable_is x.vars (λ (i : VarInfo). is_int_type i.value) y e in word_type i.value (w y) is (has_type y i at used)

  pub place_kind : (y : ℕ) → is_pointer x.vars y ≡ true → IsUsed y → IsPlace (w y)
  place_kind y e used = let (i, at, is) = variable_is x.vars (λ (i : VarInfo). is_pointer_type i.value) y e in place_type i.value (w y) is (has_type y i at used)

  pub words_kind : (ys : List ℕ) → list_all (is_int x.vars) ys ≡ true → Each IsUsed ys → Each (λ y. IsWord (w y)) ys
  words_kind [] e used = tt
  words_kind (y ∷ ys) e used = let b = and_parts (is_int x.vars y) (list_all (is_int x.vars) ys) e in (word_kind y b.0 used.0, words_kind ys b.1 used.1)

  pub places_kind : (a : PlaceOf) → is_pointer_place x.vars a ≡ true → Each IsUsed (used_by_conjunct (conjunct.SamePlace a place.Null)) → IsPlace (place_of w a)
  places_kind place.Null e used = tt
  places_kind (place.Var y) e used = place_kind y.0 e used.0

  abbrev W : ℕ → Type 0
  W y = IsWord (w y)

  two_places : (a b : PlaceOf) → Each IsUsed (used_by_conjunct (conjunct.SamePlace a b)) → Each IsUsed (used_by_conjunct (conjunct.SamePlace a place.Null)) × Each IsUsed (used_by_conjunct (conjunct.SamePlace b place.Null))
  two_places place.Null place.Null used = (tt, tt)
  two_places place.Null (place.Var y) used = (tt, (used.0, tt))
  two_places (place.Var y) place.Null used = ((used.0, tt), tt)
  two_places (place.Var y) (place.Var z) used = ((used.0, tt), (used.1.0, tt))

  conj_kinds : (c : Conj) → is_well_sorted x.vars c ≡ true → Each IsUsed (used_by_conjunct c) → HasKinds w c
  conj_kinds (conjunct.Equal p) e used = each_all W (variables_of p) (words_kind (variables_of p) e used)
  conj_kinds (conjunct.Unequal p) e used = each_all W (variables_of p) (words_kind (variables_of p) e used)
  conj_kinds (conjunct.Less p q) e used =
      let b = and_parts (list_all (is_int x.vars) (variables_of p)) (list_all (is_int x.vars) (variables_of q)) e in
      let u = each_split IsUsed (variables_of p) (variables_of q) used in
      (each_all W (variables_of p) (words_kind (variables_of p) b.0 u.0), each_all W (variables_of q) (words_kind (variables_of q) b.1 u.1))
  conj_kinds (conjunct.AtMost p q) e used =
      let b = and_parts (list_all (is_int x.vars) (variables_of p)) (list_all (is_int x.vars) (variables_of q)) e in
      let u = each_split IsUsed (variables_of p) (variables_of q) used in
      (each_all W (variables_of p) (words_kind (variables_of p) b.0 u.0), each_all W (variables_of q) (words_kind (variables_of q) b.1 u.1))
  conj_kinds (conjunct.SamePlace a b) e used =
      let r = and_parts (is_pointer_place x.vars a) (is_pointer_place x.vars b) e in
      let u = two_places a b used in (places_kind a r.0 u.0, places_kind b r.1 u.1)
  conj_kinds (conjunct.OtherPlace a b) e used =
      let r = and_parts (is_pointer_place x.vars a) (is_pointer_place x.vars b) e in
      let u = two_places a b used in (places_kind a r.0 u.0, places_kind b r.1 u.1)
  conj_kinds (conjunct.Written y) e used = tt
  conj_kinds (conjunct.Unwritten y) e used = tt
  conj_kinds (conjunct.Quotient y p q) e used =
      let a = and_parts (is_int x.vars y.0) (is_int_polynomial x.vars p && is_int_polynomial x.vars q) e in
      let b = and_parts (list_all (is_int x.vars) (variables_of p)) (list_all (is_int x.vars) (variables_of q)) a.1 in
      let u = each_split IsUsed (variables_of p) (variables_of q) used.1 in
      (word_kind y.0 a.0 used.0, each_all W (variables_of p) (words_kind (variables_of p) b.0 u.0), each_all W (variables_of q) (words_kind (variables_of q) b.1 u.1))

  pub kinds : (cs : List Conj) → list_all (is_well_sorted x.vars) cs ≡ true → Each IsUsed (flat_map used_by_conjunct cs) → Each (HasKinds w) cs
  kinds [] e used = tt
  kinds (c ∷ cs) e used =
      let b = and_parts (is_well_sorted x.vars c) (list_all (is_well_sorted x.vars) cs) e in
      let u = each_split IsUsed (used_by_conjunct c) (flat_map used_by_conjunct cs) used in
      (conj_kinds c b.0 u.0, kinds cs b.1 u.1)

-- ---- what is said to be written, and the conjuncts

module _ (vars : List VarInfo) (pure : List Conj) (v : Valuation) (fits : Fits vars v) (true_of : Each (IsTrueUnder v) pure) (σ : Substitution) (good : GoodSubstitution vars pure v fits σ) where
  pub said_in : (y : ℕ) (cs : List Conj) → Each (λ c. IsClaimed v (claim_through σ c)) cs → list_any (same_conjunct (conjunct.Written (record { 0 = y }))) cs ≡ true → IsUnwritten (through v σ y) → ⊥
  said_in y [] h e = cc
  said_in y (c ∷ cs) h e = by (same_conjunct (conjunct.Written (record { 0 = y })) c) refl (said_in y cs h.1) e
    where
      by : (q : Bool) → same_conjunct (conjunct.Written (record { 0 = y })) c ≡ q → (list_any (same_conjunct (conjunct.Written (record { 0 = y }))) cs ≡ true → IsUnwritten (through v σ y) → ⊥) →
          (q || list_any (same_conjunct (conjunct.Written (record { 0 = y }))) cs) ≡ true → IsUnwritten (through v σ y) → ⊥
      by true is rest e =
          let same = (tests_decide.equality (conjunct.Written (record { 0 = y })) c).0 is in
          of_written vars pure v fits true_of σ good (content_for σ y) (good_for vars pure v fits σ good y) (subst (λ d. IsClaimed v (claim_through σ d)) (sym same) h.0)
      by false is rest e = rest e

  claimed_each : (cs : List Conj) → Each (HasKinds (through v σ)) cs → Each (λ c. IsClaimed v (claim_through σ c)) cs → Each (IsTrueUnder (through v σ)) cs
  claimed_each [] k h = tt
  claimed_each (c ∷ cs) k h = (claimed_true vars pure v fits true_of σ good c k.0 h.0, claimed_each cs k.1 h.1)

  -- the conjuncts of an entry whose claims are so
  pub pure_true : (x : Entry) → Fits x.vars (through v σ) → list_all (is_well_sorted x.vars) x.pure ≡ true → Each (λ y. is_used_written x y ≡ true) (flat_map used_by_conjunct x.pure) →
      Each (λ c. IsClaimed v (claim_through σ c)) x.pure → Each (IsTrueUnder (through v σ)) x.pure
  pure_true x fit sorted used claimed = claimed_each x.pure (kinds x (through v σ) fit (λ y. said_in y x.pure claimed) x.pure sorted used) claimed
