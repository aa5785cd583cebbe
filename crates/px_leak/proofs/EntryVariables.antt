-- The variables of a regular entry that finds no block: what is given, and what is made.
use Rattle.std.proofs.Common.{◌≡◌, inl, inr, ℕ, zero, suc, ◌+◌, ◌≤◌, ◌||◌, Bool, true, false, cond, not, nat_eq, List, [], ◌∷◌, length, map, take, Option, Some, None, slice_get, refl, sym, ap, ◌∙◌, subst, arith}
use Rattle.std.specs.Prelude.{count_by}
use Rattle.std.specs.List.{list_all}
use Rattle.std.proofs.lemmas.Bool.{and_parts, eqb-true, not-true, false≢true}
use Rattle.std.proofs.lemmas.List.Sums.{sum_by-cons}
use Rattle.px_terms.specs.Valuations.{Valuation}
use Rattle.px_terms.specs.declared.types.ValueType.{ValueType}
use Rattle.px_terms.specs.declared.types.ValueType.TheVariants.{Int, Pointer}
use Rattle.px_terms.specs.declared.variables.VarInfo.{VarInfo}
use Rattle.px_terms.specs.declared.conjuncts.Content.{Content}
use Rattle.px_terms.specs.declared.conjuncts.Content.TheVariants.{Unwritten, Word, Place, Cell}
use Rattle.px_terms.specs.declared.conjuncts.Place.TheVariants as place
use Rattle.px_entry.specs.Sorts.{is_given_sort, is_pointer_type, same_type, is_some_and, is_cell, is_pointer, has_type}
use Rattle.px_entry.specs.Contents.{fits_cell, fits_some_type, fit_each}
use Rattle.px_entry.specs.Regular.{are_given, stands_once, each_once}
use Rattle.px_meaning.specs.Heaps.{HeapMap, IsWritten, AreWritten}
use Rattle.px_meaning.specs.Triples.{values_from}
use Rattle.px_manifest.proofs.ChosenValues.{head_is}
use Rattle.px_leak.proofs.Members.{Has}

-- ---- a variable that stands once is there

one_there : (y : ℕ) (xs : List ℕ) → 1 ≤ count_by (nat_eq y) xs → Has xs y
one_there y [] l = let f : ⊥ = omega arith in absurd f
one_there y (x ∷ xs) l = by (nat_eq y x) refl (subst (λ k. 1 ≤ k) (sum_by-cons (λ z. cond (nat_eq y z) 1 0) x xs) l) (one_there y xs)
  where
    by : (b : Bool) → nat_eq y x ≡ b → 1 ≤ cond b 1 0 + count_by (nat_eq y) xs → (1 ≤ count_by (nat_eq y) xs → Has xs y) → Has (x ∷ xs) y
    by true is l rest = inl (sym (eqb-true y x is))
    by false is l rest = inr (rest (omega arith))

once_there : (y : ℕ) (xs : List ℕ) → stands_once xs y ≡ true → Has xs y
once_there y xs e = one_there y xs (let f = eqb-true (count_by (nat_eq y) xs) 1 e in omega arith)

pub such_there : (such : VarInfo → Bool) (xs : List ℕ) (n : ℕ) (vars : List VarInfo) → each_once such xs n vars ≡ true → (y : ℕ) (i : VarInfo) → slice_get vars y ≡ Some i → such i ≡ true → Has xs (n + y)
such_there such xs n [] e y i at is = absurd (cc)
such_there such xs n (k ∷ vars) e zero i at is =
    let b = and_parts (not (such k) || stands_once xs n) (each_once such xs (suc n) vars) e in
    let own : k ≡ i = cc in
    let same : n ≡ n + 0 = omega arith in
    subst (Has xs) same (by (such k) (ap such own ∙ is) b.0)
  where
    by : (p : Bool) → p ≡ true → (not p || stands_once xs n) ≡ true → Has xs n
    by true q f = once_there n xs f
    by false q f = absurd (false≢true q)
such_there such xs n (k ∷ vars) e (suc y) i at is =
    let b = and_parts (not (such k) || stands_once xs n) (each_once such xs (suc n) vars) e in
    let same : suc n + y ≡ n + suc y = omega arith in
    subst (Has xs) same (such_there such xs (suc n) vars b.1 y i at is)

-- ---- what is given is an argument

pub all_at : {A : Type 0} (test : A → Bool) (xs : List A) (k : ℕ) (x : A) → list_all test xs ≡ true → slice_get xs k ≡ Some x → test x ≡ true
all_at test [] k x e at = absurd (cc)
all_at test (y ∷ xs) zero x e at = let own : y ≡ x = cc in ap test (sym own) ∙ (and_parts (test y) (list_all test xs) e).0
all_at test (y ∷ xs) (suc k) x e at = all_at test xs k x (and_parts (test y) (list_all test xs) e).1 at

module _ (heap : HeapMap) (w : Valuation) where
  pub given_written : (ts : List ValueType) (vars : List VarInfo) (s : ℕ) → are_given (length ts) vars ≡ true → map (λ (i : VarInfo). i.value) (take (length ts) vars) ≡ ts →
      AreWritten heap ts (values_from w s (length ts)) → (y : ℕ) (i : VarInfo) → slice_get vars y ≡ Some i → is_given_sort i.sort ≡ true → IsWritten heap i.value (w (s + y))
  given_written [] vars s g types h y i at is = absurd (false≢true (sym (not-true (is_given_sort i.sort) (all_at (λ (j : VarInfo). not (is_given_sort j.sort)) vars y i g at)) ∙ is))
  given_written (t ∷ ts) [] s g types h y i at is = absurd (cc)
  given_written (t ∷ ts) (j ∷ vars) s g types h zero i at is =
      let own : j ≡ i = cc in
      let first : j.value ≡ t = (head_is types).0 in
      let here : s ≡ s + 0 = omega arith in
      subst (λ (k : VarInfo). IsWritten heap k.value (w (s + 0))) own (subst (λ u. IsWritten heap u (w (s + 0))) (sym first) (subst (λ z. IsWritten heap t (w z)) here h.0))
  given_written (t ∷ ts) (j ∷ vars) s g types h (suc y) i at is =
      let there : suc s + y ≡ s + suc y = omega arith in
      subst (λ z. IsWritten heap i.value (w z)) there (given_written ts vars (suc s) (and_parts (is_given_sort j.sort) (are_given (length ts) vars) g).1 (head_is types).1 h.1 y i at is)

-- ---- the variables by which contents point

-- a content that points does so by a pointer, and one that is the content of a cell by a cell
abbrev pub FitsSomehow : List VarInfo → Content → Type 0
FitsSomehow vars Unwritten = Unit {0}
FitsSomehow vars (Word p) = Unit {0}
FitsSomehow vars (Place place.Null) = Unit {0}
FitsSomehow vars (Place (place.Var y)) = is_pointer vars y.0 ≡ true
FitsSomehow vars (Cell y) = is_cell vars y.0 ≡ true

pub fits_result : (vars : List VarInfo) (c : Content) → fits_some_type vars c ≡ true → FitsSomehow vars c
fits_result vars Unwritten e = tt
fits_result vars (Word p) e = tt
fits_result vars (Place place.Null) e = tt
fits_result vars (Place (place.Var y)) e = e
fits_result vars (Cell y) e = e

pub fits_content : (vars : List VarInfo) (t : ValueType) (c : Content) → fits_cell vars t c ≡ true → FitsSomehow vars c
fits_content vars t Unwritten e = tt
fits_content vars t (Word p) e = tt
fits_content vars t (Place place.Null) e = tt
fits_content vars Int (Place (place.Var y)) e = absurd (false≢true e)
fits_content vars (Pointer t) (Place (place.Var y)) e = by (slice_get vars y.0) e
  where
    by_type : (s : ValueType) → same_type s (Pointer t) ≡ true → is_pointer_type s ≡ true
    by_type Int e = absurd (false≢true e)
    by_type (Pointer s) e = refl

    by : (o : Option VarInfo) → is_some_and o (λ i. same_type i.value (Pointer t)) ≡ true → is_some_and o (λ i. is_pointer_type i.value) ≡ true
    by None e = absurd (false≢true e)
    by (Some i) e = by_type i.value e
fits_content vars t (Cell y) e = (and_parts (is_cell vars y.0) (has_type vars t y.0) e).0

pub fit_contents : (vars : List VarInfo) (ts : List ValueType) (cs : List Content) → fit_each (fits_cell vars) ts cs ≡ true → (c : Content) → Has cs c → FitsSomehow vars c
fit_contents vars [] [] e c h = absurd h
fit_contents vars [] (d ∷ cs) e c h = absurd (false≢true e)
fit_contents vars (t ∷ ts) [] e c h = absurd h
fit_contents vars (t ∷ ts) (d ∷ cs) e c (inl f) = subst (FitsSomehow vars) f (fits_content vars t d (and_parts (fits_cell vars t d) (fit_each (fits_cell vars) ts cs) e).0)
fit_contents vars (t ∷ ts) (d ∷ cs) e c (inr h) = fit_contents vars ts cs (and_parts (fits_cell vars t d) (fit_each (fits_cell vars) ts cs) e).1 c h
