-- The constraint of a well-sorted state is well sorted.
use Rattle.std.proofs.Common.{◌≡◌, List, [], ◌∷◌, ◌++◌, map, Bool, true, false, cond, ◌&&◌, refl}
use Rattle.std.specs.Prelude.{filter}
use Rattle.std.specs.List.{list_all}
use Rattle.std.proofs.lemmas.Bool.{and_parts, and_from}
use Rattle.px_terms.specs.declared.variables.VarInfo.{VarInfo}
use Rattle.px_terms.specs.declared.conjuncts.Place.TheVariants as place
use Rattle.px_terms.specs.declared.conjuncts.Conj.TheVariants.{OtherPlace}
use Rattle.px_entry.specs.declared.atoms.Atom.{Atom}
use Rattle.px_entry.specs.Sorts.{is_pointer, is_well_sorted}
use Rattle.px_entry.specs.Constraint.{found_atoms, same_block, apart_from, apart_all, separate}
use Rattle.px_callgraph.specs.Laws.{ConstraintsAreSorted}
use Rattle.px_callgraph.proofs.SortLemmas.{all_push}

pub all_append : {A : Type 0} (such : A → Bool) (xs ys : List A) → list_all such xs ≡ true → list_all such ys ≡ true → list_all such (xs ++ ys) ≡ true
all_append such [] ys e h = h
all_append such (x ∷ xs) ys e h = let b = and_parts (such x) (list_all such xs) e in and_from (such x) (list_all such (xs ++ ys)) b.0 (all_append such xs ys b.1 h)

kept_by : {A : Type 0} (such : A → Bool) (b : Bool) (x : A) (xs : List A) → such x ≡ true → list_all such xs ≡ true → list_all such (cond b (x ∷ xs) xs) ≡ true
kept_by such true x xs e h = and_from (such x) (list_all such xs) e h
kept_by such false x xs e h = h

all_filter : {A : Type 0} (such chosen : A → Bool) (xs : List A) → list_all such xs ≡ true → list_all such (filter chosen xs) ≡ true
all_filter such chosen [] e = refl
all_filter such chosen (x ∷ xs) e =
    let b = and_parts (such x) (list_all such xs) e in kept_by such (chosen x) x (filter chosen xs) b.0 (all_filter such chosen xs b.1)

module _ (vars : List VarInfo) where
  abbrev points : Atom → Bool
  points a = is_pointer vars a.place.0

  differ_sorted : (a : Atom) → points a ≡ true → (xs : List Atom) → list_all points xs ≡ true →
      list_all (is_well_sorted vars) (map (λ (b : Atom). OtherPlace (place.Var a.place) (place.Var b.place)) xs) ≡ true
  differ_sorted a p [] e = refl
  differ_sorted a p (x ∷ xs) e =
      let b = and_parts (points x) (list_all points xs) e in
      and_from (points a && points x) (list_all (is_well_sorted vars) (map (λ (b : Atom). OtherPlace (place.Var a.place) (place.Var b.place)) xs))
      (and_from (points a) (points x) p b.0) (differ_sorted a p xs b.1)

  apart_sorted : (earlier atoms : List Atom) → list_all points earlier ≡ true → list_all points atoms ≡ true → list_all (is_well_sorted vars) (apart_all earlier atoms) ≡ true
  apart_sorted earlier [] e h = refl
  apart_sorted earlier (a ∷ rest) e h =
      let b = and_parts (points a) (list_all points rest) h in
      all_append (is_well_sorted vars) (apart_from earlier a) (apart_all (earlier ++ a ∷ []) rest)
      (and_from (points a && true) (list_all (is_well_sorted vars) (map (λ (b : Atom). OtherPlace (place.Var a.place) (place.Var b.place)) (filter (same_block a) earlier)))
      (and_from (points a) true b.0 refl) (differ_sorted a b.0 (filter (same_block a) earlier) (all_filter points (same_block a) earlier e)))
      (apart_sorted (earlier ++ a ∷ []) rest (all_push points earlier a e b.0) b.1)

pub constraints_sorted : ConstraintsAreSorted
constraints_sorted s h =
    all_append (is_well_sorted s.vars) s.pure (separate s.vars s.atoms) h.pure
    (apart_sorted s.vars [] (found_atoms s.vars s.atoms) refl (all_filter (points s.vars) _ s.atoms h.atoms))
