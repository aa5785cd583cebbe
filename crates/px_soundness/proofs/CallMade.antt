-- The variables that are new to the caller after a call, and the blocks that the callee made: each has a place of its
-- own among them.
use Rattle.std.proofs.Common.{◌≡◌, ◌≢◌, ◌⊎◌, ℕ, zero, suc, ◌+◌, ◌<◌, Bool, true, false, cond, not, nat_eq, ◌||◌, Some, List, [], ◌∷◌, ◌++◌, map, slice_get, inl, inr, refl, sym, ap, ap₂, ◌∙◌, subst, arith}
use Rattle.std.specs.List.{list_all, count_by}
use Rattle.std.proofs.lemmas.Bool.{and_parts, and_from, eq-eqb, eqb-true}
use Rattle.px_terms.specs.declared.variables.VarInfo.{VarInfo}
use Rattle.px_terms.specs.declared.variables.Sort.{Sort}
use Rattle.px_terms.specs.declared.variables.Sort.TheVariants as sort
use Rattle.px_entry.specs.declared.atoms.Atom.{Atom}
use Rattle.px_entry.specs.Sorts.{is_given_sort, is_cell_sort, is_input_sort, is_made_sort, is_made}
use Rattle.px_entry.specs.Constraint.{found_atoms, made_atoms}
use Rattle.px_entry.specs.Regular.{stands_once, each_once}
use Rattle.px_entry.proofs.Lists.{Each, each_append}
use Rattle.px_callgraph.specs.Renaming.{is_new, new_variables}
use Rattle.px_soundness.proofs.WellFormed.{OwnPlaces, times, made_places}
use Rattle.px_soundness.proofs.AtomHeaps.{absent}
use Rattle.px_soundness.proofs.Truths.{made_is}
use Rattle.px_soundness.proofs.Complete.{times_is, times_none}
use Rattle.px_soundness.proofs.CallTaken.{AreDistinct}
use Rattle.px_soundness.proofs.CallTakes.{distinct_once}
use Rattle.px_soundness.proofs.CallStands.{new_before, new_rising, less_or_more}
use Rattle.px_soundness.proofs.CallSteps.{each_once_is}
use Rattle.px_callgraph.proofs.KeepLemmas.{each_weaker}
use Rattle.px_meaning.proofs.Joins.{same_or_other}

-- ---- new variables

pub all_new : (test : VarInfo → Bool) → ((i : VarInfo) → is_new i ≡ true → test i ≡ true) → (xs : List VarInfo) → list_all test (new_variables xs) ≡ true
all_new test f [] = refl
all_new test f (i ∷ xs) = by (is_new i) refl (all_new test f xs)
  where
    by : (b : Bool) → is_new i ≡ b → list_all test (new_variables xs) ≡ true → list_all test (cond b (i ∷ new_variables xs) (new_variables xs)) ≡ true
    by true is rest = and_from _ _ (f i is) rest
    by false is rest = rest

pub all_among : (test : VarInfo → Bool) (xs : List VarInfo) → list_all test xs ≡ true → list_all test (new_variables xs) ≡ true
all_among test [] e = refl
all_among test (i ∷ xs) e = let b = and_parts (test i) (list_all test xs) e in by (is_new i) b.0 (all_among test xs b.1)
  where
    by : (b : Bool) → test i ≡ true → list_all test (new_variables xs) ≡ true → list_all test (cond b (i ∷ new_variables xs) (new_variables xs)) ≡ true
    by true first rest = and_from _ _ first rest
    by false first rest = rest

pub new_not_given : (i : VarInfo) → is_new i ≡ true → not (is_given_sort i.sort) ≡ true
new_not_given i e = by i.sort e
  where
    by : (s : Sort) → (is_input_sort s || is_made_sort s) ≡ true → not (is_given_sort s) ≡ true
    by sort.Given e = cc
    by sort.Cell e = refl
    by sort.Input e = refl
    by sort.Made e = refl

pub new_no_cell : (i : VarInfo) → is_new i ≡ true → not (is_cell_sort i.sort) ≡ true
new_no_cell i e = by i.sort e
  where
    by : (s : Sort) → (is_input_sort s || is_made_sort s) ≡ true → not (is_cell_sort s) ≡ true
    by sort.Given e = refl
    by sort.Cell e = cc
    by sort.Input e = refl
    by sort.Made e = refl

pub made_new : (i : VarInfo) → i.sort ≡ sort.Made → is_new i ≡ true
made_new i e = ap (λ s. is_input_sort s || is_made_sort s) e

-- each is that of a variable of the entry
pub new_back : (xs : List VarInfo) (k : ℕ) (i : VarInfo) → slice_get (new_variables xs) k ≡ Some i → (y : ℕ) × (slice_get xs y ≡ Some i) × (new_before xs y ≡ k)
new_back [] k i e = absent e
new_back (h ∷ xs) k i e = by (is_new h) refl k e (new_back xs)
  where
    step : (b : Bool) → is_new h ≡ b → (y : ℕ) → new_before (h ∷ xs) (suc y) ≡ cond b (suc (new_before xs y)) (new_before xs y)
    step b is y = ap (λ q. cond q (suc (new_before xs y)) (new_before xs y)) is

    by : (b : Bool) → is_new h ≡ b → (k : ℕ) → slice_get (cond b (h ∷ new_variables xs) (new_variables xs)) k ≡ Some i → ((m : ℕ) (i : VarInfo) → slice_get (new_variables xs) m ≡ Some i → (y : ℕ) × (slice_get xs y ≡ Some i) × (new_before xs y ≡ m)) →
        (y : ℕ) × (slice_get (h ∷ xs) y ≡ Some i) × (new_before (h ∷ xs) y ≡ k)
    by true is zero e rest = (0, e, refl)
    by true is (suc k) e rest = let (y, at, same) = rest k i e in (suc y, at, step true is y ∙ ap suc same)
    by false is k e rest = let (y, at, same) = rest k i e in (suc y, at, step false is y ∙ same)

module _ (xs : List VarInfo) where
  abbrev IsMade : ℕ → Type 0
  IsMade y = is_made xs y ≡ true

  pub made_apart : (y z : ℕ) → IsMade y → IsMade z → y ≢ z → new_before xs y ≢ new_before xs z
  made_apart y z m n ne same =
      let (i, at, is) = made_is xs y m in
      let (k, at', is') = made_is xs z n in
      elim (less_or_more y z ne) [
        | inl l ↦ (let r = new_rising xs y z i k at at' (made_new i is) l in omega (arith, same, r))
        | inr l ↦ (let r = new_rising xs z y k i at' at (made_new k is') l in omega (arith, same, r))
      ]

  -- ---- numbers of made variables

  module _ (n : ℕ) where
    abbrev pub number_at : ℕ → ℕ
    number_at y = n + new_before xs y

    same_number : (y z : ℕ) → IsMade y → IsMade z → nat_eq (number_at y) (number_at z) ≡ nat_eq y z
    same_number y z m k = elim (same_or_other y z) [
      | inl e ↦ (eq-eqb (number_at y) (number_at z) (ap number_at e.0) ∙ sym e.1)
      | inr e ↦ (elim (same_or_other (number_at y) (number_at z)) [
        | inl f ↦ absurd (made_apart y z m k e.0 (let g = f.0 in omega (arith, g)))
        | inr f ↦ (f.1 ∙ sym e.1)
      ])
    ]

    pub times_number : (ys : List ℕ) → Each IsMade ys → (y : ℕ) → IsMade y → times (number_at y) (map number_at ys) ≡ times y ys
    times_number [] h y m = refl
    times_number (z ∷ ys) h y m = ap₂ (λ b k. cond b (1 + k) k) (same_number y z m h.0) (times_number ys h.1 y m)

    pub numbers_after : (ys : List ℕ) (x : ℕ) → x < n → times x (map number_at ys) ≡ 0
    numbers_after [] x l = refl
    numbers_after (y ∷ ys) x l = elim (same_or_other x (number_at y)) [
      | inl e ↦ absurd (let f = e.0 in let g : ⊥ = omega (arith, f, l) in g)
      | inr e ↦ (ap (λ b. cond b (1 + times x (map number_at ys)) (times x (map number_at ys))) e.1 ∙ numbers_after ys x l)
    ]

  -- ---- the blocks that were made

  module _ (post : List Atom) (once : each_once (λ i. is_made_sort i.sort) (made_places xs post) 0 xs ≡ true) where
    pub all_made : (atoms : List Atom) → Each (λ (a : Atom). is_made xs a.place.0 ≡ true) (made_atoms xs atoms)
    all_made [] = tt
    all_made (a ∷ atoms) = by (is_made xs a.place.0) refl (all_made atoms)
      where
        by : (b : Bool) → is_made xs a.place.0 ≡ b → Each (λ (a : Atom). is_made xs a.place.0 ≡ true) (made_atoms xs atoms) → Each (λ (a : Atom). is_made xs a.place.0 ≡ true) (cond b (a ∷ made_atoms xs atoms) (made_atoms xs atoms))
        by true is rest = (is, rest)
        by false is rest = rest

    places_made : (atoms : List Atom) → Each (λ (a : Atom). is_made xs a.place.0 ≡ true) atoms → Each IsMade (map (λ (a : Atom). a.place.0) atoms)
    places_made [] h = tt
    places_made (a ∷ atoms) h = (h.0, places_made atoms h.1)

    pub are_made : Each IsMade (made_places xs post)
    are_made = places_made (made_atoms xs post) (all_made post)

    pub stands_there : (y : ℕ) → IsMade y → times y (made_places xs post) ≡ 1
    stands_there y m =
        let (i, at, is) = made_is xs y m in
        let zero_plus : 0 + y ≡ y = omega arith in
        times_is y (made_places xs post)
        ∙ eqb-true (count_by (nat_eq y) (made_places xs post)) 1 (subst (λ z. stands_once (made_places xs post) z ≡ true) zero_plus (each_once_is (λ i. is_made_sort i.sort) (made_places xs post) 0 xs once y i at (ap is_made_sort is)))

    pub places_distinct : AreDistinct (made_places xs post)
    places_distinct = distinct_once (made_places xs post) (λ y. by y (is_made xs y) refl)
      where
        by : (y : ℕ) (b : Bool) → is_made xs y ≡ b → times y (made_places xs post) < 2
        by y true is = let e = stands_there y is in omega (arith, e)
        by y false is =
            let e : times y (made_places xs post) ≡ 0 = times_none y (made_places xs post) (each_weaker IsMade (λ z. y ≢ z) (λ z m same. let f : false ≡ true = sym is ∙ ap (is_made xs) same ∙ m in cc) (made_places xs post) are_made) in
            omega (arith, e)

-- ---- places of their own

-- a list of blocks after another
pub own_after : (vars : List VarInfo) (atoms more : List Atom) → OwnPlaces vars atoms → OwnPlaces vars more → Each (λ (a : Atom). Each (λ (b : Atom). a.place.0 ≢ b.place.0) more) atoms → OwnPlaces vars (atoms ++ more)
own_after vars [] more o p h = p
own_after vars (a ∷ atoms) more o p h = (each_append _ atoms more o.0 (each_weaker (λ (b : Atom). a.place.0 ≢ b.place.0) _ (λ b d m. d) more h.0), own_after vars atoms more o.1 p h.1)

pub own_distinct : (vars : List VarInfo) (atoms : List Atom) → AreDistinct (map (λ (a : Atom). a.place.0) atoms) → OwnPlaces vars atoms
own_distinct vars [] d = tt
own_distinct vars (a ∷ atoms) d = (apart atoms d.0, own_distinct vars atoms d.1)
  where
    apart : (bs : List Atom) → Each (λ n. a.place.0 ≢ n) (map (λ (b : Atom). b.place.0) bs) → Each (λ (b : Atom). (is_made vars a.place.0 ≡ true) ⊎ (is_made vars b.place.0 ≡ true) → a.place.0 ≢ b.place.0) bs
    apart [] h = tt
    apart (b ∷ bs) h = ((λ m. h.0), apart bs h.1)

pub distinct_numbers : (xs : List VarInfo) (n : ℕ) (ys : List ℕ) → Each (λ y. is_made xs y ≡ true) ys → AreDistinct ys → AreDistinct (map (λ y. n + new_before xs y) ys)
distinct_numbers xs n [] m d = tt
distinct_numbers xs n (y ∷ ys) m d = (apart ys m.1 d.0, distinct_numbers xs n ys m.1 d.1)
  where
    apart : (zs : List ℕ) → Each (λ z. is_made xs z ≡ true) zs → Each (λ z. y ≢ z) zs → Each (λ k. n + new_before xs y ≢ k) (map (λ z. n + new_before xs z) zs)
    apart [] h e = tt
    apart (z ∷ zs) h e = ((λ same. made_apart xs y z m.0 h.0 e.0 (omega (arith, same))), apart zs h.1 e.1)

pub found_none : (vars : List VarInfo) (atoms : List Atom) → Each (λ (a : Atom). is_made vars a.place.0 ≡ true) atoms → (found_atoms vars atoms ≡ []) × (made_atoms vars atoms ≡ atoms)
found_none vars [] h = (refl, refl)
found_none vars (a ∷ atoms) h =
    let r = found_none vars atoms h.1 in
    (ap (λ b. cond (not b) (a ∷ found_atoms vars atoms) (found_atoms vars atoms)) h.0 ∙ r.0, ap (λ b. cond b (a ∷ made_atoms vars atoms) (made_atoms vars atoms)) h.0 ∙ ap (λ (bs : List Atom). a ∷ bs) r.1)
