-- The terms of a callee's entry, read by its caller: contents and conjuncts are good, and fit as they did.
use Rattle.std.proofs.Common.{◌≡◌, ℕ, ◌<◌, Bool, true, false, not, ◌||◌, ◌&&◌, Option, Some, None, List, [], ◌∷◌, ◌++◌, map, length, slice_get, refl, sym, ap, ◌∙◌, subst}
use Rattle.std.specs.Prelude.{flat_map, nat_lt}
use Rattle.std.specs.List.{list_all}
use Rattle.std.proofs.lemmas.Bool.{and_parts, and_from, ltb-true}
use Rattle.std.proofs.lemmas.Option.{slice_get-get_or, same_Some, slice_get_within}
use Rattle.px_terms.specs.Polynomials.{Polynomial, terms_of}
use Rattle.px_terms.specs.Variables.{variables_of, place_variables}
use Rattle.px_terms.specs.Substitutions.{content_for, image_by, image_of, substituted, substitution_of, variable}
use Rattle.px_terms.specs.declared.types.TypeId.{TypeId}
use Rattle.px_terms.specs.declared.types.ValueType.{ValueType}
use Rattle.px_terms.specs.declared.types.ValueType.TheVariants.{Int, Pointer}
use Rattle.px_terms.specs.declared.variables.Var.{Var}
use Rattle.px_terms.specs.declared.variables.VarInfo.{VarInfo}
use Rattle.px_terms.specs.declared.variables.Sort.{Sort}
use Rattle.px_terms.specs.declared.variables.Sort.TheVariants as sort
use Rattle.px_terms.specs.declared.conjuncts.Place.{Place as PlaceOf}
use Rattle.px_terms.specs.declared.conjuncts.Place.TheVariants as place
use Rattle.px_terms.specs.declared.conjuncts.Content.{Content}
use Rattle.px_terms.specs.declared.conjuncts.Content.TheVariants.{Unwritten, Word, Place, Cell}
use Rattle.px_terms.specs.declared.conjuncts.Conj.{Conj}
use Rattle.px_terms.specs.declared.conjuncts.Conj.TheVariants as conjunct
use Rattle.px_terms.proofs.NormalForm.{form_polynomial}
use Rattle.px_entry.specs.declared.atoms.AtomState.{AtomState}
use Rattle.px_entry.specs.declared.atoms.AtomState.TheVariants.{Live, Freed}
use Rattle.px_entry.specs.declared.entries.Entry.{Entry}
use Rattle.px_entry.specs.Sorts.{is_some_and, is_cell_sort, is_int_type, is_pointer_type, same_type, is_cell, is_int, is_pointer, has_type, is_int_polynomial, is_pointer_place, is_place_of, is_well_sorted}
use Rattle.px_entry.specs.Contents.{is_written_of, fits_cell, fits_some_type, fit_each, content_variables}
use Rattle.px_entry.specs.Regular.{fits_state, state_cells, is_said_written, is_used_written, used_by_conjunct, is_quotient_input}
use Rattle.px_entry.proofs.Lists.{Each, each_all, all_each, each_to}
use Rattle.px_callgraph.specs.Renaming.{Substitution, is_word, word_through, place_in, place_through, or_unwritten, content_through, state_through, Claim, surely, never, claims, claim_one, claim_two, written_claim, unwritten_claim, claim_through, variable_in, quotient_claim}
use Rattle.px_soundness.proofs.WellFormed.{is_usable, UsableWord, Good, GoodConj}
use Rattle.px_soundness.proofs.AtomHeaps.{absent}
use Rattle.px_soundness.proofs.Truths.{variable_is}
use Rattle.px_soundness.proofs.WellTyped.{SaysMore, good_grown}
use Rattle.px_soundness.proofs.FitsThrough.{Suits, Stands, same_is, input_content}
use Rattle.px_soundness.proofs.WordsThrough.{HasImage, substitution_has}
use Rattle.px_check.proofs.ValueLemmas.{each_split}

-- ---- what stands for a variable

has : (vars : List VarInfo) (test : VarInfo → Bool) (x : ℕ) (i : VarInfo) → slice_get vars x ≡ Some i → test i ≡ true → is_some_and (slice_get vars x) test ≡ true
has vars test x i at e = ap (λ (o : Option VarInfo). is_some_and o test) at ∙ e

pointer_type : (t : ValueType) (b : TypeId) → same_type t (Pointer b) ≡ true → is_pointer_type t ≡ true
pointer_type Int b e = cc
pointer_type (Pointer c) b e = refl

pub type_pointer : (vars : List VarInfo) (b : TypeId) (x : ℕ) → has_type vars (Pointer b) x ≡ true → is_pointer vars x ≡ true
type_pointer vars b x e = let (i, at, same) = variable_is vars (λ (i : VarInfo). same_type i.value (Pointer b)) x e in has vars (λ (i : VarInfo). is_pointer_type i.value) x i at (pointer_type i.value b same)

module _ (vars : List VarInfo) where
  type_is : (t : ValueType) (test : ValueType → Bool) (x : ℕ) → has_type vars t x ≡ true → test t ≡ true → is_some_and (slice_get vars x) (λ (i : VarInfo). test i.value) ≡ true
  type_is t test x e f =
      let (i, at, same) = variable_is vars (λ (i : VarInfo). same_type i.value t) x e in
      has vars (λ (i : VarInfo). test i.value) x i at (ap test (same_is i.value t same) ∙ f)

  not_written : (t : ValueType) (z : Var) → is_written_of vars t (Cell z) ≡ true → ⊥
  not_written Int z e = let f : false ≡ true = e in cc
  not_written (Pointer b) z e = let f : false ≡ true = e in cc

  -- an unread cell stands for a cell, of the same type
  pub only_cell : (s : Sort) (t : ValueType) (z : Var) → Suits vars s t (Cell z) → (s ≡ sort.Cell) × (has_type vars t z.0 ≡ true)
  only_cell sort.Given t z h = absurd (not_written t z h)
  only_cell sort.Input t z h = absurd (not_written t z h.3)
  only_cell sort.Made t z (m, other, made, type) = cc
  only_cell sort.Cell t z h = (refl, (and_parts (is_cell vars z.0) (has_type vars t z.0) h).1)

  -- a place stands for a pointer to the same blocks
  pub place_type : (s : Sort) (b : TypeId) (a : PlaceOf) → Suits vars s (Pointer b) (Place a) → is_place_of vars b a ≡ true
  place_type sort.Given b a h = h
  place_type sort.Input b a h = h.3
  place_type sort.Cell b a h = h
  place_type sort.Made b a (m, is, made, type) = subst (λ c. fits_cell vars (Pointer b) c ≡ true) (sym is) type

abbrev pub GoodClaim : List VarInfo → List Conj → Claim → Type 0
GoodClaim vars says surely = Unit {0}
GoodClaim vars says never = Unit {0}
GoodClaim vars says (claims c) = GoodConj vars says c

-- ---- entries

module _ (x : Entry) (vars : List VarInfo) (pure says : List Conj) (said : SaysMore pure says) (σ : Substitution) (stands : Stands vars pure x.vars σ)
    (claimed : (y : ℕ) (z : Var) → is_said_written x.pure y ≡ true → content_for σ y ≡ Some (Cell z) → is_usable vars says z.0 ≡ true) where
  abbrev Used : ℕ → Type 0
  Used y = is_used_written x y ≡ true

  grown_good : (c : Content) → Good vars pure c → Good vars says c
  grown_good c g = good_grown vars vars (λ y i e. e) pure says said c g

  cell_said : (y : ℕ) → is_cell x.vars y ≡ true → Used y → is_said_written x.pure y ≡ true
  cell_said y c u = subst (λ b. (not b || is_said_written x.pure y) ≡ true) c u

  -- what stands in a cell that the entry uses is said to be written
  cell_usable : (y : ℕ) (i : VarInfo) (z : Var) → slice_get x.vars y ≡ Some i → content_for σ y ≡ Some (Cell z) → Suits vars i.sort i.value (Cell z) → Used y → is_usable vars says z.0 ≡ true
  cell_usable y i z at is h u = claimed y z (cell_said y (has x.vars (λ (k : VarInfo). is_cell_sort k.sort) y i at (ap is_cell_sort (only_cell vars i.sort i.value z h).0)) u) is

  -- ---- words

  word_image : (y : ℕ) → is_int x.vars y ≡ true → Used y → is_word (content_for σ y) ≡ true → Each (UsableWord vars says) (variables_of (image_of σ y))
  word_image y int u w =
      let (i, at, is_int) = variable_is x.vars (λ (i : VarInfo). is_int_type i.value) y int in
      let (c, is, g, h) = stands.content y i at in
      subst (λ o. Each (UsableWord vars says) (variables_of (image_by y o))) (sym is) (by i at is_int c is g h (subst (λ o. is_word o ≡ true) is w))
    where
      by : (i : VarInfo) → slice_get x.vars y ≡ Some i → is_int_type i.value ≡ true → (c : Content) → content_for σ y ≡ Some c → Good vars pure c → Suits vars i.sort i.value c → is_word (Some c) ≡ true → Each (UsableWord vars says) (variables_of (image_by y (Some c)))
      by i at int Unwritten is g h w = cc
      by i at int (Place a) is g h w = cc
      by i at int (Word q) is g h w = (grown_good (Word q) g).1
      by i at int (Cell z) is g h w = ((type_is vars i.value is_int_type z.0 (only_cell vars i.sort i.value z h).1 int, cell_usable y i z at is h u), tt)

  word_images : (ys : List ℕ) → list_all (is_int x.vars) ys ≡ true → Each Used ys → list_all (λ y. is_word (content_for σ y)) ys ≡ true → Each (HasImage (UsableWord vars says) σ) ys
  word_images [] int u w = tt
  word_images (y ∷ ys) int u w =
      let a = and_parts (is_int x.vars y) (list_all (is_int x.vars) ys) int in
      let b = and_parts (is_word (content_for σ y)) (list_all (λ z. is_word (content_for σ z)) ys) w in
      (each_all (UsableWord vars says) (variables_of (image_of σ y)) (word_image y a.0 u.0 b.0), word_images ys a.1 u.1 b.1)

  good_word : (p : Polynomial) → is_int_polynomial x.vars p ≡ true → Each Used (variables_of p) → (q : Polynomial) → word_through σ p ≡ Some q → Good vars says (Word q)
  good_word p int u q e = by (list_all (λ y. is_word (content_for σ y)) (variables_of p)) refl e
    where
      by : (b : Bool) → list_all (λ y. is_word (content_for σ y)) (variables_of p) ≡ b → (elim b as (λ _. Option Polynomial) [ true ↦ Some (substitution_of σ p) | false ↦ None ]) ≡ Some q → Good vars says (Word q)
      by false w e = absent e
      by true w e =
          subst (λ r. Good vars says (Word r)) (same_Some _ _ e) (
            form_polynomial (flat_map (substituted σ) (terms_of p)),
            all_each (UsableWord vars says) (variables_of (substitution_of σ p))
                (substitution_has (UsableWord vars says) σ p (each_all (HasImage (UsableWord vars says) σ) (variables_of p) (word_images (variables_of p) int u w))),
          )

  -- ---- places

  good_place : (a : PlaceOf) → is_pointer_place x.vars a ≡ true → Each Used (place_variables a) → (b : PlaceOf) → place_through σ a ≡ Some b → Good vars says (Place b)
  good_place place.Null e u b is = subst (λ c. Good vars says (Place c)) (same_Some _ _ is) tt
  good_place (place.Var y) e u b is =
      let (i, at, pointer) = variable_is x.vars (λ (i : VarInfo). is_pointer_type i.value) y.0 e in
      let (c, found, g, h) = stands.content y.0 i at in by i at pointer c found g h (subst (λ o. place_in o ≡ Some b) found is)
    where
      by : (i : VarInfo) → slice_get x.vars y.0 ≡ Some i → is_pointer_type i.value ≡ true → (c : Content) → content_for σ y.0 ≡ Some c → Good vars pure c → Suits vars i.sort i.value c → place_in (Some c) ≡ Some b → Good vars says (Place b)
      by i at pointer Unwritten found g h is = absent is
      by i at pointer (Word p) found g h is = absent is
      by i at pointer (Place a) found g h is = grown_good (Place b) (subst (λ z. Good vars pure (Place z)) (same_Some _ _ is) g)
      by i at pointer (Cell z) found g h is = subst (λ c. Good vars says (Place c)) (same_Some _ _ is) (type_is vars i.value is_pointer_type z.0 (only_cell vars i.sort i.value z h).1 pointer, cell_usable y.0 i z at found h u.0)

  -- ---- contents

  pub good_content : (c : Content) → fits_some_type x.vars c ≡ true → Each Used (content_variables c) → Good vars says (content_through σ c)
  good_content Unwritten e u = tt
  good_content (Word p) e u = by (word_through σ p) refl
    where
      by : (o : Option Polynomial) → word_through σ p ≡ o → Good vars says (or_unwritten o Word)
      by None is = tt
      by (Some q) is = good_word p e u q is
  good_content (Place a) e u = by (place_through σ a) refl
    where
      by : (o : Option PlaceOf) → place_through σ a ≡ o → Good vars says (or_unwritten o Place)
      by None is = tt
      by (Some b) is = good_place a e u b is
  good_content (Cell y) e u =
      let (i, at, cell) = variable_is x.vars (λ (i : VarInfo). is_cell_sort i.sort) y.0 e in
      let (c, is, g, h) = stands.content y.0 i at in subst (λ o. Good vars says (or_unwritten o (λ c. c))) (sym is) (grown_good c g)

  some_type : (t : ValueType) (c : Content) → fits_cell x.vars t c ≡ true → fits_some_type x.vars c ≡ true
  some_type t Unwritten e = refl
  some_type t (Cell y) e = (and_parts (is_cell x.vars y.0) (has_type x.vars t y.0) e).0
  some_type Int (Word p) e = e
  some_type (Pointer b) (Word p) e = cc
  some_type Int (Place a) e = cc
  some_type (Pointer b) (Place place.Null) e = refl
  some_type (Pointer b) (Place (place.Var y)) e = type_pointer x.vars b y.0 e

  fits_content : (t : ValueType) (c : Content) → fits_cell x.vars t c ≡ true → Each Used (content_variables c) → fits_cell vars t (content_through σ c) ≡ true
  fits_content t Unwritten e u = refl
  fits_content Int (Word p) e u = by (word_through σ p) refl
    where
      by : (o : Option Polynomial) → word_through σ p ≡ o → fits_cell vars Int (or_unwritten o Word) ≡ true
      by None is = refl
      by (Some q) is = each_to (is_int vars) (UsableWord vars says) (λ y h. h.0) (variables_of q) (good_word p e u q is).1
  fits_content (Pointer b) (Word p) e u = cc
  fits_content Int (Place a) e u = cc
  fits_content (Pointer b) (Place place.Null) e u = refl
  fits_content (Pointer b) (Place (place.Var y)) e u =
      let (i, at, same) = variable_is x.vars (λ (i : VarInfo). same_type i.value (Pointer b)) y.0 e in
      let (c, is, g, h) = stands.content y.0 i at in
      subst (λ o. fits_cell vars (Pointer b) (or_unwritten (place_in o) Place) ≡ true) (sym is) (by i.sort c (subst (λ t. Suits vars i.sort t c) (same_is i.value (Pointer b) same) h))
    where
      by : (s : Sort) (c : Content) → Suits vars s (Pointer b) c → fits_cell vars (Pointer b) (or_unwritten (place_in (Some c)) Place) ≡ true
      by s Unwritten h = refl
      by s (Word p) h = refl
      by s (Place a) h = place_type vars s b a h
      by s (Cell z) h = (only_cell vars s (Pointer b) z h).1
  fits_content t (Cell y) e u =
      let r = and_parts (is_cell x.vars y.0) (has_type x.vars t y.0) e in
      let (i, at, cell) = variable_is x.vars (λ (i : VarInfo). is_cell_sort i.sort) y.0 r.0 in
      let (k, at', same) = variable_is x.vars (λ (i : VarInfo). same_type i.value t) y.0 r.1 in
      let (c, is, g, h) = stands.content y.0 i at in
      let one : i.value ≡ t = ap (λ (z : VarInfo). z.value) (same_Some _ _ (sym at ∙ at')) ∙ same_is k.value t same in
      subst (λ o. fits_cell vars t (or_unwritten o (λ c. c)) ≡ true) (sym is) (by i.sort c cell (subst (λ z. Suits vars i.sort z c) one h))
    where
      by : (s : Sort) (c : Content) → is_cell_sort s ≡ true → Suits vars s t c → fits_cell vars t c ≡ true
      by sort.Cell c e h = h
      by sort.Given c e h = cc
      by sort.Input c e h = cc
      by sort.Made c e h = cc

  read_cells : (ts : List ValueType) (cs : List Content) → fit_each (fits_cell x.vars) ts cs ≡ true → Each Used (flat_map content_variables cs) → (fit_each (fits_cell vars) ts (map (content_through σ) cs) ≡ true) × Each (Good vars says) (map (content_through σ) cs)
  read_cells [] [] e u = (refl, tt)
  read_cells [] (c ∷ cs) e u = cc
  read_cells (t ∷ ts) [] e u = cc
  read_cells (t ∷ ts) (c ∷ cs) e u =
      let b = and_parts (fits_cell x.vars t c) (fit_each (fits_cell x.vars) ts cs) e in
      let (first, later) = each_split Used (content_variables c) (flat_map content_variables cs) u in
      let rest = read_cells ts cs b.1 later in
      (and_from _ _ (fits_content t c b.0 first) rest.0, (good_content c (some_type t c b.0) first, rest.1))

  -- the state of a block is so too
  pub read_state : (ts : List ValueType) (st : AtomState) → fits_state (fits_cell x.vars) ts st ≡ true → Each Used (flat_map content_variables (state_cells st)) →
      (fits_state (fits_cell vars) ts (state_through σ st) ≡ true) × Each (Good vars says) (state_cells (state_through σ st))
  read_state ts (Live cells) e u = read_cells ts cells e u
  read_state ts Freed e u = (refl, tt)

  -- ---- conjuncts

  one_word : (f : Polynomial → Conj) → ((q : Polynomial) → Good vars says (Word q) → GoodConj vars says (f q)) → (p : Polynomial) → is_int_polynomial x.vars p ≡ true → Each Used (variables_of p) → GoodClaim vars says (claim_one f (word_through σ p))
  one_word f from p e u = by (word_through σ p) refl
    where
      by : (o : Option Polynomial) → word_through σ p ≡ o → GoodClaim vars says (claim_one f o)
      by None is = tt
      by (Some q) is = from q (good_word p e u q is)

  two_words : (f : Polynomial → Polynomial → Conj) → ((a b : Polynomial) → Good vars says (Word a) → Good vars says (Word b) → GoodConj vars says (f a b)) → (p q : Polynomial) → (is_int_polynomial x.vars p && is_int_polynomial x.vars q) ≡ true →
      Each Used (variables_of p ++ variables_of q) → GoodClaim vars says (claim_two f (word_through σ p) (word_through σ q))
  two_words f from p q e u = by (word_through σ p) (word_through σ q) refl refl
    where
      by : (o r : Option Polynomial) → word_through σ p ≡ o → word_through σ q ≡ r → GoodClaim vars says (claim_two f o r)
      by None r is at = tt
      by (Some a) None is at = tt
      by (Some a) (Some b) is at =
          let t = and_parts (is_int_polynomial x.vars p) (is_int_polynomial x.vars q) e in
          let (first, later) = each_split Used (variables_of p) (variables_of q) u in from a b (good_word p t.0 first a is) (good_word q t.1 later b at)

  two_places : (f : PlaceOf → PlaceOf → Conj) → ((a b : PlaceOf) → Good vars says (Place a) → Good vars says (Place b) → GoodConj vars says (f a b)) → (p q : PlaceOf) → (is_pointer_place x.vars p && is_pointer_place x.vars q) ≡ true →
      Each Used (place_variables p ++ place_variables q) → GoodClaim vars says (claim_two f (place_through σ p) (place_through σ q))
  two_places f from p q e u = by (place_through σ p) (place_through σ q) refl refl
    where
      by : (o r : Option PlaceOf) → place_through σ p ≡ o → place_through σ q ≡ r → GoodClaim vars says (claim_two f o r)
      by None r is at = tt
      by (Some a) None is at = tt
      by (Some a) (Some b) is at =
          let t = and_parts (is_pointer_place x.vars p) (is_pointer_place x.vars q) e in
          let (first, later) = each_split Used (place_variables p) (place_variables q) u in from a b (good_place p t.0 first a is) (good_place q t.1 later b at)

  listed : (y : ℕ) → nat_lt y (length x.vars) ≡ true → (i : VarInfo) × (slice_get x.vars y ≡ Some i)
  listed y e = (_, slice_get-get_or x.vars y (record { sort = sort.Given; value = Int }) (ltb-true y (length x.vars) e))

  cell_below : (z : Var) → is_cell vars z.0 ≡ true → z.0 < length vars
  cell_below z e = let (i, at, c) = variable_is vars (λ (i : VarInfo). is_cell_sort i.sort) z.0 e in slice_get_within vars z.0 i at

  pub good_claim : (c : Conj) → is_well_sorted x.vars c ≡ true → is_quotient_input x.vars c ≡ true → Each Used (used_by_conjunct c) → GoodClaim vars says (claim_through σ c)
  good_claim (conjunct.Equal p) e r u = one_word conjunct.Equal (λ q g. g.1) p e u
  good_claim (conjunct.Unequal p) e r u = one_word conjunct.Unequal (λ q g. g.1) p e u
  good_claim (conjunct.Less p q) e r u = two_words conjunct.Less (λ a b g h. (g.1, h.1)) p q e u
  good_claim (conjunct.AtMost p q) e r u = two_words conjunct.AtMost (λ a b g h. (g.1, h.1)) p q e u
  good_claim (conjunct.SamePlace p q) e r u = two_places conjunct.SamePlace (λ a b g h. (g, h)) p q e u
  good_claim (conjunct.OtherPlace p q) e r u = two_places conjunct.OtherPlace (λ a b g h. (g, h)) p q e u
  good_claim (conjunct.Written y) e r u =
      let (i, at) = listed y.0 e in
      let (c, is, g, h) = stands.content y.0 i at in subst (λ o. GoodClaim vars says (written_claim o)) (sym is) (by i at c is g h)
    where
      by : (i : VarInfo) → slice_get x.vars y.0 ≡ Some i → (c : Content) → content_for σ y.0 ≡ Some c → Good vars pure c → Suits vars i.sort i.value c → GoodClaim vars says (written_claim (Some c))
      by i at Unwritten is g h = tt
      by i at (Word p) is g h = tt
      by i at (Place a) is g h = tt
      by i at (Cell z) is g h = (cell_below z g, cell_usable y.0 i z at is h u.0)
  good_claim (conjunct.Unwritten y) e r u =
      let (i, at) = listed y.0 e in
      let (c, is, g, h) = stands.content y.0 i at in subst (λ o. GoodClaim vars says (unwritten_claim o)) (sym is) (by c g)
    where
      by : (c : Content) → Good vars pure c → GoodClaim vars says (unwritten_claim (Some c))
      by Unwritten g = tt
      by (Word p) g = tt
      by (Place a) g = tt
      by (Cell z) g = cell_below z g
  good_claim (conjunct.Quotient y p q) e r u =
      let a = and_parts (is_int x.vars y.0) (is_int_polynomial x.vars p && is_int_polynomial x.vars q) e in
      let (m, is, input, g) = input_content vars pure x.vars σ stands y.0 r in
      subst (λ o. GoodClaim vars says (quotient_claim (variable_in o) (word_through σ p) (word_through σ q))) (sym is)
      (two_words (conjunct.Quotient (record { 0 = m })) (λ a b good later. (input, (grown_good (Word (variable m)) g).1.0, good.1, later.1)) p q a.1 u.1)
