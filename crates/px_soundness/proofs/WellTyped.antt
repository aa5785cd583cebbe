-- What symbolic states keep: good contents in slots and blocks, blocks at pointers to their types, and made blocks at
-- places of their own.
use Rattle.std.proofs.Common.{◌≡◌, ◌≢◌, ◌⊎◌, ℕ, zero, suc, ◌<◌, Bool, true, false, not, ◌||◌, Option, Some, List, [], ◌∷◌, ◌++◌, length, slice_get, slice_set, refl, sym, ap, ◌∙◌, subst, inl, inr, arith, append_assoc}
use Rattle.std.specs.List.{list_all, list_any}
use Rattle.std.proofs.lemmas.Bool.{and_parts, and_from, eq-eqb}
use Rattle.std.proofs.lemmas.List.Elements.{All-nil, All-cons}
use Rattle.px_terms.specs.Types.{types_of}
use Rattle.std.proofs.lemmas.List.Sorted.{IsNonDecreasingBy-short}
use Rattle.std.proofs.lemmas.Option.{same_Some, slice_get_within}
use Rattle.px_terms.specs.Terms.{HasOrderedVariables}
use Rattle.px_terms.specs.Polynomials.{IsPolynomial}
use Rattle.px_terms.specs.Variables.{variables_of}
use Rattle.px_terms.specs.Substitutions.{variable}
use Rattle.px_terms.specs.declared.types.BlockType.{BlockType}
use Rattle.px_terms.specs.declared.types.ValueType.{ValueType}
use Rattle.px_terms.specs.declared.types.ValueType.TheVariants.{Int, Pointer}
use Rattle.px_terms.specs.declared.variables.VarInfo.{VarInfo}
use Rattle.px_terms.specs.declared.variables.Sort.TheVariants as sort
use Rattle.px_terms.specs.declared.conjuncts.Place.TheVariants as place
use Rattle.px_terms.specs.declared.conjuncts.Content.{Content}
use Rattle.px_terms.specs.declared.conjuncts.Content.TheVariants.{Unwritten, Word, Place, Cell}
use Rattle.px_terms.specs.declared.conjuncts.Conj.{Conj}
use Rattle.px_terms.specs.declared.conjuncts.Conj.TheVariants.{Written}
use Rattle.px_terms.proofs.Agreement.{get_more}
use Rattle.px_entry.specs.declared.atoms.Atom.{Atom}
use Rattle.px_entry.specs.declared.atoms.AtomState.{AtomState}
use Rattle.px_entry.specs.declared.atoms.AtomState.TheVariants.{Live, Freed}
use Rattle.px_entry.specs.Sorts.{is_cell_sort, is_made_sort, same_type, is_variable_with, is_some_and, is_cell, is_made, is_int, has_type}
use Rattle.px_entry.specs.Equality.{same_conjunct}
use Rattle.px_entry.specs.Decided.{assume, is_true, decided, stands_in}
use Rattle.px_entry.specs.Contents.{fits_cell, fit_each}
use Rattle.px_entry.specs.Regular.{is_said_written, fits_state, state_cells, is_own_cell}
use Rattle.px_entry.proofs.Lists.{Each, each_append}
use Rattle.px_callgraph.specs.declared.states.State.{State}
use Rattle.px_callgraph.specs.States.{set_slot, assumed, info, with_variables, with_atom, met}
use Rattle.px_callgraph.specs.Accesses.{cell_contents, cell_infos, set_atom, change_atom}
use Rattle.px_soundness.proofs.WellFormed.{is_usable, UsableWord, Good, GoodAtom, OwnPlaces, WellTyped}
use Rattle.px_soundness.proofs.AtomHeaps.{absent}
use Rattle.px_soundness.proofs.Truths.{variable_is}
use Rattle.px_callgraph.proofs.KeepLemmas.{each_weaker}

-- ---- lists

pub each_push : {A : Type 0} (P : A → Type 0) (xs : List A) (x : A) → Each P xs → P x → Each P (xs ++ x ∷ [])
each_push P xs x h p = each_append P xs (x ∷ []) h (p, tt)

pub each_set : {A : Type 0} (P : A → Type 0) (xs : List A) (n : ℕ) (x : A) → Each P xs → P x → Each P (slice_set xs n x)
each_set P [] n x h p = tt
each_set P (y ∷ xs) zero x h p = (p, h.1)
each_set P (y ∷ xs) (suc n) x h p = (h.0, each_set P xs n x h.1 p)

pub each_get : {A : Type 0} (P : A → Type 0) (xs : List A) (n : ℕ) (x : A) → Each P xs → slice_get xs n ≡ Some x → P x
each_get P [] n x h e = absent e
each_get P (y ∷ xs) zero x h e = subst P (same_Some _ _ e) h.0
each_get P (y ∷ xs) (suc n) x h e = each_get P xs n x h.1 e

-- ---- more variables and conjuncts

abbrev pub Grown : List VarInfo → List VarInfo → Type 0
Grown vars more = (x : ℕ) (i : VarInfo) → slice_get vars x ≡ Some i → slice_get more x ≡ Some i

abbrev pub SaysMore : List Conj → List Conj → Type 0
SaysMore pure more = (x : ℕ) → is_said_written pure x ≡ true → is_said_written more x ≡ true

pub grown_by : (vars new : List VarInfo) → Grown vars (vars ++ new)
grown_by vars new x i e = get_more vars new x i e

any_front : {A : Type 0} (test : A → Bool) (xs ys : List A) → list_any test xs ≡ true → list_any test (xs ++ ys) ≡ true
any_front test [] ys e = cc
any_front test (x ∷ xs) ys e = by (test x) (any_front test xs ys) e
  where
    by : (q : Bool) → (list_any test xs ≡ true → list_any test (xs ++ ys) ≡ true) → (q || list_any test xs) ≡ true → (q || list_any test (xs ++ ys)) ≡ true
    by true f e = refl
    by false f e = f e

pub assume_more : (vars : List VarInfo) (pure : List Conj) (c : Conj) → SaysMore pure (assume vars pure c)
assume_more vars pure c x e = by (is_true (decided vars c) || stands_in pure c)
  where
    by : (q : Bool) → is_said_written (elim q as (λ _. List Conj) [ true ↦ pure | false ↦ pure ++ c ∷ [] ]) x ≡ true
    by true = e
    by false = any_front (same_conjunct (Written (record { 0 = x }))) pure (c ∷ []) e

module _ (vars more : List VarInfo) (grown : Grown vars more) where
  pub same_grown : (test : VarInfo → Bool) (x : ℕ) (i : VarInfo) → slice_get vars x ≡ Some i → is_variable_with more test x ≡ is_variable_with vars test x
  same_grown test x i e = ap (λ (o : Option VarInfo). is_some_and o test) (grown x i e) ∙ ap (λ (o : Option VarInfo). is_some_and o test) (sym e)

  pub with_grown : (test : VarInfo → Bool) (x : ℕ) → is_variable_with vars test x ≡ true → is_variable_with more test x ≡ true
  with_grown test x e = let (i, at, t) = variable_is vars test x e in same_grown test x i at ∙ e

  polynomial_grown : (xs : List ℕ) → list_all (is_int vars) xs ≡ true → list_all (is_int more) xs ≡ true
  polynomial_grown [] e = refl
  polynomial_grown (x ∷ xs) e = let b = and_parts (is_int vars x) (list_all (is_int vars) xs) e in and_from _ _ (with_grown _ x b.0) (polynomial_grown xs b.1)

  pub fits_grown : (t : ValueType) (c : Content) → fits_cell vars t c ≡ true → fits_cell more t c ≡ true
  fits_grown t Unwritten e = refl
  fits_grown t (Cell x) e = let b = and_parts (is_cell vars x.0) (has_type vars t x.0) e in and_from _ _ (with_grown _ x.0 b.0) (with_grown _ x.0 b.1)
  fits_grown Int (Word p) e = polynomial_grown (variables_of p) e
  fits_grown (Pointer t) (Word p) e = cc
  fits_grown Int (Place a) e = cc
  fits_grown (Pointer t) (Place place.Null) e = refl
  fits_grown (Pointer t) (Place (place.Var x)) e = with_grown _ x.0 e

  each_fit_grown : (ts : List ValueType) (cs : List Content) → fit_each (fits_cell vars) ts cs ≡ true → fit_each (fits_cell more) ts cs ≡ true
  each_fit_grown [] [] e = refl
  each_fit_grown [] (c ∷ cs) e = cc
  each_fit_grown (t ∷ ts) [] e = cc
  each_fit_grown (t ∷ ts) (c ∷ cs) e = let b = and_parts (fits_cell vars t c) (fit_each (fits_cell vars) ts cs) e in and_from _ _ (fits_grown t c b.0) (each_fit_grown ts cs b.1)

  pub state_fit_grown : (ts : List ValueType) (st : AtomState) → fits_state (fits_cell vars) ts st ≡ true → fits_state (fits_cell more) ts st ≡ true
  state_fit_grown ts (Live cells) e = each_fit_grown ts cells e
  state_fit_grown ts Freed e = refl

  module _ (pure says : List Conj) (said : SaysMore pure says) where
    pub usable_grown : (x : ℕ) (i : VarInfo) → slice_get vars x ≡ Some i → is_usable vars pure x ≡ true → is_usable more says x ≡ true
    usable_grown x i at e = ap (λ q. not q || is_said_written says x) (same_grown (λ (i : VarInfo). is_cell_sort i.sort) x i at) ∙ by (is_cell vars x) (is_said_written pure x) refl e
      where
        by : (p q : Bool) → is_said_written pure x ≡ q → (not p || q) ≡ true → (not p || is_said_written says x) ≡ true
        by false q is e = refl
        by true true is e = said x is
        by true false is e = cc

    pub good_grown : (c : Content) → Good vars pure c → Good more says c
    good_grown Unwritten g = tt
    good_grown (Word p) g =
        (g.0, each_weaker (UsableWord vars pure) (UsableWord more says) (λ x u. let (i, at, t) = variable_is vars _ x u.0 in (with_grown _ x u.0, usable_grown x i at u.1)) (variables_of p) g.1)
    good_grown (Place place.Null) g = tt
    good_grown (Place (place.Var x)) g = let (i, at, t) = variable_is vars _ x.0 g.0 in (with_grown _ x.0 g.0, usable_grown x.0 i at g.1)
    good_grown (Cell x) g = with_grown _ x.0 g

    pub atom_grown : (types : List BlockType) (a : Atom) → GoodAtom types vars pure a → GoodAtom types more says a
    atom_grown types a g =
        let (i, at, t) = variable_is vars _ a.place.0 g.points in record {
          points = with_grown _ a.place.0 g.points;
          usable = usable_grown a.place.0 i at g.usable;
          fits = state_fit_grown (types_of (slice_get types a.block.0)) a.state g.fits;
          cells = each_weaker (Good vars pure) (Good more says) good_grown (state_cells a.state) g.cells;
        }

  pub own_grown : (types : List BlockType) (pure : List Conj) (atoms : List Atom) → Each (GoodAtom types vars pure) atoms → OwnPlaces vars atoms → OwnPlaces more atoms
  own_grown types pure [] h o = tt
  own_grown types pure (a ∷ rest) h o = (apart rest h.1 o.0, own_grown types pure rest h.1 o.1)
    where
      back : (b : Atom) → GoodAtom types vars pure b → is_made more b.place.0 ≡ true → is_made vars b.place.0 ≡ true
      back b g e = let (i, at, t) = variable_is vars _ b.place.0 g.points in sym (same_grown (λ (i : VarInfo). is_made_sort i.sort) b.place.0 i at) ∙ e

      apart : (bs : List Atom) → Each (GoodAtom types vars pure) bs → Each (λ (b : Atom). (is_made vars a.place.0 ≡ true) ⊎ (is_made vars b.place.0 ≡ true) → a.place.0 ≢ b.place.0) bs →
          Each (λ (b : Atom). (is_made more a.place.0 ≡ true) ⊎ (is_made more b.place.0 ≡ true) → a.place.0 ≢ b.place.0) bs
      apart [] g o = tt
      apart (b ∷ bs) g o = (λ m. o.0 (elim m [ inl x ↦ inl (back a h.0 x) | inr x ↦ inr (back b g.0 x) ]), apart bs g.1 o.1)

-- ---- states

pub well_typed_grown : (types : List BlockType) (s : State) (more : List VarInfo) (says : List Conj) → Grown s.vars more → SaysMore s.pure says → WellTyped types s → WellTyped types (record s { vars = more; pure = says })
well_typed_grown types s more says grown said h = record {
  slots = each_weaker _ _ (good_grown s.vars more grown s.pure says said) s.slots h.slots;
  atoms = each_weaker _ _ (atom_grown s.vars more grown s.pure says said types) s.atoms h.atoms;
  own = own_grown s.vars more grown types s.pure s.atoms h.atoms h.own;
}

pub well_typed_assumed : (types : List BlockType) (s : State) (c : Conj) → WellTyped types s → WellTyped types (assumed c s)
well_typed_assumed types s c h = well_typed_grown types s s.vars (assume s.vars s.pure c) (λ x i e. e) (assume_more s.vars s.pure c) h

pub well_typed_variables : (types : List BlockType) (s : State) (new : List VarInfo) → WellTyped types s → WellTyped types (with_variables new s)
well_typed_variables types s new h = well_typed_grown types s (s.vars ++ new) s.pure (grown_by s.vars new) (λ x e. e) h

pub well_typed_slot : (types : List BlockType) (s : State) (n : ℕ) (c : Content) → Good s.vars s.pure c → WellTyped types s → WellTyped types (set_slot n c s)
well_typed_slot types s n c g h = record { slots = each_set _ s.slots n c h.slots g; atoms = h.atoms; own = h.own }

-- ---- atoms

-- the atom may stand after these
abbrev pub Own : List VarInfo → Atom → List Atom → Type 0
Own vars a atoms = Each (λ (b : Atom). (is_made vars b.place.0 ≡ true) ⊎ (is_made vars a.place.0 ≡ true) → b.place.0 ≢ a.place.0) atoms

own_push : (vars : List VarInfo) (atoms : List Atom) (a : Atom) → OwnPlaces vars atoms → Own vars a atoms → OwnPlaces vars (atoms ++ a ∷ [])
own_push vars [] a o p = (tt, tt)
own_push vars (b ∷ rest) a o p = (each_push _ rest a o.0 p.0, own_push vars rest a o.1 p.1)

pub well_typed_atom : (types : List BlockType) (s : State) (a : Atom) → GoodAtom types s.vars s.pure a → Own s.vars a s.atoms → WellTyped types s → WellTyped types (with_atom a s)
well_typed_atom types s a g p h = record { slots = h.slots; atoms = each_push _ s.atoms a h.atoms g; own = own_push s.vars s.atoms a h.own p }

pub well_typed_met : (types : List BlockType) (s : State) (a : Atom) → GoodAtom types s.vars s.pure a → Own s.vars a s.atoms → WellTyped types s → WellTyped types (met a s)
well_typed_met types s a g p h = record { slots = h.slots; atoms = each_push _ s.atoms a h.atoms g; own = own_push s.vars s.atoms a h.own p }

module _ (types : List BlockType) (vars : List VarInfo) (pure : List Conj) where
  pub set_good : (atoms : List Atom) (n : ℕ) (a : Atom) (st : AtomState) → slice_get atoms n ≡ Some a → fits_state (fits_cell vars) (types_of (slice_get types a.block.0)) st ≡ true → Each (Good vars pure) (state_cells st) →
      Each (GoodAtom types vars pure) atoms → Each (GoodAtom types vars pure) (set_atom n st atoms)
  set_good [] n a st e f g h = tt
  set_good (b ∷ rest) zero a st e f g h =
      (record { points = h.0.points; usable = h.0.usable; fits = subst (λ (x : Atom). fits_state (fits_cell vars) (types_of (slice_get types x.block.0)) st ≡ true) (sym (same_Some _ _ e)) f; cells = g }, h.1)
  set_good (b ∷ rest) (suc n) a st e f g h = (h.0, set_good rest n a st e f g h.1)

  set_apart : (a : Atom) (atoms : List Atom) (n : ℕ) (st : AtomState) → Each (λ (b : Atom). (is_made vars a.place.0 ≡ true) ⊎ (is_made vars b.place.0 ≡ true) → a.place.0 ≢ b.place.0) atoms →
      Each (λ (b : Atom). (is_made vars a.place.0 ≡ true) ⊎ (is_made vars b.place.0 ≡ true) → a.place.0 ≢ b.place.0) (set_atom n st atoms)
  set_apart a [] n st o = tt
  set_apart a (b ∷ rest) zero st o = o
  set_apart a (b ∷ rest) (suc n) st o = (o.0, set_apart a rest n st o.1)

  pub set_own : (atoms : List Atom) (n : ℕ) (st : AtomState) → OwnPlaces vars atoms → OwnPlaces vars (set_atom n st atoms)
  set_own [] n st o = tt
  set_own (b ∷ rest) zero st o = o
  set_own (b ∷ rest) (suc n) st o = (set_apart b rest n st o.0, set_own rest n st o.1)

pub well_typed_changed : (types : List BlockType) (s : State) (n : ℕ) (a : Atom) (st : AtomState) → slice_get s.atoms n ≡ Some a → fits_state (fits_cell s.vars) (types_of (slice_get types a.block.0)) st ≡ true →
    Each (Good s.vars s.pure) (state_cells st) → WellTyped types s → WellTyped types (change_atom n st s)
well_typed_changed types s n a st e f g h = record { slots = h.slots; atoms = set_good types s.vars s.pure s.atoms n a st e f g h.atoms; own = set_own types s.vars s.pure s.atoms n st h.own }

-- a place that isn't made stands beside made ones, and a new variable beside all
pub found_own : (types : List BlockType) (vars : List VarInfo) (pure : List Conj) (a : Atom) (atoms : List Atom) → is_made vars a.place.0 ≡ false → Own vars a atoms
found_own types vars pure a [] e = tt
found_own types vars pure a (b ∷ rest) e = (by, found_own types vars pure a rest e)
  where
    by : (is_made vars b.place.0 ≡ true) ⊎ (is_made vars a.place.0 ≡ true) → b.place.0 ≢ a.place.0
    by (inl m) same = let f : true ≡ false = sym m ∙ ap (is_made vars) same ∙ e in cc
    by (inr m) same = let f : true ≡ false = sym m ∙ e in cc

pub new_own : (types : List BlockType) (vars more : List VarInfo) (pure : List Conj) (a : Atom) (atoms : List Atom) → a.place.0 ≡ length vars → Each (GoodAtom types vars pure) atoms → Own more a atoms
new_own types vars more pure a [] e h = tt
new_own types vars more pure a (b ∷ rest) e h =
    (λ m same. let (i, at, t) = variable_is vars _ b.place.0 h.0.points in let l : b.place.0 < length vars = slice_get_within vars b.place.0 i at in let n : ⊥ = omega arith in n, new_own types vars more pure a rest e h.1)

-- ---- new variables

pub variable_form : (x : ℕ) → IsPolynomial (variable x)
variable_form x = record {
  constant = omega arith;
  monomials = record {
    rising = (omega arith, omega arith, tt, tt);
    variables = All-cons HasOrderedVariables (record { coefficient = 1; vars = x ∷ [] }) [] (omega arith, IsNonDecreasingBy-short (λ n. n) (x ∷ []) (omega arith)) (All-nil HasOrderedVariables);
  };
}

pub get_next : {A : Type 0} (xs : List A) (x : A) → slice_get (xs ++ x ∷ []) (length xs) ≡ Some x
get_next [] x = refl
get_next (y ∷ xs) x = get_next xs x

pub type_itself : (t : ValueType) → same_type t t ≡ true
type_itself Int = refl
type_itself (Pointer t) = eq-eqb t.0 t.0 refl

-- the variables of a block's cells are their own
module _ (pure : List Conj) where
  pub own_cells : (before : List VarInfo) (ts : List ValueType) (vars : List VarInfo) (n : ℕ) → vars ≡ before ++ cell_infos ts → n ≡ length before →
      (fit_each (is_own_cell vars) ts (cell_contents n ts) ≡ true) × (fit_each (fits_cell vars) ts (cell_contents n ts) ≡ true) × Each (Good vars pure) (cell_contents n ts)
  own_cells before [] vars n e at = (refl, refl, tt)
  own_cells before (t ∷ ts) vars n e at =
      let i = info sort.Cell t in
      let e' : vars ≡ (before ++ i ∷ []) ++ cell_infos ts = e ∙ sym (append_assoc before (i ∷ []) (cell_infos ts)) in
      let rest = own_cells (before ++ i ∷ []) ts vars (suc n) e' (ap suc at ∙ longer before i) in
      let get : slice_get vars n ≡ Some i = ap (λ xs. slice_get xs n) e' ∙ grown_by (before ++ i ∷ []) (cell_infos ts) n i (ap (slice_get (before ++ i ∷ [])) at ∙ get_next before i) in
      let cell : is_cell vars n ≡ true = ap (λ (o : Option VarInfo). is_some_and o (λ (k : VarInfo). is_cell_sort k.sort)) get in
      let has : has_type vars t n ≡ true = ap (λ (o : Option VarInfo). is_some_and o (λ (k : VarInfo). same_type k.value t)) get ∙ type_itself t in
      (and_from _ _ (and_from _ _ cell has) rest.0, and_from _ _ (and_from _ _ cell has) rest.1, (cell, rest.2))
    where
      longer : (xs : List VarInfo) (i : VarInfo) → suc (length xs) ≡ length (xs ++ i ∷ [])
      longer [] i = refl
      longer (x ∷ xs) i = ap suc (longer xs i)
