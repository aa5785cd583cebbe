-- What states keep so that the entries of their paths are regular.
use Rattle.std.proofs.Common.{◌≡◌, ◌≢◌, ℕ, ◌+◌, ◌<◌, Bool, true, false, not, cond, nat_eq, ◌||◌, List, [], ◌∷◌, ◌++◌, length, slice_get, refl, ap, ap₂, ◌∙◌, arith}
use Rattle.std.specs.Prelude.{count_by}
use Rattle.std.specs.List.{list_any}
use Rattle.std.proofs.lemmas.Bool.{and_parts, and_from}
use Rattle.std.proofs.lemmas.List.Recursion.{is_count_by}
use Rattle.std.proofs.lemmas.Option.{slice_get_within, slice_get-get_or}
use Rattle.px_terms.specs.Types.{types_of}
use Rattle.px_terms.specs.Variables.{variables_of}
use Rattle.px_terms.specs.declared.types.BlockType.{BlockType}
use Rattle.px_terms.specs.declared.types.ValueType.{ValueType}
use Rattle.px_terms.specs.declared.types.ValueType.TheVariants.{Int}
use Rattle.px_terms.specs.declared.variables.VarInfo.{VarInfo}
use Rattle.px_terms.specs.declared.variables.Sort.TheVariants as sort
use Rattle.px_terms.specs.declared.conjuncts.Content.{Content}
use Rattle.px_terms.specs.declared.conjuncts.Content.TheVariants.{Unwritten, Word, Place, Cell}
use Rattle.px_terms.specs.declared.conjuncts.Conj.{Conj}
use Rattle.px_terms.specs.declared.conjuncts.Conj.TheVariants as conjunct
use Rattle.px_entry.specs.declared.atoms.Atom.{Atom}
use Rattle.px_entry.specs.declared.atoms.AtomState.{AtomState}
use Rattle.px_entry.specs.declared.atoms.AtomState.TheVariants.{Live, Freed}
use Rattle.px_entry.specs.Sorts.{is_made_sort, is_given, is_cell, has_type}
use Rattle.px_entry.specs.Decided.{assume, is_true, decided, stands_in}
use Rattle.px_entry.specs.Constraint.{found_atoms, made_atoms}
use Rattle.px_entry.specs.Contents.{fit_each}
use Rattle.px_entry.specs.Regular.{fits_state, is_own_cell, cells_of, are_reached}
use Rattle.px_entry.proofs.Lists.{Each}
use Rattle.px_callgraph.specs.States.{info}
use Rattle.px_soundness.proofs.WellFormed.{is_usable, UsableWord, GoodAtom, times, GoodConj, GoodFound, Complete}
use Rattle.px_soundness.proofs.Truths.{variable_is}
use Rattle.px_soundness.proofs.WellTyped.{Grown, SaysMore, each_push, assume_more, same_grown, with_grown, usable_grown, good_grown}
use Rattle.px_callgraph.proofs.KeepLemmas.{each_weaker}
use Rattle.px_meaning.proofs.Joins.{other_number}

-- ---- how often a number stands in a list

pub times_is : (x : ℕ) (xs : List ℕ) → times x xs ≡ count_by (nat_eq x) xs
times_is x xs = is_count_by (times x) (nat_eq x) refl (λ y ys. refl) xs

pub times_append : (x : ℕ) (xs ys : List ℕ) → times x (xs ++ ys) ≡ times x xs + times x ys
times_append x [] ys = omega arith
times_append x (y ∷ xs) ys = by (nat_eq x y) (times_append x xs ys)
  where
    by : (b : Bool) → times x (xs ++ ys) ≡ times x xs + times x ys → cond b (1 + times x (xs ++ ys)) (times x (xs ++ ys)) ≡ cond b (1 + times x xs) (times x xs) + times x ys
    by true e = omega (arith, e)
    by false e = e

-- none stands among others
pub times_none : (x : ℕ) (xs : List ℕ) → Each (λ y. x ≢ y) xs → times x xs ≡ 0
times_none x [] h = refl
times_none x (y ∷ ys) h = ap (λ b. cond b (1 + times x ys) (times x ys)) (other_number x y h.0) ∙ times_none x ys h.1

pub any_from_times : (x : ℕ) (xs : List ℕ) → times x xs ≡ 1 → list_any (nat_eq x) xs ≡ true
any_from_times x [] e = absurd (let f : 0 ≡ 1 = e in omega (arith, f))
any_from_times x (y ∷ ys) e = by (nat_eq x y) e (any_from_times x ys)
  where
    by : (b : Bool) → cond b (1 + times x ys) (times x ys) ≡ 1 → (times x ys ≡ 1 → list_any (nat_eq x) ys ≡ true) → (b || list_any (nat_eq x) ys) ≡ true
    by true e f = refl
    by false e f = f e

-- ---- growth

grown_below : (vars more : List VarInfo) → Grown vars more → (x : ℕ) → x < length vars → x < length more
grown_below vars more grown x l =
    slice_get_within more x _ (grown x _ (slice_get-get_or vars x (info sort.Given Int) l))

module _ (vars more : List VarInfo) (grown : Grown vars more) (pure says : List Conj) (said : SaysMore pure says) where
  words_grown : (xs : List ℕ) → Each (UsableWord vars pure) xs → Each (UsableWord more says) xs
  words_grown xs h = each_weaker (UsableWord vars pure) (UsableWord more says) (λ x u. let (i, at, t) = variable_is vars _ x u.0 in (with_grown vars more grown _ x u.0, usable_grown vars more grown pure says said x i at u.1)) xs h

  below_usable : (x : ℕ) → x < length vars → is_usable vars pure x ≡ true → is_usable more says x ≡ true
  below_usable x l u = usable_grown vars more grown pure says said x _ (slice_get-get_or vars x (info sort.Given Int) l) u

  pub conj_grown : (c : Conj) → GoodConj vars pure c → GoodConj more says c
  conj_grown (conjunct.Equal p) g = words_grown (variables_of p) g
  conj_grown (conjunct.Unequal p) g = words_grown (variables_of p) g
  conj_grown (conjunct.Less p q) g = (words_grown (variables_of p) g.0, words_grown (variables_of q) g.1)
  conj_grown (conjunct.AtMost p q) g = (words_grown (variables_of p) g.0, words_grown (variables_of q) g.1)
  conj_grown (conjunct.SamePlace a b) g = (good_grown vars more grown pure says said (Place a) g.0, good_grown vars more grown pure says said (Place b) g.1)
  conj_grown (conjunct.OtherPlace a b) g = (good_grown vars more grown pure says said (Place a) g.0, good_grown vars more grown pure says said (Place b) g.1)
  conj_grown (conjunct.Written x) g = (grown_below vars more grown x.0 g.0, below_usable x.0 g.0 g.1)
  conj_grown (conjunct.Unwritten x) g = grown_below vars more grown x.0 g
  conj_grown (conjunct.Quotient x p q) g = (with_grown vars more grown _ x.0 g.0, (words_grown (x.0 ∷ []) (g.1, tt)).0, words_grown (variables_of p) g.2, words_grown (variables_of q) g.3)

  own_cell_grown : (t : ValueType) (c : Content) → is_own_cell vars t c ≡ true → is_own_cell more t c ≡ true
  own_cell_grown t Unwritten e = cc
  own_cell_grown t (Word p) e = cc
  own_cell_grown t (Place a) e = cc
  own_cell_grown t (Cell x) e = let b = and_parts (is_cell vars x.0) (has_type vars t x.0) e in and_from _ _ (with_grown vars more grown _ x.0 b.0) (with_grown vars more grown _ x.0 b.1)

  own_cells_grown : (ts : List ValueType) (cs : List Content) → fit_each (is_own_cell vars) ts cs ≡ true → fit_each (is_own_cell more) ts cs ≡ true
  own_cells_grown [] [] e = refl
  own_cells_grown [] (c ∷ cs) e = cc
  own_cells_grown (t ∷ ts) [] e = cc
  own_cells_grown (t ∷ ts) (c ∷ cs) e = let b = and_parts (is_own_cell vars t c) (fit_each (is_own_cell vars) ts cs) e in and_from _ _ (own_cell_grown t c b.0) (own_cells_grown ts cs b.1)

  own_state_grown : (ts : List ValueType) (st : AtomState) → fits_state (is_own_cell vars) ts st ≡ true → fits_state (is_own_cell more) ts st ≡ true
  own_state_grown ts (Live cells) e = own_cells_grown ts cells e
  own_state_grown ts Freed e = refl

  pub found_grown : (types : List BlockType) (a : Atom) → GoodFound types vars pure a → GoodFound types more says a
  found_grown types a g =
      let (i, at, t) = variable_is vars _ a.place.0 g.points in record {
        points = with_grown vars more grown _ a.place.0 g.points;
        usable = usable_grown vars more grown pure says said a.place.0 i at g.usable;
        fits = own_state_grown (types_of (slice_get types a.block.0)) a.state g.fits;
      }

  pub reached_grown : (cells : List ℕ) (pre : List Atom) → are_reached vars cells pre ≡ true → are_reached more cells pre ≡ true
  reached_grown cells [] e = refl
  reached_grown cells (a ∷ rest) e =
      let b = and_parts (is_given vars a.place.0 || list_any (nat_eq a.place.0) cells) (are_reached vars (cells ++ cells_of (a ∷ [])) rest) e in
      and_from _ _ (by (is_given vars a.place.0) refl b.0) (reached_grown (cells ++ cells_of (a ∷ [])) rest b.1)
    where
      by : (g : Bool) → is_given vars a.place.0 ≡ g → (g || list_any (nat_eq a.place.0) cells) ≡ true → (is_given more a.place.0 || list_any (nat_eq a.place.0) cells) ≡ true
      by true is e = ap (λ q. q || list_any (nat_eq a.place.0) cells) (with_grown vars more grown _ a.place.0 is)
      by false is e = or_right (is_given more a.place.0) (list_any (nat_eq a.place.0) cells) e
        where
          or_right : (x y : Bool) → y ≡ true → (x || y) ≡ true
          or_right true y e = refl
          or_right false y e = e

  -- which atoms were found and which made stays
  pub found_same : (types : List BlockType) (atoms : List Atom) → Each (GoodAtom types vars pure) atoms → found_atoms more atoms ≡ found_atoms vars atoms
  found_same types [] h = refl
  found_same types (a ∷ rest) h =
      let (i, at, t) = variable_is vars _ a.place.0 h.0.points in
      ap₂ (λ q xs. cond (not q) (a ∷ xs) xs) (same_grown vars more grown (λ (i : VarInfo). is_made_sort i.sort) a.place.0 i at) (found_same types rest h.1)

  pub made_same : (types : List BlockType) (atoms : List Atom) → Each (GoodAtom types vars pure) atoms → made_atoms more atoms ≡ made_atoms vars atoms
  made_same types [] h = refl
  made_same types (a ∷ rest) h =
      let (i, at, t) = variable_is vars _ a.place.0 h.0.points in
      ap₂ (λ q xs. cond q (a ∷ xs) xs) (same_grown vars more grown (λ (i : VarInfo). is_made_sort i.sort) a.place.0 i at) (made_same types rest h.1)

-- ---- a conjunct is assumed

pub assume_each : (vars : List VarInfo) (pure : List Conj) (c : Conj) (Q : Conj → Type 0) → Each Q pure → Q c → Each Q (assume vars pure c)
assume_each vars pure c Q h q = by (is_true (decided vars c) || stands_in pure c)
  where
    by : (b : Bool) → Each Q (elim b as (λ _. List Conj) [ true ↦ pure | false ↦ pure ++ c ∷ [] ])
    by true = h
    by false = each_push Q pure c h q

module _ (types : List BlockType) (parameters : List ValueType) where
  pub complete_assumed : (vars : List VarInfo) (pure : List Conj) (pre atoms : List Atom) (c : Conj) → GoodConj vars (assume vars pure c) c → Complete types parameters vars pure pre atoms → Complete types parameters vars (assume vars pure c) pre atoms
  complete_assumed vars pure pre atoms c g h = record {
    more = h.more;
    split = h.split;
    others = h.others;
    words = h.words;
    conjuncts = assume_each vars pure c (GoodConj vars (assume vars pure c)) (each_weaker _ _ (conj_grown vars vars (λ x i e. e) pure (assume vars pure c) (assume_more vars pure c)) pure h.conjuncts) g;
    found = each_weaker _ _ (found_grown vars vars (λ x i e. e) pure (assume vars pure c) (assume_more vars pure c) types) pre h.found;
    cells = h.cells;
    below = h.below;
    reached = h.reached;
    blocks = h.blocks;
    made = h.made;
  }
