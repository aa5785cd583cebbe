-- What a call knows of the blocks that were met, and how it is listed: lists, places and values.
use Rattle.std.proofs.Common.{◌≡◌, ℕ, zero, suc, ◌+◌, Bool, true, false, cond, nat_eq, ◌||◌, Option, Some, None, List, [], ◌∷◌, ◌++◌, map, length, slice_get, refl, sym, ap, ap₂, ◌∙◌, subst, inl, inr, arith, append-nil, append_assoc}
use Rattle.std.specs.List.{list_any}
use Rattle.std.proofs.lemmas.Bool.{and_parts, eqb-true}
use Rattle.std.proofs.lemmas.Option.{same_Some}
use Rattle.px_terms.specs.Substitutions.{content_for}
use Rattle.px_terms.specs.Valuations.{Valuation}
use Rattle.px_terms.specs.Conjuncts.{IsTrueUnder}
use Rattle.px_terms.specs.declared.types.TypeId.{TypeId}
use Rattle.px_terms.specs.declared.types.Value.{Value}
use Rattle.px_terms.specs.declared.types.ValueType.TheVariants.{Pointer}
use Rattle.px_terms.specs.declared.variables.VarInfo.{VarInfo}
use Rattle.px_terms.specs.declared.variables.Sort.{Sort}
use Rattle.px_terms.specs.declared.variables.Sort.TheVariants as sort
use Rattle.px_terms.specs.declared.conjuncts.Place.{Place as PlaceOf}
use Rattle.px_terms.specs.declared.conjuncts.Content.{Content}
use Rattle.px_terms.specs.declared.conjuncts.Content.TheVariants.{Unwritten, Word, Place, Cell}
use Rattle.px_terms.specs.declared.conjuncts.Conj.{Conj}
use Rattle.px_entry.specs.declared.atoms.Atom.{Atom}
use Rattle.px_entry.specs.declared.atoms.AtomState.{AtomState}
use Rattle.px_entry.specs.declared.atoms.AtomState.TheVariants.{Live, Freed}
use Rattle.px_entry.specs.declared.atoms.Case.{Case}
use Rattle.px_entry.specs.Sorts.{is_given, is_cell, is_place_of, has_type}
use Rattle.px_entry.specs.Decided.{assume}
use Rattle.px_entry.specs.Cases.{is_freed, same_state, numbers_of, atom_cases}
use Rattle.px_entry.specs.Regular.{cells_of, are_reached, state_cells}
use Rattle.px_entry.specs.Standing.{content_value, contents_value}
use Rattle.px_entry.proofs.Lists.{Each}
use Rattle.px_callgraph.specs.declared.states.Way.{Way}
use Rattle.px_callgraph.specs.declared.states.Way.TheVariants as way
use Rattle.px_callgraph.specs.Renaming.{Substitution, stand_cells, place_in}
use Rattle.px_callgraph.specs.Calls.{Stage, choosing, matching, unfit, case_way}
use Rattle.px_meaning.specs.Heaps.{HeapMap, «Live» as block_live}
use Rattle.px_meaning.specs.Triples.{state_of}
use Rattle.px_soundness.proofs.AtomHeaps.{absent}
use Rattle.px_soundness.proofs.CallMatches.{found_more}
use Rattle.px_soundness.proofs.CallStages.{SuitsSoFar}
use Rattle.px_soundness.proofs.CallStands.{none_more}
use Rattle.px_soundness.proofs.Sound.{Each1}
use Rattle.px_symexec.proofs.Lists.{IsIn}
use Rattle.px_coverage.specs.Covered.{Execution}
use Rattle.px_coverage.proofs.Stands.{Stands}
use Rattle.px_coverage.proofs.Opens.{assume_true}

-- what stands for variables of an entry has the values that another valuation gives them
abbrev pub Agrees : Valuation → Valuation → Substitution → Type 0
Agrees v w σ = (y : ℕ) (c : Content) → content_for σ y ≡ Some c → content_value v c ≡ w y

-- ---- listed ways

pub each1_in : {A : Type 0} (P : A → Type 1) (xs : List A) (x : A) → Each1 P xs → IsIn x xs → P x
each1_in P [] x h i = absurd i
each1_in P (y ∷ xs) x h (inl e) = subst P (sym e) h.0
each1_in P (y ∷ xs) x h (inr i) = each1_in P xs x h.1 i

pub in_cases : (such : ℕ → Atom → Bool) (m : ℕ) (xs : List Atom) (i : ℕ) (c : Atom) → slice_get xs i ≡ Some c → (k : ℕ) → k ≡ m + i → such k c ≡ true → (more : List Case) → IsIn (way.Atom k) (map case_way (atom_cases (numbers_of such m xs) ++ more))
in_cases such m [] i c at k is t more = absent at
in_cases such m (b ∷ rest) zero c at k is t more = by (such m b) (ap₂ such (let f : m ≡ k = omega (arith, is) in f) (same_Some _ _ at) ∙ t)
  where
    by : (q : Bool) → q ≡ true → IsIn (way.Atom k) (map case_way (atom_cases (elim q as (λ _. List ℕ) [ true ↦ m ∷ numbers_of such (suc m) rest | false ↦ numbers_of such (suc m) rest ]) ++ more))
    by true t = inl (ap way.Atom (let f : k ≡ m = omega (arith, is) in f))
    by false t = absurd (let f : false ≡ true = t in cc)
in_cases such m (b ∷ rest) (suc i) c at k is t more = by (such m b) (in_cases such (suc m) rest i c at k (omega (arith, is)) t more)
  where
    by : (q : Bool) → IsIn (way.Atom k) (map case_way (atom_cases (numbers_of such (suc m) rest) ++ more)) →
        IsIn (way.Atom k) (map case_way (atom_cases (elim q as (λ _. List ℕ) [ true ↦ m ∷ numbers_of such (suc m) rest | false ↦ numbers_of such (suc m) rest ]) ++ more))
    by true h = inr h
    by false h = h

pub in_last : (w : Way) (xs more : List Case) → IsIn w (map case_way more) → IsIn w (map case_way (xs ++ more))
in_last w [] more h = h
in_last w (x ∷ xs) more h = inr (in_last w xs more h)

-- ---- the place of a required block stands for something

pub reached_here : (vars : List VarInfo) (cells : List ℕ) (first later : List Atom) (p : Atom) → are_reached vars cells (first ++ p ∷ later) ≡ true → (is_given vars p.place.0 || list_any (nat_eq p.place.0) (cells ++ cells_of first)) ≡ true
reached_here vars cells [] later p e =
    ap (λ ys. is_given vars p.place.0 || list_any (nat_eq p.place.0) ys) (append-nil cells) ∙ (and_parts (is_given vars p.place.0 || list_any (nat_eq p.place.0) cells) (are_reached vars (cells ++ cells_of (p ∷ [])) later) e).0
reached_here vars cells (a ∷ first) later p e =
    ap (λ ys. is_given vars p.place.0 || list_any (nat_eq p.place.0) ys) (sym whole)
    ∙ reached_here vars (cells ++ cells_of (a ∷ [])) first later p (and_parts (is_given vars a.place.0 || list_any (nat_eq a.place.0) cells) (are_reached vars (cells ++ cells_of (a ∷ [])) (first ++ p ∷ later)) e).1
  where
    whole : (cells ++ cells_of (a ∷ [])) ++ cells_of first ≡ cells ++ cells_of (a ∷ first)
    whole = append_assoc cells (cells_of (a ∷ [])) (cells_of first) ∙ ap (λ ys. cells ++ (ys ++ cells_of first)) (append-nil _)

pub any_each : (Q : ℕ → Type 0) (y : ℕ) (ys : List ℕ) → Each Q ys → list_any (nat_eq y) ys ≡ true → Q y
any_each Q y [] h e = cc
any_each Q y (z ∷ ys) h e = by (nat_eq y z) refl e (any_each Q y ys h.1)
  where
    by : (q : Bool) → nat_eq y z ≡ q → (q || list_any (nat_eq y) ys) ≡ true → (list_any (nat_eq y) ys ≡ true → Q y) → Q y
    by true is e rest = subst Q (sym (eqb-true y z is)) h.0
    by false is e rest = rest e

pub get_mid : {A : Type 0} (xs ys : List A) (x : A) → slice_get (xs ++ x ∷ ys) (length xs) ≡ Some x
get_mid [] ys x = refl
get_mid (z ∷ xs) ys x = get_mid xs ys x

-- a pointer to blocks of the type
pub so_far_place : (vars : List VarInfo) (s : Sort) (b : TypeId) (d : Content) (a : PlaceOf) → SuitsSoFar vars s (Pointer b) d → place_in (Some d) ≡ Some a → is_place_of vars b a ≡ true
so_far_place vars s b Unwritten a h e = absent e
so_far_place vars s b (Word p) a h e = absent e
so_far_place vars sort.Given b (Place c) a h e = subst (λ z. is_place_of vars b z ≡ true) (same_Some _ _ e) h
so_far_place vars sort.Cell b (Place c) a h e = subst (λ z. is_place_of vars b z ≡ true) (same_Some _ _ e) h
so_far_place vars sort.Input b (Place c) a h e = absurd h
so_far_place vars sort.Made b (Place c) a h e = absurd h
so_far_place vars sort.Given b (Cell z) a h e = cc
so_far_place vars sort.Cell b (Cell z) a h e = subst (λ y. is_place_of vars b y ≡ true) (same_Some _ _ e) (and_parts (is_cell vars z.0) (has_type vars (Pointer b) z.0) h).1
so_far_place vars sort.Input b (Cell z) a h e = absurd h
so_far_place vars sort.Made b (Cell z) a h e = absurd h

-- ---- what stands for the cells of the block

pub heads : {a b : Value} {as' bs : List Value} → (a ∷ as') ≡ (b ∷ bs) → (a ≡ b) × (as' ≡ bs)
heads e = (cc, cc)

module _ (v w : Valuation) where
  cells_agree : (ps bs : List Content) → contents_value v bs ≡ contents_value w ps → Agrees v w (stand_cells ps bs)
  cells_agree [] bs same y c is = absent is
  cells_agree (Unwritten ∷ ps) bs same y c is = absent is
  cells_agree (Word q ∷ ps) bs same y c is = absent is
  cells_agree (Place a ∷ ps) bs same y c is = absent is
  cells_agree (Cell z ∷ ps) [] same y c is = absent is
  cells_agree (Cell z ∷ ps) (b ∷ bs) same y c is = by (nat_eq z.0 y) refl is (cells_agree ps bs (heads same).1 y c)
    where
      by : (q : Bool) → nat_eq z.0 y ≡ q → cond q (Some b) (content_for (stand_cells ps bs) y) ≡ Some c → (content_for (stand_cells ps bs) y ≡ Some c → content_value v c ≡ w y) → content_value v c ≡ w y
      by true at e rest = ap (content_value v) (sym (same_Some _ _ e)) ∙ (heads same).0 ∙ ap w (eqb-true z.0 y at)
      by false at e rest = rest e

  pub state_agrees : (ps bs : AtomState) → state_of v bs ≡ state_of w ps → Agrees v w (stand_cells (state_cells ps) (state_cells bs))
  state_agrees (Live ps) (Live bs) same y c is = cells_agree ps bs (live same) y c is
    where
      live : {a b : List Value} → block_live a ≡ block_live b → a ≡ b
      live e = cc
  state_agrees (Live ps) Freed same y c is = cc
  state_agrees Freed (Live bs) same y c is = absent is
  state_agrees Freed Freed same y c is = absent is

  pub both_agree : (σ τ : Substitution) → Agrees v w σ → Agrees v w τ → Agrees v w (σ ++ τ)
  both_agree σ τ h k y c is = by (content_for σ y) refl
    where
      by : (o : Option Content) → content_for σ y ≡ o → content_value v c ≡ w y
      by (Some d) at = ap (content_value v) (same_Some _ _ (sym is ∙ found_more σ τ y d at)) ∙ h y d at
      by None at = k y c (sym (none_more σ τ y at) ∙ is)

  pub alike_freed : (a b : AtomState) → state_of v a ≡ state_of w b → same_state (is_freed a) (is_freed b) ≡ true
  alike_freed (Live ps) (Live bs) e = refl
  alike_freed (Live ps) Freed e = cc
  alike_freed Freed (Live bs) e = cc
  alike_freed Freed Freed e = refl

-- a conjunct that is true is assumed
pub stands_assumed : (e : Execution) (v : Valuation) (rest : HeapMap) (vars : List VarInfo) (pure : List Conj) (pre atoms : List Atom) (c : Conj) → IsTrueUnder v c → Stands e v rest vars pure pre atoms → Stands e v rest vars (assume vars pure c) pre atoms
stands_assumed e v rest vars pure pre atoms c t h = record { sorts = h.sorts; given = h.given; true_of = assume_true vars pure c v h.true_of t; placed = h.placed; apart = h.apart; begins = h.begins }

abbrev pub stage_substitution : Stage → Substitution
stage_substitution choosing = []
stage_substitution (matching x σ later used) = σ
stage_substitution unfit = []
