-- How far a call is: what is known while the blocks that an entry requires are met, and that it stays so.
use Rattle.std.proofs.Common.{◌≡◌, ◌≢◌, ℕ, zero, suc, ◌+◌, ◌<◌, Bool, true, false, cond, nat_eq, Option, Some, None, List, [], ◌∷◌, ◌++◌, slice_get, inl, inr, refl, sym, ap, ◌∙◌, subst, arith, append_assoc, append-nil}
use Rattle.std.specs.Prelude.{flat_map}
use Rattle.std.proofs.lemmas.Bool.{and_parts}
use Rattle.std.proofs.lemmas.Grind.{flat_map-append}
use Rattle.std.proofs.lemmas.Option.{same_Some}
use Rattle.px_terms.specs.Substitutions.{content_for}
use Rattle.px_terms.specs.Types.{types_of}
use Rattle.px_terms.specs.declared.types.BlockType.{BlockType}
use Rattle.px_terms.specs.declared.types.ValueType.{ValueType}
use Rattle.px_terms.specs.declared.variables.Var.{Var}
use Rattle.px_terms.specs.declared.variables.VarInfo.{VarInfo}
use Rattle.px_terms.specs.declared.variables.Sort.{Sort}
use Rattle.px_terms.specs.declared.variables.Sort.TheVariants as sort
use Rattle.px_terms.specs.declared.conjuncts.Place.{Place as PlaceOf}
use Rattle.px_terms.specs.declared.conjuncts.Place.TheVariants as place
use Rattle.px_terms.specs.declared.conjuncts.Content.{Content}
use Rattle.px_terms.specs.declared.conjuncts.Content.TheVariants.{Unwritten, Word, Place, Cell}
use Rattle.px_terms.specs.declared.conjuncts.Conj.{Conj}
use Rattle.px_terms.specs.declared.conjuncts.Conj.TheVariants.{SamePlace}
use Rattle.px_entry.specs.declared.atoms.Atom.{Atom}
use Rattle.px_entry.specs.declared.atoms.AtomState.{AtomState}
use Rattle.px_entry.specs.declared.atoms.AtomState.TheVariants.{Live, Freed}
use Rattle.px_entry.specs.declared.entries.Entry.{Entry}
use Rattle.px_entry.specs.Sorts.{is_cell_sort, is_cell, has_type, same_type}
use Rattle.px_entry.specs.Decided.{is_open, assume}
use Rattle.px_entry.specs.Cases.{is_freed}
use Rattle.px_entry.specs.Contents.{is_written_of, fits_cell, is_cell_of, fit_each, cell_variables}
use Rattle.px_entry.specs.Regular.{is_own_cell, fits_state, fits_block, state_cells, cells_of}
use Rattle.px_entry.proofs.Lists.{Each, each_append}
use Rattle.px_callgraph.specs.declared.states.State.{State}
use Rattle.px_callgraph.specs.States.{assumed}
use Rattle.px_callgraph.specs.Renaming.{Substitution, stand_cells, place_in, place_through}
use Rattle.px_soundness.proofs.WellFormed.{Good, times}
use Rattle.px_soundness.proofs.AtomHeaps.{absent}
use Rattle.px_soundness.proofs.Truths.{variable_is}
use Rattle.px_soundness.proofs.WellTyped.{each_push, assume_more, good_grown}
use Rattle.px_soundness.proofs.Complete.{times_append, times_none}
use Rattle.px_soundness.proofs.Through.{stood, in_place}
use Rattle.px_soundness.proofs.FitsThrough.{same_is}
use Rattle.px_soundness.proofs.CallTaken.{AreDistinct}
use Rattle.px_soundness.proofs.CallMatches.{found_more, IsBound, MetAt, AllMet, all_met_more, met_last}
use Rattle.px_soundness.proofs.CallMoves.{AreFresh, bound_new, said_same}
use Rattle.px_soundness.proofs.CallStands.{none_more}
use Rattle.px_soundness.proofs.CallTakes.{cells_good, cells_suit, cells_none, cells_found, distinct_once}
use Rattle.px_callgraph.proofs.KeepLemmas.{each_weaker}
use Rattle.px_meaning.proofs.Joins.{same_or_other}

-- what stands for a variable while blocks are met: arguments, and contents of cells
abbrev pub SuitsSoFar : List VarInfo → Sort → ValueType → Content → Type 0
SuitsSoFar vars sort.Given t c = is_written_of vars t c ≡ true
SuitsSoFar vars sort.Cell t c = fits_cell vars t c ≡ true
SuitsSoFar vars sort.Input t c = ⊥
SuitsSoFar vars sort.Made t c = ⊥

abbrev pub own_cells : Atom → List ℕ
own_cells p = flat_map cell_variables (state_cells p.state)

-- the first blocks that the entry requires are met, by the caller's atoms with these numbers
pub record Matched (types : List BlockType) (arguments : List Content) (x : Entry) (u : State) (σ : Substitution) (rest : List Atom) (used : List ℕ) : Type 0 where
  pub first : List Atom
  pub split : x.pre ≡ first ++ rest
  pub own : Each (λ (q : Atom). fits_block types (is_own_cell x.vars) q ≡ true) rest
  pub once : (y : ℕ) → is_cell x.vars y ≡ true → times y (cells_of first) + times y (cells_of rest) ≡ 1
  pub good : Each (λ (b : Var × Content). Good u.vars u.pure b.1) σ
  pub suits : (y : ℕ) (i : VarInfo) (c : Content) → slice_get x.vars y ≡ Some i → content_for σ y ≡ Some c → SuitsSoFar u.vars i.sort i.value c
  pub given : (y : ℕ) (c : Content) → slice_get arguments y ≡ Some c → content_for σ y ≡ Some c
  pub cells : Each (λ y. (c : Content) × (content_for σ y ≡ Some c)) (cells_of first)
  pub fresh : (y : ℕ) → is_cell x.vars y ≡ true → times y (cells_of first) ≡ 0 → content_for σ y ≡ None
  pub distinct : AreDistinct used
  pub met : AllMet u.vars u.pure u.atoms σ used first
  pub blocks : Each (λ (b : Atom). (fits_block types (fits_cell u.vars) b ≡ true) × Each (Good u.vars u.pure) (state_cells b.state)) u.atoms

-- ---- lists

distinct_push : (ns : List ℕ) (n : ℕ) → AreDistinct ns → Each (λ k. k ≢ n) ns → AreDistinct (ns ++ n ∷ [])
distinct_push [] n d o = (tt, tt)
distinct_push (k ∷ ns) n d o = (each_push (λ m. k ≢ m) ns n d.0 o.0, distinct_push ns n d.1 o.1)

each_at : {A : Type 0} (P : A → Type 0) (xs : List A) (n : ℕ) (x : A) → Each P xs → slice_get xs n ≡ Some x → P x
each_at P [] n x h e = absent e
each_at P (y ∷ xs) zero x h e = subst P (same_Some _ _ e) h.0
each_at P (y ∷ xs) (suc n) x h e = each_at P xs n x h.1 e

found_back : (σ τ : Substitution) (y : ℕ) (c : Content) → content_for σ y ≡ Some c → (d : Content) → content_for (σ ++ τ) y ≡ Some d → c ≡ d
found_back σ τ y c e d f = same_Some _ _ (sym (found_more σ τ y c e) ∙ f)

-- own cells are cell variables
own_are_cells : (xs : List VarInfo) (ts : List ValueType) (ps : List Content) → fit_each (is_own_cell xs) ts ps ≡ true → Each (λ y. is_cell xs y ≡ true) (flat_map cell_variables ps)
own_are_cells xs ts [] e = tt
own_are_cells xs [] (p ∷ ps) e = cc
own_are_cells xs (t ∷ ts) (Unwritten ∷ ps) e = cc
own_are_cells xs (t ∷ ts) (Word p ∷ ps) e = cc
own_are_cells xs (t ∷ ts) (Place a ∷ ps) e = cc
own_are_cells xs (t ∷ ts) (Cell z ∷ ps) e =
    let b = and_parts (is_own_cell xs t (Cell z)) (fit_each (is_own_cell xs) ts ps) e in
    ((and_parts (is_cell xs z.0) (has_type xs t z.0) b.0).0, own_are_cells xs ts ps b.1)

state_are_cells : (xs : List VarInfo) (ts : List ValueType) (st : AtomState) → fits_state (is_own_cell xs) ts st ≡ true → Each (λ y. is_cell xs y ≡ true) (flat_map cell_variables (state_cells st))
state_are_cells xs ts (Live cells) e = own_are_cells xs ts cells e
state_are_cells xs ts Freed e = tt

-- each is there at least once
there_once : (ys before : List ℕ) → Each (λ y. 0 < times y (before ++ ys)) ys
there_once [] before = tt
there_once (y ∷ ys) before = (
  here before,
  subst (λ (zs : List ℕ). Each (λ z. 0 < times z zs) ys) (append_assoc before (y ∷ []) ys) (there_once ys (before ++ y ∷ [])),
)
  where
    positive : (q : Bool) (n : ℕ) → 0 < n → 0 < cond q (1 + n) n
    positive true n l = omega (arith, l)
    positive false n l = l

    here : (before : List ℕ) → 0 < times y (before ++ y ∷ ys)
    here [] = elim (same_or_other y y) [
      | inl e ↦ subst (λ q. 0 < cond q (1 + times y ys) (times y ys)) (sym e.1) (let l : 0 < 1 + times y ys = omega arith in l)
      | inr e ↦ absurd (e.0 refl)
    ]
    here (z ∷ zs) = positive (nat_eq y z) (times y (zs ++ y ∷ ys)) (here zs)

each_both : {A : Type 0} (P Q R : A → Type 0) → ((x : A) → P x → Q x → R x) → (xs : List A) → Each P xs → Each Q xs → Each R xs
each_both P Q R f [] p q = tt
each_both P Q R f (x ∷ xs) p q = (f x p.0 q.0, each_both P Q R f xs p.1 q.1)

-- ---- one block more

module _ (types : List BlockType) (arguments : List Content) (x : Entry) (u : State) (σ : Substitution) (p : Atom) (rest : List Atom) (used : List ℕ) (m : Matched types arguments x u σ (p ∷ rest) used)
    (a : PlaceOf) (place_is : place_through σ (place.Var p.place) ≡ Some a) (n : ℕ) (b : Atom) (at : slice_get u.atoms n ≡ Some b) (other : Each (λ k. k ≢ n) used)
    (block : b.block.0 ≡ p.block.0) (alike : is_freed b.state ≡ is_freed p.state) (open' : is_open u.vars (SamePlace a (place.Var b.place)) ≡ true) where
  abbrev c : Conj
  c = SamePlace a (place.Var b.place)

  abbrev says : List Conj
  says = assume u.vars u.pure c

  abbrev τ : Substitution
  τ = stand_cells (state_cells p.state) (state_cells b.state)

  cells_are : Each (λ y. is_cell x.vars y ≡ true) (own_cells p)
  cells_are = state_are_cells x.vars _ p.state m.own.0

  counts : (y : ℕ) → times y (cells_of (p ∷ rest)) ≡ times y (own_cells p) + times y (cells_of rest)
  counts y = times_append y (own_cells p) (cells_of rest)

  fresh_cells : AreFresh σ (own_cells p)
  fresh_cells =
      each_both (λ y. is_cell x.vars y ≡ true) (λ y. 0 < times y (own_cells p)) (λ y. content_for σ y ≡ None)
      (λ y cell l. let o = m.once y cell in let k = counts y in m.fresh y cell (let e : times y (cells_of m.first) ≡ 0 = omega (arith, o, k, l) in e))
      (own_cells p) cells_are (there_once (own_cells p) [])

  distinct_cells : AreDistinct (own_cells p)
  distinct_cells = distinct_once (own_cells p) (λ y. by y (is_cell x.vars y) refl)
    where
      by : (y : ℕ) (q : Bool) → is_cell x.vars y ≡ q → times y (own_cells p) < 2
      by y true e = let o = m.once y e in let k = counts y in omega (arith, o, k)
      by y false e =
          let z : times y (own_cells p) ≡ 0 = times_none y (own_cells p) (each_weaker (λ z. is_cell x.vars z ≡ true) (λ z. y ≢ z) (λ z f same. let g : false ≡ true = sym e ∙ ap (is_cell x.vars) same ∙ f in cc) (own_cells p) cells_are) in
          omega (arith, z)

  abbrev cell_types : List ValueType
  cell_types = types_of (slice_get types p.block.0)

  caller_fits : fits_state (fits_cell u.vars) cell_types b.state ≡ true
  caller_fits = subst (λ t. fits_state (fits_cell u.vars) (types_of (slice_get types t)) b.state ≡ true) block (each_at _ u.atoms n b m.blocks at).0

  bound : (ps bs : AtomState) → is_freed bs ≡ is_freed ps → fits_state (is_own_cell x.vars) cell_types ps ≡ true → fits_state (fits_cell u.vars) cell_types bs ≡ true →
      AreFresh σ (flat_map cell_variables (state_cells ps)) → AreDistinct (flat_map cell_variables (state_cells ps)) → IsBound (σ ++ stand_cells (state_cells ps) (state_cells bs)) ps bs
  bound (Live ps) (Live bs) e f g new d = bound_new (fits_cell u.vars) x.vars σ cell_types ps bs f g new d
  bound (Live ps) Freed e f g new d = cc
  bound Freed (Live bs) e f g new d = cc
  bound Freed Freed e f g new d = tt

  is_bound : IsBound (σ ++ τ) p.state b.state
  is_bound = bound p.state b.state alike m.own.0 caller_fits fresh_cells distinct_cells

  -- the content of the place
  place_content : (o : Option Content) → place_in o ≡ Some a → (d : Content) × (o ≡ Some d)
  place_content None e = absent e
  place_content (Some d) e = (d, refl)

  new_met : MetAt u.vars says u.atoms (σ ++ τ) n p
  new_met =
      let (d, is) = place_content (content_for σ p.place.0) place_is in
      record {
        atom = b;
        at = at;
        block = block;
        content = d;
        place = found_more σ τ p.place.0 d is;
        same = λ v fits h. sym (ap (stood v) is) ∙ sym (in_place v (content_for σ p.place.0) a place_is) ∙ (said_same u.vars u.pure a b.place v fits open' h).1;
        state = is_bound;
      }

  all_met : AllMet u.vars says u.atoms (σ ++ τ) (used ++ n ∷ []) (m.first ++ p ∷ [])
  all_met =
      met_last u.vars says u.atoms (σ ++ τ) used m.first n p
      (subst (λ as'. AllMet u.vars says as' (σ ++ τ) used m.first) (append-nil u.atoms)
      (all_met_more u.vars u.vars u.pure says u.atoms [] σ τ (λ v f. f) (λ v f h. (said_same u.vars u.pure a b.place v f open' h).0) used m.first m.met))
      new_met

  cells_more : cells_of (m.first ++ p ∷ []) ≡ cells_of m.first ++ own_cells p
  cells_more = flat_map-append (λ (q : Atom). flat_map cell_variables (state_cells q.state)) m.first (p ∷ []) ∙ ap (λ z. cells_of m.first ++ z) (append-nil (own_cells p))

  counts_more : (y : ℕ) → times y (cells_of (m.first ++ p ∷ [])) ≡ times y (cells_of m.first) + times y (own_cells p)
  counts_more y = ap (times y) cells_more ∙ times_append y (cells_of m.first) (own_cells p)

  state_suits : (ps bs : AtomState) → is_freed bs ≡ is_freed ps → fits_state (is_own_cell x.vars) cell_types ps ≡ true → fits_state (fits_cell u.vars) cell_types bs ≡ true → (y : ℕ) (d : Content) →
      content_for (stand_cells (state_cells ps) (state_cells bs)) y ≡ Some d → (t : ValueType) × (is_cell_of x.vars t y ≡ true) × (fits_cell u.vars t d ≡ true)
  state_suits (Live ps) (Live bs) e f g y d is = cells_suit u.vars x.vars cell_types ps bs f g y d is
  state_suits (Live ps) Freed e f g y d is = cc
  state_suits Freed (Live bs) e f g y d is = cc
  state_suits Freed Freed e f g y d is = absent is

  cell_suits : (y : ℕ) (i : VarInfo) (d : Content) (t : ValueType) → slice_get x.vars y ≡ Some i → is_cell_of x.vars t y ≡ true → fits_cell u.vars t d ≡ true → SuitsSoFar u.vars i.sort i.value d
  cell_suits y i d t at e f =
      let r = and_parts (is_cell x.vars y) (has_type x.vars t y) e in
      let (k, at_k, is) = variable_is x.vars (λ (k : VarInfo). is_cell_sort k.sort) y r.0 in
      let (l, at_l, same) = variable_is x.vars (λ (k : VarInfo). same_type k.value t) y r.1 in
      by i.sort i.value (ap (λ (z : VarInfo). is_cell_sort z.sort) (same_Some _ _ (sym at ∙ at_k)) ∙ is) (ap (λ (z : VarInfo). z.value) (same_Some _ _ (sym at ∙ at_l)) ∙ same_is l.value t same)
    where
      by : (s : Sort) (z : ValueType) → is_cell_sort s ≡ true → z ≡ t → SuitsSoFar u.vars s z d
      by sort.Cell z e same = subst (λ z. fits_cell u.vars z d ≡ true) (sym same) f
      by sort.Given z e same = cc
      by sort.Input z e same = cc
      by sort.Made z e same = cc

  suits_more : (y : ℕ) (i : VarInfo) (d : Content) → slice_get x.vars y ≡ Some i → content_for (σ ++ τ) y ≡ Some d → SuitsSoFar u.vars i.sort i.value d
  suits_more y i d at is = by (content_for σ y) refl
    where
      by : (o : Option Content) → content_for σ y ≡ o → SuitsSoFar u.vars i.sort i.value d
      by (Some e) old = m.suits y i d at (old ∙ ap Some (found_back σ τ y e old d is))
      by None old = let (t, cell, fits) = state_suits p.state b.state alike m.own.0 caller_fits y d (sym (none_more σ τ y old) ∙ is) in cell_suits y i d t at cell fits

  state_found : (ps bs : AtomState) → IsBound (σ ++ τ) ps bs → Each (λ y. (d : Content) × (content_for (σ ++ τ) y ≡ Some d)) (flat_map cell_variables (state_cells ps))
  state_found (Live ps) (Live bs) h = cells_found (σ ++ τ) ps bs h
  state_found (Live ps) Freed h = absurd h
  state_found Freed (Live bs) h = absurd h
  state_found Freed Freed h = tt

  grown_good : (d : Content) → Good u.vars u.pure d → Good u.vars says d
  grown_good d g = good_grown u.vars u.vars (λ y i e. e) u.pure says (assume_more u.vars u.pure c) d g

  pub took : Matched types arguments x (assumed c u) (σ ++ τ) rest (used ++ n ∷ [])
  took = record {
    first = m.first ++ p ∷ [];
    split = m.split ∙ sym (append_assoc m.first (p ∷ []) rest);
    own = m.own.1;
    once = λ y cell. let o = m.once y cell in let k = counts y in let l = counts_more y in omega (arith, o, k, l);
    good = each_append _ σ τ (each_weaker _ _ (λ (q : Var × Content) g. grown_good q.1 g) σ m.good)
        (cells_good u.vars says (state_cells p.state) (state_cells b.state) (each_weaker _ _ grown_good (state_cells b.state) (each_at _ u.atoms n b m.blocks at).1));
    suits = suits_more;
    given = λ y d e. found_more σ τ y d (m.given y d e);
    cells = subst (Each (λ y. (d : Content) × (content_for (σ ++ τ) y ≡ Some d))) (sym cells_more)
        (each_append _ (cells_of m.first) (own_cells p) (each_weaker _ _ (λ y h. (h.0, found_more σ τ y h.0 h.1)) (cells_of m.first) m.cells) (state_found p.state b.state is_bound));
    fresh = λ y cell none.
        let l = counts_more y in
        let old : times y (cells_of m.first) ≡ 0 = omega (arith, l, none) in
        let own : times y (own_cells p) ≡ 0 = omega (arith, l, none) in
        none_more σ τ y (m.fresh y cell old) ∙ cells_none (state_cells p.state) (state_cells b.state) y own;
    distinct = distinct_push used n m.distinct other;
    met = all_met;
    blocks = each_weaker _ _ (λ (q : Atom) h. (h.0, each_weaker _ _ grown_good (state_cells q.state) h.1)) u.atoms m.blocks;
  }
