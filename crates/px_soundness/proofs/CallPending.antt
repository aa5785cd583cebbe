-- What the states of a call keep between its choices: they are well-formed where what the entry will say to be written
-- counts as written already.
use Rattle.std.proofs.Common.{◌≡◌, ◌⊎◌, ℕ, ◌<◌, Bool, true, false, not, nat_eq, ◌||◌, Option, Some, None, List, [], ◌∷◌, ◌++◌, length, slice_get, inl, inr, refl, sym, ap, ◌∙◌, subst, append-nil}
use Rattle.std.specs.Prelude.{flat_map}
use Rattle.std.specs.List.{list_any}
use Rattle.std.proofs.lemmas.Bool.{and_parts, eqb-true}
use Rattle.std.proofs.lemmas.Option.{same_Some, slice_get_within}
use Rattle.px_terms.specs.Substitutions.{content_for}
use Rattle.px_terms.specs.declared.types.TypeId.{TypeId}
use Rattle.px_terms.specs.declared.types.BlockType.{BlockType}
use Rattle.px_terms.specs.declared.types.ValueType.TheVariants.{Pointer}
use Rattle.px_terms.specs.declared.variables.Var.{Var}
use Rattle.px_terms.specs.declared.variables.VarInfo.{VarInfo}
use Rattle.px_terms.specs.declared.variables.Sort.{Sort}
use Rattle.px_terms.specs.declared.variables.Sort.TheVariants as sort
use Rattle.px_terms.specs.declared.conjuncts.Place.{Place as PlaceOf}
use Rattle.px_terms.specs.declared.conjuncts.Place.TheVariants as place
use Rattle.px_terms.specs.declared.conjuncts.Content.{Content}
use Rattle.px_terms.specs.declared.conjuncts.Content.TheVariants.{Unwritten, Word, Place, Cell}
use Rattle.px_terms.specs.declared.conjuncts.Conj.{Conj}
use Rattle.px_terms.specs.declared.conjuncts.Conj.TheVariants.{SamePlace, Written}
use Rattle.px_entry.specs.declared.atoms.Atom.{Atom}
use Rattle.px_entry.specs.declared.atoms.AtomState.TheVariants.{Live, Freed}
use Rattle.px_entry.specs.declared.entries.Entry.{Entry}
use Rattle.px_entry.specs.Sorts.{is_some_and, is_cell_sort, is_made_sort, same_type, is_cell, is_pointer, is_made, has_type, is_place_of}
use Rattle.px_entry.specs.Equality.{same_conjunct}
use Rattle.px_entry.specs.Decided.{assume, is_true, decided, stands_in}
use Rattle.px_entry.specs.Contents.{cell_variables}
use Rattle.px_entry.specs.Regular.{is_said_written, is_used_written, is_regular, used_by_atom, points_to_block, cells_of, state_cells}
use Rattle.px_entry.proofs.Lists.{Each, each_from}
use Rattle.px_callgraph.specs.declared.states.State.{State}
use Rattle.px_callgraph.specs.JobTree.{JobTree}
use Rattle.px_callgraph.specs.States.{assumed, with_variables}
use Rattle.px_callgraph.specs.Accesses.{atom_of, cell_contents, cell_infos, block_cells, meet_live, meet_freed}
use Rattle.px_callgraph.specs.Renaming.{Substitution, stand_cells, place_in, place_through}
use Rattle.px_soundness.proofs.WellFormed.{is_usable, Good, GoodAtom, GoodFound, GoodConj, WellTyped, times, Complete, CompleteAt}
use Rattle.px_soundness.proofs.AtomHeaps.{absent}
use Rattle.px_soundness.proofs.Truths.{variable_is}
use Rattle.px_soundness.proofs.WellTyped.{SaysMore, each_get, assume_more, grown_by, with_grown, same_grown, usable_grown, good_grown, own_cells, found_own, well_typed_assumed, well_typed_variables, well_typed_met}
use Rattle.px_soundness.proofs.WellTypedSteps.{written_usable}
use Rattle.px_soundness.proofs.Complete.{assume_each, conj_grown, complete_assumed}
use Rattle.px_soundness.proofs.CompleteMoves.{complete_met}
use Rattle.px_soundness.proofs.CompleteSteps.{numbers_old, numbers_new, numbers_below, no_cells_given}
use Rattle.px_soundness.proofs.FitsThrough.{same_is}
use Rattle.px_soundness.proofs.EntryParts.{Parts, parts}
use Rattle.px_soundness.proofs.CallMatches.{found_more}
use Rattle.px_soundness.proofs.CallReady.{each_for}
use Rattle.px_soundness.proofs.CallStages.{SuitsSoFar, Matched}
use Rattle.px_soundness.proofs.CallCases.{Comes, was_known, was_freed, was_live, Moved}
use Rattle.px_soundness.proofs.CallReads.{type_pointer}
use Rattle.px_callgraph.proofs.KeepLemmas.{each_weaker}
use Rattle.px_check.proofs.ValueLemmas.{each_split}

-- ---- what a list says to be written

any_back : {A : Type 0} (test : A → Bool) (xs ys : List A) → list_any test (xs ++ ys) ≡ true → (list_any test xs ≡ true) ⊎ (list_any test ys ≡ true)
any_back test [] ys e = inr e
any_back test (x ∷ xs) ys e = by (test x) e (any_back test xs ys)
  where
    by : (q : Bool) → (q || list_any test (xs ++ ys)) ≡ true → (list_any test (xs ++ ys) ≡ true → (list_any test xs ≡ true) ⊎ (list_any test ys ≡ true)) → ((q || list_any test xs) ≡ true) ⊎ (list_any test ys ≡ true)
    by true e f = inl refl
    by false e f = f e

or_false : (q : Bool) → (q || false) ≡ true → q ≡ true
or_false true e = refl
or_false false e = e

-- one that was assumed, or the list before it
pub said_back : (vars : List VarInfo) (pure : List Conj) (c : Conj) (z : ℕ) → is_said_written (assume vars pure c) z ≡ true → (is_said_written pure z ≡ true) ⊎ (same_conjunct (Written (record { 0 = z })) c ≡ true)
said_back vars pure c z e = by (is_true (decided vars c) || stands_in pure c) e
  where
    last : (is_said_written pure z ≡ true) ⊎ (list_any (same_conjunct (Written (record { 0 = z }))) (c ∷ []) ≡ true) → (is_said_written pure z ≡ true) ⊎ (same_conjunct (Written (record { 0 = z })) c ≡ true)
    last (inl f) = inl f
    last (inr f) = inr (or_false (same_conjunct (Written (record { 0 = z })) c) f)

    by : (q : Bool) → is_said_written (elim q as (λ _. List Conj) [ true ↦ pure | false ↦ pure ++ c ∷ [] ]) z ≡ true → (is_said_written pure z ≡ true) ⊎ (same_conjunct (Written (record { 0 = z })) c ≡ true)
    by true e = inl e
    by false e = last (any_back (same_conjunct (Written (record { 0 = z }))) pure (c ∷ []) e)

-- the entry says it, of a variable for which this unread cell stands
abbrev pub IsPromised : Entry → Substitution → ℕ → Type 0
IsPromised x σ z = (y : ℕ) × (is_said_written x.pure y ≡ true) × (content_for σ y ≡ Some (Cell (record { 0 = z })))

pub record Pending (j : JobTree) (x : Entry) (u : State) (σ : Substitution) : Type 0 where
  pub counted : List Conj
  pub well_typed : WellTyped j.types (record u { pure = counted })
  pub complete : CompleteAt j (record u { pure = counted })
  pub conjuncts : Each (GoodConj u.vars counted) u.pure
  pub more : SaysMore u.pure counted
  pub said : (z : ℕ) → is_said_written counted z ≡ true → (is_said_written u.pure z ≡ true) ⊎ IsPromised x σ z

-- ---- the place of a required block

so_far_place : (vars : List VarInfo) (s : Sort) (b : TypeId) (a : PlaceOf) → SuitsSoFar vars s (Pointer b) (Place a) → is_place_of vars b a ≡ true
so_far_place vars sort.Given b a h = h
so_far_place vars sort.Cell b a h = h
so_far_place vars sort.Input b a h = absurd h
so_far_place vars sort.Made b a h = absurd h

so_far_cell : (vars : List VarInfo) (s : Sort) (b : TypeId) (z : Var) → SuitsSoFar vars s (Pointer b) (Cell z) → (s ≡ sort.Cell) × (is_cell vars z.0 ≡ true) × (has_type vars (Pointer b) z.0 ≡ true)
so_far_cell vars sort.Given b z h = cc
so_far_cell vars sort.Cell b z h = let r = and_parts (is_cell vars z.0) (has_type vars (Pointer b) z.0) h in (refl, r.0, r.1)
so_far_cell vars sort.Input b z h = absurd h
so_far_cell vars sort.Made b z h = absurd h

each_flat_first : (Q : ℕ → Type 0) (atoms : List Atom) → Each Q (flat_map used_by_atom atoms) → Each (λ (a : Atom). Q a.place.0) atoms
each_flat_first Q [] h = tt
each_flat_first Q (a ∷ atoms) h = let (first, rest) = each_split Q (used_by_atom a) (flat_map used_by_atom atoms) h in (first.0, each_flat_first Q atoms rest)

module _ (j : JobTree) (arguments : List Content) (x : Entry) (regular : is_regular j.types (length arguments) x ≡ true) where
  of : Parts j.types x
  of = parts j.types (length arguments) x regular

  module _ (u : State) (σ : Substitution) (p : Atom) (rest : List Atom) (used : List ℕ) (m : Matched j.types arguments x u σ (p ∷ rest) used) where
    points : has_type x.vars (Pointer p.block) p.place.0 ≡ true
    points =
        (each_split (λ (q : Atom). points_to_block x.vars q ≡ true) m.first (p ∷ rest) (subst (Each (λ (q : Atom). points_to_block x.vars q ≡ true)) m.split
        (each_from (points_to_block x.vars) (λ (q : Atom). points_to_block x.vars q ≡ true) (λ q h. h) x.pre of.points_pre))).1.0

    place_used : is_used_written x p.place.0 ≡ true
    place_used =
        (each_split (λ (q : Atom). is_used_written x q.place.0 ≡ true) m.first (p ∷ rest) (subst (Each (λ (q : Atom). is_used_written x q.place.0 ≡ true)) m.split
        (each_flat_first (λ y. is_used_written x y ≡ true) x.pre of.in_pre))).1.0

    -- the place is good where what is promised counts
    abbrev Reaches : PlaceOf → State → Type 0
    Reaches a t = (q : Pending j x t σ) × Good t.vars q.counted (Place a)

    abbrev Ready : PlaceOf → Type 0
    Ready a = Reaches a u × (is_place_of u.vars p.block a ≡ true)

    -- an unread cell counts as written
    count_cell : Pending j x u σ → (z : Var) → is_cell u.vars z.0 ≡ true → has_type u.vars (Pointer p.block) z.0 ≡ true → is_said_written x.pure p.place.0 ≡ true → content_for σ p.place.0 ≡ Some (Cell z) → Reaches (place.Var z) u
    count_cell h z cell type says is =
        let (i, at, c) = variable_is u.vars (λ (i : VarInfo). is_cell_sort i.sort) z.0 cell in
        let l : z.0 < length u.vars = slice_get_within u.vars z.0 i at in
        let now : List Conj = assume u.vars h.counted (Written z) in
        let more : SaysMore h.counted now = assume_more u.vars h.counted (Written z) in (
          record {
            counted = now;
            well_typed = well_typed_assumed j.types (record u { pure = h.counted }) (Written z) h.well_typed;
            complete = complete_assumed j.types j.body.parameters u.vars h.counted u.pre u.atoms (Written z) (l, written_usable u.vars h.counted z) h.complete;
            conjuncts = each_weaker _ _ (conj_grown u.vars u.vars (λ y k e. e) h.counted now more) u.pure h.conjuncts;
            more = λ y e. more y (h.more y e);
            said = λ y e. by y (said_back u.vars h.counted (Written z) y e);
          },
          (type_pointer u.vars p.block z.0 type, written_usable u.vars h.counted z),
        )
      where
        by : (y : ℕ) → (is_said_written h.counted y ≡ true) ⊎ (nat_eq y z.0 ≡ true) → (is_said_written u.pure y ≡ true) ⊎ IsPromised x σ y
        by y (inl e) = h.said y e
        by y (inr e) = inr (p.place.0, says, subst (λ w. content_for σ p.place.0 ≡ Some (Cell (record { 0 = w }))) (sym (eqb-true y z.0 e)) is)

    ready : Pending j x u σ → (a : PlaceOf) → place_through σ (place.Var p.place) ≡ Some a → Ready a
    ready h a place_is =
        let (i, at, same) = variable_is x.vars (λ (i : VarInfo). same_type i.value (Pointer p.block)) p.place.0 points in
        by i at (same_is i.value (Pointer p.block) same) (content_for σ p.place.0) refl place_is
      where
        by : (i : VarInfo) → slice_get x.vars p.place.0 ≡ Some i → i.value ≡ Pointer p.block → (o : Option Content) → content_for σ p.place.0 ≡ o → place_in o ≡ Some a → Ready a
        by i at type None is e = absent e
        by i at type (Some Unwritten) is e = absent e
        by i at type (Some (Word q)) is e = absent e
        by i at type (Some (Place b)) is e =
            let g = good_grown u.vars u.vars (λ y k d. d) u.pure h.counted h.more (Place b) (each_for (Good u.vars u.pure) σ m.good p.place.0 (Place b) is) in
            subst Ready (same_Some _ _ e) ((h, g), so_far_place u.vars i.sort p.block b (subst (λ t. SuitsSoFar u.vars i.sort t (Place b)) type (m.suits p.place.0 i (Place b) at is)))
        by i at type (Some (Cell z)) is e =
            let (sorted, cell, typed) = so_far_cell u.vars i.sort p.block z (subst (λ t. SuitsSoFar u.vars i.sort t (Cell z)) type (m.suits p.place.0 i (Cell z) at is)) in
            let in_cell : is_cell x.vars p.place.0 ≡ true = ap (λ (o : Option VarInfo). is_some_and o (λ (k : VarInfo). is_cell_sort k.sort)) at ∙ ap is_cell_sort sorted in
            let says : is_said_written x.pure p.place.0 ≡ true = subst (λ b. (not b || is_said_written x.pure p.place.0) ≡ true) in_cell place_used in
            subst Ready (same_Some _ _ e) (count_cell h z cell typed says is, typed)

    -- ---- the block is there

    abbrev There : PlaceOf → State → Atom → Type 0
    There a t b = (q : Pending j x t σ) × Good t.vars q.counted (Place a) × Good t.vars q.counted (Place (place.Var b.place))

    known_there : (a : PlaceOf) → Ready a → (n : ℕ) (b : Atom) → slice_get u.atoms n ≡ Some b → There a u b
    known_there a ((h, g), t) n b at = let k = each_get _ u.atoms n b h.well_typed.atoms at in (h, g, (type_pointer u.vars b.block b.place.0 k.points, k.usable))

    freed_there : (v : Var) → Ready (place.Var v) → is_pointer u.vars v.0 ≡ true → is_made u.vars v.0 ≡ false → There (place.Var v) (meet_freed p.block v u) (atom_of v p.block Freed)
    freed_there v ((h, g), t) pointer unmade =
        let f : Atom = atom_of v p.block Freed in
        let nil = append-nil u.vars in
        let found : GoodFound j.types u.vars h.counted f = record { points = t; usable = g.1; fits = refl } in
        let good : GoodAtom j.types u.vars h.counted f = record { points = t; usable = g.1; fits = refl; cells = tt } in (
          record {
            counted = h.counted;
            well_typed = well_typed_met j.types (record u { pure = h.counted }) f good (found_own j.types u.vars h.counted f u.atoms unmade) h.well_typed;
            complete = subst (λ vs. Complete j.types j.body.parameters vs h.counted (u.pre ++ f ∷ []) (u.atoms ++ f ∷ [])) nil
                (complete_met j.types j.body.parameters u.vars h.counted u.pre u.atoms h.well_typed.atoms [] f refl refl refl pointer (ap (λ vs. is_made vs v.0) nil ∙ unmade) unmade (subst (λ vs. GoodFound j.types vs h.counted f) (sym nil) found)
                (λ y l. refl) (λ k i d c y e. absent d) tt h.complete);
            conjuncts = h.conjuncts;
            more = h.more;
            said = h.said;
          },
          g,
          g,
        )

    live_there : (v : Var) → Ready (place.Var v) → is_pointer u.vars v.0 ≡ true → is_made u.vars v.0 ≡ false →
        There (place.Var v) (meet_live j.types p.block v u) (atom_of v p.block (Live (cell_contents (length u.vars) (block_cells j.types p.block))))
    live_there v ((h, g), t) pointer unmade =
        let ts = block_cells j.types p.block in
        let new = cell_infos ts in
        let vars = u.vars ++ new in
        let n = length u.vars in
        let grown = grown_by u.vars new in
        let a : Atom = atom_of v p.block (Live (cell_contents n ts)) in
        let (i, at, q) = variable_is u.vars _ v.0 t in
        let unmade' : is_made vars v.0 ≡ false = same_grown u.vars vars grown (λ (k : VarInfo). is_made_sort k.sort) v.0 i at ∙ unmade in
        let points' : points_to_block vars a ≡ true = with_grown u.vars vars grown _ v.0 t in
        let usable' : is_usable vars h.counted v.0 ≡ true = usable_grown u.vars vars grown h.counted h.counted (λ y d. d) v.0 i at g.1 in
        let cells = own_cells h.counted u.vars ts vars n refl refl in
        let plain = no_cells_given ts in
        let found : GoodFound j.types vars h.counted a = record { points = points'; usable = usable'; fits = cells.0 } in
        let good : GoodAtom j.types vars h.counted a = record { points = points'; usable = usable'; fits = cells.1; cells = cells.2 } in
        let only : cells_of (a ∷ []) ≡ flat_map cell_variables (cell_contents n ts) = append-nil (flat_map cell_variables (cell_contents n ts)) in
        let pointer' : Good vars h.counted (Place (place.Var v)) = good_grown u.vars vars grown h.counted h.counted (λ y d. d) (Place (place.Var v)) g in (
          record {
            counted = h.counted;
            well_typed = well_typed_met j.types (with_variables new (record u { pure = h.counted })) a good (found_own j.types vars h.counted a u.atoms unmade') (well_typed_variables j.types (record u { pure = h.counted }) new h.well_typed);
            complete = complete_met j.types j.body.parameters u.vars h.counted u.pre u.atoms h.well_typed.atoms new a plain.0 plain.1 plain.2 pointer unmade' unmade found
                (λ y l. ap (times y) only ∙ numbers_old n ts y l) (λ k i d c y e. ap (times y) only ∙ numbers_new n ts k i d y e)
                (subst (Each (λ y. y < length vars)) (sym only) (numbers_below u.vars ts vars n refl refl)) h.complete;
            conjuncts = each_weaker _ _ (conj_grown u.vars vars grown h.counted h.counted (λ y d. d)) u.pure h.conjuncts;
            more = h.more;
            said = h.said;
          },
          pointer',
          pointer',
        )

    comes_there : (a : PlaceOf) → Ready a → (t : State) (b : Atom) → Comes j.types u p a t b → There a t b
    comes_there a r t b (was_known n at same) = subst (λ w. There a w b) (sym same) (known_there a r n b at)
    comes_there a r t b (was_freed v is pointer unmade atom same) =
        subst (λ w. There a w b) (sym same) (subst (There a (meet_freed p.block v u)) (sym atom) (subst (λ z. There z (meet_freed p.block v u) (atom_of v p.block Freed)) (sym is) (freed_there v (subst Ready is r) pointer unmade)))
    comes_there a r t b (was_live v is pointer unmade atom same) =
        let c : Atom = atom_of v p.block (Live (cell_contents (length u.vars) (block_cells j.types p.block))) in
        subst (λ w. There a w b) (sym same) (subst (There a (meet_live j.types p.block v u)) (sym atom) (subst (λ z. There z (meet_live j.types p.block v u) c) (sym is) (live_there v (subst Ready is r) pointer unmade)))

    -- ---- the next stage

    same_place : (a : PlaceOf) (t : State) (b : Atom) (τ : Substitution) → There a t b → Pending j x (assumed (SamePlace a (place.Var b.place)) t) (σ ++ τ)
    same_place a t b τ (h, good_a, good_b) =
        let c : Conj = SamePlace a (place.Var b.place) in record {
          counted = h.counted;
          well_typed = record { slots = h.well_typed.slots; atoms = h.well_typed.atoms; own = h.well_typed.own };
          complete = h.complete;
          conjuncts = assume_each t.vars t.pure c (GoodConj t.vars h.counted) h.conjuncts (good_a, good_b);
          more = λ y e. h.more y (before y (said_back t.vars t.pure c y e));
          said = λ y e. later c y (h.said y e);
        }
      where
        before : (y : ℕ) → (is_said_written t.pure y ≡ true) ⊎ (false ≡ true) → is_said_written t.pure y ≡ true
        before y (inl e) = e
        before y (inr e) = cc

        later : (c : Conj) (y : ℕ) → (is_said_written t.pure y ≡ true) ⊎ IsPromised x σ y → (is_said_written (assume t.vars t.pure c) y ≡ true) ⊎ IsPromised x (σ ++ τ) y
        later c y (inl e) = inl (assume_more t.vars t.pure c y e)
        later c y (inr (z, says, is)) = inr (z, says, found_more σ τ z (Cell (record { 0 = y })) is)

    pub pending_moved : Pending j x u σ → (t : State) (τ : Substitution) → Moved j.types u σ p t τ → Pending j x t τ
    pending_moved h t τ moved =
        subst (λ w. Pending j x w τ) (sym moved.state) (subst (Pending j x (assumed (SamePlace moved.pointer (place.Var moved.atom.place)) moved.between)) (sym moved.substitution)
        (same_place moved.pointer moved.between moved.atom (stand_cells (state_cells p.state) (state_cells moved.atom.state)) (comes_there moved.pointer (ready h moved.pointer moved.pointer_is) moved.between moved.atom moved.comes)))

-- no loop is entered or left
comes_loops : (types : List BlockType) (u : State) (p : Atom) (a : PlaceOf) (t : State) (b : Atom) → Comes types u p a t b → t.loops ≡ u.loops
comes_loops types u p a t b (was_known n at same) = ap (λ (w : State). w.loops) same
comes_loops types u p a t b (was_freed v is pointer unmade atom same) = ap (λ (w : State). w.loops) same
comes_loops types u p a t b (was_live v is pointer unmade atom same) = ap (λ (w : State). w.loops) same

pub moved_loops : (types : List BlockType) (u : State) (σ : Substitution) (p : Atom) (t : State) (τ : Substitution) → Moved types u σ p t τ → t.loops ≡ u.loops
moved_loops types u σ p t τ moved = ap (λ (w : State). w.loops) moved.state ∙ comes_loops types u p moved.pointer moved.between moved.atom moved.comes
