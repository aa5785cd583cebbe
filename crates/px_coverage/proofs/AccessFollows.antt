-- Each step of an access is that of a listed way: through null, the block of an atom, or a block that wasn't met.
use Rattle.std.proofs.Common.{◌≡◌, ℕ, zero, suc, ◌+◌, ◌<◌, Bool, true, false, Option, Some, None, List, [], ◌∷◌, ◌++◌, length, slice_get, nat_eq, not, ◌&&◌, refl, sym, ap, ap₂, ◌∙◌, subst, inl, inr, arith, IsSomeAnd}
use Rattle.std.proofs.lemmas.Bool.{and_parts, and_from, eq-eqb}
use Rattle.std.proofs.lemmas.Option.{same_Some, slice_get_within}
use Rattle.px_terms.specs.Valuations.{Valuation, IsPlace, Fits}
use Rattle.px_terms.specs.Conjuncts.{place_of, IsTrueUnder}
use Rattle.px_terms.specs.Types.{types_of}
use Rattle.px_terms.specs.declared.types.TypeId.{TypeId}
use Rattle.px_terms.specs.declared.conjuncts.Place.{Place as PlaceOf}
use Rattle.px_terms.specs.declared.conjuncts.Place.TheVariants as place
use Rattle.px_terms.specs.declared.types.Value.{Value}
use Rattle.px_terms.specs.declared.types.Value.TheVariants as value
use Rattle.px_terms.specs.declared.types.ValueType.{ValueType}
use Rattle.px_terms.specs.declared.types.ValueType.TheVariants.{Pointer}
use Rattle.px_terms.specs.declared.variables.Var.{Var}
use Rattle.px_terms.specs.declared.variables.VarInfo.{VarInfo}
use Rattle.px_terms.specs.declared.variables.Sort.TheVariants as sort
use Rattle.px_terms.specs.declared.conjuncts.Content.{Content}
use Rattle.px_terms.specs.declared.conjuncts.Content.TheVariants.{Unwritten, Word, Place, Cell}
use Rattle.px_terms.specs.declared.conjuncts.Conj.{Conj}
use Rattle.px_terms.specs.declared.conjuncts.Conj.TheVariants as conjunct
use Rattle.px_core.specs.CommandTree.{CommandTree}
use Rattle.px_core.specs.Control.{Item}
use Rattle.px_entry.specs.Sorts.{is_pointer_type, is_made_sort, is_made}
use Rattle.px_entry.specs.Decided.{is_open, assume}
use Rattle.px_entry.specs.Contents.{fits_cell, fit_each}
use Rattle.px_entry.specs.Standing.{content_value, contents_value}
use Rattle.px_entry.specs.declared.atoms.Atom.{Atom}
use Rattle.px_entry.specs.declared.atoms.AtomState.{AtomState}
use Rattle.px_entry.specs.declared.atoms.AtomState.TheVariants.{Live, Freed}
use Rattle.px_entry.specs.Cases.{may_be_at, may_be_missing, numbers_of}
use Rattle.px_entry.specs.Regular.{fits_state}
use Rattle.px_callgraph.specs.declared.states.State.{State}
use Rattle.px_callgraph.specs.declared.states.Way.{Way}
use Rattle.px_callgraph.specs.declared.states.Way.TheVariants as way
use Rattle.px_callgraph.specs.JobTree.{JobTree}
use Rattle.px_callgraph.specs.States.{on, content_at, info}
use Rattle.px_callgraph.specs.Accesses.{Access, listed_if, atom_ways, missing_ways, access_ways, accessed, cell_contents, cell_infos, atom_of, block_cells, meet_live, meet_freed, use_state, use_atom, reach_atom, access_done}
use Rattle.px_callgraph.specs.Commands.{through_place, command_ways, act_done}
use Rattle.px_meaning.specs.Heaps.{HeapMap, HeapBlock, HeapBlockState, IsCell, «Live» as block_live, «Freed» as block_freed, without_block, AreCells, IsWellTyped, join}
use Rattle.px_meaning.specs.Operations.{value_at}
use Rattle.px_meaning.specs.Events.{mark_of}
use Rattle.px_meaning.specs.Steps.{by_state, by_pointer, live_block, freed_block, command}
use Rattle.px_meaning.specs.CoreCalls.{CoreProgram}
use Rattle.px_meaning.specs.CoreTypes.{SlotTypes}
use Rattle.px_meaning.specs.Triples.{state_of, block_of, heap_of}
use Rattle.px_meaning.proofs.TypedHeaps.{cells_of, cell_at}
use Rattle.px_soundness.proofs.WellFormed.{Good, GoodAtom, WellTyped, CompleteAt}
use Rattle.px_soundness.proofs.AtomHeaps.{absent, none_not_some, at_heap, there}
use Rattle.px_soundness.proofs.Truths.{variable_is}
use Rattle.px_soundness.proofs.WellTyped.{Grown, each_get, grown_by, own_cells}
use Rattle.px_soundness.proofs.BlockSteps.{over, get_last}
use Rattle.px_symexec.proofs.Lists.{IsIn, in_left, in_right}
use Rattle.px_coverage.specs.Covered.{Execution}
use Rattle.px_coverage.proofs.Stands.{HasSort, Stands, stands_fits, found_within, not_met, made_atom}
use Rattle.px_coverage.proofs.Extended.{extended, extended_old, extended_new, contents_agree, heap_same, found_same, stands_extended}
use Rattle.px_coverage.proofs.BlockStands.{atom_of_block, stands_met, heap_met}
use Rattle.px_meaning.proofs.Joins.{join_has, join_lacks}
use Rattle.px_coverage.proofs.Opens.{open_true, assume_true, good_pointer}
use Rattle.px_coverage.proofs.Regards.{Regards}
use Rattle.px_coverage.proofs.Follows.{Onward, Calls, Comes}
use Rattle.px_coverage.proofs.PlainFollows.{in_if}
use Rattle.px_soundness.proofs.CallReads.{type_pointer}

-- ---- listed ways

in_atoms : (such : Atom → Bool) (m : ℕ) (xs : List Atom) (i : ℕ) (a : Atom) → slice_get xs i ≡ Some a → such a ≡ true → (k : ℕ) → k ≡ m + i → IsIn (way.Atom k) (atom_ways (numbers_of (λ _ b. such b) m xs))
in_atoms such m [] i a at t k e = absent at
in_atoms such m (b ∷ rest) zero a at t k e = by (such b) (subst (λ z. such z ≡ true) (sym (same_Some _ _ at)) t)
  where
    by : (q : Bool) → q ≡ true → IsIn (way.Atom k) (atom_ways (elim q as (λ _. List ℕ) [ true ↦ m ∷ numbers_of (λ _ b. such b) (suc m) rest | false ↦ numbers_of (λ _ b. such b) (suc m) rest ]))
    by true t = inl (ap way.Atom (let f : k ≡ m = omega (arith, e) in f))
    by false t = absurd (let f : false ≡ true = t in cc)
in_atoms such m (b ∷ rest) (suc i) a at t k e = by (such b) (in_atoms such (suc m) rest i a at t k (omega (arith, e)))
  where
    by : (q : Bool) → IsIn (way.Atom k) (atom_ways (numbers_of (λ _ b. such b) (suc m) rest)) →
        IsIn (way.Atom k) (atom_ways (elim q as (λ _. List ℕ) [ true ↦ m ∷ numbers_of (λ _ b. such b) (suc m) rest | false ↦ numbers_of (λ _ b. such b) (suc m) rest ]))
    by true h = inr h
    by false h = h

-- a content of its type
pub fit_at : (fits : ValueType → Content → Bool) (ts : List ValueType) (cs : List Content) (i : ℕ) (t : ValueType) → fit_each fits ts cs ≡ true → slice_get ts i ≡ Some t → fits t (content_at cs i) ≡ true
fit_at fits [] cs i t e at = absent at
fit_at fits (u ∷ ts) [] i t e at = cc
fit_at fits (u ∷ ts) (c ∷ cs) zero t e at = subst (λ z. fits z c ≡ true) (same_Some _ _ at) (and_parts (fits u c) (fit_each fits ts cs) e).0
fit_at fits (u ∷ ts) (c ∷ cs) (suc i) t e at = fit_at fits ts cs i t (and_parts (fits u c) (fit_each fits ts cs) e).1 at

-- ---- the cells of a block that is met

pub cells_are : (heap : HeapMap) (w : Valuation) (ts : List ValueType) (us : List Value) (m : ℕ) → AreCells heap ts us → ((i : ℕ) → w (m + i) ≡ value_at us i) → contents_value w (cell_contents m ts) ≡ us
cells_are heap w [] [] m h f = refl
cells_are heap w [] (u ∷ us) m h f = absurd h
cells_are heap w (t ∷ ts) [] m h f = absurd h
cells_are heap w (t ∷ ts) (u ∷ us) m h f =
    ap₂ (λ (z : Value) zs. z ∷ zs) (let e : m ≡ m + 0 = omega arith in ap w e ∙ f 0)
    (cells_are heap w ts us (suc m) h.1 (λ i. (let e : suc m + i ≡ m + suc i = omega arith in ap w e) ∙ f (suc i)))

pub info_at : (ts : List ValueType) (i : ℕ) (k : VarInfo) → slice_get (cell_infos ts) i ≡ Some k → (t : ValueType) × (slice_get ts i ≡ Some t) × (k ≡ info sort.Cell t)
info_at [] i k e = absent e
info_at (t ∷ ts) zero k e = (t, refl, sym (same_Some _ _ e))
info_at (t ∷ ts) (suc i) k e = info_at ts i k e

state_is : (b c : HeapBlock) → b ≡ c → b.state ≡ c.state
state_is b c e = ap (λ (z : HeapBlock). z.state) e

type_is : (b c : HeapBlock) → b ≡ c → b.block_type ≡ c.block_type
type_is b c e = ap (λ (z : HeapBlock). z.block_type) e

not_freed : (us : List Value) → block_live us ≡ block_freed → ⊥
not_freed us e = cc

same_cells : (us ws : List Value) → block_live us ≡ block_live ws → us ≡ ws
same_cells us ws e = cc

null_no_block : (m : ℕ) → value.Null ≡ value.Block m → ⊥
null_no_block m e = cc

module _ (P : CoreProgram) (j : JobTree) (same_types : j.types ≡ P.types) (e : Execution) (typed : IsWellTyped P.types e.before) (types : SlotTypes) (outcome : ℕ → Bool) (n : ℕ)
    (s : State) (well_typed : WellTyped j.types s) (complete : CompleteAt j s) (v : Valuation) (rest : HeapMap) (stands : Stands e v rest s.vars s.pure s.pre s.atoms) where
  abbrev heap : HeapMap
  heap = join (heap_of v s.atoms) rest

  fits : Fits s.vars v
  fits = stands_fits j.types j.body.parameters s.vars s.pure s.pure s.pre s.atoms well_typed.atoms complete e v rest stands

  abbrev pub Found : CommandTree → List Item → Type 0
  Found c k = (w : Way) × IsIn w (command_ways j s c) × Comes P j e types outcome n k (act_done j c w s)

  abbrev pub StepsTo : CommandTree → List Item → Type 0
  StepsTo c k = command mark_of P.types (Calls P j e types outcome n) c k (contents_value v s.slots) heap (Onward P j e types outcome n s.trace)

  abbrev Regarded : List Content → List Item → Type 0
  Regarded slots k = Regards types outcome s.vars slots k

  -- a state with the same slots and the same heap, that knows more
  pub record Over (u : Valuation) (rest' : HeapMap) (vars : List VarInfo) (pure : List Conj) (pre atoms : List Atom) : Type 0 where
    pub stands' : Stands e u rest' vars pure pre atoms
    pub slots : contents_value u s.slots ≡ contents_value v s.slots
    pub whole : join (heap_of u atoms) rest' ≡ heap
    pub grown : Grown s.vars vars

  -- what a command does in the three outcomes, where the machine does the same
  pub record Serves (k : List Item) (block : TypeId) (a : Access) (N F : Type 0) (G : ℕ → List Value → Type 0) : Type 0 where
    pub at_null : (u : Valuation) (rest' : HeapMap) (vars : List VarInfo) (pure : List Conj) (pre atoms : List Atom) → Over u rest' vars pure pre atoms → N → Comes P j e types outcome n k (a.null (over s vars pure pre atoms))
    pub at_freed : (u : Valuation) (rest' : HeapMap) (vars : List VarInfo) (pure : List Conj) (pre atoms : List Atom) → Over u rest' vars pure pre atoms → F → Comes P j e types outcome n k (a.freed (over s vars pure pre atoms))
    pub at_live : (u : Valuation) (rest' : HeapMap) (vars : List VarInfo) (pure : List Conj) (pre atoms : List Atom) → Over u rest' vars pure pre atoms → (i : ℕ) (b : Atom) (cells : List Content) (m : ℕ) →
        slice_get atoms i ≡ Some b → b.block.0 ≡ block.0 → fit_each (fits_cell vars) (block_cells j.types block) cells ≡ true → u b.place.0 ≡ value.Block m → G m (contents_value u cells) →
        Comes P j e types outcome n k (a.live i cells (over s vars pure pre atoms))

  over_assumed : (c : Conj) → IsTrueUnder v c → Over v rest s.vars (assume s.vars s.pure c) s.pre s.atoms
  over_assumed c t = record {
    stands' = record { sorts = stands.sorts; given = stands.given; true_of = assume_true s.vars s.pure c v stands.true_of t; placed = stands.placed; apart = stands.apart; begins = stands.begins };
    slots = refl;
    whole = refl;
    grown = λ x i at. at;
  }

  module _ (k : List Item) (block : TypeId) (a : Access) (N F : Type 0) (G : ℕ → List Value → Type 0) (serves : Serves k block a N F G) where
    -- a way through this place
    abbrev Through : PlaceOf → Type 0
    Through p = (w : Way) × IsIn w (access_ways s block p) × Comes P j e types outcome n k (access_done j.types block a p w s)

    open_place : (p q : PlaceOf) → Good s.vars s.pure (Place p) → Good s.vars s.pure (Place q) → IsTrueUnder v (conjunct.SamePlace p q) → is_open s.vars (conjunct.SamePlace p q) ≡ true
    open_place p q g h t =
        open_true s.vars v fits (conjunct.SamePlace p q)
        (and_from _ _ (good_pointer s.vars s.pure v fits stands.true_of p g) (good_pointer s.vars s.pure v fits stands.true_of q h)) tt t

    abbrev nulls : PlaceOf → List Way
    nulls p = listed_if (is_open s.vars (conjunct.SamePlace p place.Null)) way.Null

    abbrev atoms_at : PlaceOf → List Way
    atoms_at p = atom_ways (numbers_of (λ m (b : Atom). nat_eq b.block.0 block.0 && may_be_at s.vars p b) 0 s.atoms)

    abbrev missings : PlaceOf → List Way
    missings p = missing_ways (may_be_missing s.vars p)

    through_null : (p : PlaceOf) → Good s.vars s.pure (Place p) → place_of v p ≡ value.Null → N → Through p
    through_null p g is h =
        let t : IsTrueUnder v (conjunct.SamePlace p place.Null) = ((subst IsPlace (sym is) tt, tt), is) in (
          way.Null,
          in_left way.Null (nulls p ++ atoms_at p) (missings p) (in_left way.Null (nulls p) (atoms_at p)
              (in_if (is_open s.vars (conjunct.SamePlace p place.Null)) way.Null (open_place p place.Null g tt t))),
          serves.at_null v rest s.vars (assume s.vars s.pure (conjunct.SamePlace p place.Null)) s.pre s.atoms (over_assumed (conjunct.SamePlace p place.Null) t) h,
        )

    -- what the machine does at the block
    abbrev AtBlock : ℕ → HeapBlock → Type 0
    AtBlock m b = (b.block_type ≡ block.0) × by_state b.state F (G m)

    -- at the block of an atom
    through_atom : (p : PlaceOf) (m : ℕ) (b : HeapBlock) → Good s.vars s.pure (Place p) → place_of v p ≡ value.Block m → heap_of v s.atoms m ≡ Some b → AtBlock m b → Through p
    through_atom p m b g is there h =
        let (i, c, got, at, same) = atom_of_block v s.atoms m b stands.placed there in
        let good : GoodAtom j.types s.vars s.pure c = each_get (GoodAtom j.types s.vars s.pure) s.atoms i c well_typed.atoms got in
        let t : IsTrueUnder v (conjunct.SamePlace p (place.Var c.place)) = ((subst IsPlace (sym is) tt, subst IsPlace (sym at) tt), is ∙ sym at) in
        let block_is : c.block.0 ≡ block.0 = type_is (block_of v c) b same ∙ h.0 in
        let listed : (nat_eq c.block.0 block.0 && may_be_at s.vars p c) ≡ true =
        and_from _ _ (eq-eqb c.block.0 block.0 block_is) (open_place p (place.Var c.place) g (type_pointer s.vars c.block c.place.0 good.points, good.usable) t) in (
          way.Atom i,
          in_left (way.Atom i) (nulls p ++ atoms_at p) (missings p) (in_right (way.Atom i) (nulls p) (atoms_at p)
              (in_atoms (λ b. nat_eq b.block.0 block.0 && may_be_at s.vars p b) 0 s.atoms i c got listed i (omega arith))),
          subst (λ o. Comes P j e types outcome n k (reach_atom a p i o s)) (sym got) (by_use c i got at block_is good (over_assumed (conjunct.SamePlace p (place.Var c.place)) t) c.state refl (state_is (block_of v c) b same)),
        )
      where
        by_use : (c : Atom) (i : ℕ) → slice_get s.atoms i ≡ Some c → v c.place.0 ≡ value.Block m → c.block.0 ≡ block.0 → GoodAtom j.types s.vars s.pure c → {pure : List Conj} → Over v rest s.vars pure s.pre s.atoms →
            (st : AtomState) → c.state ≡ st → state_of v c.state ≡ b.state → Comes P j e types outcome n k (use_state a i st (over s s.vars pure s.pre s.atoms))
        by_use c i got at block_is good {pure} o (Live cells) st is' =
            let live : b.state ≡ block_live (contents_value v cells) = sym is' ∙ ap (state_of v) st in
            let fit : fit_each (fits_cell s.vars) (block_cells j.types c.block) cells ≡ true = subst (λ z. fits_state (fits_cell s.vars) (block_cells j.types c.block) z ≡ true) st good.fits in
            serves.at_live v rest s.vars pure s.pre s.atoms o i c cells m got block_is
            (subst (λ z. fit_each (fits_cell s.vars) (types_of (slice_get j.types z)) cells ≡ true) block_is fit) at (subst (λ z. by_state z F (G m)) live h.1)
        by_use c i got at block_is good {pure} o Freed st is' =
            serves.at_freed v rest s.vars pure s.pre s.atoms o (subst (λ z. by_state z F (G m)) (sym is' ∙ ap (state_of v) st) h.1)

    -- at a block that wasn't met
    module _ (x : Var) (m : ℕ) (g : Good s.vars s.pure (Place (place.Var x))) (is : v x.0 ≡ value.Block m) (out : heap_of v s.atoms m ≡ None) where
      place_info : (i : VarInfo) × (slice_get s.vars x.0 ≡ Some i) × (is_pointer_type i.value ≡ true)
      place_info = variable_is s.vars (λ (i : VarInfo). is_pointer_type i.value) x.0 g.0

      -- what malloc gave was met
      not_made : is_made s.vars x.0 ≡ false
      not_made = by (is_made s.vars x.0) refl
        where
          by : (q : Bool) → is_made s.vars x.0 ≡ q → q ≡ false
          by false f = refl
          by true f =
              let (i, at, made) = variable_is s.vars (λ (i : VarInfo). is_made_sort i.sort) x.0 f in
              let (l, a, got, place, type) = made_atom j.types j.body.parameters s.vars s.pure s.pure s.pre s.atoms well_typed.atoms complete e v rest stands x.0 i at made in
              absurd (none_not_some (heap_of v s.atoms m) (block_of v a) out (there v s.atoms l a m stands.placed got (ap v place ∙ is)))

      may_be : may_be_missing s.vars (place.Var x) ≡ true
      may_be = and_from _ _ g.0 (ap not not_made)

      pre_out : heap_of v s.pre m ≡ None
      pre_out = found_within j.types j.body.parameters s.vars s.pure s.pure s.pre s.atoms well_typed.atoms complete e v rest stands m out

      before_is : e.before m ≡ rest m
      before_is = not_met j.types j.body.parameters s.vars s.pure s.pure s.pre s.atoms well_typed.atoms complete e v rest stands m out

      in_missing : (name : Way) → IsIn name (way.MissingLive ∷ way.MissingFreed ∷ []) → IsIn name (access_ways s block (place.Var x))
      in_missing name h = in_right name (nulls (place.Var x) ++ atoms_at (place.Var x)) (missings (place.Var x)) (subst (λ q. IsIn name (missing_ways q)) (sym may_be) h)

      freed_missing : rest m ≡ Some (freed_block block.0) → F → Through (place.Var x)
      freed_missing there h =
          let a' = atom_of x block Freed in (
            way.MissingFreed,
            in_missing way.MissingFreed (inr (inl refl)),
            subst (λ o. Comes P j e types outcome n k (use_atom a (length s.atoms) o (meet_freed block x s))) (sym (get_last s.atoms a'))
                (serves.at_freed v (without_block rest m) s.vars s.pure (s.pre ++ a' ∷ []) (s.atoms ++ a' ∷ []) (record {
                  stands' = stands_met e v rest s.vars s.pure s.pre s.atoms a' m is out pre_out there stands;
                  slots = refl;
                  whole = heap_met e v rest s.vars s.pure s.pre s.atoms a' m is out pre_out there stands;
                  grown = λ y i at. at;
                }) h),
          )

      abbrev ts : List ValueType
      ts = block_cells j.types block

      abbrev first : ℕ
      first = length s.vars

      module _ (us : List Value) (there : rest m ≡ Some (live_block block.0 us)) where
        abbrev w : Valuation
        w = extended v first us

        agree : (y : ℕ) → y < length s.vars → w y ≡ v y
        agree y l = extended_old v first us y l

        cells_typed : AreCells e.before ts us
        cells_typed = subst (λ zs. AreCells e.before (types_of (slice_get zs block.0)) us) (sym same_types)
            (cells_of e.before (slice_get P.types block.0) us (typed.typed m (live_block block.0 us) (before_is ∙ there)))

        new_sorts : (i : ℕ) (k : VarInfo) → slice_get (cell_infos ts) i ≡ Some k → HasSort e.before k.sort k.value (w (first + i))
        new_sorts i k at =
            let (t, at', is') = info_at ts i k at in
            subst (λ (z : VarInfo). HasSort e.before z.sort z.value (w (first + i))) (sym is')
            (subst (IsCell e.before t) (sym (extended_new v first us (first + i) i refl)) (cell_at e.before ts us i t cells_typed at'))

        abbrev a' : Atom
        a' = atom_of x block (Live (cell_contents first ts))

        abbrev vars' : List VarInfo
        vars' = s.vars ++ cell_infos ts

        s1 : Stands e w rest vars' s.pure s.pre s.atoms
        s1 = stands_extended s.vars s.pure v w agree j.types j.body.parameters s.pre s.atoms well_typed.atoms complete e rest (cell_infos ts) new_sorts s.pure complete.conjuncts stands

        blocks_same : heap_of w s.atoms ≡ heap_of v s.atoms
        blocks_same = heap_same s.vars s.pure v w agree j.types j.body.parameters s.pre s.atoms well_typed.atoms complete

        pres_same : heap_of w s.pre ≡ heap_of v s.pre
        pres_same = found_same s.vars s.pure v w agree j.types j.body.parameters s.pre s.atoms well_typed.atoms complete

        contents_are : contents_value w (cell_contents first ts) ≡ us
        contents_are = cells_are e.before w ts us first cells_typed (λ i. extended_new v first us (first + i) i refl)

        here : w x.0 ≡ value.Block m
        here = let (i, at, t) = place_info in agree x.0 (slice_get_within s.vars x.0 i at) ∙ is

        there' : rest m ≡ Some (block_of w a')
        there' = there ∙ ap (λ cs. Some (let b : HeapBlock = record { block_type = block.0; state = block_live cs } in b)) (sym contents_are)

        live_missing : G m us → Through (place.Var x)
        live_missing h = (
          way.MissingLive,
          in_missing way.MissingLive (inl refl),
          subst (λ o. Comes P j e types outcome n k (use_atom a (length s.atoms) o (meet_live j.types block x s))) (sym (get_last s.atoms a'))
              (serves.at_live w (without_block rest m) vars' s.pure (s.pre ++ a' ∷ []) (s.atoms ++ a' ∷ []) (record {
                stands' = stands_met e w rest vars' s.pure s.pre s.atoms a' m here (at_heap m blocks_same ∙ out) (at_heap m pres_same ∙ pre_out) there' s1;
                slots = contents_agree s.vars s.pure v w agree s.slots well_typed.slots;
                whole = heap_met e w rest vars' s.pure s.pre s.atoms a' m here (at_heap m blocks_same ∙ out) (at_heap m pres_same ∙ pre_out) there' s1 ∙ ap (λ h. join h rest) blocks_same;
                grown = grown_by s.vars (cell_infos ts);
              }) (length s.atoms) a' (cell_contents first ts) m (get_last s.atoms a') refl (own_cells s.pure s.vars ts vars' first refl refl).1 here (subst (G m) (sym contents_are) h)),
        )

      through_missing : (b : HeapBlock) → rest m ≡ Some b → AtBlock m b → Through (place.Var x)
      through_missing b there h = by b.state refl h.1
        where
          block_is : (st : HeapBlockState) → b.state ≡ st → b ≡ (let c : HeapBlock = record { block_type = block.0; state = st } in c)
          block_is st at = ap₂ (λ u z. let c : HeapBlock = record { block_type = u; state = z } in c) h.0 at

          by : (st : HeapBlockState) → b.state ≡ st → by_state st F (G m) → Through (place.Var x)
          by (block_live us) at g' = live_missing us (there ∙ ap Some (block_is (block_live us) at)) g'
          by block_freed at g' = freed_missing (there ∙ ap Some (block_is block_freed at)) g'

    through_block : (p : PlaceOf) (m : ℕ) → Good s.vars s.pure (Place p) → place_of v p ≡ value.Block m → IsSomeAnd (heap m) (AtBlock m) → Through p
    through_block p m g is h = by p g is (heap_of v s.atoms m) refl
      where
        at_block : (o : Option HeapBlock) (b : HeapBlock) → heap m ≡ Some b → AtBlock m b
        at_block o b at = subst (λ z. IsSomeAnd z (AtBlock m)) at h

        rest_there : heap_of v s.atoms m ≡ None → (b : HeapBlock) × (rest m ≡ Some b) × AtBlock m b
        rest_there out = found (rest m) refl
          where
            found : (o : Option HeapBlock) → rest m ≡ o → (b : HeapBlock) × (rest m ≡ Some b) × AtBlock m b
            found None at = absurd (subst (λ z. IsSomeAnd z (AtBlock m)) (join_lacks (heap_of v s.atoms) rest m out ∙ at) h)
            found (Some b) at = (b, at, at_block None b (join_lacks (heap_of v s.atoms) rest m out ∙ at))

        by : (p : PlaceOf) → Good s.vars s.pure (Place p) → place_of v p ≡ value.Block m → (o : Option HeapBlock) → heap_of v s.atoms m ≡ o → Through p
        by p g is (Some b) at = through_atom p m b g is at (at_block None b (join_has (heap_of v s.atoms) rest m b at))
        by place.Null g is None out = absurd (null_no_block m is)
        by (place.Var x) g is None out = let (b, at, h') = rest_there out in through_missing x m g is out b at h'

    through_value : (p : PlaceOf) → Good s.vars s.pure (Place p) → (u : Value) → place_of v p ≡ u → by_pointer heap block.0 u N F G → Through p
    through_value p g value.Null is h = through_null p g is h
    through_value p g (value.Block m) is h = through_block p m g is h
    through_value p g (value.Word z) is h = absurd h
    through_value p g value.Unwritten is h = absurd h

    -- through what an operand is, where it is a pointer to the block type
    pub follow_pointer : (c : Content) → Good s.vars s.pure c → ((y : Var) → c ≡ Cell y → ⊥) → fits_cell s.vars (Pointer block) c ≡ true → by_pointer heap block.0 (content_value v c) N F G →
        (w : Way) × IsIn w (through_place [] (accessed s.vars block c) (access_ways s block)) × Comes P j e types outcome n k (through_place (on s) (accessed s.vars block c) (λ p. access_done j.types block a p w s))
    follow_pointer Unwritten g calm t h = absurd h
    follow_pointer (Word p) g calm t h = absurd h
    follow_pointer (Cell y) g calm t h = absurd (calm y refl)
    follow_pointer (Place p) g calm t h =
        let (w, listed, comes) = through_value p g (place_of v p) refl h in (
          w,
          subst (λ b. IsIn w (through_place [] (elim b as (λ _. Option PlaceOf) [ true ↦ Some p | false ↦ None ]) (access_ways s block))) (sym t) listed,
          subst (λ b. Comes P j e types outcome n k (through_place (on s) (elim b as (λ _. Option PlaceOf) [ true ↦ Some p | false ↦ None ]) (λ p. access_done j.types block a p w s))) (sym t) comes,
        )
