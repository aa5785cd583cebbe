-- Each block that a callee finds is met along a listed way: it is that of an atom, or the path meets it.
use Rattle.std.proofs.Common.{◌≡◌, ℕ, ◌+◌, ◌<◌, Bool, true, false, not, nat_eq, ◌&&◌, ◌||◌, Option, Some, None, List, [], ◌∷◌, ◌++◌, map, length, slice_get, refl, sym, ap, ◌∙◌, subst, inl, arith}
use Rattle.std.specs.Prelude.{ℤ}
use Rattle.std.specs.List.{list_any}
use Rattle.std.proofs.lemmas.Bool.{and_parts, and_from, eqb-true, eq-eqb}
use Rattle.std.proofs.lemmas.Option.{same_Some, slice_get_within}
use Rattle.px_terms.specs.Types.{types_of}
use Rattle.px_terms.specs.Substitutions.{content_for}
use Rattle.px_terms.specs.Valuations.{Valuation, IsPlace, Fits}
use Rattle.px_terms.specs.Conjuncts.{place_of, IsTrueUnder}
use Rattle.px_terms.specs.declared.types.Value.{Value}
use Rattle.px_terms.specs.declared.types.Value.TheVariants as value
use Rattle.px_terms.specs.declared.types.ValueType.{ValueType}
use Rattle.px_terms.specs.declared.types.ValueType.TheVariants.{Pointer}
use Rattle.px_terms.specs.declared.variables.Var.{Var}
use Rattle.px_terms.specs.declared.variables.VarInfo.{VarInfo}
use Rattle.px_terms.specs.declared.variables.Sort.{Sort}
use Rattle.px_terms.specs.declared.conjuncts.Place.{Place as PlaceOf}
use Rattle.px_terms.specs.declared.conjuncts.Place.TheVariants as place
use Rattle.px_terms.specs.declared.conjuncts.Content.{Content}
use Rattle.px_terms.specs.declared.conjuncts.Content.TheVariants.{Unwritten, Word, Place, Cell}
use Rattle.px_terms.specs.declared.conjuncts.Conj.{Conj}
use Rattle.px_terms.specs.declared.conjuncts.Conj.TheVariants.{SamePlace}
use Rattle.px_entry.specs.declared.atoms.Atom.{Atom}
use Rattle.px_entry.specs.declared.atoms.AtomState.{AtomState}
use Rattle.px_entry.specs.declared.atoms.AtomState.TheVariants.{Live, Freed}
use Rattle.px_entry.specs.declared.entries.Entry.{Entry}
use Rattle.px_entry.specs.Sorts.{is_given_sort, is_made_sort, is_given, is_made, is_pointer_place, is_place_of, has_type, same_type}
use Rattle.px_entry.specs.Decided.{is_open}
use Rattle.px_entry.specs.Cases.{is_freed, is_match, may_be_missing, numbers_of, atom_cases, missing_case}
use Rattle.px_entry.specs.Regular.{points_to_block, cells_of, are_reached, state_cells, are_variables_regular, is_pre_regular, is_post_regular, are_terms_regular, is_regular}
use Rattle.px_entry.specs.Standing.{content_value, contents_value}
use Rattle.px_entry.proofs.Lists.{Each, each_from}
use Rattle.px_callgraph.specs.declared.states.State.{State}
use Rattle.px_callgraph.specs.declared.states.Way.{Way}
use Rattle.px_callgraph.specs.declared.states.Way.TheVariants as way
use Rattle.px_callgraph.specs.JobTree.{JobTree}
use Rattle.px_callgraph.specs.Accesses.{atom_of, cell_contents, cell_infos, block_cells, meet_live, meet_freed}
use Rattle.px_callgraph.specs.Renaming.{Substitution, stand_cells, place_in, place_through}
use Rattle.px_callgraph.specs.Calls.{matching, Taken, take_atom, take_case, case_way, cases_at, required_ways}
use Rattle.px_meaning.specs.Heaps.{HeapMap, HeapBlock, HeapBlockState, «Live» as block_live, without_block, IsCell, AreCells, IsWellTyped, join}
use Rattle.px_meaning.specs.Steps.{live_block}
use Rattle.px_meaning.specs.CoreCalls.{CoreProgram}
use Rattle.px_meaning.specs.Triples.{state_of, block_of, heap_of}
use Rattle.px_meaning.proofs.TypedHeaps.{«cells_of» as typed_cells, cell_at}
use Rattle.px_meaning.proofs.Joins.{join_has, join_lacks}
use Rattle.px_soundness.proofs.WellFormed.{Good, GoodAtom}
use Rattle.px_soundness.proofs.AtomHeaps.{none_not_some, at_heap, Placed, there}
use Rattle.px_soundness.proofs.Truths.{variable_is}
use Rattle.px_soundness.proofs.WellTyped.{Grown, each_get, get_next, grown_by}
use Rattle.px_soundness.proofs.FitsThrough.{same_is}
use Rattle.px_soundness.proofs.CallReads.{type_pointer}
use Rattle.px_soundness.proofs.CallMatches.{AllMet}
use Rattle.px_soundness.proofs.CallStages.{SuitsSoFar, Matched}
use Rattle.px_soundness.proofs.CallReady.{each_for, given_below, get_there}
use Rattle.px_soundness.proofs.EntryParts.{Parts, parts, given_of}
use Rattle.px_symexec.proofs.Lists.{IsIn}
use Rattle.px_coverage.specs.Covered.{Execution}
use Rattle.px_coverage.proofs.Stands.{HasSort, Stands, found_within, not_met, made_atom}
use Rattle.px_coverage.proofs.Extended.{extended, extended_old, extended_new, content_agrees, contents_agree, heap_same, found_same, stands_extended}
use Rattle.px_coverage.proofs.BlockStands.{atom_of_block, stands_met, heap_met}
use Rattle.px_coverage.proofs.Opens.{open_true}
use Rattle.px_coverage.proofs.AccessFollows.{cells_are, info_at}
use Rattle.px_soundness.proofs.CallPending.{Pending}
use Rattle.px_coverage.proofs.Stands.{stands_fits}
use Rattle.px_coverage.proofs.CallAgrees.{Agrees, in_cases, in_last, reached_here, any_each, get_mid, so_far_place, state_agrees, both_agree, alike_freed, stands_assumed, stage_substitution}
use Rattle.px_check.proofs.ValueLemmas.{each_split}

-- ---- one block

module _ (P : CoreProgram) (j : JobTree) (same_types : j.types ≡ P.types) (e : Execution) (typed : IsWellTyped P.types e.before)
    (contents : List Content) (x : Entry) (regular : is_regular j.types (length contents) x ≡ true)
    (u : State) (σ : Substitution) (p : Atom) (later : List Atom) (used : List ℕ) (m : Matched j.types contents x u σ (p ∷ later) used)
    (v : Valuation) (rest : HeapMap) (stands : Stands e v rest u.vars u.pure u.pre u.atoms) (q : Pending j x u σ)
    (w : Valuation) (agrees : Agrees v w σ) (placed : Placed w x.pre) (b : ℕ) (at : w p.place.0 ≡ value.Block b) (is_there : join (heap_of v u.atoms) rest b ≡ Some (block_of w p)) where
  -- the state and the standing after, with the values there
  pub record Meets (t : Taken) : Type 0 where
    pub valuation : Valuation
    pub unmet : HeapMap
    pub stands' : Stands e valuation unmet t.state.vars t.state.pure t.state.pre t.state.atoms
    pub slots : contents_value valuation t.state.slots ≡ contents_value v u.slots
    pub whole : join (heap_of valuation t.state.atoms) unmet ≡ join (heap_of v u.atoms) rest
    pub grown : Grown u.vars t.state.vars
    pub agrees' : (τ : Substitution) (later' : List Atom) (used' : List ℕ) → t.stage ≡ matching x τ later' used' → Agrees valuation w τ

  abbrev pub Met : Type 0
  Met = (name : Way) × IsIn name (required_ways u σ used p) × Meets (take_case j.types x σ later used p name (place_through σ (place.Var p.place)) u)

  fits : Fits u.vars v
  fits = stands_fits j.types j.body.parameters u.vars q.counted u.pure u.pre u.atoms q.well_typed.atoms q.complete e v rest stands

  of : Parts j.types x
  of = parts j.types (length contents) x regular

  points : has_type x.vars (Pointer p.block) p.place.0 ≡ true
  points =
      (each_split (λ (q : Atom). points_to_block x.vars q ≡ true) m.first (p ∷ later) (subst (Each (λ (q : Atom). points_to_block x.vars q ≡ true)) m.split
      (each_from (points_to_block x.vars) (λ (q : Atom). points_to_block x.vars q ≡ true) (λ q h. h) x.pre of.points_pre))).1.0

  reached : are_reached x.vars [] x.pre ≡ true
  reached =
      let n = length contents in
      let r = and_parts (are_variables_regular n x && is_pre_regular j.types x && is_post_regular j.types x) (are_terms_regular x) regular in
      let s = and_parts (are_variables_regular n x && is_pre_regular j.types x) (is_post_regular j.types x) r.0 in
      let t = and_parts (are_variables_regular n x) (is_pre_regular j.types x) s.0 in (and_parts _ _ t.1).1

  place_content : (d : Content) × (content_for σ p.place.0 ≡ Some d)
  place_content = by (is_given x.vars p.place.0) refl (reached_here x.vars [] m.first later p (subst (λ ys. are_reached x.vars [] ys ≡ true) m.split reached))
    where
      by : (q : Bool) → is_given x.vars p.place.0 ≡ q → (q || list_any (nat_eq p.place.0) (cells_of m.first)) ≡ true → (d : Content) × (content_for σ p.place.0 ≡ Some d)
      by true is e =
          let (i, here, g) = variable_is x.vars (λ (i : VarInfo). is_given_sort i.sort) p.place.0 is in
          let (c, is_c) = get_there contents p.place.0 (given_below (length contents) x.vars p.place.0 i (given_of j.types (length contents) x regular) here g) in
          (c, m.given p.place.0 c is_c)
      by false is e = any_each (λ y. (d : Content) × (content_for σ y ≡ Some d)) p.place.0 (cells_of m.first) m.cells e

  -- the block is at this place
  record PlaceAt : Type 0 where
    pub pointer : PlaceOf
    pub is : place_through σ (place.Var p.place) ≡ Some pointer
    pub type : is_place_of u.vars p.block pointer ≡ true
    pub block : place_of v pointer ≡ value.Block b

  place_at : PlaceAt
  place_at =
      let (d, is) = place_content in
      let (i, here, same) = variable_is x.vars (λ (i : VarInfo). same_type i.value (Pointer p.block)) p.place.0 points in
      by i.sort d is (subst (λ t. SuitsSoFar u.vars i.sort t d) (same_is i.value (Pointer p.block) same) (m.suits p.place.0 i d here is)) (agrees p.place.0 d is ∙ at)
    where
      no_block : {n : ℕ} → value.Unwritten ≡ value.Block n → PlaceAt
      no_block f = cc

      no_word : {n : ℕ} {z : ℤ} → value.Word z ≡ value.Block n → PlaceAt
      no_word f = cc

      by : (s : Sort) (d : Content) → content_for σ p.place.0 ≡ Some d → SuitsSoFar u.vars s (Pointer p.block) d → content_value v d ≡ value.Block b → PlaceAt
      by s Unwritten is h k = no_block k
      by s (Word q) is h k = no_word k
      by s (Place a) is h k = record { pointer = a; is = ap place_in is; type = so_far_place u.vars s p.block (Place a) a h refl; block = k }
      by s (Cell z) is h k = record { pointer = place.Var z; is = ap place_in is; type = so_far_place u.vars s p.block (Cell z) (place.Var z) h refl; block = k }

  pointer_of : (a : PlaceOf) → is_place_of u.vars p.block a ≡ true → is_pointer_place u.vars a ≡ true
  pointer_of place.Null h = refl
  pointer_of (place.Var y) h = type_pointer u.vars p.block y.0 h

  stage_agrees : (val : Valuation) (τ : Substitution) (used' : List ℕ) → Agrees val w τ → (υ : Substitution) (later' : List Atom) (used'' : List ℕ) → matching x τ later used' ≡ matching x υ later' used'' → Agrees val w υ
  stage_agrees val τ used' h υ later' used'' same = subst (Agrees val w) (ap stage_substitution same) h

  -- ---- an atom's

  -- a block that was met already is another
  not_used : (c : Atom) (i : ℕ) → slice_get u.atoms i ≡ Some c → v c.place.0 ≡ value.Block b → (us : List ℕ) (qs : List Atom) → AllMet u.vars u.pure u.atoms σ us qs → Placed w (qs ++ p ∷ later) → list_any (nat_eq i) us ≡ true → ⊥
  not_used c i got here [] qs h pl k = let f : false ≡ true = k in cc
  not_used c i got here (n ∷ us) [] h pl k = absurd h
  not_used c i got here (n ∷ us) (q ∷ qs) (met, h) (l, at_q, out, pl) k = by (nat_eq i n) refl k (not_used c i got here us qs h pl)
    where
      number : value.Block l ≡ value.Block b → l ≡ b
      number f = cc

      by : (r : Bool) → nat_eq i n ≡ r → (r || list_any (nat_eq i) us) ≡ true → (list_any (nat_eq i) us ≡ true → ⊥) → ⊥
      by false is f other = other f
      by true is f other =
          let one : met.atom ≡ c = same_Some _ _ (sym met.at ∙ ap (slice_get u.atoms) (sym (eqb-true i n is)) ∙ got) in
          let block : w q.place.0 ≡ value.Block b = sym (agrees q.place.0 met.content met.place) ∙ met.same v fits stands.true_of ∙ ap (λ (z : Atom). v z.place.0) one ∙ here in
          none_not_some (heap_of w (qs ++ p ∷ later) l) (block_of w p) out
          (ap (heap_of w (qs ++ p ∷ later)) (number (sym at_q ∙ block)) ∙ there w (qs ++ p ∷ later) (length qs) p b pl (get_mid qs later p) at)

  known : (z : PlaceAt) (i : ℕ) (c : Atom) → slice_get u.atoms i ≡ Some c → v c.place.0 ≡ value.Block b → block_of v c ≡ block_of w p → Met
  known z i c got here same =
      let says : Conj = SamePlace z.pointer (place.Var c.place) in
      let t : IsTrueUnder v says = ((subst IsPlace (sym z.block) tt, subst IsPlace (sym here) tt), z.block ∙ sym here) in
      let states : state_of v c.state ≡ state_of w p.state = ap (λ (h : HeapBlock). h.state) same in
      let open' : is_open u.vars says ≡ true = open_true u.vars v fits says (and_from _ _ (pointer_of z.pointer z.type) is_place) tt t in
      let match : is_match u.vars z.pointer p.block (is_freed p.state) c ≡ true =
      and_from _ _ (and_from _ _ (eq-eqb c.block.0 p.block.0 (ap (λ (h : HeapBlock). h.block_type) same)) (alike_freed v w c.state p.state states)) open' in
      let listed : (not (list_any (nat_eq i) used) && is_match u.vars z.pointer p.block (is_freed p.state) c) ≡ true = and_from _ _ (unused (list_any (nat_eq i) used) refl) match in (
        way.Atom i,
        subst (λ o. IsIn (way.Atom i) (map case_way (cases_at u used p o))) (sym z.is)
            (in_cases (λ n a. not (list_any (nat_eq n) used) && is_match u.vars z.pointer p.block (is_freed p.state) a) 0 u.atoms i c got i (omega arith) listed (missing_case (may_be_missing u.vars z.pointer))),
        subst (λ o. Meets (take_case j.types x σ later used p (way.Atom i) o u)) (sym z.is)
            (subst (λ o. Meets (take_atom x σ later used p i z.pointer o u)) (sym got) (record {
              valuation = v;
              unmet = rest;
              stands' = stands_assumed e v rest u.vars u.pure u.pre u.atoms says t stands;
              slots = refl;
              whole = refl;
              grown = λ y k h. h;
              agrees' = stage_agrees v (σ ++ stand_cells (state_cells p.state) (state_cells c.state)) (used ++ i ∷ [])
                  (both_agree v w σ (stand_cells (state_cells p.state) (state_cells c.state)) agrees (state_agrees v w p.state c.state states));
            })),
      )
    where
      unused : (q : Bool) → list_any (nat_eq i) used ≡ q → not q ≡ true
      unused false is = refl
      unused true is = absurd (not_used c i got here used m.first m.met (subst (Placed w) m.split placed) is)

      is_place : is_pointer_place u.vars (place.Var c.place) ≡ true
      is_place = let g = each_get (GoodAtom j.types u.vars q.counted) u.atoms i c q.well_typed.atoms got in type_pointer u.vars c.block c.place.0 g.points

  -- ---- one that wasn't met

  module _ (y : Var) (is : place_through σ (place.Var p.place) ≡ Some (place.Var y)) (type : has_type u.vars (Pointer p.block) y.0 ≡ true) (here : v y.0 ≡ value.Block b) (out : heap_of v u.atoms b ≡ None) where
    rest_has : rest b ≡ Some (block_of w p)
    rest_has = sym (join_lacks (heap_of v u.atoms) rest b out) ∙ is_there

    not_made : is_made u.vars y.0 ≡ false
    not_made = by (is_made u.vars y.0) refl
      where
        by : (q : Bool) → is_made u.vars y.0 ≡ q → q ≡ false
        by false f = refl
        by true f =
            let (i, at_i, made) = variable_is u.vars (λ (i : VarInfo). is_made_sort i.sort) y.0 f in
            let (l, a, got, place, type') = made_atom j.types j.body.parameters u.vars q.counted u.pure u.pre u.atoms q.well_typed.atoms q.complete e v rest stands y.0 i at_i made in
            absurd (none_not_some (heap_of v u.atoms b) (block_of v a) out (there v u.atoms l a b stands.placed got (ap v place ∙ here)))

    pre_out : heap_of v u.pre b ≡ None
    pre_out = found_within j.types j.body.parameters u.vars q.counted u.pure u.pre u.atoms q.well_typed.atoms q.complete e v rest stands b out

    before_is : e.before b ≡ rest b
    before_is = not_met j.types j.body.parameters u.vars q.counted u.pure u.pre u.atoms q.well_typed.atoms q.complete e v rest stands b out

    -- the state after is one in which the block is met
    abbrev taken : State → Taken
    taken t = take_atom x σ later used p (length u.atoms) (place.Var y) (slice_get t.atoms (length u.atoms)) t

    block_is : (st : HeapBlockState) → state_of w p.state ≡ st → rest b ≡ Some (let h : HeapBlock = record { block_type = p.block.0; state = st } in h)
    block_is st same = rest_has ∙ ap (λ z. Some (let h : HeapBlock = record { block_type = p.block.0; state = z } in h)) same

    self_same : (val : Valuation) → val y.0 ≡ value.Block b → IsTrueUnder val (SamePlace (place.Var y) (place.Var y))
    self_same val k = ((subst IsPlace (sym k) tt, subst IsPlace (sym k) tt), refl)

    freed : state_of w p.state ≡ state_of v Freed → Meets (taken (meet_freed p.block y u))
    freed same =
        let a : Atom = atom_of y p.block Freed in
        let s1 : Stands e v (without_block rest b) u.vars u.pure (u.pre ++ a ∷ []) (u.atoms ++ a ∷ []) = stands_met e v rest u.vars u.pure u.pre u.atoms a b here out pre_out (block_is _ same) stands in
        subst (λ o. Meets (take_atom x σ later used p (length u.atoms) (place.Var y) o (meet_freed p.block y u))) (sym (get_next u.atoms a)) (record {
          valuation = v;
          unmet = without_block rest b;
          stands' = stands_assumed e v (without_block rest b) u.vars u.pure (u.pre ++ a ∷ []) (u.atoms ++ a ∷ []) (SamePlace (place.Var y) (place.Var y)) (self_same v here) s1;
          slots = refl;
          whole = heap_met e v rest u.vars u.pure u.pre u.atoms a b here out pre_out (block_is _ same) stands;
          grown = λ z k h. h;
          agrees' = stage_agrees v (σ ++ stand_cells (state_cells p.state) []) (used ++ length u.atoms ∷ [])
              (both_agree v w σ (stand_cells (state_cells p.state) []) agrees (state_agrees v w p.state Freed (sym same)));
        })

    abbrev ts : List ValueType
    ts = block_cells j.types p.block

    abbrev first : ℕ
    first = length u.vars

    module _ (us : List Value) (live : state_of w p.state ≡ block_live us) where
      abbrev val : Valuation
      val = extended v first us

      agree : (z : ℕ) → z < length u.vars → val z ≡ v z
      agree z l = extended_old v first us z l

      cells_typed : AreCells e.before ts us
      cells_typed = subst (λ zs. AreCells e.before (types_of (slice_get zs p.block.0)) us) (sym same_types)
          (typed_cells e.before (slice_get P.types p.block.0) us (typed.typed b (live_block p.block.0 us) (before_is ∙ block_is (block_live us) live)))

      new_sorts : (i : ℕ) (k : VarInfo) → slice_get (cell_infos ts) i ≡ Some k → HasSort e.before k.sort k.value (val (first + i))
      new_sorts i k at_k =
          let (t, at_t, is') = info_at ts i k at_k in
          subst (λ (z : VarInfo). HasSort e.before z.sort z.value (val (first + i))) (sym is')
          (subst (IsCell e.before t) (sym (extended_new v first us (first + i) i refl)) (cell_at e.before ts us i t cells_typed at_t))

      abbrev a : Atom
      a = atom_of y p.block (Live (cell_contents first ts))

      abbrev vars : List VarInfo
      vars = u.vars ++ cell_infos ts

      s1 : Stands e val rest vars u.pure u.pre u.atoms
      s1 = stands_extended u.vars q.counted v val agree j.types j.body.parameters u.pre u.atoms q.well_typed.atoms q.complete e rest (cell_infos ts) new_sorts u.pure q.conjuncts stands

      blocks_same : heap_of val u.atoms ≡ heap_of v u.atoms
      blocks_same = heap_same u.vars q.counted v val agree j.types j.body.parameters u.pre u.atoms q.well_typed.atoms q.complete

      pres_same : heap_of val u.pre ≡ heap_of v u.pre
      pres_same = found_same u.vars q.counted v val agree j.types j.body.parameters u.pre u.atoms q.well_typed.atoms q.complete

      contents_are : contents_value val (cell_contents first ts) ≡ us
      contents_are = cells_are e.before val ts us first cells_typed (λ i. extended_new v first us (first + i) i refl)

      at_val : val y.0 ≡ value.Block b
      at_val = let (i, at_i, t) = variable_is u.vars (λ (i : VarInfo). same_type i.value (Pointer p.block)) y.0 type in agree y.0 (slice_get_within u.vars y.0 i at_i) ∙ here

      there_val : rest b ≡ Some (block_of val a)
      there_val = block_is (block_live us) live ∙ ap (λ cs. Some (let h : HeapBlock = record { block_type = p.block.0; state = block_live cs } in h)) (sym contents_are)

      old_agree : Agrees val w σ
      old_agree z c at_c = content_agrees u.vars u.pure v val agree c (each_for (Good u.vars u.pure) σ m.good z c at_c) ∙ agrees z c at_c

      lives : Meets (taken (meet_live j.types p.block y u))
      lives =
          let s2 : Stands e val (without_block rest b) vars u.pure (u.pre ++ a ∷ []) (u.atoms ++ a ∷ []) =
          stands_met e val rest vars u.pure u.pre u.atoms a b at_val (at_heap b blocks_same ∙ out) (at_heap b pres_same ∙ pre_out) there_val s1 in
          subst (λ o. Meets (take_atom x σ later used p (length u.atoms) (place.Var y) o (meet_live j.types p.block y u))) (sym (get_next u.atoms a)) (record {
            valuation = val;
            unmet = without_block rest b;
            stands' = stands_assumed e val (without_block rest b) vars u.pure (u.pre ++ a ∷ []) (u.atoms ++ a ∷ []) (SamePlace (place.Var y) (place.Var y)) (self_same val at_val) s2;
            slots = contents_agree u.vars q.counted v val agree u.slots q.well_typed.slots;
            whole = heap_met e val rest vars u.pure u.pre u.atoms a b at_val (at_heap b blocks_same ∙ out) (at_heap b pres_same ∙ pre_out) there_val s1 ∙ ap (λ h. join h rest) blocks_same;
            grown = grown_by u.vars (cell_infos ts);
            agrees' = stage_agrees val (σ ++ stand_cells (state_cells p.state) (cell_contents first ts)) (used ++ length u.atoms ∷ [])
                (both_agree val w σ (stand_cells (state_cells p.state) (cell_contents first ts)) old_agree
                (state_agrees val w p.state (Live (cell_contents first ts)) (ap block_live contents_are ∙ sym live)));
          })

    abbrev met_by : Bool → State
    met_by q = elim q [ true ↦ meet_freed p.block y u | false ↦ meet_live j.types p.block y u ]

    missing : Met
    missing = (
      way.Missing,
      subst (λ o. IsIn way.Missing (map case_way (cases_at u used p o))) (sym is)
          (in_last way.Missing (atom_cases (numbers_of (λ n c. not (list_any (nat_eq n) used) && is_match u.vars (place.Var y) p.block (is_freed p.state) c) 0 u.atoms)) (missing_case (may_be_missing u.vars (place.Var y)))
          (subst (λ q. IsIn way.Missing (map case_way (missing_case q))) (sym (and_from _ _ (type_pointer u.vars p.block y.0 type) (ap not not_made))) (inl refl))),
      subst (λ o. Meets (take_case j.types x σ later used p way.Missing o u)) (sym is) (by p.state refl),
    )
      where
        by : (st : AtomState) → p.state ≡ st → Meets (taken (met_by (is_freed p.state)))
        by (Live ps) same = subst (λ q. Meets (taken (met_by q))) (sym (ap is_freed same)) (lives (contents_value w ps) (ap (state_of w) same))
        by Freed same = subst (λ q. Meets (taken (met_by q))) (sym (ap is_freed same)) (freed (ap (state_of w) same))

  -- ---- wherever it is

  pub follow_required : Met
  follow_required = by place_at (heap_of v u.atoms b) refl
    where
      elsewhere : (a : PlaceOf) → place_through σ (place.Var p.place) ≡ Some a → is_place_of u.vars p.block a ≡ true → place_of v a ≡ value.Block b → heap_of v u.atoms b ≡ None → Met
      elsewhere place.Null is type block out = let f : value.Null ≡ value.Block b = block in cc
      elsewhere (place.Var y) is type block out = missing y is type block out

      by : (z : PlaceAt) (o : Option HeapBlock) → heap_of v u.atoms b ≡ o → Met
      by z None out = elsewhere z.pointer z.is z.type z.block out
      by z (Some c) has =
          let same : c ≡ block_of w p = same_Some _ _ (sym (join_has (heap_of v u.atoms) rest b c has) ∙ is_there) in
          let (i, a, got, place, block) = atom_of_block v u.atoms b c stands.placed has in known z i a got place (block ∙ same)
