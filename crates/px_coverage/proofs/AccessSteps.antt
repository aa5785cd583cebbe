-- Each step of a load, a store and a free is that of a listed way.
use Rattle.std.proofs.Common.{◌≡◌, ℕ, Bool, true, false, Some, None, List, [], ◌∷◌, slice_get, slice_set, sym, ap, ap₂, ◌∙◌, subst, subst₂}
use Rattle.std.specs.Prelude.{IsSome, is_some}
use Rattle.px_base.specs.declared.trace.Site.{Site}
use Rattle.px_base.specs.declared.trace.MarkKind.{MarkKind}
use Rattle.px_base.specs.declared.trace.MarkKind.TheVariants as mark
use Rattle.px_base.specs.declared.trace.Kind.{Kind}
use Rattle.px_base.specs.declared.trace.Kind.TheVariants.{NullDereference, UseAfterFree, DoubleFree}
use Rattle.px_base.specs.declared.trace.FieldId.{FieldId}
use Rattle.px_terms.specs.Valuations.{Valuation}
use Rattle.px_terms.specs.Types.{types_of}
use Rattle.px_terms.specs.declared.types.TypeId.{TypeId}
use Rattle.px_terms.specs.declared.types.Value.{Value}
use Rattle.px_terms.specs.declared.types.Value.TheVariants as value
use Rattle.px_terms.specs.declared.types.ValueType.{ValueType}
use Rattle.px_terms.specs.declared.types.ValueType.TheVariants.{Pointer}
use Rattle.px_terms.specs.declared.variables.VarInfo.{VarInfo}
use Rattle.px_terms.specs.declared.conjuncts.Conj.{Conj}
use Rattle.px_core.specs.declared.command.Operand.{Operand}
use Rattle.px_core.specs.CommandTree.{CommandTree, load, store, free}
use Rattle.px_core.specs.Control.{Item, Act}
use Rattle.px_core.specs.Constants.{IsInRange}
use Rattle.px_core.specs.WellFormed.{Settles}
use Rattle.px_core.specs.WellFormedItems.{SettlesFirst}
use Rattle.px_entry.specs.Sorts.{is_some_and}
use Rattle.px_entry.specs.Contents.{fits_cell}
use Rattle.px_entry.specs.Standing.{contents_value}
use Rattle.px_entry.specs.declared.entries.Exit.TheVariants as exit
use Rattle.px_entry.specs.declared.atoms.Atom.{Atom}
use Rattle.px_entry.specs.declared.atoms.AtomState.{AtomState}
use Rattle.px_entry.specs.declared.atoms.AtomState.TheVariants.{Live, Freed}
use Rattle.px_callgraph.specs.declared.states.State.{State}
use Rattle.px_callgraph.specs.declared.states.Way.{Way}
use Rattle.px_callgraph.specs.JobTree.{JobTree}
use Rattle.px_callgraph.specs.States.{content_at, operand_content, marked}
use Rattle.px_callgraph.specs.Accesses.{Access, block_cells, load_access, store_access, free_access, with_state, change_atom}
use Rattle.px_callgraph.specs.Commands.{pointer_ways, pointer_done, command_ways, act_done}
use Rattle.px_meaning.specs.Heaps.{HeapMap, HeapBlock, «Live» as block_live, «Freed» as block_freed, with_block, IsWellTyped, join}
use Rattle.px_meaning.specs.Operations.{value_at, operand_value}
use Rattle.px_meaning.specs.Calls.{error, Failed}
use Rattle.px_meaning.specs.Events.{mark_of}
use Rattle.px_meaning.specs.Steps.{Next, Goes, Ends, by_pointer, live_block, freed_block, command}
use Rattle.px_meaning.specs.CoreCalls.{CoreProgram}
use Rattle.px_meaning.specs.CoreTypes.{SlotTypes, IsOperandOf, cell_type}
use Rattle.px_meaning.specs.Triples.{block_of, heap_of}
use Rattle.px_soundness.proofs.WellFormed.{WellTyped, CompleteAt}
use Rattle.px_soundness.proofs.BlockSteps.{over}
use Rattle.px_soundness.proofs.Contents.{slot_is, set_is, operand_is}
use Rattle.px_soundness.proofs.PlainSteps.{operand_good}
use Rattle.px_symexec.proofs.Lists.{IsIn}
use Rattle.px_coverage.specs.Covered.{Execution}
use Rattle.px_coverage.proofs.Stands.{Stands}
use Rattle.px_coverage.proofs.BlockStands.{stands_changed, heap_changed}
use Rattle.px_coverage.proofs.Regards.{Regards, regards_grown, regards_set, operand_fits, operand_calm}
use Rattle.px_coverage.proofs.Follows.{Onward, Calls, Going, Ended, Comes}
use Rattle.px_coverage.proofs.AccessFollows.{Over, Serves, follow_pointer, fit_at}
use Rattle.px_coverage.proofs.Regards.{regards_next}

module _ (P : CoreProgram) (j : JobTree) (same_types : j.types ≡ P.types) (e : Execution) (typed : IsWellTyped P.types e.before) (types : SlotTypes) (outcome : ℕ → Bool) (n : ℕ)
    (s : State) (well_typed : WellTyped j.types s) (complete : CompleteAt j s) (v : Valuation) (rest : HeapMap) (stands : Stands e v rest s.vars s.pure s.pre s.atoms) where
  abbrev heap : HeapMap
  heap = join (heap_of v s.atoms) rest

  abbrev slots : List Value
  slots = contents_value v s.slots

  abbrev pub Found : CommandTree → List Item → Type 0
  Found c k = (w : Way) × IsIn w (command_ways j s c) × Comes P j e types outcome n k (act_done j c w s)

  abbrev pub StepsTo : CommandTree → List Item → Type 0
  StepsTo c k = command mark_of P.types (Calls P j e types outcome n) c k slots heap (Onward P j e types outcome n s.trace)

  abbrev Regarded : List Item → Type 0
  Regarded k = Regards types outcome s.vars s.slots k

  -- what a step comes to with one mark
  abbrev With : MarkKind → Site → Next → Type 0
  With kind site next = Onward P j e types outcome n s.trace (record { kind = kind; site = site } ∷ []) next

  abbrev O : Valuation → HeapMap → List VarInfo → List Conj → List Atom → List Atom → Type 0
  O u rest' vars pure pre atoms = Over P j same_types e typed types outcome n s well_typed complete v rest stands u rest' vars pure pre atoms

  abbrev Served : List Item → TypeId → Access → Type 0 → Type 0 → (ℕ → List Value → Type 0) → Type 0
  Served k block a N F G = Serves P j same_types e typed types outcome n s well_typed complete v rest stands k block a N F G

  -- an error ends the execution
  fails : (kind : MarkKind) (site : Site) (why : Kind) (u : Valuation) (rest' : HeapMap) (vars : List VarInfo) (pure : List Conj) (pre atoms : List Atom) → O u rest' vars pure pre atoms → With kind site (Ends (Failed (error why) site) heap) →
      Ended P j e types outcome (marked kind site (over s vars pure pre atoms)) (exit.Error why site) None
  fails kind site why u rest' vars pure pre atoms o h = record { valuation = u; rest = rest'; stands = o.stands'; trace = h.0; ending = h.1; after = h.2 ∙ sym o.whole }

  -- nothing changes but what stands next
  stays : (kind : MarkKind) (site : Site) (k0 k : List Item) → ((m : ℕ) → SettlesFirst m k0 → ⊥) → Regarded k0 → (u : Valuation) (rest' : HeapMap) (vars : List VarInfo) (pure : List Conj) (pre atoms : List Atom) → O u rest' vars pure pre atoms →
      With kind site (Goes k slots heap) → Going P j e types outcome n (marked kind site (over s vars pure pre atoms)) k
  stays kind site k0 k none h u rest' vars pure pre atoms o go = record {
    regards = regards_next types outcome vars s.slots k0 k none (regards_grown types outcome s.vars vars s.slots k0 o.grown h);
    valuation = u;
    rest = rest';
    stands = o.stands';
    runs = subst₂ (λ us g. With kind site (Goes k us g)) (sym o.slots) (sym o.whole) go;
  }

  -- a block changes
  changes : (kind : MarkKind) (site : Site) (k0 k : List Item) → ((m : ℕ) → SettlesFirst m k0 → ⊥) → Regarded k0 → (u : Valuation) (rest' : HeapMap) (vars : List VarInfo) (pure : List Conj) (pre atoms : List Atom) → O u rest' vars pure pre atoms →
      (i : ℕ) (b : Atom) (m : ℕ) (st : AtomState) (new : HeapBlock) → slice_get atoms i ≡ Some b → u b.place.0 ≡ value.Block m → block_of u (with_state st b) ≡ new → With kind site (Goes k slots (with_block heap m new)) →
      Going P j e types outcome n (change_atom i st (marked kind site (over s vars pure pre atoms))) k
  changes kind site k0 k none h u rest' vars pure pre atoms o i b m st new got at is go = record {
    regards = regards_next types outcome vars s.slots k0 k none (regards_grown types outcome s.vars vars s.slots k0 o.grown h);
    valuation = u;
    rest = rest';
    stands = stands_changed e u rest' vars pure pre atoms i b m st got at o.stands';
    runs = subst₂ (λ us g. With kind site (Goes k us g)) (sym o.slots) (sym (heap_changed e u rest' vars pure pre atoms i b m st got at o.stands' ∙ ap₂ (λ g c. with_block g m c) o.whole is)) go;
  }

  module _ (k : List Item) (at : Operand) (block : TypeId) (site : Site) (range : IsInRange at) (pointer : IsOperandOf types (Pointer block) at) where
    -- from an operand
    from_pointer : (c : CommandTree) (a : Access) (N F : Type 0) (G : ℕ → List Value → Type 0) → ((m : ℕ) → Settles m c → ⊥) → Regarded (Act c ∷ k) → Served k block a N F G → by_pointer heap block.0 (operand_value slots at) N F G →
        (w : Way) × IsIn w (pointer_ways s block at true) × Comes P j e types outcome n k (pointer_done j block at a w s)
    from_pointer c a N F G none h serves step =
        follow_pointer P j same_types e typed types outcome n s well_typed complete v rest stands k block a N F G serves (operand_content s at) (operand_good j.types s at well_typed range)
        (λ y is. operand_calm types outcome s (Act c ∷ k) none at y h is) (operand_fits types outcome s (Act c ∷ k) (Pointer block) at pointer h)
        (subst (λ u. by_pointer heap block.0 u N F G) (operand_is v s at range) step)

    pub follow_load : (to : ℕ) (field : FieldId) → cell_type P block field.0 ≡ Some (types to) → outcome to ≡ false → SettlesFirst to k → Regarded (Act (load to at field block site) ∷ k) → StepsTo (load to at field block site) k → Found (load to at field block site) k
    follow_load to field type plain reads h step =
        let t : slice_get (block_cells j.types block) field.0 ≡ Some (types to) = ap (λ ts. slice_get (types_of (slice_get ts block.0)) field.0) same_types ∙ type in
        let (w, listed, comes) = from_pointer (load to at field block site) (load_access to field.0 site) (With mark.Access site (Ends (Failed (error NullDereference) site) heap)) (With mark.Access site (Ends (Failed (error UseAfterFree) site) heap))
        (λ m cells. With mark.Access site (Goes k (slice_set slots to (value_at cells field.0)) heap)) (λ m x. x) h (record {
          at_null = λ u rest' vars pure pre atoms o g. fails mark.Access site NullDereference u rest' vars pure pre atoms o g;
          at_freed = λ u rest' vars pure pre atoms o g. fails mark.Access site UseAfterFree u rest' vars pure pre atoms o g;
          at_live = λ u rest' vars pure pre atoms o i b cells m got is fit place go. record {
            regards = regards_set types outcome vars s.slots (Act (load to at field block site) ∷ k) k to (content_at cells field.0) (λ m x. absurd x)
                (fit_at (fits_cell vars) (block_cells j.types block) cells field.0 (types to) fit t) (λ y f. reads) (λ z. absurd (let f : true ≡ false = sym z ∙ plain in cc))
                (regards_grown types outcome s.vars vars s.slots (Act (load to at field block site) ∷ k) o.grown h);
            valuation = u;
            rest = rest';
            stands = o.stands';
            runs = subst₂ (λ us g. With mark.Access site (Goes k us g)) (ap₂ (λ us z. slice_set us to z) (sym o.slots) (slot_is u cells field.0) ∙ sym (set_is u s.slots to (content_at cells field.0))) (sym o.whole) go;
          };
        }) step in
        (w, subst (λ q. IsIn w (pointer_ways s block at q)) (sym (ap is_some t)) listed, comes)

    pub follow_store : (field : FieldId) (from : Operand) (u : ValueType) → IsInRange from → cell_type P block field.0 ≡ Some u → IsOperandOf types u from → Regarded (Act (store at field block from site) ∷ k) →
        StepsTo (store at field block from site) k → Found (store at field block from site) k
    follow_store field from t' range' type from_type h step =
        let t : slice_get (block_cells j.types block) field.0 ≡ Some t' = ap (λ ts. slice_get (types_of (slice_get ts block.0)) field.0) same_types ∙ type in
        let (w, listed, comes) = from_pointer (store at field block from site) (store_access field.0 (operand_content s from) site) (With mark.Access site (Ends (Failed (error NullDereference) site) heap)) (With mark.Access site (Ends (Failed (error UseAfterFree) site) heap))
        (λ m cells. With mark.Access site (Goes k slots (with_block heap m (live_block block.0 (slice_set cells field.0 (operand_value slots from)))))) (λ m x. x) h (record {
          at_null = λ u rest' vars pure pre atoms o g. fails mark.Access site NullDereference u rest' vars pure pre atoms o g;
          at_freed = λ u rest' vars pure pre atoms o g. fails mark.Access site UseAfterFree u rest' vars pure pre atoms o g;
          at_live = λ u rest' vars pure pre atoms o i b cells m got is fit place go.
              changes mark.Access site (Act (store at field block from site) ∷ k) k (λ m x. x) h u rest' vars pure pre atoms o i b m (Live (slice_set cells field.0 (operand_content s from))) (live_block block.0 (slice_set (contents_value u cells) field.0 (operand_value slots from))) got place
              (ap₂ (λ y z. let c : HeapBlock = record { block_type = y; state = block_live z } in c) is
              (set_is u cells field.0 (operand_content s from) ∙ ap (slice_set (contents_value u cells) field.0) (sym (operand_is u s from range') ∙ ap (λ us. operand_value us from) o.slots))) go;
        }) step in
        (w, subst (λ q. IsIn w (pointer_ways s block at q)) (sym (ap (λ o. is_some_and o (λ t. fits_cell s.vars t (operand_content s from))) t ∙ operand_fits types outcome s (Act (store at field block from site) ∷ k) t' from from_type h)) listed, comes)

    pub follow_free : IsSome (slice_get P.types block.0) → Regarded (Act (free at block site) ∷ k) → StepsTo (free at block site) k → Found (free at block site) k
    follow_free known h step =
        let (w, listed, comes) = from_pointer (free at block site) (free_access site) (With mark.FreeNull site (Goes k slots heap)) (With mark.Freed site (Ends (Failed (error DoubleFree) site) heap))
        (λ m cells. With mark.Freed site (Goes k slots (with_block heap m (freed_block block.0)))) (λ m x. x) h (record {
          at_null = λ u rest' vars pure pre atoms o g. stays mark.FreeNull site (Act (free at block site) ∷ k) k (λ m x. x) h u rest' vars pure pre atoms o g;
          at_freed = λ u rest' vars pure pre atoms o g. fails mark.Freed site DoubleFree u rest' vars pure pre atoms o g;
          at_live = λ u rest' vars pure pre atoms o i b cells m got is fit place go.
              changes mark.Freed site (Act (free at block site) ∷ k) k (λ m x. x) h u rest' vars pure pre atoms o i b m Freed (freed_block block.0) got place
              (ap (λ y. let c : HeapBlock = record { block_type = y; state = block_freed } in c) is) go;
        }) step in
        (w, subst (λ q. IsIn w (pointer_ways s block at q)) (sym (ap (λ ts. is_some (slice_get ts block.0)) same_types ∙ known)) listed, comes)
