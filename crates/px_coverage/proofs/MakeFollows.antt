-- Each step of an input and of a block that is made is that of a listed way.
use Rattle.std.proofs.Common.{rules, ◌≡◌, ℕ, zero, suc, ◌+◌, ◌<◌, Bool, true, false, Option, Some, None, List, [], ◌∷◌, ◌++◌, map, length, slice_get, slice_set, pos, negsuc, refl, sym, ap, ap₂, ◌∙◌, subst, subst₂, inl, inr, arith}
use Rattle.std.specs.Prelude.{IsSome, ℤ, ◌≤ℤ◌, FitsSigned}
use Rattle.std.specs.Int.{w32}
use Rattle.std.proofs.lemmas.Bool.{and_from}
use Rattle.std.proofs.lemmas.Option.{same_Some}
use Rattle.px_base.specs.declared.trace.Site.{Site}
use Rattle.px_base.specs.declared.trace.MarkKind.TheVariants as mark
use Rattle.px_terms.specs.Valuations.{Valuation, IsWord, HasType}
use Rattle.px_terms.specs.Conjuncts.{word_of, HasWords}
use Rattle.px_terms.specs.Words.{signed}
use Rattle.px_terms.specs.Types.{types_of}
use Rattle.px_terms.specs.Variables.{variables_of}
use Rattle.px_terms.specs.Substitutions.{variable}
use Rattle.px_terms.specs.declared.types.TypeId.{TypeId}
use Rattle.px_terms.specs.declared.types.BlockType.{BlockType}
use Rattle.px_terms.specs.declared.conjuncts.Place.TheVariants as place
use Rattle.px_terms.specs.declared.types.Value.{Value}
use Rattle.px_terms.specs.declared.types.Value.TheVariants as value
use Rattle.px_terms.specs.declared.types.ValueType.TheVariants.{Int, Pointer}
use Rattle.px_terms.specs.declared.variables.VarInfo.{VarInfo}
use Rattle.px_terms.specs.declared.variables.Sort.TheVariants as sort
use Rattle.px_terms.specs.declared.conjuncts.Content.{Content}
use Rattle.px_terms.specs.declared.conjuncts.Content.TheVariants.{Unwritten, Word, Place}
use Rattle.px_terms.specs.declared.conjuncts.Conj.TheVariants as conjunct
use Rattle.px_core.specs.CommandTree.{CommandTree, malloc, input}
use Rattle.px_core.specs.Control.{Item, Act}
use Rattle.px_entry.specs.Sorts.{is_int_type, same_type}
use Rattle.px_entry.specs.Decided.{assume}
use Rattle.px_entry.specs.Contents.{fits_cell}
use Rattle.px_entry.specs.Standing.{content_value, contents_value}
use Rattle.px_entry.proofs.Lists.{each_all}
use Rattle.px_entry.specs.declared.atoms.AtomState.TheVariants.{Live}
use Rattle.px_callgraph.specs.declared.states.State.{State}
use Rattle.px_callgraph.specs.declared.states.Way.{Way}
use Rattle.px_callgraph.specs.declared.states.Way.TheVariants as way
use Rattle.px_callgraph.specs.JobTree.{JobTree}
use Rattle.px_callgraph.specs.States.{number, info}
use Rattle.px_callgraph.specs.Accesses.{atom_of, block_cells}
use Rattle.px_callgraph.specs.Commands.{input_done, malloc_ways, malloc_done, command_ways, act_done}
use Rattle.px_meaning.specs.Heaps.{HeapMap, HeapBlock, «Live» as block_live, with_block, join}
use Rattle.px_meaning.specs.Events.{mark_of}
use Rattle.px_meaning.specs.Steps.{Goes, new_block, command}
use Rattle.px_meaning.specs.CoreCalls.{CoreProgram}
use Rattle.px_meaning.specs.CoreTypes.{SlotTypes}
use Rattle.px_meaning.specs.Triples.{heap_of}
use Rattle.px_meaning.proofs.TypedSteps.{input_fits}
use Rattle.px_soundness.proofs.WellFormed.{WellTyped, CompleteAt}
use Rattle.px_soundness.proofs.AtomHeaps.{absent, at_heap, front_none}
use Rattle.px_soundness.proofs.WellTyped.{grown_by, type_itself}
use Rattle.px_soundness.proofs.Contents.{set_is, number_is, variable_is_content}
use Rattle.px_symexec.proofs.Lists.{IsIn}
use Rattle.px_coverage.specs.Covered.{Execution}
use Rattle.px_coverage.proofs.Stands.{HasSort, Stands, not_met}
use Rattle.px_coverage.proofs.Extended.{extended, extended_old, extended_new, contents_agree, heap_same, stands_extended}
use Rattle.px_coverage.proofs.BlockStands.{stands_made, heap_made}
use Rattle.px_meaning.proofs.Joins.{join_lacks}
use Rattle.px_coverage.proofs.Opens.{assume_true}
use Rattle.px_coverage.proofs.Regards.{Regards, regards_grown, regards_set}
use Rattle.px_coverage.proofs.Follows.{Onward, Calls, Going, Comes}
use Rattle.px_callgraph.proofs.SortLemmas.{variable_next}
use Rattle.px_soundness.proofs.BlockSteps.{unwritten_cells}

-- one new variable
only_new : (heap : HeapMap) (w : Valuation) (m : ℕ) (one : VarInfo) → HasSort heap one.sort one.value (w m) → (i : ℕ) (k : VarInfo) → slice_get (one ∷ []) i ≡ Some k → HasSort heap k.sort k.value (w (m + i))
only_new heap w m one h zero k is = subst (λ (z : VarInfo). HasSort heap z.sort z.value (w (m + 0))) (same_Some _ _ is) (let f : m ≡ m + 0 = omega arith in subst (λ x. HasSort heap one.sort one.value (w x)) f h)
only_new heap w m one h (suc i) k is = absent is

low_fits : FitsSigned w32 (negsuc 0)
low_fits = search rules

high_fits : FitsSigned w32 (pos 255)
high_fits = search rules

word_is : (x y : ℤ) → value.Word x ≡ value.Word y → x ≡ y
word_is x y e = cc

module _ (P : CoreProgram) (j : JobTree) (same_types : j.types ≡ P.types) (e : Execution) (types : SlotTypes) (outcome : ℕ → Bool) (n : ℕ)
    (s : State) (well_typed : WellTyped j.types s) (complete : CompleteAt j s) (v : Valuation) (rest : HeapMap) (stands : Stands e v rest s.vars s.pure s.pre s.atoms) where
  abbrev heap : HeapMap
  heap = join (heap_of v s.atoms) rest

  abbrev x : ℕ
  x = length s.vars

  abbrev pub Found : CommandTree → List Item → Type 0
  Found c k = (w : Way) × IsIn w (command_ways j s c) × Comes P j e types outcome n k (act_done j c w s)

  abbrev pub StepsTo : CommandTree → List Item → Type 0
  StepsTo c k = command mark_of P.types (Calls P j e types outcome n) c k (contents_value v s.slots) heap (Onward P j e types outcome n s.trace)

  abbrev Regarded : List Content → List Item → Type 0
  Regarded slots k = Regards types outcome s.vars slots k

  -- with a value for one more variable
  module _ (u : Value) where
    abbrev pub w : Valuation
    w = extended v x (u ∷ [])

    pub agree : (y : ℕ) → y < length s.vars → w y ≡ v y
    agree y l = extended_old v x (u ∷ []) y l

    pub at_new : w x ≡ u
    at_new = extended_new v x (u ∷ []) x 0 (omega arith)

    slots_same : contents_value w s.slots ≡ contents_value v s.slots
    slots_same = contents_agree s.vars s.pure v w agree s.slots well_typed.slots

    pub blocks_same : heap_of w s.atoms ≡ heap_of v s.atoms
    blocks_same = heap_same s.vars s.pure v w agree j.types j.body.parameters s.pre s.atoms well_typed.atoms complete

    pub stands_one : (one : VarInfo) → HasSort e.before one.sort one.value u → Stands e w rest (s.vars ++ one ∷ []) s.pure s.pre s.atoms
    stands_one one h =
        stands_extended s.vars s.pure v w agree j.types j.body.parameters s.pre s.atoms well_typed.atoms complete e rest (one ∷ [])
        (only_new e.before w x one (subst (HasSort e.before one.sort one.value) (sym at_new) h)) s.pure complete.conjuncts stands

    pub set_new : (to : ℕ) (c : Content) → content_value w c ≡ u → contents_value w (slice_set s.slots to c) ≡ slice_set (contents_value v s.slots) to u
    set_new to c is = set_is w s.slots to c ∙ ap₂ (λ us z. slice_set us to z) slots_same is

  module _ (k : List Item) where
    -- ---- inputs

    module _ (to : ℕ) (site : Site) (int : types to ≡ Int) (plain : outcome to ≡ false) (h : Regarded s.slots (Act (input to site) ∷ k)) where
      abbrev i : VarInfo
      i = info sort.Input Int

      abbrev byte : Content
      byte = Word (variable x)

      input_going : (z : ℤ) → negsuc 0 ≤ℤ z → z ≤ℤ pos 255 → Onward P j e types outcome n s.trace (record { kind = mark.Input; site = site } ∷ []) (Goes k (slice_set (contents_value v s.slots) to (value.Word z)) heap) → Going P j e types outcome n (input_done to site s).state k
      input_going z low high go =
          let fit : FitsSigned w32 z = input_fits z low high in
          let at : w (value.Word z) x ≡ value.Word z = at_new (value.Word z) in
          let is_value : content_value (w (value.Word z)) byte ≡ value.Word z = variable_is_content (w (value.Word z)) Int x (subst (HasType Int) (sym at) fit) ∙ at in
          let is_z : signed (word_of (w (value.Word z)) (variable x)) ≡ z = word_is _ z is_value in
          let word : HasWords (w (value.Word z)) (variable x) = each_all (λ y. IsWord (w (value.Word z) y)) (variables_of (variable x)) (subst IsWord (sym at) tt, tt) in
          let s1 = stands_one (value.Word z) i fit in
          let constant : (c : ℤ) → HasWords (w (value.Word z)) (number c) = λ c. each_all (λ y. IsWord (w (value.Word z) y)) [] tt in
          let low_is : signed (word_of (w (value.Word z)) (number (negsuc 0))) ≡ negsuc 0 = word_is _ (negsuc 0) (number_is (w (value.Word z)) (negsuc 0) low_fits) in
          let high_is : signed (word_of (w (value.Word z)) (number (pos 255))) ≡ pos 255 = word_is _ (pos 255) (number_is (w (value.Word z)) (pos 255) high_fits) in
          let vars' = s.vars ++ i ∷ [] in
          record {
            regards = regards_set types outcome vars' s.slots (Act (input to site) ∷ k) k to byte (λ m y. absurd y)
                (subst (λ t. fits_cell vars' t byte ≡ true) (sym int) (and_from _ _ (variable_next s.vars i (λ (z : VarInfo). is_int_type z.value) refl) refl))
                (λ y f. cc) (λ o. absurd (let f : true ≡ false = sym o ∙ plain in cc)) (regards_grown types outcome s.vars vars' s.slots (Act (input to site) ∷ k) (grown_by s.vars (i ∷ [])) h);
            valuation = w (value.Word z);
            rest = rest;
            stands = record {
              sorts = s1.sorts;
              given = s1.given;
              true_of = assume_true vars' (assume vars' s.pure (conjunct.AtMost (number (negsuc 0)) (variable x))) (conjunct.AtMost (variable x) (number (pos 255))) (w (value.Word z))
                  (assume_true vars' s.pure (conjunct.AtMost (number (negsuc 0)) (variable x)) (w (value.Word z)) s1.true_of (constant (negsuc 0), word, subst₂ (λ a b. a ≤ℤ b) (sym low_is) (sym is_z) low))
                  (word, constant (pos 255), subst₂ (λ a b. a ≤ℤ b) (sym is_z) (sym high_is) high);
              placed = s1.placed;
              apart = s1.apart;
              begins = s1.begins;
            };
            runs = subst₂ (λ us g. Onward P j e types outcome n s.trace (record { kind = mark.Input; site = site } ∷ []) (Goes k us (join g rest))) (sym (set_new (value.Word z) to byte is_value)) (sym (blocks_same (value.Word z))) go;
          }

      pub follow_input : StepsTo (input to site) k → Found (input to site) k
      follow_input (z, low, high, go) = (way.On, inl refl, input_going z low high go)

    -- ---- blocks

    module _ (to : ℕ) (block : TypeId) (site : Site) (pointer : types to ≡ Pointer block) (plain : outcome to ≡ false) (known : IsSome (slice_get P.types block.0)) (h : Regarded s.slots (Act (malloc to block site) ∷ k)) where
      abbrev made : VarInfo
      made = info sort.Made (Pointer block)

      listed : (name : Way) → IsIn name (way.Null ∷ way.Made ∷ []) → IsIn name (command_ways j s (malloc to block site))
      listed name h = by (slice_get j.types block.0) (subst (λ ts. IsSome (slice_get ts block.0)) (sym same_types) known)
        where
          by : (o : Option BlockType) → IsSome o → IsIn name (malloc_ways o)
          by None h' = cc
          by (Some b) h' = h

      null_going : Onward P j e types outcome n s.trace (record { kind = mark.NoBlock; site = site } ∷ []) (Goes k (slice_set (contents_value v s.slots) to value.Null) heap) → Going P j e types outcome n (malloc_done j.types to block site way.Null s).state k
      null_going go = record {
        regards = regards_set types outcome s.vars s.slots (Act (malloc to block site) ∷ k) k to (Place place.Null) (λ m y. absurd y) (subst (λ t. fits_cell s.vars t (Place place.Null) ≡ true) (sym pointer) refl) (λ y f. cc) (λ o. absurd (let f : true ≡ false = sym o ∙ plain in cc)) h;
        valuation = v;
        rest = rest;
        stands = stands;
        runs = subst (λ us. Onward P j e types outcome n s.trace (record { kind = mark.NoBlock; site = site } ∷ []) (Goes k us heap)) (sym (set_is v s.slots to (Place place.Null))) go;
      }

      made_going : (m : ℕ) → heap m ≡ None → Onward P j e types outcome n s.trace (record { kind = mark.Got; site = site } ∷ []) (Goes k (slice_set (contents_value v s.slots) to (value.Block m)) (with_block heap m (new_block P.types block.0))) →
          Going P j e types outcome n (malloc_done j.types to block site way.Made s).state k
      made_going m out go =
          let u = value.Block m in
          let vars' = s.vars ++ made ∷ [] in
          let a = atom_of (record { 0 = x }) block (Live (map (λ _. Unwritten) (block_cells j.types block))) in
          let out' : heap_of v s.atoms m ≡ None = front_none (heap_of v s.atoms) rest m out in
          let none : rest m ≡ None = sym (join_lacks (heap_of v s.atoms) rest m out') ∙ out in
          let before : e.before m ≡ None = not_met j.types j.body.parameters s.vars s.pure s.pure s.pre s.atoms well_typed.atoms complete e v rest stands m out' ∙ none in
          let s1 = stands_one u made (m, block, refl, refl, before) in
          let at : w u a.place.0 ≡ u = at_new u in
          let out_w : heap_of (w u) s.atoms m ≡ None = at_heap m (blocks_same u) ∙ out' in
          let whole : join (heap_of (w u) (s.atoms ++ a ∷ [])) rest ≡ with_block heap m (new_block P.types block.0) =
          heap_made e (w u) rest vars' s.pure s.pre s.atoms a m at out_w none s1
          ∙ ap₂ (λ g b. with_block (join g rest) m b) (blocks_same u)
          (ap (λ cs. let b : HeapBlock = record { block_type = block.0; state = block_live cs } in b) (unwritten_cells (w u) (block_cells j.types block) ∙ ap (λ ts. map (λ _. value.Unwritten) (types_of (slice_get ts block.0))) same_types)) in
          record {
            regards = regards_set types outcome vars' s.slots (Act (malloc to block site) ∷ k) k to (Place (place.Var (record { 0 = x }))) (λ m y. absurd y)
                (subst (λ t. fits_cell vars' t (Place (place.Var (record { 0 = x }))) ≡ true) (sym pointer) (variable_next s.vars made (λ (z : VarInfo). same_type z.value (Pointer block)) (type_itself (Pointer block))))
                (λ y f. cc) (λ o. absurd (let f : true ≡ false = sym o ∙ plain in cc)) (regards_grown types outcome s.vars vars' s.slots (Act (malloc to block site) ∷ k) (grown_by s.vars (made ∷ [])) h);
            valuation = w u;
            rest = rest;
            stands = stands_made e (w u) rest vars' s.pure s.pre s.atoms a m at out_w none s1;
            runs = subst₂ (λ us g. Onward P j e types outcome n s.trace (record { kind = mark.Got; site = site } ∷ []) (Goes k us g)) (sym (set_new u to (Place (place.Var (record { 0 = x }))) at)) (sym whole) go;
          }

      pub follow_malloc : StepsTo (malloc to block site) k → Found (malloc to block site) k
      follow_malloc (inl go) = (way.Null, listed way.Null (inl refl), null_going go)
      follow_malloc (inr (m, out, go)) = (way.Made, listed way.Made (inr (inl refl)), made_going m out go)
