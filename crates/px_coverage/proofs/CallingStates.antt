-- The state in which a call is made is one that its callee is called from: the heap is well typed, and so are the arguments.
use Rattle.std.proofs.Common.{◌≡◌, ℕ, suc, ◌+◌, Bool, true, false, Option, Some, None, List, [], ◌∷◌, map, length, slice_get, refl, sym, ap, ◌∙◌, subst, arith, IsSomeAnd, IsSome}
use Rattle.std.specs.List.{list_all}
use Rattle.std.proofs.lemmas.Bool.{and_parts, and_from}
use Rattle.std.proofs.lemmas.Option.{same_Some}
use Rattle.px_terms.specs.Types.{types_of}
use Rattle.px_terms.specs.Valuations.{Valuation}
use Rattle.px_terms.specs.Conjuncts.{word_of}
use Rattle.px_terms.specs.declared.types.TypeId.{TypeId}
use Rattle.px_terms.specs.declared.types.BlockType.{BlockType}
use Rattle.px_terms.specs.declared.types.Value.{Value}
use Rattle.px_terms.specs.declared.types.Value.TheVariants as value
use Rattle.px_terms.specs.declared.types.ValueType.{ValueType}
use Rattle.px_terms.specs.declared.types.ValueType.TheVariants.{Int, Pointer}
use Rattle.px_terms.specs.declared.variables.Var.{Var}
use Rattle.px_terms.specs.declared.variables.VarInfo.{VarInfo}
use Rattle.px_terms.specs.declared.variables.Sort.{Sort}
use Rattle.px_terms.specs.declared.variables.Sort.TheVariants as sort
use Rattle.px_terms.specs.declared.conjuncts.Place.TheVariants as place
use Rattle.px_terms.specs.declared.conjuncts.Content.{Content}
use Rattle.px_terms.specs.declared.conjuncts.Content.TheVariants.{Unwritten, Word, Place, Cell}
use Rattle.px_terms.proofs.WordLaws.{words_are_signed}
use Rattle.px_core.specs.declared.command.Operand.{Operand}
use Rattle.px_core.specs.Control.{Item}
use Rattle.px_core.specs.Constants.{AreInRange}
use Rattle.px_core.specs.WellFormedItems.{SettlesFirst}
use Rattle.px_entry.specs.declared.atoms.Atom.{Atom}
use Rattle.px_entry.specs.declared.atoms.AtomState.{AtomState}
use Rattle.px_entry.specs.declared.atoms.AtomState.TheVariants.{Live, Freed}
use Rattle.px_entry.specs.Sorts.{is_made_sort, same_type, is_cell, has_type}
use Rattle.px_entry.specs.Contents.{is_written_of, fits_cell, fit_each}
use Rattle.px_entry.specs.Regular.{fits_state}
use Rattle.px_entry.specs.Standing.{content_value, contents_value}
use Rattle.px_callgraph.specs.declared.states.State.{State}
use Rattle.px_callgraph.specs.JobTree.{JobTree}
use Rattle.px_callgraph.specs.States.{operand_content}
use Rattle.px_callgraph.specs.Commands.{is_argument, argument_contents}
use Rattle.px_meaning.specs.Heaps.{HeapMap, HeapBlock, HeapBlockState, «Live» as block_live, «Freed» as block_freed, HasBlockType, IsWritten, IsCell, AreWritten, AreCells, IsBlockOf, IsFinite, IsWellTyped, join}
use Rattle.px_meaning.specs.Operations.{operand_value}
use Rattle.px_meaning.specs.Steps.{WasWritten, WereWritten}
use Rattle.px_meaning.specs.Calls.{IsCallingState}
use Rattle.px_meaning.specs.CoreCalls.{CoreProgram}
use Rattle.px_meaning.specs.CoreTypes.{SlotTypes, AreOperandsOf}
use Rattle.px_meaning.specs.CoreLaws.{Grows, IsStill}
use Rattle.px_meaning.specs.Triples.{state_of, block_of, heap_of}
use Rattle.px_meaning.proofs.Joins.{with_other, join_has, join_lacks, join_finite}
use Rattle.px_meaning.proofs.TypedHeaps.{written_cell}
use Rattle.px_soundness.proofs.WellFormed.{GoodAtom, WellTyped, CompleteAt}
use Rattle.px_soundness.proofs.AtomHeaps.{at_heap, Placed, heap_cons, there, back_none}
use Rattle.px_soundness.proofs.Truths.{variable_is}
use Rattle.px_soundness.proofs.WellTyped.{each_get}
use Rattle.px_soundness.proofs.Contents.{operand_is}
use Rattle.px_soundness.proofs.FitsThrough.{same_is}
use Rattle.px_coverage.specs.Covered.{Execution}
use Rattle.px_coverage.proofs.Stands.{HasSort, Stands, sort_block, made_out, has_type_not_none, same_block_type, not_met, made_atom}
use Rattle.px_coverage.proofs.Regards.{Regards, operand_fits, operand_calm}
use Rattle.px_coverage.proofs.BlockStands.{atom_of_block}
use Rattle.px_terms.proofs.Places.{pointer_is}
use Rattle.px_terms.proofs.TermWords.{below}

-- ---- heaps

atoms_finite : (v : Valuation) (atoms : List Atom) → Placed v atoms → IsFinite (heap_of v atoms)
atoms_finite v [] p = (0, λ n l. refl)
atoms_finite v (a ∷ rest) (m, at, out, p) =
    let (k, none) = atoms_finite v rest p in
    (suc m + k, λ n l. at_heap n (heap_cons v a rest m at) ∙ with_other (heap_of v rest) m (block_of v a) n (λ e. let f : ⊥ = omega (arith, e, l) in f) ∙ none n (omega (arith, l)))

known_type : (heap : HeapMap) (o : Option BlockType) (st : HeapBlockState) → IsBlockOf heap o st → IsSome o
known_type heap None st h = absurd h
known_type heap (Some t) st h = refl

live_of : (heap : HeapMap) (o : Option BlockType) (cells : List Value) → IsSome o → AreCells heap (types_of o) cells → IsBlockOf heap o (block_live cells)
live_of heap None cells k h = let f : false ≡ true = k in cc
live_of heap (Some t) cells k h = h

freed_of : (heap : HeapMap) (o : Option BlockType) → IsSome o → IsBlockOf heap o block_freed
freed_of heap None k = let f : false ≡ true = k in cc
freed_of heap (Some t) k = tt

cell_written : (heap : HeapMap) (t : ValueType) (u : Value) → IsCell heap t u → WasWritten u → IsWritten heap t u
cell_written heap t (value.Word z) h k = h
cell_written heap t value.Null h k = h
cell_written heap t (value.Block n) h k = h
cell_written heap t value.Unwritten h k = absurd k

module _ (P : CoreProgram) (j : JobTree) (same_types : j.types ≡ P.types) (e : Execution) (typed : IsWellTyped P.types e.before) (ends : IsWellTyped P.types e.after)
    (s : State) (well_typed : WellTyped j.types s) (complete : CompleteAt j s) (v : Valuation) (rest : HeapMap) (stands : Stands e v rest s.vars s.pure s.pre s.atoms) (grows : Grows (join (heap_of v s.atoms) rest) e.after) where
  abbrev pub heap : HeapMap
  heap = join (heap_of v s.atoms) rest

  -- ---- types of blocks stay

  still : (t n : ℕ) → HasBlockType t (e.before n) → HasBlockType t (heap n)
  still t n h = by (heap_of v s.atoms n) refl
    where
      at_atom : (a : Atom) (k : ℕ) → slice_get s.atoms k ≡ Some a → v a.place.0 ≡ value.Block n → a.block.0 ≡ t
      at_atom a k got place =
          let good : GoodAtom j.types s.vars s.pure a = each_get (GoodAtom j.types s.vars s.pure) s.atoms k a well_typed.atoms got in
          let (i, at, same) = variable_is s.vars (λ (i : VarInfo). same_type i.value (Pointer a.block)) a.place.0 good.points in by i at (same_is i.value (Pointer a.block) same) (is_made_sort i.sort) refl
        where
          by : (i : VarInfo) → slice_get s.vars a.place.0 ≡ Some i → i.value ≡ Pointer a.block → (q : Bool) → is_made_sort i.sort ≡ q → a.block.0 ≡ t
          by i at is true made = absurd (has_type_not_none t (e.before n) h (made_out e.before i.sort i.value (v a.place.0) n (stands.sorts a.place.0 i at) made place))
          by i at is false made =
              let (b, type, has) = sort_block e.before i.sort i.value (v a.place.0) n (stands.sorts a.place.0 i at) made place in
              ap (λ (z : TypeId). z.0) (pointer_is (sym is ∙ type)) ∙ same_block_type b.0 t (e.before n) has h

      by : (o : Option HeapBlock) → heap_of v s.atoms n ≡ o → HasBlockType t (heap n)
      by None out = subst (HasBlockType t) (not_met j.types j.body.parameters s.vars s.pure s.pure s.pre s.atoms well_typed.atoms complete e v rest stands n out ∙ sym (join_lacks (heap_of v s.atoms) rest n out)) h
      by (Some b) at =
          let (k, a, got, place, block) = atom_of_block v s.atoms n b stands.placed at in
          subst (HasBlockType t) (sym (join_has (heap_of v s.atoms) rest n b at)) (sym (ap (λ (z : HeapBlock). z.block_type) block) ∙ at_atom a k got place)

  written_still : (t : ValueType) (u : Value) → IsWritten e.before t u → IsWritten heap t u
  written_still Int (value.Word z) h = h
  written_still (Pointer t) value.Null h = h
  written_still (Pointer t) (value.Block n) h = still t.0 n h
  written_still Int value.Null h = absurd h
  written_still Int (value.Block n) h = absurd h
  written_still Int value.Unwritten h = absurd h
  written_still (Pointer t) (value.Word z) h = absurd h
  written_still (Pointer t) value.Unwritten h = absurd h

  cell_still : (t : ValueType) (u : Value) → IsCell e.before t u → IsCell heap t u
  cell_still t value.Unwritten h = tt
  cell_still t (value.Word z) h = written_still t (value.Word z) h
  cell_still t value.Null h = written_still t value.Null h
  cell_still t (value.Block n) h = written_still t (value.Block n) h

  cells_still : (ts : List ValueType) (us : List Value) → AreCells e.before ts us → AreCells heap ts us
  cells_still [] [] h = tt
  cells_still [] (u ∷ us) h = absurd h
  cells_still (t ∷ ts) [] h = absurd h
  cells_still (t ∷ ts) (u ∷ us) h = (cell_still t u h.0, cells_still ts us h.1)

  block_still : (o : Option BlockType) (st : HeapBlockState) → IsBlockOf e.before o st → IsBlockOf heap o st
  block_still None st h = absurd h
  block_still (Some t) (block_live cells) h = cells_still _ cells h
  block_still (Some t) block_freed h = tt

  -- ---- values

  variable_cell : (x : ℕ) (i : VarInfo) → slice_get s.vars x ≡ Some i → IsCell heap i.value (v x)
  variable_cell x i at = by i.sort refl (stands.sorts x i at)
    where
      by : (k : Sort) → i.sort ≡ k → HasSort e.before k i.value (v x) → IsCell heap i.value (v x)
      by sort.Given is h = written_cell heap i.value (v x) (written_still i.value (v x) h)
      by sort.Input is h = written_cell heap i.value (v x) (written_still i.value (v x) h)
      by sort.Cell is h = cell_still i.value (v x) h
      by sort.Made is (n, b, type, block, out) =
          let (k, a, got, place, type') = made_atom j.types j.body.parameters s.vars s.pure s.pure s.pre s.atoms well_typed.atoms complete e v rest stands x i at (ap is_made_sort is) in
          let has : heap n ≡ Some (block_of v a) = join_has (heap_of v s.atoms) rest n (block_of v a) (there v s.atoms k a n stands.placed got (ap v place ∙ block)) in
          subst (λ t. IsCell heap t (v x)) (sym type') (subst (IsCell heap (Pointer a.block)) (sym block) (subst (HasBlockType a.block.0) (sym has) refl))

  content_cell : (t : ValueType) (c : Content) → fits_cell s.vars t c ≡ true → IsCell heap t (content_value v c)
  content_cell t Unwritten h = tt
  content_cell Int (Word p) h = words_are_signed.signed_fits (word_of v p) (below v p)
  content_cell (Pointer b) (Word p) h = cc
  content_cell Int (Place a) h = cc
  content_cell (Pointer b) (Place place.Null) h = tt
  content_cell (Pointer b) (Place (place.Var x)) h =
      let (i, at, same) = variable_is s.vars (λ (i : VarInfo). same_type i.value (Pointer b)) x.0 h in subst (λ t. IsCell heap t (v x.0)) (same_is i.value (Pointer b) same) (variable_cell x.0 i at)
  content_cell t (Cell x) h =
      let (i, at, same) = variable_is s.vars (λ (i : VarInfo). same_type i.value t) x.0 (and_parts (is_cell s.vars x.0) (has_type s.vars t x.0) h).1 in
      subst (λ t. IsCell heap t (v x.0)) (same_is i.value t same) (variable_cell x.0 i at)

  content_cells : (ts : List ValueType) (cs : List Content) → fit_each (fits_cell s.vars) ts cs ≡ true → AreCells heap ts (contents_value v cs)
  content_cells [] [] h = tt
  content_cells [] (c ∷ cs) h = cc
  content_cells (t ∷ ts) [] h = cc
  content_cells (t ∷ ts) (c ∷ cs) h = let b = and_parts (fits_cell s.vars t c) (fit_each (fits_cell s.vars) ts cs) h in (content_cell t c b.0, content_cells ts cs b.1)

  -- ---- the heap

  -- each block is of a type of the program, since it still is at the end
  type_known : (n : ℕ) (b : HeapBlock) → heap n ≡ Some b → IsSome (slice_get P.types b.block_type)
  type_known n b at = by (e.after n) refl (grows.still n b at)
    where
      by : (o : Option HeapBlock) → e.after n ≡ o → IsSomeAnd o (IsStill b) → IsSome (slice_get P.types b.block_type)
      by None is h = absurd h
      by (Some c) is h = subst (λ t. IsSome (slice_get P.types t)) h.0 (known_type e.after (slice_get P.types c.block_type) c.state (ends.typed n c is))

  atom_typed : (t : ℕ) (st : AtomState) → IsSome (slice_get P.types t) → fits_state (fits_cell s.vars) (types_of (slice_get P.types t)) st ≡ true → IsBlockOf heap (slice_get P.types t) (state_of v st)
  atom_typed t (Live cells) k h = live_of heap (slice_get P.types t) (contents_value v cells) k (content_cells (types_of (slice_get P.types t)) cells h)
  atom_typed t Freed k h = freed_of heap (slice_get P.types t) k

  block_typed : (n : ℕ) (b : HeapBlock) → heap n ≡ Some b → IsBlockOf heap (slice_get P.types b.block_type) b.state
  block_typed n b at = by (heap_of v s.atoms n) refl
    where
      by : (o : Option HeapBlock) → heap_of v s.atoms n ≡ o → IsBlockOf heap (slice_get P.types b.block_type) b.state
      by None out =
          block_still (slice_get P.types b.block_type) b.state
          (typed.typed n b (not_met j.types j.body.parameters s.vars s.pure s.pure s.pre s.atoms well_typed.atoms complete e v rest stands n out ∙ sym (join_lacks (heap_of v s.atoms) rest n out) ∙ at))
      by (Some c) has =
          let (k, a, got, place, block) = atom_of_block v s.atoms n c stands.placed has in
          let same : block_of v a ≡ b = block ∙ same_Some _ _ (sym (join_has (heap_of v s.atoms) rest n c has) ∙ at) in
          let good : GoodAtom j.types s.vars s.pure a = each_get (GoodAtom j.types s.vars s.pure) s.atoms k a well_typed.atoms got in
          subst (λ (z : HeapBlock). IsBlockOf heap (slice_get P.types z.block_type) z.state) same
          (atom_typed a.block.0 a.state (subst (λ (z : HeapBlock). IsSome (slice_get P.types z.block_type)) (sym same) (type_known n b at))
          (subst (λ ts. fits_state (fits_cell s.vars) (types_of (slice_get ts a.block.0)) a.state ≡ true) same_types good.fits))

  heap_typed : IsWellTyped P.types heap
  heap_typed = record {
    finite = join_finite (heap_of v s.atoms) rest (atoms_finite v s.atoms stands.placed)
        (let (k, none) = typed.finite in (k, λ n l. back_none (heap_of v s.pre) rest n (sym (at_heap n stands.begins) ∙ none n l)));
    typed = block_typed;
  }

  -- ---- arguments

  module _ (types : SlotTypes) (outcome : ℕ → Bool) (k : List Item) (none : (n : ℕ) → SettlesFirst n k → ⊥) (regards : Regards types outcome s.vars s.slots k) where
    abbrev arguments_at : List Operand → List Value
    arguments_at operands = map (operand_value (contents_value v s.slots)) operands

    -- an argument that was written is a word or a place
    is_passed : (t : ValueType) (c : Content) → fits_cell s.vars t c ≡ true → ((x : Var) → c ≡ Cell x → ⊥) → WasWritten (content_value v c) → (is_argument c ≡ true) × (is_written_of s.vars t c ≡ true)
    is_passed t Unwritten h calm w = absurd w
    is_passed t (Word p) h calm w = (refl, h)
    is_passed t (Place a) h calm w = (refl, h)
    is_passed t (Cell x) h calm w = absurd (calm x refl)

    pub record Passed (ts : List ValueType) (operands : List Operand) : Type 0 where
      pub are_arguments : list_all is_argument (argument_contents s operands) ≡ true
      pub fit : fit_each (is_written_of s.vars) ts (argument_contents s operands) ≡ true
      pub as_many : length (argument_contents s operands) ≡ length ts
      pub values : arguments_at operands ≡ contents_value v (argument_contents s operands)
      pub written : AreWritten heap ts (arguments_at operands)

    pub arguments_passed : (ts : List ValueType) (operands : List Operand) → AreOperandsOf types ts operands → AreInRange operands → WereWritten (arguments_at operands) → Passed ts operands
    arguments_passed [] [] o r w = record { are_arguments = refl; fit = refl; as_many = refl; values = refl; written = tt }
    arguments_passed [] (a ∷ operands) o r w = absurd o
    arguments_passed (t ∷ ts) [] o r w = absurd o
    arguments_passed (t ∷ ts) (a ∷ operands) o r w =
        let later = arguments_passed ts operands o.1 r.1 w.1 in
        let fit = operand_fits types outcome s k t a o.0 regards in
        let same : operand_value (contents_value v s.slots) a ≡ content_value v (operand_content s a) = operand_is v s a r.0 in
        let (is, typed') = is_passed t (operand_content s a) fit (λ x at. operand_calm types outcome s k none a x regards at) (subst WasWritten same w.0) in record {
          are_arguments = and_from _ _ is later.are_arguments;
          fit = and_from _ _ typed' later.fit;
          as_many = ap suc later.as_many;
          values = both same later.values;
          written = (cell_written heap t (operand_value (contents_value v s.slots) a) (subst (IsCell heap t) (sym same) (content_cell t (operand_content s a) fit)) w.0, later.written);
        }
      where
        both : {a b : Value} {as' bs : List Value} → a ≡ b → as' ≡ bs → (a ∷ as') ≡ (b ∷ bs)
        both p q = cc

    pub calling_state : (ts : List ValueType) (operands : List Operand) → Passed ts operands → IsCallingState P.types ts (arguments_at operands) heap
    calling_state ts operands h = record { well_typed = heap_typed; written = h.written }
