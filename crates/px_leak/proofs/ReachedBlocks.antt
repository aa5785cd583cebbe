-- What a caller reaches after a call that took the path of an entry which finds no block: blocks of the heap from which it called, and
-- blocks of the entry that its result reaches.
use Rattle.std.proofs.Common.{◌≡◌, ◌≢◌, ◌⊎◌, inl, inr, ℕ, ◌+◌, ◌<◌, true, not, nat_lt, List, [], ◌∷◌, length, map, take, Option, Some, None, slice_get, refl, sym, ap, ◌∙◌, subst, arith, ◌||◌}
use Rattle.std.specs.List.{list_all}
use Rattle.std.proofs.lemmas.Bool.{and_parts}
use Rattle.std.proofs.lemmas.Option.{same_Some, slice_get_within}
use Rattle.px_terms.specs.Types.{types_of, cell_types}
use Rattle.px_terms.specs.Valuations.{Valuation}
use Rattle.px_terms.specs.declared.types.Value.{Value}
use Rattle.px_terms.specs.declared.types.Value.TheVariants as value
use Rattle.px_terms.specs.declared.types.ValueType.{ValueType}
use Rattle.px_terms.specs.declared.types.ValueType.TheVariants.{Int, Pointer}
use Rattle.px_terms.specs.declared.types.BlockType.{BlockType}
use Rattle.px_terms.specs.declared.variables.Sort.{Sort}
use Rattle.px_terms.specs.declared.variables.Sort.TheVariants as sort
use Rattle.px_terms.specs.declared.variables.VarInfo.{VarInfo}
use Rattle.px_terms.specs.declared.conjuncts.Content.{Content}
use Rattle.px_terms.specs.declared.conjuncts.Content.TheVariants.{Unwritten, Word, Place, Cell}
use Rattle.px_terms.specs.declared.conjuncts.Place.TheVariants as place
use Rattle.px_terms.proofs.Tests.{lt_true}
use Rattle.px_entry.specs.declared.atoms.Atom.{Atom}
use Rattle.px_entry.specs.declared.atoms.AtomState.{AtomState}
use Rattle.px_entry.specs.declared.atoms.AtomState.TheVariants as atom
use Rattle.px_entry.specs.declared.entries.Entry.{Entry}
use Rattle.px_entry.specs.Sorts.{is_given_sort, is_cell_sort, is_input_sort, is_made_sort, is_int_type, is_pointer_type, is_some_and, is_made, is_pointer}
use Rattle.px_entry.specs.Contents.{fits_cell}
use Rattle.px_entry.specs.Constraint.{made_atoms}
use Rattle.px_entry.specs.Standing.{content_value, ArePlaced}
use Rattle.px_entry.specs.Regular.{state_cells, cells_of, each_once, are_given, are_inputs_words, fits_state, fits_block, is_result, are_variables_regular, is_pre_regular, is_post_regular, is_regular}
use Rattle.px_meaning.specs.Heaps.{HeapMap, HeapBlock, HeapBlockState, Live, Freed, join, AreApart, HasBlockType, IsWritten, AreWritten, IsCell, AreCells, IsBlockOf}
use Rattle.px_meaning.specs.Calls.{IsCallingState}
use Rattle.px_meaning.specs.Triples.{state_of, heap_of, values_from, result_value}
use Rattle.px_meaning.proofs.TypedHeaps.{written_block}
use Rattle.px_leak.specs.Reached.{pointed, pointed_by_result, pointed_by_atom, root, cell, IsReached}
use Rattle.px_leak.specs.Unreached.{cells_of as block_cells, IsHeld, IsReachedIn, held, through}
use Rattle.px_leak.proofs.Members.{Has, has_from, has_to, has_flat, has_map, has_filter, in_filter}
use Rattle.px_leak.proofs.EntryVariables.{such_there, all_at, given_written, FitsSomehow, fits_result, fit_contents}
use Rattle.px_leak.proofs.HeapBlocks.{joined_there, still_there}

-- ---- blocks of a heap

some_block : (heap : HeapMap) (t : ℕ) (m : ℕ) → HasBlockType t (heap m) → heap m ≢ None
some_block heap t m h e = let k : HasBlockType t None = subst (HasBlockType t) e h in k

written_there : (heap : HeapMap) (t : ValueType) (u : Value) (m : ℕ) → IsWritten heap t u → u ≡ value.Block m → heap m ≢ None
written_there heap t u m h e = let (s, is, there) = written_block heap t u m h e in some_block heap s.0 m there

cell_there : (heap : HeapMap) (t : ValueType) (u : Value) (m : ℕ) → IsCell heap t u → u ≡ value.Block m → heap m ≢ None
cell_there heap t value.Unwritten m h e = let f : ⊥ = cc in absurd f
cell_there heap t (value.Word z) m h e = written_there heap t (value.Word z) m h e
cell_there heap t value.Null m h e = written_there heap t value.Null m h e
cell_there heap t (value.Block b) m h e = written_there heap t (value.Block b) m h e

cells_there : (heap : HeapMap) (ts : List ValueType) (us : List Value) (m : ℕ) → AreCells heap ts us → Has us (value.Block m) → heap m ≢ None
cells_there heap [] [] m h k = absurd k
cells_there heap [] (u ∷ us) m h k = absurd h
cells_there heap (t ∷ ts) [] m h k = absurd h
cells_there heap (t ∷ ts) (u ∷ us) m h (inl e) = cell_there heap t u m h.0 e
cells_there heap (t ∷ ts) (u ∷ us) m h (inr k) = cells_there heap ts us m h.1 k

-- what a block of a well-typed heap points to is there
block_cells_there : (heap : HeapMap) (o : Option BlockType) (s : HeapBlockState) (m : ℕ) → IsBlockOf heap o s → Has (block_cells s) (value.Block m) → heap m ≢ None
block_cells_there heap None s m h k = absurd h
block_cells_there heap (Some t) (Live cells) m h k = cells_there heap (cell_types t) cells m h k
block_cells_there heap (Some t) Freed m h k = absurd k

-- ---- the entry

module _ (types : List BlockType) (parameters : List ValueType) (x : Entry)
    (regular : is_regular types (length parameters) x ≡ true) (given_types : map (λ (i : VarInfo). i.value) (take (length parameters) x.vars) ≡ parameters) (empty : x.pre ≡ [])
    (v : Valuation) (arguments : List Value) (heap : HeapMap) (calling : IsCallingState types parameters arguments heap)
    (given : values_from v 0 (length parameters) ≡ arguments) (placed : ArePlaced v x.post) (apart : AreApart (heap_of v x.post) heap) where
  variables_regular : are_variables_regular (length parameters) x ≡ true
  variables_regular = (and_parts _ _ (and_parts _ _ (and_parts _ _ regular).0).0).0

  pre_regular : is_pre_regular types x ≡ true
  pre_regular = (and_parts _ _ (and_parts _ _ (and_parts _ _ regular).0).0).1

  post_regular : is_post_regular types x ≡ true
  post_regular = (and_parts _ _ (and_parts _ _ regular).0).1

  given_first : are_given (length parameters) x.vars ≡ true
  given_first = (and_parts _ _ variables_regular).0

  inputs_words : are_inputs_words x.vars ≡ true
  inputs_words = (and_parts _ _ variables_regular).1

  cells_once : each_once (λ i. is_cell_sort i.sort) (cells_of x.pre) 0 x.vars ≡ true
  cells_once = (and_parts _ _ (and_parts _ _ pre_regular).0).1

  made_once : each_once (λ i. is_made_sort i.sort) (map (λ (a : Atom). a.place.0) (made_atoms x.vars x.post)) 0 x.vars ≡ true
  made_once = (and_parts _ _ post_regular).1

  post_fits : list_all (fits_block types (fits_cell x.vars)) x.post ≡ true
  post_fits = (and_parts _ _ (and_parts _ _ (and_parts _ _ post_regular).0).0).1

  result_fits : is_result x.vars x.result ≡ true
  result_fits = (and_parts _ _ (and_parts _ _ (and_parts _ _ (and_parts _ _ regular).1).0).0).1

  -- ---- what a variable leads to

  no_cell : (y : ℕ) (i : VarInfo) → slice_get x.vars y ≡ Some i → is_cell_sort i.sort ≡ true → ⊥
  no_cell y i at is =
      let none : each_once (λ i. is_cell_sort i.sort) [] 0 x.vars ≡ true = subst (λ (pre : List Atom). each_once (λ i. is_cell_sort i.sort) (cells_of pre) 0 x.vars ≡ true) empty cells_once in
      let there : Has [] (0 + y) = such_there (λ i. is_cell_sort i.sort) [] 0 x.vars none y i at is in
      there

  -- a block of the calling heap, or that of an atom
  abbrev LeadsTo : ℕ → ℕ → Type 0
  LeadsTo y m = (heap m ≢ None) ⊎ ((b : Atom) × Has x.post b × (b.place.0 ≡ y))

  not_both : (t : ValueType) → is_int_type t ≡ true → is_pointer_type t ≡ true → ⊥
  not_both Int e f = let g : ⊥ = cc in g
  not_both (Pointer t) e f = let g : ⊥ = cc in g

  of_input : (i : VarInfo) → i.sort ≡ sort.Input → (not (is_input_sort i.sort) || is_int_type i.value) ≡ true → is_int_type i.value ≡ true
  of_input i s e = ap (λ (k : Sort). not (is_input_sort k) || is_int_type i.value) (sym s) ∙ e

  given_leads : (y : ℕ) (i : VarInfo) → slice_get x.vars y ≡ Some i → i.sort ≡ sort.Given → (m : ℕ) → v y ≡ value.Block m → heap m ≢ None
  given_leads y i at s m e =
      let same : 0 + y ≡ y = omega arith in
      let h : IsWritten heap i.value (v (0 + y)) =
      given_written heap v parameters x.vars 0 given_first given_types (subst (AreWritten heap parameters) (sym given) calling.written) y i at (ap is_given_sort s) in
      written_there heap i.value (v y) m (subst (λ z. IsWritten heap i.value (v z)) same h) e

  made_leads : (y : ℕ) (i : VarInfo) → slice_get x.vars y ≡ Some i → i.sort ≡ sort.Made → (b : Atom) × Has x.post b × (b.place.0 ≡ y)
  made_leads y i at s =
      let same : 0 + y ≡ y = omega arith in
      let there = such_there (λ i. is_made_sort i.sort) (map (λ (a : Atom). a.place.0) (made_atoms x.vars x.post)) 0 x.vars made_once y i at (ap is_made_sort s) in
      let (b, made, is) = has_map (λ (a : Atom). a.place.0) (made_atoms x.vars x.post) (0 + y) there in
      (b, (has_filter (λ (a : Atom). is_made x.vars a.place.0) x.post b made).0, is ∙ same)

  variable_leads : (y m : ℕ) → is_pointer x.vars y ≡ true → v y ≡ value.Block m → LeadsTo y m
  variable_leads y m p e = by (slice_get x.vars y) refl p
    where
      by_sort : (i : VarInfo) → slice_get x.vars y ≡ Some i → is_pointer_type i.value ≡ true → (s : Sort) → i.sort ≡ s → LeadsTo y m
      by_sort i at p sort.Given s = inl (given_leads y i at s m e)
      by_sort i at p sort.Cell s = absurd (no_cell y i at (ap is_cell_sort s))
      by_sort i at p sort.Input s = absurd (not_both i.value (of_input i s (all_at (λ (j : VarInfo). not (is_input_sort j.sort) || is_int_type j.value) x.vars y i inputs_words at)) p)
      by_sort i at p sort.Made s = inr (made_leads y i at s)

      by : (o : Option VarInfo) → slice_get x.vars y ≡ o → is_some_and o (λ i. is_pointer_type i.value) ≡ true → LeadsTo y m
      by None at p = let f : ⊥ = cc in absurd f
      by (Some i) at p = by_sort i at p i.sort refl

  pointer_within : (y : ℕ) → is_pointer x.vars y ≡ true → y < length x.vars
  pointer_within y p = by (slice_get x.vars y) refl p
    where
      by : (o : Option VarInfo) → slice_get x.vars y ≡ o → is_some_and o (λ i. is_pointer_type i.value) ≡ true → y < length x.vars
      by None at p = let f : ⊥ = cc in absurd f
      by (Some i) at p = slice_get_within x.vars y i at

  -- ---- what a content points to

  -- a block of the calling heap, or that of an atom whose place it points by
  abbrev PointsTo : Content → ℕ → Type 0
  PointsTo c m = (heap m ≢ None) ⊎ ((b : Atom) × Has x.post b × (v b.place.0 ≡ value.Block m) × Has (pointed (length x.vars) c) b.place.0)

  content_points : (c : Content) (m : ℕ) → FitsSomehow x.vars c → content_value v c ≡ value.Block m → PointsTo c m
  content_points Unwritten m f e = let g : ⊥ = cc in absurd g
  content_points (Word p) m f e = let g : ⊥ = cc in absurd g
  content_points (Place place.Null) m f e = let g : ⊥ = cc in absurd g
  content_points (Place (place.Var y)) m f e = elim (variable_leads y.0 m f e) [
    | inl there ↦ inl there
    | inr made ↦ inr (
      made.0,
      made.1,
      ap v made.2 ∙ e,
      in_filter (λ z. nat_lt z (length x.vars)) (y.0 ∷ []) made.0.place.0 (inl (sym made.2)) (lt_true made.0.place.0 (length x.vars) (subst (λ z. z < length x.vars) (sym made.2) (pointer_within y.0 f))),
    )
  ]
  content_points (Cell y) m f e = absurd (by (slice_get x.vars y.0) refl f)
    where
      by : (o : Option VarInfo) → slice_get x.vars y.0 ≡ o → is_some_and o (λ i. is_cell_sort i.sort) ≡ true → ⊥
      by None at p = let g : ⊥ = cc in g
      by (Some i) at p = no_cell y.0 i at p

  -- ---- what is reached

  -- a block of the calling heap, or that of an atom which the result reaches
  abbrev IsMet : ℕ → Type 0
  IsMet m = (heap m ≢ None) ⊎ ((b : Atom) × Has x.post b × (v b.place.0 ≡ value.Block m) × IsReached x b.place.0)

  result_met : (o : Option Content) → x.result ≡ o → (m : ℕ) → result_value v o ≡ value.Block m → IsMet m
  result_met None is m e = let g : ⊥ = cc in absurd g
  result_met (Some c) is m e = elim (content_points c m (fits_result x.vars c (subst (λ r. is_result x.vars r ≡ true) is result_fits)) e) [
    | inl there ↦ inl there
    | inr made ↦ inr (made.0, made.1, made.2, root (has_to (pointed_by_result (length x.vars) x.result) made.0.place.0 (subst (λ r. Has (pointed_by_result (length x.vars) r) made.0.place.0) (sym is) made.3)))
  ]

  -- the contents of a block fit
  cells_fit : (ts : List ValueType) (s : AtomState) → fits_state (fits_cell x.vars) ts s ≡ true → (c : Content) → Has (state_cells s) c → FitsSomehow x.vars c
  cells_fit ts (atom.Live cells) e c h = fit_contents x.vars ts cells e c h
  cells_fit ts atom.Freed e c h = absurd h

  state_values : (s : AtomState) (m : ℕ) → Has (block_cells (state_of v s)) (value.Block m) → (c : Content) × Has (state_cells s) c × (content_value v c ≡ value.Block m)
  state_values (atom.Live cells) m h = has_map (content_value v) cells (value.Block m) h
  state_values atom.Freed m h = absurd h

  atom_met : (a : Atom) → Has x.post a → IsReached x a.place.0 → (m : ℕ) → Has (block_cells (state_of v a.state)) (value.Block m) → IsMet m
  atom_met a h r m k =
      let (c, in_cells, e) = state_values a.state m k in
      let fits = cells_fit (types_of (slice_get types a.block.0)) a.state (atom_fits a h) c in_cells in
      elim (content_points c m fits e) [
        | inl there ↦ inl there
        | inr made ↦ inr (made.0, made.1, made.2, cell a (has_to x.post a h) r (has_to (pointed_by_atom (length x.vars) a) made.0.place.0 (has_flat (pointed (length x.vars)) (state_cells a.state) c made.0.place.0 in_cells made.3)))
      ]
    where
      of_list : (xs : List Atom) → list_all (fits_block types (fits_cell x.vars)) xs ≡ true → (a : Atom) → Has xs a → fits_block types (fits_cell x.vars) a ≡ true
      of_list [] e a h = absurd h
      of_list (b ∷ xs) e a (inl f) = subst (λ (z : Atom). fits_block types (fits_cell x.vars) z ≡ true) f (and_parts (fits_block types (fits_cell x.vars) b) (list_all (fits_block types (fits_cell x.vars)) xs) e).0
      of_list (b ∷ xs) e a (inr h) = of_list xs (and_parts (fits_block types (fits_cell x.vars) b) (list_all (fits_block types (fits_cell x.vars)) xs) e).1 a h

      atom_fits : (a : Atom) → Has x.post a → fits_block types (fits_cell x.vars) a ≡ true
      atom_fits a h = of_list x.post post_fits a h

  abbrev Whole : HeapMap
  Whole = join (heap_of v x.post) heap

  pub met : (m : ℕ) → IsReachedIn Whole (IsHeld heap (result_value v x.result)) m → IsMet m
  met m (held (inl e)) = result_met x.result refl m e
  met m (held (inr there)) = inl there
  met m (through {m = k} b r at points) = elim (met k r) [
    | inl there ↦ inl (old there)
    | inr made ↦ atom_met made.0 made.1 made.3 m
        (subst (λ (c : HeapBlock). Has (block_cells c.state) (value.Block m)) (same_Some _ _ (sym at ∙ joined_there v x.post placed heap apart made.0 made.1 k made.2)) (has_from (block_cells b.state) (value.Block m) points))
  ]
    where
      old_block : (o : Option HeapBlock) → heap k ≡ o → (heap k ≢ None) → heap m ≢ None
      old_block None e there = absurd (there e)
      old_block (Some c) e there =
          let same : c ≡ b = same_Some _ _ (sym (still_there v x.post placed heap apart k c e) ∙ at) in
          block_cells_there heap (slice_get types c.block_type) c.state m (calling.well_typed.typed k c e) (subst (λ (d : HeapBlock). Has (block_cells d.state) (value.Block m)) (sym same) (has_from (block_cells b.state) (value.Block m) points))

      old : heap k ≢ None → heap m ≢ None
      old there = old_block (heap k) refl there
