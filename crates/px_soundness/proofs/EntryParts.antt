-- What a regular entry says of its parts, and the kinds of its contents.
use Rattle.std.proofs.Common.{◌≡◌, ℕ, Bool, true, false, cond, ◌&&◌, Option, Some, None, List, [], ◌∷◌, ◌++◌, map, refl, sym, ap, ◌∙◌, subst}
use Rattle.std.specs.Prelude.{flat_map, filter, option_map}
use Rattle.std.specs.List.{list_all}
use Rattle.std.proofs.lemmas.Bool.{and_parts}
use Rattle.std.proofs.lemmas.Option.{same_Some}
use mathlib.Core.Path.{fun_ext}
use Rattle.px_terms.specs.Variables.{variables_of}
use Rattle.px_terms.specs.Substitutions.{content_for}
use Rattle.px_terms.specs.Valuations.{Valuation, IsUnwritten, Fits}
use Rattle.px_terms.specs.Conjuncts.{IsTrueUnder}
use Rattle.px_terms.specs.declared.types.TypeId.{TypeId}
use Rattle.px_terms.specs.declared.types.BlockType.{BlockType}
use Rattle.px_terms.specs.declared.types.ValueType.{ValueType}
use Rattle.px_terms.specs.declared.types.ValueType.TheVariants.{Int, Pointer}
use Rattle.px_terms.specs.declared.variables.Var.{Var}
use Rattle.px_terms.specs.declared.variables.VarInfo.{VarInfo}
use Rattle.px_terms.specs.declared.conjuncts.Place.TheVariants as place
use Rattle.px_terms.specs.declared.conjuncts.Content.{Content}
use Rattle.px_terms.specs.declared.conjuncts.Content.TheVariants.{Unwritten, Word, Place, Cell}
use Rattle.px_terms.specs.declared.conjuncts.Conj.{Conj}
use Rattle.px_entry.specs.declared.atoms.Atom.{Atom}
use Rattle.px_entry.specs.declared.atoms.AtomState.{AtomState}
use Rattle.px_entry.specs.declared.atoms.AtomState.TheVariants.{Live, Freed}
use Rattle.px_entry.specs.declared.entries.Entry.{Entry}
use Rattle.px_entry.specs.Sorts.{is_made_sort, is_pointer, is_made, is_pointer_type, same_type, has_type, is_well_sorted, is_some_and}
use Rattle.px_entry.specs.Contents.{fits_cell, fits_some_type, fit_each, content_variables}
use Rattle.px_entry.specs.Constraint.{found_atoms, made_atoms}
use Rattle.px_entry.specs.Regular.{are_given, are_inputs_words, is_quotient_input, each_once, points_to_block, same_blocks, fits_state, fits_block, state_cells, is_said_written, is_used_written, used_by_conjunct, used_by_atom, used_by_result, used_variables, is_result, are_variables_regular, is_pre_regular, is_post_regular, are_terms_regular, is_regular}
use Rattle.px_entry.specs.Standing.{is_block, atom_at}
use Rattle.px_entry.proofs.Lists.{Each, each_from}
use Rattle.px_callgraph.specs.Accesses.{atom_of}
use Rattle.px_callgraph.specs.Renaming.{Substitution, place_in, state_through}
use Rattle.px_callgraph.specs.Calls.{made_through}
use Rattle.px_meaning.specs.Heaps.{HeapBlockState}
use Rattle.px_meaning.specs.Triples.{block_of, heap_of}
use Rattle.px_soundness.proofs.AtomHeaps.{absent}
use Rattle.px_soundness.proofs.Truths.{variable_is, made_is}
use Rattle.px_soundness.proofs.Through.{stood, through, GoodSubstitution}
use Rattle.px_soundness.proofs.FitsThrough.{Suits, Stands}
use Rattle.px_soundness.proofs.EntryKinds.{words_kind, place_kind}
use Rattle.px_soundness.proofs.ContentsThrough.{HasKind, state_is}
use Rattle.px_check.proofs.ValueLemmas.{each_split}

-- ---- parts of a regular entry

-- the variable is written, if it is a cell's
abbrev pub IsUsedIn : Entry → ℕ → Type 0
IsUsedIn x y = is_used_written x y ≡ true

pub record Parts (types : List BlockType) (x : Entry) : Type 0 where
  pub sorted : list_all (is_well_sorted x.vars) x.pure ≡ true
  pub result : is_result x.vars x.result ≡ true
  pub in_conjuncts : Each (λ y. is_used_written x y ≡ true) (flat_map used_by_conjunct x.pure)
  pub in_pre : Each (λ y. is_used_written x y ≡ true) (flat_map used_by_atom x.pre)
  pub in_post : Each (λ y. is_used_written x y ≡ true) (flat_map used_by_atom x.post)
  pub in_result : Each (λ y. is_used_written x y ≡ true) (used_by_result x.result)
  pub fits : list_all (fits_block types (fits_cell x.vars)) x.post ≡ true
  pub blocks : same_blocks x.pre (found_atoms x.vars x.post) ≡ true
  pub points : list_all (points_to_block x.vars) x.post ≡ true
  pub points_pre : list_all (points_to_block x.vars) x.pre ≡ true
  pub once : each_once (λ i. is_made_sort i.sort) (map (λ (a : Atom). a.place.0) (made_atoms x.vars x.post)) 0 x.vars ≡ true
  pub inputs : are_inputs_words x.vars ≡ true
  pub quotients : list_all (is_quotient_input x.vars) x.pure ≡ true

pub parts : (types : List BlockType) (n : ℕ) (x : Entry) → is_regular types n x ≡ true → Parts types x
parts types n x e =
    let r = and_parts (are_variables_regular n x && is_pre_regular types x && is_post_regular types x) (are_terms_regular x) e in
    let s = and_parts (are_variables_regular n x && is_pre_regular types x) (is_post_regular types x) r.0 in
    let post = and_parts _ _ s.1 in
    let all = and_parts _ _ r.1 in
    let terms = and_parts _ _ all.0 in
    let variables = and_parts (are_variables_regular n x) (is_pre_regular types x) s.0 in
    let used = each_from (is_used_written x) (IsUsedIn x) (λ y h. h) (used_variables x) terms.1 in
    let A = flat_map used_by_conjunct x.pure in
    let B = flat_map used_by_atom x.pre in
    let C = flat_map used_by_atom x.post in
    let third = each_split (IsUsedIn x) (A ++ B ++ C) (used_by_result x.result) used in
    let second = each_split (IsUsedIn x) (A ++ B) C third.0 in
    let first = each_split (IsUsedIn x) A B second.0 in
    record {
      sorted = (and_parts _ _ terms.0).0;
      result = (and_parts _ _ terms.0).1;
      in_conjuncts = first.0;
      in_pre = first.1;
      in_post = second.1;
      in_result = third.1;
      fits = (and_parts _ _ (and_parts _ _ post.0).0).1;
      blocks = (and_parts _ _ post.0).1;
      points = (and_parts _ _ (and_parts _ _ post.0).0).0;
      points_pre = (and_parts _ _ (and_parts _ _ (and_parts _ _ variables.1).0).0).0;
      once = post.1;
      inputs = (and_parts _ _ variables.0).1;
      quotients = all.1;
    }

-- the first variables are the parameters
pub given_of : (types : List BlockType) (n : ℕ) (x : Entry) → is_regular types n x ≡ true → are_given n x.vars ≡ true
given_of types n x e =
    let r = and_parts (are_variables_regular n x && is_pre_regular types x && is_post_regular types x) (are_terms_regular x) e in
    let s = and_parts (are_variables_regular n x && is_pre_regular types x) (is_post_regular types x) r.0 in
    (and_parts (are_given n x.vars) (are_inputs_words x.vars) (and_parts (are_variables_regular n x) (is_pre_regular types x) s.0).0).0

-- ---- kinds of contents

module _ (x : Entry) (w : Valuation) (fits : Fits x.vars w) (said : (y : ℕ) → is_said_written x.pure y ≡ true → IsUnwritten (w y) → ⊥) where
  abbrev Used : ℕ → Type 0
  Used y = is_used_written x y ≡ true

  pointer_of : (b : TypeId) (y : ℕ) → has_type x.vars (Pointer b) y ≡ true → is_pointer x.vars y ≡ true
  pointer_of b y e =
      let (i, at, same) = variable_is x.vars (λ (i : VarInfo). same_type i.value (Pointer b)) y e in
      ap (λ (o : Option VarInfo). is_some_and o (λ (k : VarInfo). is_pointer_type k.value)) at ∙ by i.value same
    where
      by : (t : ValueType) → same_type t (Pointer b) ≡ true → is_pointer_type t ≡ true
      by Int e = cc
      by (Pointer c) e = refl

  some_kind : (c : Content) → fits_some_type x.vars c ≡ true → Each Used (content_variables c) → HasKind w c
  some_kind Unwritten e u = tt
  some_kind (Cell y) e u = tt
  some_kind (Word p) e u = words_kind x w fits said (variables_of p) e u
  some_kind (Place place.Null) e u = tt
  some_kind (Place (place.Var y)) e u = place_kind x w fits said y.0 e u.0

  cell_kind : (t : ValueType) (c : Content) → fits_cell x.vars t c ≡ true → Each Used (content_variables c) → HasKind w c
  cell_kind t Unwritten e u = tt
  cell_kind t (Cell y) e u = tt
  cell_kind Int (Word p) e u = words_kind x w fits said (variables_of p) e u
  cell_kind (Pointer b) (Word p) e u = cc
  cell_kind Int (Place a) e u = cc
  cell_kind (Pointer b) (Place place.Null) e u = tt
  cell_kind (Pointer b) (Place (place.Var y)) e u = place_kind x w fits said y.0 (pointer_of b y.0 e) u.0

  cells_kind : (ts : List ValueType) (cs : List Content) → fit_each (fits_cell x.vars) ts cs ≡ true → Each Used (flat_map content_variables cs) → Each (HasKind w) cs
  cells_kind ts [] e u = tt
  cells_kind [] (c ∷ cs) e u = cc
  cells_kind (t ∷ ts) (c ∷ cs) e u =
      let b = and_parts (fits_cell x.vars t c) (fit_each (fits_cell x.vars) ts cs) e in
      let (first, rest) = each_split Used (content_variables c) (flat_map content_variables cs) u in
      (cell_kind t c b.0 first, cells_kind ts cs b.1 rest)

  state_kind : (ts : List ValueType) (st : AtomState) → fits_state (fits_cell x.vars) ts st ≡ true → Each Used (flat_map content_variables (state_cells st)) → Each (HasKind w) (state_cells st)
  state_kind ts (Live cells) e u = cells_kind ts cells e u
  state_kind ts Freed e u = tt

  pub atoms_kind : (types : List BlockType) (atoms : List Atom) → list_all (fits_block types (fits_cell x.vars)) atoms ≡ true → Each Used (flat_map used_by_atom atoms) → Each (λ (a : Atom). Each (HasKind w) (state_cells a.state)) atoms
  atoms_kind types [] e u = tt
  atoms_kind types (a ∷ atoms) e u =
      let b = and_parts (fits_block types (fits_cell x.vars) a) (list_all (fits_block types (fits_cell x.vars)) atoms) e in
      let (first, rest) = each_split Used (used_by_atom a) (flat_map used_by_atom atoms) u in
      (state_kind _ a.state b.0 first.1, atoms_kind types atoms b.1 rest)

  pub result_kind : (c : Option Content) → is_result x.vars c ≡ true → Each Used (used_by_result c) → (d : Content) → c ≡ Some d → HasKind w d
  result_kind None e u d is = absent is
  result_kind (Some c) e u d is = subst (HasKind w) (same_Some _ _ is) (some_kind c e u)

pub each_filter : (test : Atom → Bool) (P : Atom → Type 0) (xs : List Atom) → Each P xs → Each (λ a. P a × (test a ≡ true)) (filter test xs)
each_filter test P [] h = tt
each_filter test P (a ∷ xs) h = by (test a) refl (each_filter test P xs h.1)
  where
    by : (b : Bool) → test a ≡ b → Each (λ a. P a × (test a ≡ true)) (filter test xs) → Each (λ a. P a × (test a ≡ true)) (cond b (a ∷ filter test xs) (filter test xs))
    by true is rest = ((h.0, is), rest)
    by false is rest = rest

-- ---- what was made

module _ (vars : List VarInfo) (pure : List Conj) (v : Valuation) (fits : Fits vars v) (true_of : Each (IsTrueUnder v) pure) (σ : Substitution) (good : GoodSubstitution vars pure v fits σ) (xs : List VarInfo) (stands : Stands vars pure xs σ) where
  -- what stands for a made variable is one
  made_variable : (y : ℕ) → is_made xs y ≡ true → (m : Var) × (content_for σ y ≡ Some (Place (place.Var m)))
  made_variable y e =
      let (i, at, is) = made_is xs y e in
      let (c, stand, g, h) = stands.content y i at in
      let (m, same, made, type) = subst (λ s. Suits vars s i.value c) is h in
      (m, stand ∙ ap Some same)

  abbrev Made : Atom → Type 0
  Made a = Each (HasKind (through v σ)) (state_cells a.state) × (is_made xs a.place.0 ≡ true)

  made_one : (a : Atom) (m : Var) → content_for σ a.place.0 ≡ Some (Place (place.Var m)) → made_through σ a ≡ atom_of m a.block (state_through σ a.state) ∷ []
  made_one a m e = ap (λ o. elim (place_in o) as (λ _. List Atom) [ None ↦ [] | Some p ↦ elim p as (λ _. List Atom) [ place.Null ↦ [] | place.Var z ↦ atom_of z a.block (state_through σ a.state) ∷ [] ] ]) e

  made_blocks : (n : ℕ) (atoms : List Atom) → Each Made atoms → heap_of v (flat_map (made_through σ) atoms) n ≡ heap_of (through v σ) atoms n
  made_blocks n [] h = refl
  made_blocks n (a ∷ atoms) ((kinds, made), h) =
      let (m, is) = made_variable a.place.0 made in
      let one : Atom = atom_of m a.block (state_through σ a.state) in
      let same : through v σ a.place.0 ≡ v m.0 = ap (stood v) is in
      let block : block_of v one ≡ block_of (through v σ) a = ap (λ (st : HeapBlockState). record { block_type = a.block.0; state = st }) (state_is vars pure v fits true_of σ good a.state kinds) in
      ap (λ (as' : List Atom). heap_of v (as' ++ flat_map (made_through σ) atoms) n) (made_one a m is)
      ∙ both (is_block n (v m.0)) one a (atom_at v (flat_map (made_through σ) atoms) n) (atom_at (through v σ) atoms n) block (made_blocks n atoms h)
      ∙ ap (λ u. option_map (block_of (through v σ)) (cond (is_block n u) (Some a) (atom_at (through v σ) atoms n))) (sym same)
    where
      both : (q : Bool) (a b : Atom) (y z : Option Atom) → block_of v a ≡ block_of (through v σ) b → option_map (block_of v) y ≡ option_map (block_of (through v σ)) z →
          option_map (block_of v) (cond q (Some a) y) ≡ option_map (block_of (through v σ)) (cond q (Some b) z)
      both true a b y z e f = ap Some e
      both false a b y z e f = f

  pub made_heap : (atoms : List Atom) → Each Made atoms → heap_of v (flat_map (made_through σ) atoms) ≡ heap_of (through v σ) atoms
  made_heap atoms h = fun_ext (λ n. made_blocks n atoms h)
