-- Commands that reach or make a block, and inputs: each way of one is a step of the machine.
use Rattle.std.proofs.Common.{◌≡◌, ℕ, suc, ◌+◌, Bool, true, false, nat_eq, ◌&&◌, Option, Some, None, List, [], ◌∷◌, ◌++◌, map, length, pos, negsuc, slice_get, slice_set, refl, sym, ap, ap₂, ◌∙◌, subst, subst₂, inl, inr, arith, append-nil}
use Rattle.std.specs.Prelude.{is_some}
use Rattle.std.proofs.lemmas.Bool.{and_parts, eqb-true}
use Rattle.px_base.specs.declared.trace.Site.{Site}
use Rattle.px_base.specs.declared.trace.Mark.{Mark}
use Rattle.px_base.specs.declared.trace.MarkKind.{MarkKind}
use Rattle.px_base.specs.declared.trace.MarkKind.TheVariants as mark
use Rattle.px_base.specs.declared.trace.Kind.TheVariants.{NullDereference, UseAfterFree, DoubleFree}
use Rattle.px_base.specs.declared.trace.FieldId.{FieldId}
use Rattle.px_terms.specs.Words.{signed}
use Rattle.px_terms.specs.Substitutions.{variable}
use Rattle.px_terms.specs.Valuations.{Valuation}
use Rattle.px_terms.specs.Conjuncts.{word_of, place_of}
use Rattle.px_terms.specs.declared.types.Value.{Value}
use Rattle.px_terms.specs.declared.types.Value.TheVariants as value
use Rattle.px_terms.specs.declared.types.TypeId.{TypeId}
use Rattle.px_terms.specs.declared.types.BlockType.{BlockType}
use Rattle.px_terms.specs.declared.types.ValueType.{ValueType}
use Rattle.px_terms.specs.declared.types.ValueType.TheVariants.{Int, Pointer}
use Rattle.px_terms.specs.declared.variables.VarInfo.{VarInfo}
use Rattle.px_terms.specs.declared.variables.Sort.TheVariants as sort
use Rattle.px_terms.specs.declared.conjuncts.Place.{Place as PlaceOf}
use Rattle.px_terms.specs.declared.conjuncts.Place.TheVariants as place
use Rattle.px_terms.specs.declared.conjuncts.Content.{Content}
use Rattle.px_terms.specs.declared.conjuncts.Content.TheVariants.{Unwritten, Word, Place, Cell}
use Rattle.px_terms.specs.declared.conjuncts.Conj.{Conj}
use Rattle.px_terms.specs.declared.conjuncts.Conj.TheVariants as conjunct
use Rattle.px_terms.proofs.Agreement.{fits_fewer}
use Rattle.px_core.specs.declared.command.Operand.{Operand}
use Rattle.px_core.specs.CommandTree.{load, store, malloc, free, input}
use Rattle.px_core.specs.Control.{Item}
use Rattle.px_core.specs.Constants.{IsInRange}
use Rattle.px_entry.specs.declared.atoms.Atom.{Atom}
use Rattle.px_entry.specs.declared.atoms.AtomState.{AtomState}
use Rattle.px_entry.specs.declared.atoms.AtomState.TheVariants.{Live, Freed}
use Rattle.px_entry.specs.declared.entries.Exit.TheVariants as exit
use Rattle.px_entry.specs.Sorts.{is_place_of, is_some_and}
use Rattle.px_entry.specs.Decided.{is_open, assume}
use Rattle.px_entry.specs.Cases.{may_be_at, may_be_missing, numbers_of}
use Rattle.px_entry.specs.Contents.{variable_content, fits_cell}
use Rattle.px_entry.specs.Standing.{content_value, contents_value}
use Rattle.px_callgraph.specs.declared.states.State.{State}
use Rattle.px_callgraph.specs.declared.states.Way.{Way}
use Rattle.px_callgraph.specs.declared.states.Way.TheVariants as way
use Rattle.px_callgraph.specs.JobTree.{JobTree}
use Rattle.px_callgraph.specs.States.{goes, ends, Done, on, content_at, operand_content, number, assumed, info}
use Rattle.px_callgraph.specs.Accesses.{listed_if, atom_ways, missing_ways, access_ways, accessed, cell_infos, block_cells, cell_contents, atom_of, meet_live, meet_freed, Access, load_access, store_access, free_access, use_state, use_atom, reach_atom, access_done}
use Rattle.px_callgraph.specs.Commands.{malloc_ways, malloc_done, field_type, through_place, pointer_ways, pointer_done}
use Rattle.px_meaning.specs.Heaps.{HeapMap, HeapBlock, join, with_block}
use Rattle.px_meaning.specs.Heaps as heap
use Rattle.px_meaning.specs.Operations.{value_at, operand_value}
use Rattle.px_meaning.specs.Calls.{error, Failed}
use Rattle.px_meaning.specs.Steps.{Goes, Ends, ProcedureCalls, by_pointer, live_block, freed_block}
use Rattle.px_meaning.specs.Triples.{state_of, block_of, heap_of}
use Rattle.px_meaning.proofs.Joins.{join_has, join_lacks, with_join, with_same}
use Rattle.px_meaning.proofs.Pointers.{through_null, through_freed, through_live}
use Rattle.px_soundness.proofs.AtomHeaps.{absent, none_not_some, at_heap, Placed, Kept, there, heap_more, placed_last, placed_front, within_front, apart_within}
use Rattle.px_soundness.proofs.AtomHeaps as blocks
use Rattle.px_soundness.proofs.Truths.{Says, decided_says}
use Rattle.px_soundness.proofs.Contents.{slot_is, set_is, operand_is}
use Rattle.px_soundness.proofs.Sound.{Each1, each1_append, each1_if, WholeGoal, Can, Sound, chain, sound_plain, sound_assumed, sound_variables, sound_met, sound_changed, sound_turn}
use Rattle.px_soundness.proofs.PlainSteps.{Does, Leads1}

-- ---- accesses

-- what the machine does at null, at a freed block and at a live one
pub record Acts : Type 1 where
  pub null : Can
  pub freed : Can
  pub live : ℕ → List Value → Can

abbrev pub Accesses : Acts → TypeId → PlaceOf → Can
Accesses c block p v H K = by_pointer H block.0 (place_of v p) (c.null v H K) (c.freed v H K) (λ n cells. c.live n cells v H K)

abbrev pub over : State → List VarInfo → List Conj → List Atom → List Atom → State
over s vars pure pre atoms = record s { vars = vars; pure = pure; pre = pre; atoms = atoms }

-- what a command does in the three outcomes is what the machine does, from any state with these slots and this trace
pub record Used (c : Acts) (a : Access) (block : TypeId) (s : State) (k : List Item) : Type 1 where
  pub at_null : (vars : List VarInfo) (pure : List Conj) (pre atoms : List Atom) → Sound c.null (over s vars pure pre atoms) k (a.null (over s vars pure pre atoms)).state (a.null (over s vars pure pre atoms)).outcome
  pub at_freed : (vars : List VarInfo) (pure : List Conj) (pre atoms : List Atom) → Sound c.freed (over s vars pure pre atoms) k (a.freed (over s vars pure pre atoms)).state (a.freed (over s vars pure pre atoms)).outcome
  pub at_live : (vars : List VarInfo) (pure : List Conj) (pre atoms : List Atom) (n : ℕ) (b : Atom) (cells : List Content) → slice_get atoms n ≡ Some b → b.block.0 ≡ block.0 →
      Sound (λ v H K. (m : ℕ) → v b.place.0 ≡ value.Block m → c.live m (contents_value v cells) v H K) (over s vars pure pre atoms) k (a.live n cells (over s vars pure pre atoms)).state (a.live n cells (over s vars pure pre atoms)).outcome

module _ (c : Acts) (a : Access) (block : TypeId) (s : State) (k : List Item) (used : Used c a block s k) (p : PlaceOf) where
  -- the access through the place, where it is that of an atom
  abbrev At : Atom → Can
  At b v H K = place_of v p ≡ v b.place.0 → Accesses c block p v H K

  state_used : (vars : List VarInfo) (pure : List Conj) (pre atoms : List Atom) (n : ℕ) (b : Atom) (st : AtomState) → slice_get atoms n ≡ Some b → b.state ≡ st → b.block.0 ≡ block.0 →
      Sound (At b) (over s vars pure pre atoms) k (use_state a n st (over s vars pure pre atoms)).state (use_state a n st (over s vars pure pre atoms)).outcome
  state_used vars pure pre atoms n b (Live cells) e is same =
      let u = over s vars pure pre atoms in
      chain (λ v H K. (m : ℕ) → v b.place.0 ≡ value.Block m → c.live m (contents_value v cells) v H K) (At b) u u k (a.live n cells u).state (a.live n cells u).outcome (used.at_live vars pure pre atoms n b cells e same)
      (λ v further h. (
        record { new = []; pre = sym (append-nil pre); holds = h; keeps = λ kept. kept },
        λ K l at.
            let H : HeapMap = join (heap_of v atoms) further in
            let (m, here) = blocks.place_of v atoms n b h.placed e in
            through_live H block.0 (place_of v p) (c.null v H K) (c.freed v H K) (λ n cells. c.live n cells v H K) m (contents_value v cells) (at ∙ here)
            (join_has (heap_of v atoms) further m (block_of v b) (there v atoms n b m h.placed e here) ∙ ap₂ (λ x y. Some (let z : HeapBlock = record { block_type = x; state = state_of v y } in z)) same is)
            (l m here),
      ))
  state_used vars pure pre atoms n b Freed e is same =
      let u = over s vars pure pre atoms in
      chain c.freed (At b) u u k (a.freed u).state (a.freed u).outcome (used.at_freed vars pure pre atoms)
      (λ v further h. (
        record { new = []; pre = sym (append-nil pre); holds = h; keeps = λ kept. kept },
        λ K l at.
            let H : HeapMap = join (heap_of v atoms) further in
            let (m, here) = blocks.place_of v atoms n b h.placed e in
            through_freed H block.0 (place_of v p) (c.null v H K) (c.freed v H K) (λ n cells. c.live n cells v H K) m (at ∙ here)
            (join_has (heap_of v atoms) further m (block_of v b) (there v atoms n b m h.placed e here) ∙ ap₂ (λ x y. Some (let z : HeapBlock = record { block_type = x; state = state_of v y } in z)) same is)
            l,
      ))

  -- null
  null_used : is_open s.vars (conjunct.SamePlace p place.Null) ≡ true →
      Sound (Accesses c block p) s k (a.null (assumed (conjunct.SamePlace p place.Null) s)).state (a.null (assumed (conjunct.SamePlace p place.Null) s)).outcome
  null_used opened =
      sound_assumed c.null (Accesses c block p) s (conjunct.SamePlace p place.Null) k (a.null (assumed (conjunct.SamePlace p place.Null) s)).state (a.null (assumed (conjunct.SamePlace p place.Null) s)).outcome
      (λ v fits d. decided_says s.vars v (conjunct.SamePlace p place.Null) fits opened tt d)
      (used.at_null s.vars (assume s.vars s.pure (conjunct.SamePlace p place.Null)) s.pre s.atoms)
      (λ v further K h says l.
      let H : HeapMap = join (heap_of v s.atoms) further in
      through_null H block.0 (place_of v p) (c.null v H K) (c.freed v H K) (λ n cells. c.live n cells v H K) says l)

  -- the block of an atom
  atom_used : (n : ℕ) (b : Atom) → slice_get s.atoms n ≡ Some b → b.block.0 ≡ block.0 → may_be_at s.vars p b ≡ true →
      Sound (Accesses c block p) s k (reach_atom a p n (Some b) s).state (reach_atom a p n (Some b) s).outcome
  atom_used n b e same opened =
      sound_assumed (At b) (Accesses c block p) s (conjunct.SamePlace p (place.Var b.place)) k (reach_atom a p n (Some b) s).state (reach_atom a p n (Some b) s).outcome
      (λ v fits d. decided_says s.vars v (conjunct.SamePlace p (place.Var b.place)) fits opened tt d)
      (state_used s.vars (assume s.vars s.pure (conjunct.SamePlace p (place.Var b.place))) s.pre s.atoms n b b.state e refl same)
      (λ v further K h says l. l says)

pub get_last : {A : Type 0} (xs : List A) (x : A) → slice_get (xs ++ x ∷ []) (length xs) ≡ Some x
get_last [] x = refl
get_last (y ∷ xs) x = get_last xs x

-- the ways of numbered atoms
pub each_atom : (P : Way → Type 1) (such : Atom → Bool) (n : ℕ) (some all : List Atom) → ((m : ℕ) (b : Atom) → slice_get all m ≡ Some b → such b ≡ true → P (way.Atom m)) →
    ((i : ℕ) (b : Atom) → slice_get some i ≡ Some b → (m : ℕ) → m ≡ n + i → slice_get all m ≡ Some b) → Each1 P (atom_ways (numbers_of (λ _ b. such b) n some))
each_atom P such n [] all f at = tt
each_atom P such n (b ∷ rest) all f at = by (such b) refl (each_atom P such (suc n) rest all f (λ i c e m is. at (suc i) c e m (omega arith)))
  where
    by : (q : Bool) → such b ≡ q → Each1 P (atom_ways (numbers_of (λ _ b. such b) (suc n) rest)) →
        Each1 P (atom_ways (elim q as (λ _. List ℕ) [ true ↦ n ∷ numbers_of (λ _ b. such b) (suc n) rest | false ↦ numbers_of (λ _ b. such b) (suc n) rest ]))
    by true is h = (f n b (at 0 b refl n (omega arith)) is, h)
    by false is h = h

module _ (types : List BlockType) (c : Acts) (a : Access) (block : TypeId) (s : State) (k : List Item) (used : Used c a block s k) where
  abbrev P : PlaceOf → Way → Type 1
  P p w = Sound (Accesses c block p) s k (access_done types block a p w s).state (access_done types block a p w s).outcome

  missing_used : (p : PlaceOf) (b : Bool) → may_be_missing s.vars p ≡ b → Each1 (P p) (missing_ways b)
  missing_used p false e = tt
  missing_used place.Null true e = cc
  missing_used (place.Var x) true e =
      let ts = block_cells types block in
      let m = atom_of x block (Live (cell_contents (length s.vars) ts)) in
      let f = atom_of x block Freed in (
        subst (λ o. Sound (Accesses c block (place.Var x)) s k (use_atom a (length s.atoms) o (meet_live types block x s)).state (use_atom a (length s.atoms) o (meet_live types block x s)).outcome) (sym (get_last s.atoms m))
            (sound_met (At c a block s k used (place.Var x) m) (Accesses c block (place.Var x)) s m (s.vars ++ cell_infos ts) k (use_state a (length s.atoms) m.state (meet_live types block x s)).state (use_state a (length s.atoms) m.state (meet_live types block x s)).outcome
            (λ v fits. fits_fewer s.vars (cell_infos ts) v fits)
            (state_used c a block s k used (place.Var x) (s.vars ++ cell_infos ts) s.pure (s.pre ++ m ∷ []) (s.atoms ++ m ∷ []) (length s.atoms) m m.state (get_last s.atoms m) refl refl)
            (λ v H K l. l refl)),
        (
          subst (λ o. Sound (Accesses c block (place.Var x)) s k (use_atom a (length s.atoms) o (meet_freed block x s)).state (use_atom a (length s.atoms) o (meet_freed block x s)).outcome) (sym (get_last s.atoms f))
              (sound_met (At c a block s k used (place.Var x) f) (Accesses c block (place.Var x)) s f s.vars k (use_state a (length s.atoms) f.state (meet_freed block x s)).state (use_state a (length s.atoms) f.state (meet_freed block x s)).outcome
              (λ v fits. fits)
              (state_used c a block s k used (place.Var x) s.vars s.pure (s.pre ++ f ∷ []) (s.atoms ++ f ∷ []) (length s.atoms) f f.state (get_last s.atoms f) refl refl)
              (λ v H K l. l refl)),
          tt,
        ),
      )

  atom_way_used : (p : PlaceOf) (n : ℕ) (b : Atom) → slice_get s.atoms n ≡ Some b → (nat_eq b.block.0 block.0 && may_be_at s.vars p b) ≡ true → P p (way.Atom n)
  atom_way_used p n b e t =
      let q = and_parts (nat_eq b.block.0 block.0) (may_be_at s.vars p b) t in
      subst (λ o. Sound (Accesses c block p) s k (reach_atom a p n o s).state (reach_atom a p n o s).outcome) (sym e) (atom_used c a block s k used p n b e (eqb-true b.block.0 block.0 q.0) q.1)

  access_used : (p : PlaceOf) → Each1 (P p) (access_ways s block p)
  access_used p =
      each1_append (P p)
      (listed_if (is_open s.vars (conjunct.SamePlace p place.Null)) way.Null ++ atom_ways (numbers_of (λ n (b : Atom). nat_eq b.block.0 block.0 && may_be_at s.vars p b) 0 s.atoms))
      (missing_ways (may_be_missing s.vars p))
      (each1_append (P p) (listed_if (is_open s.vars (conjunct.SamePlace p place.Null)) way.Null) (atom_ways (numbers_of (λ n (b : Atom). nat_eq b.block.0 block.0 && may_be_at s.vars p b) 0 s.atoms))
      (each1_if (P p) (is_open s.vars (conjunct.SamePlace p place.Null)) way.Null (λ opened. null_used c a block s k used p opened))
      (each_atom (P p) (λ b. nat_eq b.block.0 block.0 && may_be_at s.vars p b) 0 s.atoms s.atoms (atom_way_used p)
      (λ i b e m is. let q : i ≡ m = omega arith in subst (λ z. slice_get s.atoms z ≡ Some b) q e)))
      (missing_used p (may_be_missing s.vars p) refl)

  -- through what an operand is, where it is a pointer to the block type
  pub content_used : (C : Can) (content : Content) → ((p : PlaceOf) (v : Valuation) (H : HeapMap) (K : WholeGoal) → content ≡ Place p → Accesses c block p v H K → C v H K) →
      Each1 (λ w. Sound C s k (through_place (on s) (accessed s.vars block content) (λ p. access_done types block a p w s)).state (through_place (on s) (accessed s.vars block content) (λ p. access_done types block a p w s)).outcome)
      (through_place [] (accessed s.vars block content) (access_ways s block))
  content_used C Unwritten f = tt
  content_used C (Word p) f = tt
  content_used C (Cell x) f = tt
  content_used C (Place p) f = by (is_place_of s.vars block p)
    where
      each1_turn : (D : Can) (g : Way → Done) → ((v : Valuation) (H : HeapMap) (K : WholeGoal) → D v H K → C v H K) → (ws : List Way) →
          Each1 (λ w. Sound D s k (g w).state (g w).outcome) ws → Each1 (λ w. Sound C s k (g w).state (g w).outcome) ws
      each1_turn D g turn [] h = tt
      each1_turn D g turn (w ∷ ws) h = (sound_turn D C s k (g w).state (g w).outcome turn h.0, each1_turn D g turn ws h.1)

      by : (q : Bool) → Each1 (λ w. Sound C s k (through_place (on s) (elim q as (λ _. Option PlaceOf) [ true ↦ Some p | false ↦ None ]) (λ p. access_done types block a p w s)).state
          (through_place (on s) (elim q as (λ _. Option PlaceOf) [ true ↦ Some p | false ↦ None ]) (λ p. access_done types block a p w s)).outcome)
          (through_place [] (elim q as (λ _. Option PlaceOf) [ true ↦ Some p | false ↦ None ]) (access_ways s block))
      by true = each1_turn (Accesses c block p) (λ w. access_done types block a p w s) (λ v H K l. f p v H K refl l) (access_ways s block p) (access_used p)
      by false = tt

-- ---- loads, stores and frees

pub unwritten_cells : (v : Valuation) (ts : List ValueType) → contents_value v (map (λ _. Unwritten) ts) ≡ map (λ _. value.Unwritten) ts
unwritten_cells v [] = refl
unwritten_cells v (t ∷ ts) = ap (λ (xs : List Value). value.Unwritten ∷ xs) (unwritten_cells v ts)

module _ (j : JobTree) (calls : ProcedureCalls Mark) (s : State) (k : List Item) (site : Site) (block : TypeId) where
  abbrev tr : MarkKind → List Mark
  tr kind = s.trace ++ record { kind = kind; site = site } ∷ []

  load_acts : ℕ → ℕ → Acts
  load_acts to field = record {
    null = λ v H K. K (tr mark.Access) (Ends (Failed (error NullDereference) site) H);
    freed = λ v H K. K (tr mark.Access) (Ends (Failed (error UseAfterFree) site) H);
    live = λ n cells v H K. K (tr mark.Access) (Goes k (slice_set (contents_value v s.slots) to (value_at cells field)) H);
  }

  load_used : (to field : ℕ) → Used (load_acts to field) (load_access to field site) block s k
  unfolding load_acts
  load_used to field = record {
    at_null = λ vars pure pre atoms. sound_plain _ (over s vars pure pre atoms) s.slots (tr mark.Access) s.loops s.steps k (ends (exit.Error NullDereference site) None) (λ v further h K l. l);
    at_freed = λ vars pure pre atoms. sound_plain _ (over s vars pure pre atoms) s.slots (tr mark.Access) s.loops s.steps k (ends (exit.Error UseAfterFree site) None) (λ v further h K l. l);
    at_live = λ vars pure pre atoms n b cells e same.
        sound_plain _ (over s vars pure pre atoms) (slice_set s.slots to (content_at cells field)) (tr mark.Access) s.loops s.steps k goes (λ v further h K l m at.
        subst (λ z. K (tr mark.Access) (Goes k z (join (heap_of v atoms) further))) (set_is v s.slots to (content_at cells field) ∙ ap (slice_set (contents_value v s.slots) to) (sym (slot_is v cells field))) l);
  }

  store_acts : ℕ → Operand → Acts
  store_acts field from = record {
    null = λ v H K. K (tr mark.Access) (Ends (Failed (error NullDereference) site) H);
    freed = λ v H K. K (tr mark.Access) (Ends (Failed (error UseAfterFree) site) H);
    live = λ n cells v H K. K (tr mark.Access) (Goes k (contents_value v s.slots) (with_block H n (live_block block.0 (slice_set cells field (operand_value (contents_value v s.slots) from)))));
  }

  block_number : {n m : ℕ} → value.Block n ≡ value.Block m → n ≡ m
  block_number e = cc

  store_used : (field : ℕ) (from : Operand) → IsInRange from → Used (store_acts field from) (store_access field (operand_content s from) site) block s k
  unfolding store_acts
  store_used field from range = record {
    at_null = λ vars pure pre atoms. sound_plain _ (over s vars pure pre atoms) s.slots (tr mark.Access) s.loops s.steps k (ends (exit.Error NullDereference site) None) (λ v further h K l. l);
    at_freed = λ vars pure pre atoms. sound_plain _ (over s vars pure pre atoms) s.slots (tr mark.Access) s.loops s.steps k (ends (exit.Error UseAfterFree site) None) (λ v further h K l. l);
    at_live = λ vars pure pre atoms n b cells e same.
        sound_changed _ (over s vars pure pre atoms) n b (Live (slice_set cells field (operand_content s from))) (tr mark.Access) k e (λ v further h K m at l m' at'.
        subst₂ (λ x (z : HeapBlock). K (tr mark.Access) (Goes k (contents_value v s.slots) (with_block (join (heap_of v atoms) further) x z)))
        (block_number (sym at ∙ at'))
        (ap₂ (λ x y. let z : HeapBlock = record { block_type = x; state = heap.Live y } in z) same
        (set_is v cells field (operand_content s from) ∙ ap (slice_set (contents_value v cells) field) (sym (operand_is v s from range)))) l);
  }

  free_acts : Acts
  free_acts = record {
    null = λ v H K. K (tr mark.FreeNull) (Goes k (contents_value v s.slots) H);
    freed = λ v H K. K (tr mark.Freed) (Ends (Failed (error DoubleFree) site) H);
    live = λ n cells v H K. K (tr mark.Freed) (Goes k (contents_value v s.slots) (with_block H n (freed_block block.0)));
  }

  free_used : Used free_acts (free_access site) block s k
  unfolding free_acts
  free_used = record {
    at_null = λ vars pure pre atoms. sound_plain _ (over s vars pure pre atoms) s.slots (tr mark.FreeNull) s.loops s.steps k goes (λ v further h K l. l);
    at_freed = λ vars pure pre atoms. sound_plain _ (over s vars pure pre atoms) s.slots (tr mark.Freed) s.loops s.steps k (ends (exit.Error DoubleFree site) None) (λ v further h K l. l);
    at_live = λ vars pure pre atoms n b cells e same.
        sound_changed _ (over s vars pure pre atoms) n b Freed (tr mark.Freed) k e (λ v further h K m at l m' at'.
        subst₂ (λ x (z : HeapBlock). K (tr mark.Freed) (Goes k (contents_value v s.slots) (with_block (join (heap_of v atoms) further) x z)))
        (block_number (sym at ∙ at')) (ap (λ x. let z : HeapBlock = record { block_type = x; state = heap.Freed } in z) same) l);
  }

  -- from an operand
  access_leads : (c : Acts) (a : Access) → Used c a block s k → (C : Can) (at : Operand) → IsInRange at → (fits : Bool) →
      ((v : Valuation) (H : HeapMap) (K : WholeGoal) → by_pointer H block.0 (operand_value (contents_value v s.slots) at) (c.null v H K) (c.freed v H K) (λ n cells. c.live n cells v H K) → C v H K) →
      Each1 (λ w. Sound C s k (pointer_done j block at a w s).state (pointer_done j block at a w s).outcome) (pointer_ways s block at fits)
  access_leads c a used C at range false f = tt
  access_leads c a used C at range true f =
      content_used j.types c a block s k used C (operand_content s at) (λ p v H K is l.
      f v H K (subst (λ u. by_pointer H block.0 u (c.null v H K) (c.freed v H K) (λ n cells. c.live n cells v H K)) (sym (operand_is v s at range ∙ ap (content_value v) is)) l))

  pub does_load : (to : ℕ) (at : Operand) (field : FieldId) → IsInRange at → Leads1 j j.types calls (load to at field block site) k k s
  unfolding load_acts
  does_load to at field range =
      access_leads (load_acts to field.0) (load_access to field.0 site) (load_used to field.0) (Does j.types calls (load to at field block site) k s) at range (is_some (field_type j block field.0)) (λ v H K l. l)

  pub does_store : (at : Operand) (field : FieldId) (from : Operand) → IsInRange at → IsInRange from → Leads1 j j.types calls (store at field block from site) k k s
  unfolding store_acts
  does_store at field from range range' =
      access_leads (store_acts field.0 from) (store_access field.0 (operand_content s from) site) (store_used field.0 from range') (Does j.types calls (store at field block from site) k s) at range
      (is_some_and (field_type j block field.0) (λ t. fits_cell s.vars t (operand_content s from))) (λ v H K l. l)

  pub does_free : (at : Operand) → IsInRange at → Leads1 j j.types calls (free at block site) k k s
  unfolding free_acts
  does_free at range = access_leads free_acts (free_access site) free_used (Does j.types calls (free at block site) k s) at range (is_some (slice_get j.types block.0)) (λ v H K l. l)

  -- ---- new blocks

  made_atom : Atom
  made_atom = atom_of (record { 0 = length s.vars }) block (Live (map (λ _. Unwritten) (block_cells j.types block)))

  made_sound : (to : ℕ) → Sound (Does j.types calls (malloc to block site) k s) s k (malloc_done j.types to block site way.Made s).state (malloc_done j.types to block site way.Made s).outcome
  unfolding Sound made_atom
  made_sound to v further h =
      let a = made_atom in
      let (n, at, out) = placed_last v s.atoms a h.placed in
      let c = block_of v a in
      let whole : heap_of v (s.atoms ++ a ∷ []) ≡ with_block (heap_of v s.atoms) n c = heap_more v s.atoms a n at out in
      let free_n : further n ≡ None = elim (h.apart n) [
        | inl none ↦ absurd (none_not_some (heap_of v (s.atoms ++ a ∷ []) n) c none (at_heap n whole ∙ with_same (heap_of v s.atoms) n c))
        | inr none ↦ none
      ] in (
        record {
          new = [];
          pre = sym (append-nil s.pre);
          holds = record {
            fits = fits_fewer s.vars (info sort.Made (Pointer block) ∷ []) v h.fits;
            true_of = h.true_of;
            placed = placed_front v s.atoms (a ∷ []) h.placed;
            apart = apart_within (heap_of v s.atoms) (heap_of v (s.atoms ++ a ∷ [])) further (within_front v s.atoms (a ∷ [])) h.apart;
          };
          keeps = λ kept. record { placed = kept.placed; within = λ m none. kept.within m (within_front v s.atoms (a ∷ []) m none) };
        },
        λ K l. inr (
          n,
          join_lacks (heap_of v s.atoms) further n out ∙ free_n,
          subst₂ (λ z g. K (tr mark.Got) (Goes k z g))
              (set_is v s.slots to (variable_content (Pointer block) (length s.vars)) ∙ ap (slice_set (contents_value v s.slots) to) at)
              (ap (λ g. join g further) whole ∙ sym (with_join (heap_of v s.atoms) further n c)
              ∙ ap (λ x. with_block (join (heap_of v s.atoms) further) n (let z : HeapBlock = record { block_type = block.0; state = heap.Live x } in z)) (unwritten_cells v (block_cells j.types block))) l,
        ),
      )

  pub does_malloc : (to : ℕ) → Leads1 j j.types calls (malloc to block site) k k s
  does_malloc to = by (slice_get j.types block.0)
    where
      by : (o : Option BlockType) → Each1 (λ w. Sound (Does j.types calls (malloc to block site) k s) s k (malloc_done j.types to block site w s).state (malloc_done j.types to block site w s).outcome) (malloc_ways o)
      by None = tt
      by (Some b) = (
        sound_plain (Does j.types calls (malloc to block site) k s) s (slice_set s.slots to (Place place.Null)) (tr mark.NoBlock) s.loops s.steps k goes (λ v further h K l.
            inl (subst (λ z. K (tr mark.NoBlock) (Goes k z (join (heap_of v s.atoms) further))) (set_is v s.slots to (Place place.Null)) l)),
        (made_sound to, tt),
      )

-- ---- inputs

module _ (j : JobTree) (types : List BlockType) (calls : ProcedureCalls Mark) (s : State) (k : List Item) where
  pub does_input : (to : ℕ) (site : Site) → Leads1 j types calls (input to site) k k s
  does_input to site =
      let x = length s.vars in
      let i = info sort.Input Int in
      let low = conjunct.AtMost (number (negsuc 0)) (variable x) in
      let high = conjunct.AtMost (variable x) (number (pos 255)) in
      let s1 : State = record s { vars = s.vars ++ i ∷ [] } in
      let s2 : State = record s1 { pure = assume s1.vars s1.pure low } in
      let s3 : State = record s2 { pure = assume s2.vars s2.pure high } in
      let slots = slice_set s.slots to (Word (variable x)) in
      let trace = s.trace ++ record { kind = mark.Input; site = site } ∷ [] in
      let t : State = record s3 { slots = slots; trace = trace } in
      let D = Does types calls (input to site) k s in
      let C : Can = λ v H K. K trace (Goes k (contents_value v slots) H) in (
        sound_variables D s (i ∷ []) k t goes
            (sound_assumed (λ v H K. Says v low → D v H K) D s1 low k t goes (λ v fits d. cc)
            (sound_assumed C (λ v H K. Says v low → D v H K) s2 high k t goes (λ v fits d. cc)
            (sound_plain C s3 slots trace s.loops s.steps k goes (λ v further h K l. l))
            (λ v further K h above l below.
            (signed (word_of v (variable x)), below, above, subst (λ z. K trace (Goes k z (join (heap_of v s.atoms) further))) (set_is v s.slots to (Word (variable x))) l)))
            (λ v further K h says l. l says)),
        tt,
      )
