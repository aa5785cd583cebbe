-- Where a way leads to a block that wasn't met, it is apart from the others.
use Rattle.std.proofs.Common.{◌≡◌, ◌&&◌, ℕ, zero, suc, ◌+◌, ◌<◌, Bool, true, false, not, cond, List, [], ◌∷◌, ◌++◌, length, map, slice_get, Option, Some, None, refl, ap, ap₂, sym, ◌∙◌, subst, arith, length-append, append-nil, Bor}
use Rattle.std.specs.Prelude.{All, is_some, IsSomeAnd}
use Rattle.std.specs.List.{list_all, list_any}
use Rattle.std.proofs.lemmas.List.{length_push}
use Rattle.std.proofs.lemmas.List.Elements.{All-head, All-tail, All-append, All-cons, All-nil, All-contains_itself, filter-append}
use Rattle.std.proofs.lemmas.List.Folds.{list_all-append}
use Rattle.std.proofs.lemmas.Option.{slice_get_within}
use Rattle.px_base.specs.declared.trace.Site.{Site}
use Rattle.px_base.specs.declared.trace.FieldId.{FieldId}
use Rattle.px_terms.specs.Conjuncts.{IsPointerVariable}
use Rattle.px_terms.specs.declared.types.TypeId.{TypeId}
use Rattle.px_terms.specs.declared.types.BlockType.{BlockType}
use Rattle.px_terms.specs.declared.types.ValueType.TheVariants.{Pointer}
use Rattle.px_terms.specs.declared.variables.Var.{Var}
use Rattle.px_terms.specs.declared.variables.VarInfo.{VarInfo}
use Rattle.px_terms.specs.declared.conjuncts.Content.{Content}
use Rattle.px_terms.specs.declared.conjuncts.Content.TheVariants as content
use Rattle.px_terms.specs.declared.conjuncts.Place.{Place}
use Rattle.px_terms.specs.declared.conjuncts.Place.TheVariants as place
use Rattle.px_plain.specs.Held.{HeldItem, OfApart, held_vars, held_conjuncts}
use Rattle.px_solver.specs.Decisions.{IsRefuted}
use Rattle.px_solver.proofs.Growing.{refuted_stays}
use Rattle.px_core.specs.declared.command.Operand.{Operand}
use Rattle.px_core.specs.declared.command.Command.{Command}
use Rattle.px_core.specs.declared.command.Command.TheVariants as C
use Rattle.px_core.specs.CommandTree.{command_tree, load, store, free}
use Rattle.px_core.specs.Control.{Item, Act}
use Rattle.px_core.proofs.CommandEquations.{tree-Load, tree-Store, tree-Free}
use Rattle.px_entry.specs.declared.atoms.Atom.{Atom}
use Rattle.px_entry.specs.declared.atoms.AtomState.{AtomState}
use Rattle.px_entry.specs.declared.atoms.AtomState.TheVariants.{Live, Freed}
use Rattle.px_entry.specs.Sorts.{is_long, is_made, is_made_sort, is_some_and, has_type, same_type, is_place_of}
use Rattle.px_entry.specs.Constraint.{found_atoms, apart_from, apart_all, separate, constraint_of}
use Rattle.px_callgraph.specs.declared.states.State.{State}
use Rattle.px_callgraph.specs.declared.states.Way.{Way}
use Rattle.px_callgraph.specs.declared.states.Way.TheVariants as way
use Rattle.px_callgraph.specs.JobTree.{JobTree}
use Rattle.px_callgraph.specs.Laws.{HasPlaces}
use Rattle.px_callgraph.specs.States.{Done, on, begun, operand_content}
use Rattle.px_callgraph.specs.Accesses as spec
use Rattle.px_callgraph.specs.Accesses.{accessed, access_done, block_cells, cell_contents, cell_infos, with_state, set_atom, use_state, use_atom, meet_live, meet_freed, load_access, store_access, free_access}
use Rattle.px_callgraph.specs.Commands.{through_place}
use Rattle.px_callgraph.specs.Alternatives.{Walk, at, leads, act}
use Rattle.px_callgraph.specs.ActsLeft.{state_of}
use Rattle.px_callgraph.proofs.CallLemmas.{last_atom}
use Rattle.px_callgraph.proofs.LengthLemmas.{length_infos}
use Rattle.px_match.specs.PathLimits.{passes_grown, Grows}
use Rattle.px_match.proofs.PathLimitLemmas.{next, none, grown_passes}
use Rattle.px_walks.specs.declared.control.Upcoming.{Upcoming}
use Rattle.px_walks.specs.declared.control.Upcoming.TheVariants as U
use Rattle.px_walks.specs.Nexts.{IsNext}
use Rattle.px_symexec.specs.Prefixes.{constraint}
use Rattle.px_explore.specs.declared.missed.Missed.{Missed}
use Rattle.px_explore.specs.Trails.{found_places, AreOf}
use Rattle.px_explore.specs.Weights.{is_placed}
use Rattle.px_explore.specs.Missed.{block_at, with_block, MayBeMet, Meets, cells_met, meeting, IsMissed}
use Rattle.px_explore.specs.Thinned.{IsShut}
use Rattle.px_explore.proofs.HeldLemmas.{placed, held_refuted}
use Rattle.px_explore.proofs.ReachLemmas.{found_more}
use Rattle.px_explore.proofs.SaidLemmas.{Uses, UsesBlocks, load_uses, store_uses, free_uses, led_state, same_operand, at_walk}

-- ---- the block is the last, whatever is done with it

set_last : (xs : List Atom) (a : Atom) (state : AtomState) → set_atom (length xs) state (xs ++ a ∷ []) ≡ xs ++ with_state state a ∷ []
set_last [] a state = refl
set_last (x ∷ xs) a state = ap (λ z. x ∷ z) (set_last xs a state)

-- the atoms are these, and this one in some state
abbrev IsLast : List Atom → Atom → List Atom → Type 0
IsLast xs a ys = (state : AtomState) × (ys ≡ xs ++ with_state state a ∷ [])

pub record KeepsOthers (a : spec.Access) : Type 0 where
  pub freed : (s : State) → (a.freed s).state.atoms ≡ s.atoms
  pub live : (cells : List Content) (s : State) (xs : List Atom) (b : Atom) → s.atoms ≡ xs ++ b ∷ [] → IsLast xs b (a.live (length xs) cells s).state.atoms

load_keeps : (to field : ℕ) (site : Site) → KeepsOthers (load_access to field site)
load_keeps to field site = record { freed = λ s. refl; live = λ cells s xs b e. (b.state, e) }

store_keeps : (field : ℕ) (content : Content) (site : Site) → KeepsOthers (store_access field content site)
store_keeps field content site = record { freed = λ s. refl; live = λ cells s xs b e. (_, ap (set_atom (length xs) _) e ∙ set_last xs b _) }

free_keeps : (site : Site) → KeepsOthers (free_access site)
free_keeps site = record { freed = λ s. refl; live = λ cells s xs b e. (Freed, ap (set_atom (length xs) Freed) e ∙ set_last xs b Freed) }

-- ---- where the way leads

-- a state in which a block is met, with these variables new
pub record HasMet (s t : State) (infos : List VarInfo) (m : Missed) : Type 0 where
  pub vars : t.vars ≡ s.vars ++ infos
  pub pure : t.pure ≡ s.pure
  pub atoms : (state : AtomState) × (t.atoms ≡ s.atoms ++ block_at m state ∷ [])

-- what is done with the block, where it was met in this state
met_grows : (s t : State) (infos : List VarInfo) (b : Atom) (d : Done) (cells : ℕ) → t.trace ≡ s.trace → t.steps ≡ s.steps + 1 → t.pure ≡ s.pure → t.atoms ≡ s.atoms ++ b ∷ [] → t.vars ≡ s.vars ++ infos →
    length infos ≡ cells → Uses t d → Grows s (meeting cells) d
met_grows s t infos b d cells e1 e2 e3 e4 e5 n u = record {
  marks = ap length (u.trace.1 ∙ ap (λ z. z ++ u.trace.0 ∷ []) e1) ∙ length_push s.trace u.trace.0;
  commands = u.steps ∙ e2;
  conjuncts = ap length (u.pure ∙ e3) ∙ none (length s.pure);
  atoms = u.atoms ∙ ap length e4 ∙ length_push s.atoms b;
  variables = ap length (u.vars ∙ e5) ∙ length-append s.vars infos ∙ ap (λ z. length s.vars + z) n;
  long_term = ap (list_any is_long) u.terms;
}

met_state : (s t : State) (k : List Item) (infos : List VarInfo) (m : Missed) (state : AtomState) (d : Done) (cells : ℕ) → t.trace ≡ s.trace → t.steps ≡ s.steps + 1 → t.pure ≡ s.pure →
    t.atoms ≡ s.atoms ++ block_at m state ∷ [] → t.vars ≡ s.vars ++ infos → length infos ≡ cells → passes_grown s (meeting cells) ≡ None → Uses t d →
    IsLast s.atoms (block_at m state) d.state.atoms → HasMet s (state_of (leads s d (at k))) infos m
met_state s t k infos m state d cells e1 e2 e3 e4 e5 n r u l =
    let there : state_of (leads s d (at k)) ≡ d.state = led_state s d k d.outcome u.bound (grown_passes s (meeting cells) d (met_grows s t infos (block_at m state) d cells e1 e2 e3 e4 e5 n u) ∙ r) in
    subst (λ (z : State). HasMet s z infos m) (sym there) (record { vars = u.vars ∙ e5; pure = u.pure ∙ e3; atoms = (l.0, l.1) })

-- through the last atom
use_met : (a : spec.Access) (s t : State) (k : List Item) (infos : List VarInfo) (m : Missed) (b : Atom) (o : Option Atom) → o ≡ Some b →
    HasMet s (state_of (leads s (use_state a (length s.atoms) b.state t) (at k))) infos m → HasMet s (state_of (leads s (use_atom a (length s.atoms) o t) (at k))) infos m
use_met a s t k infos m b o e h = subst (λ (z : Option Atom). HasMet s (state_of (leads s (use_atom a (length s.atoms) z t) (at k))) infos m) (sym e) h

live_met : (types : List BlockType) (block : TypeId) (a : spec.Access) → UsesBlocks a → KeepsOthers a → (s : State) (k : List Item) (x : Var) (cells : ℕ) → Some (length (block_cells types block)) ≡ Some cells →
    passes_grown s (meeting cells) ≡ None → HasMet s (state_of (leads s (access_done types block a (place.Var x) way.MissingLive (begun s)) (at k))) (cell_infos (block_cells types block)) (record { place = x; block = block })
live_met types block a h q s k x cells e r =
    let t = meet_live types block x (begun s) in
    let infos = cell_infos (block_cells types block) in
    let m : Missed = record { place = x; block = block } in
    let contents = cell_contents (length s.vars) (block_cells types block) in
    let n : length (block_cells types block) ≡ cells = cc in
    use_met a s t k infos m (block_at m (Live contents)) _ (last_atom s.atoms (block_at m (Live contents)))
    (met_state s t k infos m (Live contents) (a.live (length s.atoms) contents t) cells refl (next s.steps) refl refl refl (length_infos (block_cells types block) ∙ n) r (h.live (length s.atoms) contents t)
    (q.live contents t s.atoms (block_at m (Live contents)) refl))

freed_met : (types : List BlockType) (block : TypeId) (a : spec.Access) → UsesBlocks a → KeepsOthers a → (s : State) (k : List Item) (x : Var) (cells : ℕ) → Some 0 ≡ Some cells → passes_grown s (meeting cells) ≡ None →
    HasMet s (state_of (leads s (access_done types block a (place.Var x) way.MissingFreed (begun s)) (at k))) [] (record { place = x; block = block })
freed_met types block a h q s k x cells e r =
    let t = meet_freed block x (begun s) in
    let m : Missed = record { place = x; block = block } in
    let n : 0 ≡ cells = cc in
    use_met a s t k [] m (block_at m Freed) _ (last_atom s.atoms (block_at m Freed))
    (met_state s t k [] m Freed (a.freed t) cells refl (next s.steps) refl refl (sym (append-nil s.vars)) n r (h.freed t) (Freed, q.freed t))

-- by either way
abbrev HasMetSo : State → State → Missed → Type 0
HasMetSo s t m = (infos : List VarInfo) × HasMet s t infos m

access_met : (types : List BlockType) (block : TypeId) (a : spec.Access) → UsesBlocks a → KeepsOthers a → (s : State) (k : List Item) (x : Var) (name : Way) (cells : ℕ) → cells_met types block name ≡ Some cells →
    passes_grown s (meeting cells) ≡ None → HasMetSo s (state_of (leads s (access_done types block a (place.Var x) name (begun s)) (at k))) (record { place = x; block = block })
access_met types block a h q s k x way.MissingLive cells e r = (cell_infos (block_cells types block), live_met types block a h q s k x cells e r)
access_met types block a h q s k x way.MissingFreed cells e r = ([], freed_met types block a h q s k x cells e r)
access_met types block a h q s k x way.On cells e r = cc
access_met types block a h q s k x way.Then cells e r = cc
access_met types block a h q s k x way.Else cells e r = cc
access_met types block a h q s k x way.Null cells e r = cc
access_met types block a h q s k x way.Made cells e r = cc
access_met types block a h q s k x way.Written cells e r = cc
access_met types block a h q s k x way.Unwritten cells e r = cc
access_met types block a h q s k x (way.Atom n) cells e r = cc
access_met types block a h q s k x way.Missing cells e r = cc
access_met types block a h q s k x (way.Entry n) cells e r = cc
access_met types block a h q s k x way.Drop cells e r = cc
access_met types block a h q s k x way.ByZero cells e r = cc
access_met types block a h q s k x way.Divided cells e r = cc

through_met : (types : List BlockType) (block : TypeId) (a : spec.Access) → UsesBlocks a → KeepsOthers a → (s : State) (k : List Item) (o : Option Place) (at' : Operand) (name : Way) (m : Missed) →
    o ≡ accessed s.vars block (operand_content s at') → IsMissed types s block at' name m →
    HasMetSo s (state_of (leads s (through_place (on (begun s)) o (λ p. access_done types block a p name (begun s))) (at k))) m
through_met types block a h q s k o at' name m e i =
    subst (λ (z : Option Place). HasMetSo s (state_of (leads s (through_place (on (begun s)) z (λ p. access_done types block a p name (begun s))) (at k))) m) (sym (e ∙ i.through))
    (subst (λ (z : TypeId). HasMetSo s (state_of (leads s (access_done types block a (place.Var m.place) name (begun s)) (at k))) (record { place = m.place; block = z })) (sym i.block_is)
    (access_met types block a h q s k m.place name i.cells i.cells_are i.room))

may_be_met : (types : List BlockType) (s : State) (block : TypeId) (at' : Operand) (name : Way) (m : Missed) → IsMissed types s block at' name m → MayBeMet s m
may_be_met types s block at' name m i = record { placed = subst (λ z. has_type s.vars (Pointer z) m.place.0 ≡ true) (sym i.block_is) (by (operand_content s at') i.through); found = i.found }
  where
    of : (p : Place) (b : Bool) → is_place_of s.vars block p ≡ b → elim b as (λ _. Option Place) [ true ↦ Some p | false ↦ None ] ≡ Some (place.Var m.place) → has_type s.vars (Pointer block) m.place.0 ≡ true
    of p true e f = (let same : p ≡ place.Var m.place = cc in subst (λ z. is_place_of s.vars block z ≡ true) same e)
    of p false e f = cc

    by : (c : Content) → accessed s.vars block c ≡ Some (place.Var m.place) → has_type s.vars (Pointer block) m.place.0 ≡ true
    by content.Unwritten e = cc
    by (content.Word p) e = cc
    by (content.Place p) e = of p (is_place_of s.vars block p) refl e
    by (content.Cell y) e = cc

meets_by : (j : JobTree) (w : Walk) (name : Way) (m : Missed) → MayBeMet w.state m → HasMetSo w.state (state_of (act j w name)) m → Meets j w name m
meets_by j w name m b (infos, h) = record { vars = (infos, h.vars); pure = h.pure; atoms = h.atoms; may_be = b }

load_meets : (j : JobTree) (s : State) (k : List Item) (to : ℕ) (from : Operand) (field : FieldId) (block : TypeId) (site : Site) (name : Way) (m : Missed) → IsMissed j.types s block from name m →
    Meets j (at (Act (load to from field block site) ∷ k) s) name m
unfolding act
load_meets j s k to from field block site name m i =
    meets_by j (at (Act (load to from field block site) ∷ k) s) name m (may_be_met j.types s block from name m i)
    (through_met j.types block (load_access to field.0 site) (load_uses to field.0 site) (load_keeps to field.0 site) s k _ from name m (ap (accessed s.vars block) (same_operand s from)) i)

store_meets : (j : JobTree) (s : State) (k : List Item) (to : Operand) (field : FieldId) (block : TypeId) (from : Operand) (site : Site) (name : Way) (m : Missed) → IsMissed j.types s block to name m →
    Meets j (at (Act (store to field block from site) ∷ k) s) name m
unfolding act
store_meets j s k to field block from site name m i =
    meets_by j (at (Act (store to field block from site) ∷ k) s) name m (may_be_met j.types s block to name m i)
    (through_met j.types block (store_access field.0 (operand_content (begun s) from) site) (store_uses field.0 (operand_content (begun s) from) site) (store_keeps field.0 (operand_content (begun s) from) site) s k _ to name m
    (ap (accessed s.vars block) (same_operand s to)) i)

free_meets : (j : JobTree) (s : State) (k : List Item) (from : Operand) (block : TypeId) (site : Site) (name : Way) (m : Missed) → IsMissed j.types s block from name m → Meets j (at (Act (free from block site) ∷ k) s) name m
unfolding act
free_meets j s k from block site name m i =
    meets_by j (at (Act (free from block site) ∷ k) s) name m (may_be_met j.types s block from name m i)
    (through_met j.types block (free_access site) (free_uses site) (free_keeps site) s k _ from name m (ap (accessed s.vars block) (same_operand s from)) i)

-- ---- of the command that comes next

pub load_met : (j : JobTree) (s : State) (k : List Item) (command : Command) (to : ℕ) (from : Operand) (field : FieldId) (block : TypeId) (site : Site) (name : Way) (m : Missed) →
    command ≡ C.Load to from field block site → IsMissed j.types s block from name m → Meets j (at (Act (command_tree command) ∷ k) s) name m
load_met j s k command to from field block site name m e i =
    subst (λ z. Meets j (at (Act z ∷ k) s) name m) (sym (ap command_tree e ∙ tree-Load to from field block site)) (load_meets j s k to from field block site name m i)

pub store_met : (j : JobTree) (s : State) (k : List Item) (command : Command) (to : Operand) (field : FieldId) (block : TypeId) (from : Operand) (site : Site) (name : Way) (m : Missed) →
    command ≡ C.Store to field block from site → IsMissed j.types s block to name m → Meets j (at (Act (command_tree command) ∷ k) s) name m
store_met j s k command to field block from site name m e i =
    subst (λ z. Meets j (at (Act z ∷ k) s) name m) (sym (ap command_tree e ∙ tree-Store to field block from site)) (store_meets j s k to field block from site name m i)

pub free_met : (j : JobTree) (s : State) (k : List Item) (command : Command) (from : Operand) (block : TypeId) (site : Site) (name : Way) (m : Missed) → command ≡ C.Free from block site →
    IsMissed j.types s block from name m → Meets j (at (Act (command_tree command) ∷ k) s) name m
free_met j s k command from block site name m e i =
    subst (λ z. Meets j (at (Act z ∷ k) s) name m) (sym (ap command_tree e ∙ tree-Free from block site)) (free_meets j s k from block site name m i)

-- where no call is going on
pub next_met : (j : JobTree) (w : Walk) (next : Upcoming) (command : Bor Command) (rest : List Item) (name : Way) (m : Missed) → next ≡ U.Command command → IsNext next w.control rest →
    is_some w.call ≡ false → Meets j (at (Act (command_tree command.now) ∷ rest) w.state) name m → Meets j w name m
next_met j w next command rest name m e n f h =
    let k : w.control ≡ Act (command_tree command.now) ∷ rest = subst (λ z. IsNext z w.control rest) e n in
    subst (λ z. Meets j z name m) (sym (at_walk w (Act (command_tree command.now) ∷ rest) w.call refl f k)) h

-- ---- what it assumes there

made_longer : (vars more : List VarInfo) (x : ℕ) → x < length vars → is_made (vars ++ more) x ≡ is_made vars x
made_longer vars more x l = ap (λ z. is_some_and z (λ (i : VarInfo). is_made_sort i.sort)) (get_longer vars x l)
  where
    get_longer : (vars : List VarInfo) (x : ℕ) → x < length vars → slice_get (vars ++ more) x ≡ slice_get vars x
    get_longer [] x l = absurd (omega (arith, l))
    get_longer (i ∷ vars) zero l = refl
    get_longer (i ∷ vars) (suc x) l = get_longer vars x (omega (arith, l))

found_longer : (vars more : List VarInfo) (atoms : List Atom) → All (λ (a : Atom). a.place.0 < length vars) atoms → found_atoms (vars ++ more) atoms ≡ found_atoms vars atoms
found_longer vars more [] h = refl
found_longer vars more (a ∷ rest) h =
    ap (λ z. cond (not z) (a ∷ found_atoms (vars ++ more) rest) (found_atoms (vars ++ more) rest)) (made_longer vars more a.place.0 (All-head (λ (a : Atom). a.place.0 < length vars) a rest h))
    ∙ ap (λ z. cond (not (is_made vars a.place.0)) (a ∷ z) z) (found_longer vars more rest (All-tail (λ (a : Atom). a.place.0 < length vars) a rest h))

-- the state of the last one doesn't matter
apart_last : (earlier xs : List Atom) (m : Missed) (state : AtomState) → apart_all earlier (xs ++ block_at m state ∷ []) ≡ apart_all earlier (xs ++ block_at m Freed ∷ [])
apart_last earlier [] m state = refl
apart_last earlier (x ∷ xs) m state = ap (λ z. apart_from earlier x ++ z) (apart_last (earlier ++ x ∷ []) xs m state)

found_last : (vars : List VarInfo) (xs : List Atom) (m : Missed) (state : AtomState) → is_made vars m.place.0 ≡ false → found_atoms vars (xs ++ block_at m state ∷ []) ≡ found_atoms vars xs ++ block_at m state ∷ []
found_last vars xs m state e =
    filter-append (λ (a : Atom). not (is_made vars a.place.0)) xs (block_at m state ∷ []) ∙ ap (λ z. found_atoms vars xs ++ cond (not z) (block_at m state ∷ []) []) e

separate_last : (vars : List VarInfo) (xs : List Atom) (m : Missed) (state : AtomState) → is_made vars m.place.0 ≡ false → separate vars (xs ++ block_at m state ∷ []) ≡ separate vars (xs ++ block_at m Freed ∷ [])
separate_last vars xs m state e =
    ap (apart_all []) (found_last vars xs m state e) ∙ apart_last [] (found_atoms vars xs) m state ∙ ap (apart_all []) (sym (found_last vars xs m Freed e))

placed_within : (vars : List VarInfo) (m : Missed) → has_type vars (Pointer m.block) m.place.0 ≡ true → m.place.0 < length vars
placed_within vars m e = by (slice_get vars m.place.0) refl e
  where
    by : (o : Option VarInfo) → slice_get vars m.place.0 ≡ o → is_some_and o (λ (i : VarInfo). same_type i.value (Pointer m.block)) ≡ true → m.place.0 < length vars
    by None g e = cc
    by (Some i) g e = slice_get_within vars m.place.0 i g

met_constraint : (s t : State) (more : List VarInfo) (m : Missed) (state : AtomState) → HasPlaces s → MayBeMet s m → t.vars ≡ s.vars ++ more → t.pure ≡ s.pure → t.atoms ≡ s.atoms ++ block_at m state ∷ [] →
    constraint t ≡ constraint (with_block s m)
met_constraint s t more m state h b e f g =
    let within : All (λ (a : Atom). a.place.0 < length s.vars) (s.atoms ++ block_at m state ∷ []) =
    All-append (λ (a : Atom). a.place.0 < length s.vars) s.atoms (block_at m state ∷ []) h
    (All-cons (λ (a : Atom). a.place.0 < length s.vars) (block_at m state) [] (placed_within s.vars m b.placed) (All-nil (λ (a : Atom). a.place.0 < length s.vars))) in
    ap (λ z. constraint_of t.vars z t.atoms) f ∙ ap (λ z. constraint_of t.vars s.pure z) g ∙ ap (λ z. constraint_of z s.pure (s.atoms ++ block_at m state ∷ [])) e
    ∙ ap (λ z. s.pure ++ apart_all [] z) (found_longer s.vars more (s.atoms ++ block_at m state ∷ []) within) ∙ ap (λ z. s.pure ++ z) (separate_last s.vars s.atoms m state b.found)

-- what is refuted with the block is refuted where it is met
pub shut_missed : (j : JobTree) (w : Walk) (name : Way) (m : Missed) → HasPlaces w.state → Meets j w name m → IsRefuted w.state.vars (constraint (with_block w.state m)) j.kinds → IsShut j w name
shut_missed j w name m h k r =
    let s = w.state in
    let t = state_of (act j w name) in
    let cs = constraint (with_block s m) in
    let longer : IsRefuted (s.vars ++ k.vars.0) cs j.kinds = refuted_stays.grows s.vars k.vars.0 cs cs j.kinds (All-contains_itself cs) r in
    subst (λ vars. IsRefuted vars (constraint t) j.kinds) (sym k.vars.1)
    (subst (λ z. IsRefuted (s.vars ++ k.vars.0) z j.kinds) (sym (met_constraint s t k.vars.0 m k.atoms.0 h k.may_be k.vars.1 k.pure k.atoms.1)) longer)

-- ---- what is held with it

with_apart : (s : State) (items : List HeldItem) (m : Missed) → MayBeMet s m → AreOf s items → AreOf (with_block s m) (OfApart m.place.0 ∷ items)
with_apart s items m b o = record {
  vars = o.vars;
  pure = o.pure;
  places = ap (λ z. z ++ m.place.0 ∷ []) o.places
      ∙ ap (λ z. found_places s.vars s.atoms ++ map (λ (a : Atom). a.place.0) (cond (not z) (block_at m Freed ∷ []) [])) (sym b.found)
      ∙ sym (found_more s.vars s.atoms (block_at m Freed ∷ []));
}

placed_with : (s : State) (m : Missed) → MayBeMet s m → list_all (is_placed s.vars) s.atoms ≡ true → list_all (is_placed s.vars) (s.atoms ++ block_at m Freed ∷ []) ≡ true
placed_with s m b e = list_all-append (is_placed s.vars) s.atoms (block_at m Freed ∷ []) ∙ ap₂ (λ x y. x && (y && true)) e b.placed

pub against_missed : (s : State) (items : List HeldItem) (m : Missed) (kinds : List ℕ) → MayBeMet s m → AreOf s items → list_all (is_placed s.vars) s.atoms ≡ true →
    IsRefuted (held_vars items) (held_conjuncts (OfApart m.place.0 ∷ items)) kinds → IsRefuted s.vars (constraint (with_block s m)) kinds
against_missed s items m kinds b o p r = held_refuted (with_block s m) (OfApart m.place.0 ∷ items) kinds (with_apart s items m b o) (placed_with s m b p) r

-- its place may be put on
pub missed_pointer : (s : State) (m : Missed) → MayBeMet s m → IsPointerVariable s.vars m.place.0
missed_pointer s m b =
    let (i, g, t) = placed s.vars (block_at m Freed) b.placed in subst (λ z. IsSomeAnd z (λ (i : VarInfo). (t : TypeId) × (i.value ≡ Pointer t))) (sym g) (m.block, t)
