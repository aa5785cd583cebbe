-- What an act adds to a state: marks, commands that began, variables, conjuncts and blocks. It takes none away.
use Rattle.std.proofs.Common.{◌≡◌, ℕ, zero, suc, ◌+◌, ◌≤◌, ◌||◌, List, [], ◌∷◌, ◌++◌, map, length, Bool, true, false, Option, Some, None, slice_get, slice_set, refl, ap, sym, ◌∙◌, append_assoc, append-nil, arith}
use Rattle.std.specs.Prelude.{fold, flat_map}
use Rattle.std.proofs.lemmas.List.{map-append, length-append}
use Rattle.px_base.specs.declared.trace.Site.{Site}
use Rattle.px_base.specs.declared.trace.Mark.{Mark}
use Rattle.px_base.specs.declared.trace.MarkKind.{MarkKind}
use Rattle.px_base.specs.declared.trace.MarkKind.TheVariants as mark
use Rattle.px_terms.specs.Polynomials.{Polynomial}
use Rattle.px_terms.specs.declared.types.TypeId.{TypeId}
use Rattle.px_terms.specs.declared.types.BlockType.{BlockType}
use Rattle.px_terms.specs.declared.types.ValueType.TheVariants.{Int, Pointer}
use Rattle.px_terms.specs.declared.variables.Var.{Var}
use Rattle.px_terms.specs.declared.variables.VarInfo.{VarInfo}
use Rattle.px_terms.specs.declared.variables.Sort.TheVariants as sort
use Rattle.px_terms.specs.declared.conjuncts.Place.{Place as PlaceOf}
use Rattle.px_terms.specs.declared.conjuncts.Place.TheVariants as place
use Rattle.px_terms.specs.declared.conjuncts.Content.{Content}
use Rattle.px_terms.specs.declared.conjuncts.Content.TheVariants.{Unwritten, Word, Place, Cell}
use Rattle.px_terms.specs.declared.conjuncts.Conj.{Conj}
use Rattle.px_terms.specs.declared.conjuncts.Conj.TheVariants as conjunct
use Rattle.px_core.specs.CommandTree.{CommandTree, assign, unset, read, test, choose, loop, leave, load, store, malloc, free, input, call, return, break, continue, stop, divide}
use Rattle.px_entry.specs.declared.atoms.Atom.{Atom}
use Rattle.px_entry.specs.declared.atoms.AtomState.{AtomState}
use Rattle.px_entry.specs.declared.atoms.AtomState.TheVariants.{Live, Freed}
use Rattle.px_entry.specs.declared.entries.Entry.{Entry}
use Rattle.px_entry.specs.declared.entries.Exit.{Exit}
use Rattle.px_entry.specs.declared.entries.Exit.TheVariants as exit
use Rattle.px_entry.specs.Decided.{word_of, assume, is_true, decided, stands_in}
use Rattle.px_entry.specs.Cases.{is_freed}
use Rattle.px_entry.specs.Contents.{variable_content}
use Rattle.px_entry.specs.Constraint.{found_atoms, made_atoms}
use Rattle.px_callgraph.specs.declared.states.State.{State}
use Rattle.px_callgraph.specs.declared.states.Way.{Way}
use Rattle.px_callgraph.specs.declared.states.Way.TheVariants as way
use Rattle.px_callgraph.specs.JobTree.{JobTree}
use Rattle.px_callgraph.specs.States.{on, content_at, operand_content, set_slot, marked, begun, assumed, info, with_variables, with_atom, met}
use Rattle.px_callgraph.specs.Operations.{operation, condition, contrary}
use Rattle.px_callgraph.specs.Accesses.{Access, accessed, atom_of, block_cells, cell_infos, meet_live, meet_freed, set_atom, change_atom, load_access, store_access, free_access, use_state, use_atom, reach_atom, reach_missing, access_done}
use Rattle.px_callgraph.specs.Commands.{read_cell, read_written, read_unwritten, read_done, test_outcome, test_done, last_loop, leaving, make, malloc_done, assume_all, is_input_byte, input_done, constant_quotient, quotient_by, words_divided, divide_done, returned, return_done, through_place, assign_done, act_done}
use Rattle.px_callgraph.specs.Renaming.{Substitution, Claim, surely, never, claims, claim_through, assume_claim, state_through, new_variables}
use Rattle.px_callgraph.specs.Calls.{Calling, take_atom, take_case, meet_required, assume_entry, update_atoms, made_through, leave_atoms, add_trace, result_through, keep_result, end_call, entry_terms, finish_with, stand_all, finish_call}

-- ---- lists that go on

-- the second list begins with the first
abbrev pub Extends : {A : Type 0} → List A → List A → Type 0
Extends {A} xs ys = (more : List A) × (ys ≡ xs ++ more)

pub extends_same : {A : Type 0} {xs ys : List A} → ys ≡ xs → Extends xs ys
extends_same {A} {xs} {ys} e = ([], e ∙ sym (append-nil xs))

pub extends_trans : {A : Type 0} (xs ys zs : List A) → Extends xs ys → Extends ys zs → Extends xs zs
extends_trans xs ys zs f g = (f.0 ++ g.0, g.1 ∙ ap (λ z. z ++ g.0) f.1 ∙ append_assoc xs f.0 g.0)

pub extends_length : {A : Type 0} (xs ys : List A) → Extends xs ys → length xs ≤ length ys
extends_length xs ys f = let e : length ys ≡ length xs + length f.0 = ap length f.1 ∙ length-append xs f.0 in omega arith

-- ---- states that go on

-- the place and the block type of an atom
abbrev pub base : Atom → Var × TypeId
base a = (a.place, a.block)

-- what a state has, the other has too, but the states of blocks
pub record Grows (s t : State) : Type 0 where
  pub trace : Extends s.trace t.trace
  pub steps : s.steps ≤ t.steps
  pub vars : Extends s.vars t.vars
  pub pure : Extends s.pure t.pure
  pub atoms : Extends (map base s.atoms) (map base t.atoms)

pub grows_same : (s t : State) → t.trace ≡ s.trace → t.steps ≡ s.steps → t.vars ≡ s.vars → t.pure ≡ s.pure → t.atoms ≡ s.atoms → Grows s t
grows_same s t e f g h i =
    record { trace = extends_same e; steps = omega arith; vars = extends_same g; pure = extends_same h; atoms = extends_same (ap (map base) i) }

pub grows_self : (s : State) → Grows s s
grows_self s = grows_same s s refl refl refl refl refl

pub grows_trans : (s t u : State) → Grows s t → Grows t u → Grows s u
grows_trans s t u f g = record {
  trace = extends_trans s.trace t.trace u.trace f.trace g.trace;
  steps = (let a = f.steps in let b = g.steps in omega arith);
  vars = extends_trans s.vars t.vars u.vars f.vars g.vars;
  pure = extends_trans s.pure t.pure u.pure f.pure g.pure;
  atoms = extends_trans (map base s.atoms) (map base t.atoms) (map base u.atoms) f.atoms g.atoms;
}

pub grows_begun : (s : State) → Grows s (begun s)
grows_begun s = record { trace = extends_same refl; steps = omega arith; vars = extends_same refl; pure = extends_same refl; atoms = extends_same refl }

pub grows_add : (marks : List Mark) (s : State) → Grows s (add_trace marks s)
grows_add marks s = record { trace = (marks, refl); steps = omega arith; vars = extends_same refl; pure = extends_same refl; atoms = extends_same refl }

pub grows_marked : (kind : MarkKind) (site : Site) (s : State) → Grows s (marked kind site s)
grows_marked kind site s = grows_add (record { kind = kind; site = site } ∷ []) s

assume_extends : (vars : List VarInfo) (pure : List Conj) (c : Conj) → Extends pure (assume vars pure c)
assume_extends vars pure c = by (is_true (decided vars c) || stands_in pure c)
  where
    by : (b : Bool) → Extends pure (elim b as (λ _. List Conj) [ true ↦ pure | false ↦ pure ++ c ∷ [] ])
    by true = extends_same refl
    by false = (c ∷ [], refl)

pub grows_pure : (s : State) (pure : List Conj) → Extends s.pure pure → Grows s (record s { pure = pure })
grows_pure s pure e = record { trace = extends_same refl; steps = omega arith; vars = extends_same refl; pure = e; atoms = extends_same refl }

pub grows_assumed : (c : Conj) (s : State) → Grows s (assumed c s)
grows_assumed c s = grows_pure s (assume s.vars s.pure c) (assume_extends s.vars s.pure c)

pub grows_variables : (new : List VarInfo) (s : State) → Grows s (with_variables new s)
grows_variables new s = record { trace = extends_same refl; steps = omega arith; vars = (new, refl); pure = extends_same refl; atoms = extends_same refl }

pub grows_atoms : (s : State) (atoms : List Atom) → Extends (map base s.atoms) (map base atoms) → Grows s (record s { atoms = atoms })
grows_atoms s atoms e = record { trace = extends_same refl; steps = omega arith; vars = extends_same refl; pure = extends_same refl; atoms = e }

atoms_extend : (xs ys : List Atom) → Extends (map base xs) (map base (xs ++ ys))
atoms_extend xs ys = (map base ys, map-append base xs ys)

pub grows_with : (a : Atom) (s : State) → Grows s (with_atom a s)
grows_with a s = grows_atoms s (s.atoms ++ a ∷ []) (atoms_extend s.atoms (a ∷ []))

pub grows_met : (a : Atom) (s : State) → Grows s (met a s)
grows_met a s = record { trace = extends_same refl; steps = omega arith; vars = extends_same refl; pure = extends_same refl; atoms = atoms_extend s.atoms (a ∷ []) }

pub grows_slot : (n : ℕ) (c : Content) (s : State) → Grows s (set_slot n c s)
grows_slot n c s = grows_same s (set_slot n c s) refl refl refl refl refl

pub set_bases : (n : ℕ) (state : AtomState) (atoms : List Atom) → map base (set_atom n state atoms) ≡ map base atoms
set_bases n state [] = refl
set_bases zero state (a ∷ rest) = refl
set_bases (suc n) state (a ∷ rest) = ap (λ z. base a ∷ z) (set_bases n state rest)

pub grows_changed : (n : ℕ) (state : AtomState) (s : State) → Grows s (change_atom n state s)
grows_changed n state s = grows_atoms s (set_atom n state s.atoms) (extends_same (set_bases n state s.atoms))

-- ---- accesses

-- what a command does in the three outcomes
pub record GrowsAll (a : Access) : Type 0 where
  pub null : (s : State) → Grows s (a.null s).state
  pub freed : (s : State) → Grows s (a.freed s).state
  pub live : (n : ℕ) (cells : List Content) (s : State) → Grows s (a.live n cells s).state

load_grows : (to field : ℕ) (site : Site) → GrowsAll (load_access to field site)
load_grows to field site = record {
  null = λ s. grows_marked mark.Access site s;
  freed = λ s. grows_marked mark.Access site s;
  live = λ n cells s. grows_trans s (marked mark.Access site s) _ (grows_marked mark.Access site s) (grows_slot to (content_at cells field) (marked mark.Access site s));
}

store_grows : (field : ℕ) (c : Content) (site : Site) → GrowsAll (store_access field c site)
store_grows field c site = record {
  null = λ s. grows_marked mark.Access site s;
  freed = λ s. grows_marked mark.Access site s;
  live = λ n cells s. grows_trans s (marked mark.Access site s) _ (grows_marked mark.Access site s) (grows_changed n (Live (slice_set cells field c)) (marked mark.Access site s));
}

free_grows : (site : Site) → GrowsAll (free_access site)
free_grows site = record {
  null = λ s. grows_marked mark.FreeNull site s;
  freed = λ s. grows_marked mark.Freed site s;
  live = λ n cells s. grows_trans s (marked mark.Freed site s) _ (grows_marked mark.Freed site s) (grows_changed n Freed (marked mark.Freed site s));
}

grows_live : (types : List BlockType) (block : TypeId) (x : Var) (s : State) → Grows s (meet_live types block x s)
grows_live types block x s = grows_trans s (met (atom_of x block (Live _)) s) _ (grows_met (atom_of x block (Live _)) s) (grows_variables (cell_infos (block_cells types block)) (met (atom_of x block (Live _)) s))

grows_freed : (block : TypeId) (x : Var) (s : State) → Grows s (meet_freed block x s)
grows_freed block x s = grows_met (atom_of x block Freed) s

module _ (types : List BlockType) (block : TypeId) (a : Access) (g : GrowsAll a) where
  use_grows : (n : ℕ) (state : AtomState) (s : State) → Grows s (use_state a n state s).state
  use_grows n (Live cells) s = g.live n cells s
  use_grows n Freed s = g.freed s

  use_atom_grows : (n : ℕ) (o : Option Atom) (s : State) → Grows s (use_atom a n o s).state
  use_atom_grows n None s = grows_self s
  use_atom_grows n (Some b) s = use_grows n b.state s

  reach_grows : (p : PlaceOf) (n : ℕ) (o : Option Atom) (s : State) → Grows s (reach_atom a p n o s).state
  reach_grows p n None s = grows_self s
  reach_grows p n (Some b) s =
      let c = conjunct.SamePlace p (place.Var b.place) in
      grows_trans s (assumed c s) _ (grows_assumed c s) (use_grows n b.state (assumed c s))

  missing_grows : (meet : Var → State → State) → ((x : Var) (s : State) → Grows s (meet x s)) → (p : PlaceOf) (s : State) → Grows s (reach_missing meet a p s).state
  missing_grows meet m place.Null s = grows_self s
  missing_grows meet m (place.Var x) s =
      grows_trans s (meet x s) _ (m x s) (use_atom_grows (length s.atoms) (slice_get (meet x s).atoms (length s.atoms)) (meet x s))

  access_grows : (p : PlaceOf) (w : Way) (s : State) → Grows s (access_done types block a p w s).state
  access_grows p way.Null s = grows_trans s (assumed (conjunct.SamePlace p place.Null) s) _ (grows_assumed (conjunct.SamePlace p place.Null) s) (g.null (assumed (conjunct.SamePlace p place.Null) s))
  access_grows p (way.Atom n) s = reach_grows p n (slice_get s.atoms n) s
  access_grows p way.MissingLive s = missing_grows (meet_live types block) (grows_live types block) p s
  access_grows p way.MissingFreed s = missing_grows (meet_freed block) (grows_freed block) p s
  access_grows p way.On s = grows_self s
  access_grows p way.Then s = grows_self s
  access_grows p way.Else s = grows_self s
  access_grows p way.Made s = grows_self s
  access_grows p way.Written s = grows_self s
  access_grows p way.Unwritten s = grows_self s
  access_grows p way.Missing s = grows_self s
  access_grows p (way.Entry n) s = grows_self s
  access_grows p way.Drop s = grows_self s
  access_grows p way.ByZero s = grows_self s
  access_grows p way.Divided s = grows_self s

  through_grows : (o : Option PlaceOf) (w : Way) (s : State) → Grows s (through_place (on s) o (λ p. access_done types block a p w s)).state
  through_grows None w s = grows_self s
  through_grows (Some p) w s = access_grows p w s

-- ---- the other commands

assign_grows : (to : ℕ) (terms : List Polynomial) (o : Option Content) (s : State) → Grows s (assign_done to terms o s).state
assign_grows to terms None s = grows_self s
assign_grows to terms (Some c) s = grows_slot to c s

cell_grows : (slot : ℕ) (x : Var) (o : Option VarInfo) (s : State) → Grows s (read_cell slot x o s).state
cell_grows slot x None s = grows_self s
cell_grows slot x (Some i) s =
    grows_trans s (assumed (conjunct.Written x) s) _ (grows_assumed (conjunct.Written x) s) (grows_slot slot (variable_content i.value x.0) (assumed (conjunct.Written x) s))

written_grows : (slot : ℕ) (c : Content) (s : State) → Grows s (read_written slot c s).state
written_grows slot Unwritten s = grows_self s
written_grows slot (Word p) s = grows_self s
written_grows slot (Place a) s = grows_self s
written_grows slot (Cell x) s = cell_grows slot x (slice_get s.vars x.0) s

unwritten_grows : (site : Site) (c : Content) (s : State) → Grows s (read_unwritten site c s).state
unwritten_grows site Unwritten s = grows_self s
unwritten_grows site (Word p) s = grows_self s
unwritten_grows site (Place a) s = grows_self s
unwritten_grows site (Cell x) s = grows_assumed (conjunct.Unwritten x) s

read_grows : (slot : ℕ) (site : Site) (c : Content) (w : Way) (s : State) → Grows s (read_done slot site c w s).state
read_grows slot site c way.Written s = written_grows slot c s
read_grows slot site c way.Unwritten s = unwritten_grows site c s
read_grows slot site c way.On s = grows_self s
read_grows slot site c way.Then s = grows_self s
read_grows slot site c way.Else s = grows_self s
read_grows slot site c way.Null s = grows_self s
read_grows slot site c way.Made s = grows_self s
read_grows slot site c (way.Atom n) s = grows_self s
read_grows slot site c way.MissingLive s = grows_self s
read_grows slot site c way.MissingFreed s = grows_self s
read_grows slot site c way.Missing s = grows_self s
read_grows slot site c (way.Entry n) s = grows_self s
read_grows slot site c way.Drop s = grows_self s
read_grows slot site c way.ByZero s = grows_self s
read_grows slot site c way.Divided s = grows_self s

outcome_grows : (to outcome : ℕ) (o : Option Conj) (s : State) → Grows s (test_outcome to outcome o s).state
outcome_grows to outcome None s = grows_self s
outcome_grows to outcome (Some c) s = grows_trans s (assumed c s) _ (grows_assumed c s) (grows_slot to _ (assumed c s))

test_grows : (to : ℕ) (site : Site) (o p : Option Conj) (w : Way) (s : State) → Grows s (test_done to site o p w s).state
test_grows to site o p way.Then s = grows_trans s (marked mark.Then site s) _ (grows_marked mark.Then site s) (outcome_grows to 1 o (marked mark.Then site s))
test_grows to site o p way.Else s = grows_trans s (marked mark.Else site s) _ (grows_marked mark.Else site s) (outcome_grows to 0 p (marked mark.Else site s))
test_grows to site o p way.On s = grows_self s
test_grows to site o p way.Null s = grows_self s
test_grows to site o p way.Made s = grows_self s
test_grows to site o p way.Written s = grows_self s
test_grows to site o p way.Unwritten s = grows_self s
test_grows to site o p (way.Atom n) s = grows_self s
test_grows to site o p way.MissingLive s = grows_self s
test_grows to site o p way.MissingFreed s = grows_self s
test_grows to site o p way.Missing s = grows_self s
test_grows to site o p (way.Entry n) s = grows_self s
test_grows to site o p way.Drop s = grows_self s
test_grows to site o p way.ByZero s = grows_self s
test_grows to site o p way.Divided s = grows_self s

leaving_grows : (o : Option (Site × ℕ)) (s : State) → Grows s (leaving o s).state
leaving_grows None s = grows_self s
leaving_grows (Some l) s = grows_trans s (marked mark.Done l.0 s) _ (grows_marked mark.Done l.0 s) (grows_same (marked mark.Done l.0 s) _ refl refl refl refl refl)

make_grows : (types : List BlockType) (block : TypeId) (s : State) → Grows s (make types block s)
make_grows types block s =
    grows_trans s (with_atom _ s) _ (grows_with _ s) (grows_variables (info sort.Made (Pointer block) ∷ []) (with_atom _ s))

malloc_grows : (types : List BlockType) (to : ℕ) (block : TypeId) (site : Site) (w : Way) (s : State) → Grows s (malloc_done types to block site w s).state
malloc_grows types to block site way.Null s = grows_trans s (marked mark.NoBlock site s) _ (grows_marked mark.NoBlock site s) (grows_slot to (Place place.Null) (marked mark.NoBlock site s))
malloc_grows types to block site way.Made s =
    grows_trans s (marked mark.Got site s) _ (grows_marked mark.Got site s)
    (grows_trans (marked mark.Got site s) (make types block (marked mark.Got site s)) _ (make_grows types block (marked mark.Got site s))
    (grows_slot to (variable_content (Pointer block) (length s.vars)) (make types block (marked mark.Got site s))))
malloc_grows types to block site way.On s = grows_self s
malloc_grows types to block site way.Then s = grows_self s
malloc_grows types to block site way.Else s = grows_self s
malloc_grows types to block site way.Written s = grows_self s
malloc_grows types to block site way.Unwritten s = grows_self s
malloc_grows types to block site (way.Atom n) s = grows_self s
malloc_grows types to block site way.MissingLive s = grows_self s
malloc_grows types to block site way.MissingFreed s = grows_self s
malloc_grows types to block site way.Missing s = grows_self s
malloc_grows types to block site (way.Entry n) s = grows_self s
malloc_grows types to block site way.Drop s = grows_self s
malloc_grows types to block site way.ByZero s = grows_self s
malloc_grows types to block site way.Divided s = grows_self s

assume_all_grows : (cs : List Conj) (s : State) → Grows s (assume_all cs s)
assume_all_grows [] s = grows_self s
assume_all_grows (c ∷ cs) s = grows_trans s (assumed c s) _ (grows_assumed c s) (assume_all_grows cs (assumed c s))

input_grows : (to : ℕ) (site : Site) (s : State) → Grows s (input_done to site s).state
input_grows to site s =
    let m : State = marked mark.Input site s in
    let v : State = with_variables (info sort.Input Int ∷ []) m in
    let b : State = assume_all (is_input_byte (length s.vars)) v in
    grows_trans s m _ (grows_marked mark.Input site s) (grows_trans m v _ (grows_variables (info sort.Input Int ∷ []) m)
    (grows_trans v b _ (assume_all_grows (is_input_byte (length s.vars)) v) (grows_slot to _ b)))

quotient_grows : (to : ℕ) (p q : Polynomial) (o : Option Content) (s : State) → Grows s (quotient_by to p q o s)
quotient_grows to p q (Some c) s = grows_slot to c s
quotient_grows to p q None s =
    let v : State = with_variables (info sort.Input Int ∷ []) s in
    let c : Conj = conjunct.Quotient (record { 0 = length s.vars }) p q in
    grows_trans s v _ (grows_variables (info sort.Input Int ∷ []) s) (grows_trans v (assumed c v) _ (grows_assumed c v) (grows_slot to _ (assumed c v)))

words_grow : (to : ℕ) (site : Site) (w : Way) (s : State) (p q : Polynomial) → Grows s (words_divided to site w s p q).state
words_grow to site way.ByZero s p q = grows_assumed (conjunct.Equal q) s
words_grow to site way.Divided s p q =
    let t : State = assumed (conjunct.Unequal q) s in
    grows_trans s t _ (grows_assumed (conjunct.Unequal q) s) (quotient_grows to p q (constant_quotient (word_of p) (word_of q)) t)
words_grow to site way.On s p q = grows_self s
words_grow to site way.Then s p q = grows_self s
words_grow to site way.Else s p q = grows_self s
words_grow to site way.Null s p q = grows_self s
words_grow to site way.Made s p q = grows_self s
words_grow to site way.Written s p q = grows_self s
words_grow to site way.Unwritten s p q = grows_self s
words_grow to site (way.Atom n) s p q = grows_self s
words_grow to site way.MissingLive s p q = grows_self s
words_grow to site way.MissingFreed s p q = grows_self s
words_grow to site way.Missing s p q = grows_self s
words_grow to site (way.Entry n) s p q = grows_self s
words_grow to site way.Drop s p q = grows_self s

divide_grows : (to : ℕ) (site : Site) (a b : Content) (w : Way) (s : State) → Grows s (divide_done to site a b w s).state
divide_grows to site (Word p) (Word q) w s = words_grow to site w s p q
divide_grows to site (Word p) Unwritten w s = grows_self s
divide_grows to site (Word p) (Place b) w s = grows_self s
divide_grows to site (Word p) (Cell y) w s = grows_self s
divide_grows to site Unwritten b w s = grows_self s
divide_grows to site (Place a) b w s = grows_self s
divide_grows to site (Cell x) b w s = grows_self s

return_grows : (o : Option (Option Content)) (s : State) → Grows s (return_done o s).state
return_grows None s = grows_self s
return_grows (Some result) s = grows_self s

pub act_grows : (j : JobTree) (c : CommandTree) (w : Way) (s : State) → Grows s (act_done j c w s).state
act_grows j (assign to op a b) w s = assign_grows to _ (operation op (operand_content s a) (operand_content s b)) s
act_grows j (unset to) w s = grows_slot to Unwritten s
act_grows j (read slot site) w s = read_grows slot site (content_at s.slots slot) w s
act_grows j (test to how a b site) w s = test_grows to site (condition how (operand_content s a) (operand_content s b)) (contrary how (operand_content s a) (operand_content s b)) w s
act_grows j (choose slot first second) w s = grows_self s
act_grows j (loop site head body step) w s = grows_same s _ refl refl refl refl refl
act_grows j leave w s = leaving_grows (last_loop s.loops) s
act_grows j (load to at field block site) w s =
    through_grows j.types block (load_access to field.0 site) (load_grows to field.0 site) (accessed s.vars block (operand_content s at)) w s
act_grows j (store at field block from site) w s =
    through_grows j.types block (store_access field.0 (operand_content s from) site) (store_grows field.0 (operand_content s from) site) (accessed s.vars block (operand_content s at)) w s
act_grows j (malloc to block site) w s = malloc_grows j.types to block site w s
act_grows j (free at block site) w s = through_grows j.types block (free_access site) (free_grows site) (accessed s.vars block (operand_content s at)) w s
act_grows j (input to site) w s = input_grows to site s
act_grows j (call to proc arguments site) w s = grows_marked (mark.Enter proc) site s
act_grows j (return from) w s = return_grows (returned s j.body.result from) s
act_grows j break w s = grows_same s _ refl refl refl refl refl
act_grows j continue w s = grows_self s
act_grows j (stop word site) w s = grows_self s
act_grows j (divide to a b site) w s = divide_grows to site (operand_content s a) (operand_content s b) w s

-- ---- calls

take_grows : (x : Entry) (σ : Substitution) (rest : List Atom) (used : List ℕ) (p : Atom) (n : ℕ) (a : PlaceOf) (o : Option Atom) (s : State) → Grows s (take_atom x σ rest used p n a o s).state
take_grows x σ rest used p n a None s = grows_self s
take_grows x σ rest used p n a (Some b) s = grows_assumed (conjunct.SamePlace a (place.Var b.place)) s

meet_grows : (types : List BlockType) (p : Atom) (a : PlaceOf) (s : State) → Grows s (meet_required types p a s)
meet_grows types p place.Null s = grows_self s
meet_grows types p (place.Var v) s = by (is_freed p.state)
  where
    by : (b : Bool) → Grows s (elim b as (λ _. State) [ true ↦ meet_freed p.block v s | false ↦ meet_live types p.block v s ])
    by true = grows_freed p.block v s
    by false = grows_live types p.block v s

pub case_grows : (types : List BlockType) (x : Entry) (σ : Substitution) (rest : List Atom) (used : List ℕ) (p : Atom) (w : Way) (o : Option PlaceOf) (s : State) → Grows s (take_case types x σ rest used p w o s).state
case_grows types x σ rest used p (way.Atom n) (Some a) s = take_grows x σ rest used p n a (slice_get s.atoms n) s
case_grows types x σ rest used p way.Missing (Some a) s =
    let m : State = meet_required types p a s in
    grows_trans s m _ (meet_grows types p a s) (take_grows x σ rest used p (length s.atoms) a (slice_get m.atoms (length s.atoms)) m)
case_grows types x σ rest used p (way.Atom n) None s = grows_self s
case_grows types x σ rest used p way.Missing None s = grows_self s
case_grows types x σ rest used p way.Null o s = grows_self s
case_grows types x σ rest used p way.MissingLive o s = grows_self s
case_grows types x σ rest used p way.MissingFreed o s = grows_self s
case_grows types x σ rest used p way.On o s = grows_self s
case_grows types x σ rest used p way.Then o s = grows_self s
case_grows types x σ rest used p way.Else o s = grows_self s
case_grows types x σ rest used p way.Made o s = grows_self s
case_grows types x σ rest used p way.Written o s = grows_self s
case_grows types x σ rest used p way.Unwritten o s = grows_self s
case_grows types x σ rest used p (way.Entry n) o s = grows_self s
case_grows types x σ rest used p way.Drop o s = grows_self s
case_grows types x σ rest used p way.ByZero o s = grows_self s
case_grows types x σ rest used p way.Divided o s = grows_self s

claim_extends : (vars : List VarInfo) (pure : List Conj) (c : Claim) → Extends pure (assume_claim vars pure c)
claim_extends vars pure surely = extends_same refl
claim_extends vars pure never = extends_same refl
claim_extends vars pure (claims c) = assume_extends vars pure c

claims_extend : (vars : List VarInfo) (σ : Substitution) (cs pure : List Conj) → Extends pure (fold (λ pure c. assume_claim vars pure (claim_through σ c)) pure cs)
claims_extend vars σ [] pure = extends_same refl
claims_extend vars σ (c ∷ cs) pure = extends_trans pure (assume_claim vars pure (claim_through σ c)) _ (claim_extends vars pure (claim_through σ c)) (claims_extend vars σ cs (assume_claim vars pure (claim_through σ c)))

pub update_bases : (σ : Substitution) (used : List ℕ) (posts atoms : List Atom) → map base (update_atoms σ used posts atoms) ≡ map base atoms
update_bases σ [] posts atoms = refl
update_bases σ (n ∷ used) [] atoms = refl
update_bases σ (n ∷ used) (b ∷ posts) atoms = update_bases σ used posts (set_atom n (state_through σ b.state) atoms) ∙ set_bases n (state_through σ b.state) atoms

leave_grows : (x : Entry) (σ : Substitution) (used : List ℕ) (s : State) → Grows s (leave_atoms x σ used s)
leave_grows x σ used s =
    let posts = found_atoms x.vars x.post in
    let made = flat_map (made_through σ) (made_atoms x.vars x.post) in
    let changed = update_atoms σ used posts s.atoms in
    grows_atoms s (changed ++ made) (extends_trans (map base s.atoms) (map base changed) _ (extends_same (update_bases σ used posts s.atoms)) (atoms_extend changed made))

result_grows : (o : Option ℕ) (c : Content) (s : State) → Grows s (keep_result o c s)
result_grows None c s = grows_self s
result_grows (Some to) c s = grows_slot to c s

end_grows : (c : Calling) (σ : Substitution) (result : Option Content) (e : Exit) (terms : List Polynomial) (s : State) → Grows s (end_call c σ result e terms s).state
end_grows c σ result exit.Ok terms s =
    grows_trans s (marked mark.Leave c.site s) _ (grows_marked mark.Leave c.site s) (result_grows c.to (result_through σ result) (marked mark.Leave c.site s))
end_grows c σ result (exit.Error kind site) terms s = grows_self s

finish_grows : (c : Calling) (x : Entry) (σ : Substitution) (used : List ℕ) (s : State) → Grows s (finish_with c x σ used s).state
finish_grows c x σ used s =
    let v : State = with_variables (new_variables x.vars) s in
    let e : State = assume_entry x σ v in
    let l : State = leave_atoms x σ used e in
    let t : State = add_trace x.trace l in
    grows_trans s v _ (grows_variables (new_variables x.vars) s)
    (grows_trans v e _ (grows_pure v e.pure (claims_extend v.vars σ x.pure v.pure))
    (grows_trans e l _ (leave_grows x σ used e)
    (grows_trans l t _ (grows_add x.trace l) (end_grows c σ x.result x.exit (entry_terms x σ) t))))

pub call_grows : (c : Calling) (x : Entry) (σ : Substitution) (used : List ℕ) (s : State) → Grows s (finish_call c x σ used s).state
call_grows c x σ used s = finish_grows c x (stand_all x σ s) used s
