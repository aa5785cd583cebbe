-- Every command but a call adds one mark at most, which neither enters a procedure nor leaves one.
use Rattle.std.proofs.Common.{◌≡◌, ℕ, ◌⊎◌, inl, inr, Option, Some, None, List, [], ◌∷◌, ◌++◌, refl, slice_get, subst}
use Rattle.px_base.specs.declared.trace.Site.{Site}
use Rattle.px_base.specs.declared.trace.Mark.{Mark}
use Rattle.px_base.specs.declared.trace.MarkKind.{MarkKind}
use Rattle.px_base.specs.declared.trace.MarkKind.TheVariants.{Enter, Leave}
use Rattle.px_terms.specs.Polynomials.{Polynomial}
use Rattle.px_terms.specs.declared.types.TypeId.{TypeId}
use Rattle.px_terms.specs.declared.types.BlockType.{BlockType}
use Rattle.px_terms.specs.declared.variables.Var.{Var}
use Rattle.px_terms.specs.declared.variables.VarInfo.{VarInfo}
use Rattle.px_terms.specs.declared.conjuncts.Place.{Place as PlaceOf}
use Rattle.px_terms.specs.declared.conjuncts.Place.TheVariants as place
use Rattle.px_terms.specs.declared.conjuncts.Content.{Content}
use Rattle.px_terms.specs.declared.conjuncts.Content.TheVariants.{Unwritten, Word, Place, Cell}
use Rattle.px_terms.specs.declared.conjuncts.Conj.{Conj}
use Rattle.px_terms.specs.declared.conjuncts.Conj.TheVariants as conjunct
use Rattle.px_core.specs.CommandTree.{CommandTree, assign, unset, read, test, choose, loop, leave, load, store, malloc, free, input, call, return, break, continue, stop, divide}
use Rattle.px_entry.specs.declared.atoms.Atom.{Atom}
use Rattle.px_entry.specs.declared.atoms.AtomState.{AtomState}
use Rattle.px_entry.specs.declared.atoms.AtomState.TheVariants.{Live, Freed}
use Rattle.px_entry.specs.Decided.{word_of}
use Rattle.px_callgraph.specs.declared.states.State.{State}
use Rattle.px_callgraph.specs.declared.states.Way.{Way}
use Rattle.px_callgraph.specs.declared.states.Way.TheVariants as way
use Rattle.px_callgraph.specs.JobTree.{JobTree}
use Rattle.px_callgraph.specs.States.{on, content_at, operand_content, assumed}
use Rattle.px_callgraph.specs.Operations.{operation, condition, contrary}
use Rattle.px_callgraph.specs.Accesses.{Access, accessed, meet_live, meet_freed, load_access, store_access, free_access, use_state, use_atom, reach_atom, reach_missing, access_done}
use Rattle.px_callgraph.specs.Commands.{read_cell, read_written, read_unwritten, read_done, test_outcome, test_done, last_loop, leaving, malloc_done, constant_quotient, quotient_by, words_divided, divide_done, returned, return_done, through_place, assign_done, act_done}

abbrev pub IsPlain : MarkKind → Type 0
IsPlain (Enter g) = ⊥
IsPlain Leave = ⊥
IsPlain _ = Unit {0}

-- the marks, and a plain one after them, or none
abbrev pub Marks : List Mark → List Mark → Type 0
Marks t u = (u ≡ t) ⊎ ((kind : MarkKind) × (site : Site) × IsPlain kind × (u ≡ t ++ record { kind = kind; site = site } ∷ []))

-- ---- accesses

pub record MarksAll (a : Access) : Type 0 where
  pub null : (s : State) → Marks s.trace (a.null s).state.trace
  pub freed : (s : State) → Marks s.trace (a.freed s).state.trace
  pub live : (n : ℕ) (cells : List Content) (s : State) → Marks s.trace (a.live n cells s).state.trace

load_marks : (to field : ℕ) (site : Site) → MarksAll (load_access to field site)
load_marks to field site = record {
  null = λ s. inr (_, site, tt, refl);
  freed = λ s. inr (_, site, tt, refl);
  live = λ n cells s. inr (_, site, tt, refl);
}

store_marks : (field : ℕ) (c : Content) (site : Site) → MarksAll (store_access field c site)
store_marks field c site = record {
  null = λ s. inr (_, site, tt, refl);
  freed = λ s. inr (_, site, tt, refl);
  live = λ n cells s. inr (_, site, tt, refl);
}

free_marks : (site : Site) → MarksAll (free_access site)
free_marks site = record {
  null = λ s. inr (_, site, tt, refl);
  freed = λ s. inr (_, site, tt, refl);
  live = λ n cells s. inr (_, site, tt, refl);
}

module _ (types : List BlockType) (block : TypeId) (a : Access) (g : MarksAll a) where
  use_marks : (n : ℕ) (state : AtomState) (s : State) → Marks s.trace (use_state a n state s).state.trace
  use_marks n (Live cells) s = g.live n cells s
  use_marks n Freed s = g.freed s

  use_atom_marks : (n : ℕ) (o : Option Atom) (s : State) → Marks s.trace (use_atom a n o s).state.trace
  use_atom_marks n None s = inl refl
  use_atom_marks n (Some b) s = use_marks n b.state s

  reach_marks : (p : PlaceOf) (n : ℕ) (o : Option Atom) (s : State) → Marks s.trace (reach_atom a p n o s).state.trace
  reach_marks p n None s = inl refl
  reach_marks p n (Some b) s = use_marks n b.state (assumed (conjunct.SamePlace p (place.Var b.place)) s)

  missing_marks : (meet : Var → State → State) → ((x : Var) (s : State) → (meet x s).trace ≡ s.trace) → (p : PlaceOf) (s : State) → Marks s.trace (reach_missing meet a p s).state.trace
  missing_marks meet m place.Null s = inl refl
  missing_marks meet m (place.Var x) s =
      subst (λ z. Marks z (reach_missing meet a (place.Var x) s).state.trace) (m x s) (use_atom_marks _ (slice_get (meet x s).atoms _) (meet x s))

  access_marks : (p : PlaceOf) (w : Way) (s : State) → Marks s.trace (access_done types block a p w s).state.trace
  access_marks p way.Null s = g.null (assumed (conjunct.SamePlace p place.Null) s)
  access_marks p (way.Atom n) s = reach_marks p n (slice_get s.atoms n) s
  access_marks p way.MissingLive s = missing_marks (meet_live types block) (λ x t. refl) p s
  access_marks p way.MissingFreed s = missing_marks (meet_freed block) (λ x t. refl) p s
  access_marks p way.On s = inl refl
  access_marks p way.Then s = inl refl
  access_marks p way.Else s = inl refl
  access_marks p way.Made s = inl refl
  access_marks p way.Written s = inl refl
  access_marks p way.Unwritten s = inl refl
  access_marks p way.Missing s = inl refl
  access_marks p (way.Entry n) s = inl refl
  access_marks p way.Drop s = inl refl
  access_marks p way.ByZero s = inl refl
  access_marks p way.Divided s = inl refl

  through_marks : (o : Option PlaceOf) (w : Way) (s : State) → Marks s.trace (through_place (on s) o (λ p. access_done types block a p w s)).state.trace
  through_marks None w s = inl refl
  through_marks (Some p) w s = access_marks p w s

-- ---- the other commands

assign_marks : (to : ℕ) (terms : List Polynomial) (o : Option Content) (s : State) → Marks s.trace (assign_done to terms o s).state.trace
assign_marks to terms None s = inl refl
assign_marks to terms (Some c) s = inl refl

cell_marks : (slot : ℕ) (x : Var) (o : Option VarInfo) (s : State) → Marks s.trace (read_cell slot x o s).state.trace
cell_marks slot x None s = inl refl
cell_marks slot x (Some i) s = inl refl

written_marks : (slot : ℕ) (c : Content) (s : State) → Marks s.trace (read_written slot c s).state.trace
written_marks slot Unwritten s = inl refl
written_marks slot (Word p) s = inl refl
written_marks slot (Place a) s = inl refl
written_marks slot (Cell x) s = cell_marks slot x (slice_get s.vars x.0) s

unwritten_marks : (site : Site) (c : Content) (s : State) → Marks s.trace (read_unwritten site c s).state.trace
unwritten_marks site Unwritten s = inl refl
unwritten_marks site (Word p) s = inl refl
unwritten_marks site (Place a) s = inl refl
unwritten_marks site (Cell x) s = inl refl

read_marks : (slot : ℕ) (site : Site) (c : Content) (w : Way) (s : State) → Marks s.trace (read_done slot site c w s).state.trace
read_marks slot site c way.Written s = written_marks slot c s
read_marks slot site c way.Unwritten s = unwritten_marks site c s
read_marks slot site c way.On s = inl refl
read_marks slot site c way.Then s = inl refl
read_marks slot site c way.Else s = inl refl
read_marks slot site c way.Null s = inl refl
read_marks slot site c way.Made s = inl refl
read_marks slot site c (way.Atom n) s = inl refl
read_marks slot site c way.MissingLive s = inl refl
read_marks slot site c way.MissingFreed s = inl refl
read_marks slot site c way.Missing s = inl refl
read_marks slot site c (way.Entry n) s = inl refl
read_marks slot site c way.Drop s = inl refl
read_marks slot site c way.ByZero s = inl refl
read_marks slot site c way.Divided s = inl refl

outcome_trace : (to outcome : ℕ) (o : Option Conj) (s : State) → (test_outcome to outcome o s).state.trace ≡ s.trace
outcome_trace to outcome None s = refl
outcome_trace to outcome (Some c) s = refl

test_marks : (to : ℕ) (site : Site) (o p : Option Conj) (w : Way) (s : State) → Marks s.trace (test_done to site o p w s).state.trace
test_marks to site o p way.Then s = inr (_, site, tt, outcome_trace to 1 o _)
test_marks to site o p way.Else s = inr (_, site, tt, outcome_trace to 0 p _)
test_marks to site o p way.On s = inl refl
test_marks to site o p way.Null s = inl refl
test_marks to site o p way.Made s = inl refl
test_marks to site o p way.Written s = inl refl
test_marks to site o p way.Unwritten s = inl refl
test_marks to site o p (way.Atom n) s = inl refl
test_marks to site o p way.MissingLive s = inl refl
test_marks to site o p way.MissingFreed s = inl refl
test_marks to site o p way.Missing s = inl refl
test_marks to site o p (way.Entry n) s = inl refl
test_marks to site o p way.Drop s = inl refl
test_marks to site o p way.ByZero s = inl refl
test_marks to site o p way.Divided s = inl refl

leaving_marks : (o : Option (Site × ℕ)) (s : State) → Marks s.trace (leaving o s).state.trace
leaving_marks None s = inl refl
leaving_marks (Some l) s = inr (_, l.0, tt, refl)

malloc_marks : (types : List BlockType) (to : ℕ) (block : TypeId) (site : Site) (w : Way) (s : State) → Marks s.trace (malloc_done types to block site w s).state.trace
malloc_marks types to block site way.Null s = inr (_, site, tt, refl)
malloc_marks types to block site way.Made s = inr (_, site, tt, refl)
malloc_marks types to block site way.On s = inl refl
malloc_marks types to block site way.Then s = inl refl
malloc_marks types to block site way.Else s = inl refl
malloc_marks types to block site way.Written s = inl refl
malloc_marks types to block site way.Unwritten s = inl refl
malloc_marks types to block site (way.Atom n) s = inl refl
malloc_marks types to block site way.MissingLive s = inl refl
malloc_marks types to block site way.MissingFreed s = inl refl
malloc_marks types to block site way.Missing s = inl refl
malloc_marks types to block site (way.Entry n) s = inl refl
malloc_marks types to block site way.Drop s = inl refl
malloc_marks types to block site way.ByZero s = inl refl
malloc_marks types to block site way.Divided s = inl refl

-- a division has no mark
quotient_trace : (to : ℕ) (p q : Polynomial) (o : Option Content) (s : State) → (quotient_by to p q o s).trace ≡ s.trace
quotient_trace to p q None s = refl
quotient_trace to p q (Some c) s = refl

words_marks : (to : ℕ) (site : Site) (w : Way) (s : State) (p q : Polynomial) → Marks s.trace (words_divided to site w s p q).state.trace
words_marks to site way.ByZero s p q = inl refl
words_marks to site way.Divided s p q = inl (quotient_trace to p q (constant_quotient (word_of p) (word_of q)) (assumed (conjunct.Unequal q) s))
words_marks to site way.On s p q = inl refl
words_marks to site way.Then s p q = inl refl
words_marks to site way.Else s p q = inl refl
words_marks to site way.Null s p q = inl refl
words_marks to site way.Made s p q = inl refl
words_marks to site way.Written s p q = inl refl
words_marks to site way.Unwritten s p q = inl refl
words_marks to site (way.Atom n) s p q = inl refl
words_marks to site way.MissingLive s p q = inl refl
words_marks to site way.MissingFreed s p q = inl refl
words_marks to site way.Missing s p q = inl refl
words_marks to site (way.Entry n) s p q = inl refl
words_marks to site way.Drop s p q = inl refl

divide_marks : (to : ℕ) (site : Site) (a b : Content) (w : Way) (s : State) → Marks s.trace (divide_done to site a b w s).state.trace
divide_marks to site (Word p) (Word q) w s = words_marks to site w s p q
divide_marks to site (Word p) Unwritten w s = inl refl
divide_marks to site (Word p) (Place b) w s = inl refl
divide_marks to site (Word p) (Cell y) w s = inl refl
divide_marks to site Unwritten b w s = inl refl
divide_marks to site (Place a) b w s = inl refl
divide_marks to site (Cell x) b w s = inl refl

return_marks : (o : Option (Option Content)) (s : State) → Marks s.trace (return_done o s).state.trace
return_marks None s = inl refl
return_marks (Some result) s = inl refl

-- any command that isn't a call
abbrev pub IsOwn : CommandTree → Type 0
IsOwn (call to proc arguments site) = ⊥
IsOwn _ = Unit {0}

pub act_marks : (j : JobTree) (c : CommandTree) (w : Way) (s : State) → IsOwn c → Marks s.trace (act_done j c w s).state.trace
act_marks j (assign to op a b) w s own = assign_marks to _ (operation op (operand_content s a) (operand_content s b)) s
act_marks j (unset to) w s own = inl refl
act_marks j (read slot site) w s own = read_marks slot site (content_at s.slots slot) w s
act_marks j (test to how a b site) w s own = test_marks to site (condition how (operand_content s a) (operand_content s b)) (contrary how (operand_content s a) (operand_content s b)) w s
act_marks j (choose slot first second) w s own = inl refl
act_marks j (loop site head body step) w s own = inl refl
act_marks j leave w s own = leaving_marks (last_loop s.loops) s
act_marks j (load to at field block site) w s own =
    through_marks j.types block (load_access to field.0 site) (load_marks to field.0 site) (accessed s.vars block (operand_content s at)) w s
act_marks j (store at field block from site) w s own =
    through_marks j.types block (store_access field.0 (operand_content s from) site) (store_marks field.0 (operand_content s from) site) (accessed s.vars block (operand_content s at)) w s
act_marks j (malloc to block site) w s own = malloc_marks j.types to block site w s
act_marks j (free at block site) w s own = through_marks j.types block (free_access site) (free_marks site) (accessed s.vars block (operand_content s at)) w s
act_marks j (input to site) w s own = inr (_, site, tt, refl)
act_marks j (call to proc arguments site) w s own = absurd own
act_marks j (return from) w s own = return_marks (returned s j.body.result from) s
act_marks j break w s own = inl refl
act_marks j continue w s own = inl refl
act_marks j (stop word site) w s own = inl refl
act_marks j (divide to a b site) w s own = divide_marks to site (operand_content s a) (operand_content s b) w s
