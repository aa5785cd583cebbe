-- The alternatives of calls, worked by hand.
use Rattle.std.specs.Prelude.{◌≡◌, ℕ, List, [], ◌∷◌, ◌++◌, Option, Some, None, replicate}
use Rattle.px_base.specs.declared.trace.Mark.{Mark}
use Rattle.px_base.specs.declared.trace.MarkKind.TheVariants as mark
use Rattle.px_base.specs.declared.trace.Kind.TheVariants.{NullDereference}
use Rattle.px_base.specs.declared.trace.ProcId.{ProcId}
use Rattle.px_terms.specs.declared.types.ValueType.TheVariants.{Int, Pointer}
use Rattle.px_terms.specs.declared.variables.VarInfo.{VarInfo}
use Rattle.px_terms.specs.declared.variables.Sort.TheVariants as sort
use Rattle.px_terms.specs.declared.conjuncts.Place.TheVariants as place
use Rattle.px_terms.specs.declared.conjuncts.Content.{Content}
use Rattle.px_terms.specs.declared.conjuncts.Content.TheVariants.{Unwritten, Word, Cell}
use Rattle.px_terms.specs.declared.conjuncts.Conj.{Conj}
use Rattle.px_terms.specs.declared.conjuncts.Conj.TheVariants as conjunct
use Rattle.px_core.specs.declared.command.Operand.TheVariants as operand
use Rattle.px_core.specs.CommandTree.{CommandTree, call}
use Rattle.px_entry.specs.declared.atoms.Atom.{Atom}
use Rattle.px_entry.specs.declared.atoms.AtomState.{AtomState}
use Rattle.px_entry.specs.declared.atoms.AtomState.TheVariants.{Live, Freed}
use Rattle.px_entry.specs.declared.entries.Entry.{Entry}
use Rattle.px_entry.specs.declared.entries.Exit.{Exit}
use Rattle.px_entry.specs.declared.entries.Exit.TheVariants.{Ok, Error}
use Rattle.px_entry.specs.declared.tables.Cause.TheVariants as cause
use Rattle.px_entry.specs.declared.tables.LongKind.TheVariants as long
use Rattle.px_callgraph.specs.declared.jobs.Callee.{Callee}
use Rattle.px_callgraph.specs.declared.jobs.Callee.TheVariants.{Table as TableOf, Cycle, LeftOut}
use Rattle.px_callgraph.specs.declared.states.State.{State}
use Rattle.px_callgraph.specs.declared.states.Alternative.{Alternative}
use Rattle.px_callgraph.specs.declared.states.Alternative.TheVariants.{Next, Ends, Cut}
use Rattle.px_callgraph.specs.JobTree.{JobTree}
use Rattle.px_callgraph.specs.Alternatives.{alternatives}
use Rattle.px_callgraph.specs.WorkedStates.{here, int_block, node, proc, var, of_sort, constant, x_plus, word_of, place_of, is_at, a_block, a_mark, a_gap, plain, job_with}

-- ---- callees

abbrev pub given_pointer : VarInfo
given_pointer = of_sort sort.Given (Pointer int_block)

abbrev pub given_node : VarInfo
given_node = of_sort sort.Given (Pointer node)

abbrev pub f : ProcId
f = proc 1

abbrev pub an_entry : List Mark → Exit → Option Content → List VarInfo → List Conj → List Atom → List Atom → Entry
an_entry trace exit result vars pure pre post =
    record { proc = f; trace = trace; exit = exit; result = result; vars = vars; pure = pure; pre = pre; post = post; model = [] }

-- `void f(int *p, int *q) { free(p); free(q); }`, of two live blocks
abbrev pub frees_two : Entry
frees_two = an_entry (a_mark mark.Freed ∷ a_mark mark.Freed ∷ []) Ok None
    (given_pointer ∷ given_pointer ∷ of_sort sort.Cell Int ∷ of_sort sort.Cell Int ∷ []) []
    (a_block 0 int_block (Live (Cell (var 2) ∷ [])) ∷ a_block 1 int_block (Live (Cell (var 3) ∷ [])) ∷ [])
    (a_block 0 int_block Freed ∷ a_block 1 int_block Freed ∷ [])

-- the same, but that nothing is left of the blocks
abbrev pub loses_two : Entry
loses_two = record frees_two { post = [] }

abbrev pub node_cells : List Atom
node_cells = a_block 0 node (Live (Cell (var 1) ∷ Cell (var 2) ∷ [])) ∷ []

-- `int f(struct node *p) { return p->value; }`, where the value was written
abbrev pub gives_value : Entry
gives_value = an_entry (a_mark mark.Access ∷ []) Ok (Some (word_of 1)) (given_node ∷ of_sort sort.Cell Int ∷ of_sort sort.Cell (Pointer node) ∷ []) (conjunct.Written (var 1) ∷ []) node_cells node_cells

-- and where p is null
abbrev pub fails_on_null : Entry
fails_on_null = an_entry (a_mark mark.Access ∷ []) (Error NullDereference here) None (given_node ∷ []) (conjunct.SamePlace (is_at 0) place.Null ∷ []) [] []

-- `int *f(void)` that gives a new block, in which an input stands
abbrev pub gives_input : Entry
gives_input = an_entry (a_mark mark.Input ∷ a_mark mark.Got ∷ []) Ok (Some (place_of 1)) (of_sort sort.Input Int ∷ of_sort sort.Made (Pointer int_block) ∷ [])
    (conjunct.AtMost (x_plus 0 0) (constant 255) ∷ []) [] (a_block 1 int_block (Live (word_of 0 ∷ [])) ∷ [])

-- `void f(void) {}`
abbrev pub does_nothing : Entry
does_nothing = an_entry [] Ok None [] [] [] []

abbrev pub with_callee : Callee → JobTree
with_callee callee = job_with None ((f, callee) ∷ [])

abbrev pub with_entries : List Entry → JobTree
with_entries entries = with_callee (TableOf (record { entries = entries; drops = [] }))

-- ---- callers

abbrev pub call_two : CommandTree
call_two = call None f (operand.Slot 0 ∷ operand.Slot 1 ∷ []) here

abbrev pub call_one : CommandTree
call_one = call (Some 1) f (operand.Slot 0 ∷ []) here

abbrev pub enters : List Mark
enters = a_mark (mark.Enter f) ∷ []

-- four pointers, to the last two of which blocks were met
abbrev pub two_met : State
two_met = record (plain (place_of 0 ∷ place_of 1 ∷ []) (given_pointer ∷ given_pointer ∷ given_pointer ∷ given_pointer ∷ [])) {
  pre = a_block 2 int_block Freed ∷ a_block 3 int_block Freed ∷ [];
  atoms = a_block 2 int_block (Live (Word (constant 1) ∷ [])) ∷ a_block 3 int_block (Live (Word (constant 2) ∷ [])) ∷ [];
}

abbrev pub same_places : ℕ → ℕ → Conj
same_places x y = conjunct.SamePlace (is_at x) (is_at y)

-- both calls of `free` were made: these conjuncts, cells and missing blocks are new, and the blocks are so
abbrev pub freed_two : List Conj → List VarInfo → List Atom → AtomState → AtomState → List Atom → Alternative
freed_two pure vars missing first second more = Next (record two_met {
  vars = two_met.vars ++ vars;
  pure = pure;
  pre = two_met.pre ++ missing;
  atoms = a_block 2 int_block first ∷ a_block 3 int_block second ∷ more;
  trace = enters ++ (a_mark mark.Freed ∷ a_mark mark.Freed ∷ a_mark mark.Leave ∷ []);
  steps = 1;
})

abbrev pub an_int : ℕ → AtomState
an_int c = Live (Word (constant c) ∷ [])

abbrev pub unknown_int : ℕ → ℕ → Atom
unknown_int x cell = a_block x int_block (Live (Cell (var cell) ∷ []))

abbrev pub a_cell : VarInfo
a_cell = of_sort sort.Cell Int

-- one pointer to a node, at which a block was made
abbrev pub node_made : List Content → State
node_made cells = record (plain (place_of 0 ∷ Unwritten ∷ []) (of_sort sort.Made (Pointer node) ∷ [])) { atoms = a_block 0 node (Live cells) ∷ [] }

-- one pointer to a node, at which none was met
abbrev pub node_unmet : State
node_unmet = plain (place_of 0 ∷ Unwritten ∷ []) (given_node ∷ [])

abbrev pub no_arguments : CommandTree
no_arguments = call (Some 0) f [] here

abbrev pub nearly_full : State
nearly_full = record (plain [] []) { trace = replicate 255 (a_mark mark.Access) }

pub record WorkedCalls : Type 0 where
  -- the first block is that of x2, that of x3, or a missing one; the second is one of the others, or missing
  pub two_required : alternatives (with_entries (frees_two ∷ [])) two_met call_two ≡
      freed_two (same_places 0 2 ∷ same_places 1 3 ∷ []) [] [] Freed Freed []
      ∷ freed_two (same_places 0 2 ∷ []) (a_cell ∷ []) (unknown_int 1 4 ∷ []) Freed (an_int 2) (a_block 1 int_block Freed ∷ [])
      ∷ freed_two (same_places 0 3 ∷ same_places 1 2 ∷ []) [] [] Freed Freed []
      ∷ freed_two (same_places 0 3 ∷ []) (a_cell ∷ []) (unknown_int 1 4 ∷ []) (an_int 1) Freed (a_block 1 int_block Freed ∷ [])
      ∷ freed_two (same_places 1 2 ∷ []) (a_cell ∷ []) (unknown_int 0 4 ∷ []) Freed (an_int 2) (a_block 0 int_block Freed ∷ [])
      ∷ freed_two (same_places 1 3 ∷ []) (a_cell ∷ []) (unknown_int 0 4 ∷ []) (an_int 1) Freed (a_block 0 int_block Freed ∷ [])
      ∷ freed_two [] (a_cell ∷ a_cell ∷ []) (unknown_int 0 4 ∷ unknown_int 1 5 ∷ []) (an_int 1) (an_int 2) (a_block 0 int_block Freed ∷ a_block 1 int_block Freed ∷ []) ∷ []
  -- a freed block isn't the live one that is required
  pub not_freed : alternatives (with_entries (gives_value ∷ [])) (record (node_made []) { atoms = a_block 0 node Freed ∷ [] }) call_one ≡ []
  -- the value is that of the caller's block, and nothing is assumed
  pub value_known : alternatives (with_entries (gives_value ∷ fails_on_null ∷ [])) (node_made (Word (constant 3) ∷ Unwritten ∷ [])) call_one ≡
      Next (record (node_made (Word (constant 3) ∷ Unwritten ∷ [])) {
        slots = place_of 0 ∷ Word (constant 3) ∷ [];
        trace = enters ++ (a_mark mark.Access ∷ a_mark mark.Leave ∷ []);
        steps = 1;
      }) ∷ []
  -- what the callee says to be written never was
  pub value_unwritten : alternatives (with_entries (gives_value ∷ [])) (node_made (Unwritten ∷ Unwritten ∷ [])) call_one ≡ []
  -- a missing block, or an error of the callee
  pub value_missing : alternatives (with_entries (gives_value ∷ fails_on_null ∷ [])) node_unmet call_one ≡
      Next (record node_unmet {
        slots = place_of 0 ∷ word_of 1 ∷ [];
        vars = given_node ∷ a_cell ∷ of_sort sort.Cell (Pointer node) ∷ [];
        pure = conjunct.Written (var 1) ∷ [];
        pre = node_cells;
        atoms = node_cells;
        trace = enters ++ (a_mark mark.Access ∷ a_mark mark.Leave ∷ []);
        steps = 1;
      })
      ∷ Ends (record node_unmet { pure = conjunct.SamePlace (is_at 0) place.Null ∷ []; trace = enters ++ a_mark mark.Access ∷ []; steps = 1 }) (Error NullDereference here) None ∷ []
  -- the callee's input and block get the next numbers
  pub new_numbers : alternatives (with_entries (gives_input ∷ [])) (plain (Unwritten ∷ []) (of_sort sort.Given Int ∷ [])) no_arguments ≡
      Next (record (plain (place_of 2 ∷ []) (of_sort sort.Given Int ∷ of_sort sort.Input Int ∷ of_sort sort.Made (Pointer int_block) ∷ [])) {
        pure = conjunct.AtMost (x_plus 1 0) (constant 255) ∷ [];
        atoms = a_block 2 int_block (Live (word_of 1 ∷ [])) ∷ [];
        trace = enters ++ (a_mark mark.Input ∷ a_mark mark.Got ∷ a_mark mark.Leave ∷ []);
        steps = 1;
      }) ∷ []
  -- an entry that isn't regular, or doesn't fit the arguments
  pub not_regular : alternatives (with_entries (loses_two ∷ [])) two_met call_two ≡ []
  pub too_few : alternatives (with_entries (frees_two ∷ [])) two_met call_one ≡ []
  pub wrong_type : alternatives (with_entries (gives_value ∷ [])) (record node_unmet { vars = given_pointer ∷ [] }) call_one ≡ []
  -- an unwritten argument doesn't fit, whatever the callee
  pub unwritten_argument : alternatives (with_callee Cycle) (plain (Unwritten ∷ Unwritten ∷ []) []) call_one ≡ []
  -- drops after the entries, and in their place
  pub drops : alternatives (with_callee (TableOf (record { entries = fails_on_null ∷ []; drops = a_gap [] (cause.Nodes 1) ∷ [] }))) node_unmet call_one ≡
      Ends (record node_unmet { pure = conjunct.SamePlace (is_at 0) place.Null ∷ []; trace = enters ++ a_mark mark.Access ∷ []; steps = 1 }) (Error NullDereference here) None
      ∷ Cut (a_gap enters (cause.Dropped f)) ∷ []
  pub cycle : alternatives (with_callee Cycle) node_unmet call_one ≡ Cut (a_gap enters (cause.Cycle f)) ∷ []
  pub left_out : alternatives (with_callee LeftOut) node_unmet call_one ≡ Cut (a_gap enters (cause.LeftOut f)) ∷ []
  pub unnamed : alternatives (job_with None []) node_unmet call_one ≡ Cut (a_gap enters (cause.Unknown f)) ∷ []
  -- there is room for the mark of the entry, and none for that of the return
  pub no_room_to_return : alternatives (with_entries (does_nothing ∷ [])) nearly_full (call None f [] here) ≡ Cut (a_gap (nearly_full.trace ++ enters) (cause.Long long.Trace)) ∷ []
