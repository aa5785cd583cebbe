-- The small programs once more, as typed trees: they do what their bodies do.
use Rattle.std.specs.Prelude.{ℕ, zero, suc, pos, List, [], ◌∷◌, ◌++◌, Option, Some, None, slice_get}
use Rattle.px_base.specs.declared.trace.Site.{Site}
use Rattle.px_base.specs.declared.trace.MarkKind.TheVariants.{Else, Got, Input, Access, Freed, Enter, Leave}
use Rattle.px_base.specs.declared.trace.Kind.TheVariants.{NullDereference, UseAfterFree, DoubleFree, UninitialisedRead}
use Rattle.px_syntax.specs.declared.typed_expression.Arithmetic.TheVariants.{Add}
use Rattle.px_syntax.specs.declared.typed_expression.Relation.TheVariants as relation
use Rattle.px_meaning.specs.Values.{TypeId, ValueType, Int, Pointer, One, Fields, Word}
use Rattle.px_meaning.specs.Heaps.{HeapMap}
use Rattle.px_meaning.specs.Calls.{error, Returned, Failed}
use Rattle.px_meaning.specs.Manifest.{Bug, IsManifest}
use Rattle.px_meaning.specs.Events.{mark}
use Rattle.px_syntax.specs.ProgramTree.{ProcedureTree}
use Rattle.px_meaning.specs.TypedProgram.{TypedProgram}
use Rattle.px_syntax.specs.TypedTree.{constant, null, local, arithmetic, cell, allocate, get_char, call, an_expression, no_expressions, passed, erased, an_argument, no_arguments, compare, local_place, cell_place, Statement, block, declare, assign, update, run_call, free, choose, loop, return, access, no_statements, statements_of}
use Rattle.px_meaning.specs.TreeCalls.{TreeCalls, BoundedTreeCalls}
use Rattle.px_meaning.specs.WorkedBodies.{at, int_block, only_field, empty_heap, unchecked_bug, wraps_bug, reads_input_bug, unset_local_bug, until_freed, two_turns}

-- the procedure with this number, whose item begins on this line
abbrev pub a_procedure : ℕ → ℕ → List ValueType → Option ValueType → List ValueType → List Statement → ProcedureTree
a_procedure f line parameters result locals statements = record {
  proc = record { 0 = f };
  site = at line 1;
  parameters = parameters;
  result = result;
  locals = locals;
  body = block (statements_of statements);
}

-- one with the number 0, without parameters and result, on line 1
abbrev pub procedure : List ValueType → List Statement → ProcedureTree
procedure locals statements = a_procedure 0 1 [] None locals statements

abbrev pub only_procedure : ProcedureTree → TypedProgram
only_procedure p = record { types = One Int ∷ []; procedures = λ f. slice_get (p ∷ []) f }

abbrev pub int_pointer : ValueType
int_pointer = Pointer int_block

abbrev pub nothing : Statement
nothing = block no_statements

-- a local is null, at its token and that of `==`
abbrev pub return_if_null : ℕ → Site → Site → Statement
return_if_null n token operator = choose (compare relation.SamePlace (local n token) null operator) (return None) nothing

-- `*x = c` at the star and the name's token
abbrev pub store_int : ℕ → Site → Site → ℕ → Statement
store_int n star token c = assign (cell_place (local n token) only_field int_block star) (constant (pos c))

abbrev pub free_local : ℕ → Site → Site → Statement
free_local n token word = free (local n token) int_block word

abbrev pub unchecked_tree : TypedProgram
unchecked_tree = only_procedure (procedure (int_pointer ∷ []) (declare 0 (Some (allocate int_block (at 1 21))) ∷ store_int 0 (at 1 42) (at 1 43) 1 ∷ free_local 0 (at 1 53) (at 1 48) ∷ []))

abbrev pub freed_too_early_tree : TypedProgram
freed_too_early_tree = only_procedure (a_procedure 0 1 [] None (int_pointer ∷ []) (declare 0 (Some (allocate int_block (at 2 10))) ∷ return_if_null 0 (at 3 6) (at 3 7)
    ∷ store_int 0 (at 4 3) (at 4 4) 1 ∷ free_local 0 (at 5 8) (at 5 3) ∷ store_int 0 (at 6 3) (at 6 4) 2 ∷ []))

abbrev pub freed_by_callee_trees : ℕ → Option ProcedureTree
freed_by_callee_trees zero = Some (a_procedure 0 1 (int_pointer ∷ []) None []
    (free_local 0 (at 1 21) (at 1 16) ∷ free_local 0 (at 1 29) (at 1 24) ∷ []))
freed_by_callee_trees (suc f) = Some (a_procedure 1 2 [] None (int_pointer ∷ []) (declare 0 (Some (allocate int_block (at 2 21))) ∷ return_if_null 0 (at 2 44) (at 2 45)
    ∷ run_call (record { 0 = 0 }) (an_argument (passed (local 0 (at 2 61))) no_arguments) (at 2 59) ∷ []))

abbrev pub freed_by_callee_program : TypedProgram
freed_by_callee_program = record { types = One Int ∷ []; procedures = freed_by_callee_trees }

abbrev pub wraps_tree : TypedProgram
wraps_tree = only_procedure (procedure (Int ∷ int_pointer ∷ []) (declare 0 (Some (constant (pos 2147483647))) ∷ declare 1 (Some null)
    ∷ assign (local_place 0 (at 1 43)) (arithmetic Add (local 0 (at 1 45)) (constant (pos 1)))
    ∷ choose (compare relation.Less (local 0 (at 1 52)) (constant (pos 0)) (at 1 53)) (store_int 1 (at 1 56) (at 1 57) 1) nothing ∷ []))

abbrev pub reads_input_tree : TypedProgram
reads_input_tree = only_procedure (a_procedure 0 2 [] None (int_pointer ∷ []) (declare 0 (Some null)
    ∷ choose (compare relation.Equal (get_char (at 2 29)) (constant (pos 10)) (at 2 38)) (store_int 0 (at 2 43) (at 2 44) 1) nothing ∷ []))

abbrev pub freed_in_loop_tree : TypedProgram
freed_in_loop_tree = only_procedure (procedure (int_pointer ∷ Int ∷ []) (declare 0 (Some (allocate int_block (at 1 21))) ∷ return_if_null 0 (at 1 44) (at 1 45)
    ∷ declare 1 (Some (constant (pos 0)))
    ∷ loop (at 1 67) (Some (compare relation.Less (local 1 (at 1 73)) (constant (pos 2)) (at 1 74)))
    (block (statements_of (free_local 0 (at 1 83) (at 1 78) ∷ update Add (local_place 1 (at 1 86)) (constant (pos 1)) ∷ []))) nothing ∷ []))

abbrev pub unset_local_tree : TypedProgram
unset_local_tree = only_procedure (a_procedure 0 1 [] (Some Int) (Int ∷ []) (declare 0 None ∷ return (Some (local 0 (at 1 26))) ∷ []))

-- `void log(long v, int n) { }` and `void f(void) { int *p = 0; log(*p, 1); }`: no long is passed, and its argument is evaluated
abbrev pub erased_access_trees : ℕ → Option ProcedureTree
erased_access_trees zero = Some (a_procedure 0 1 (Int ∷ []) None [] [])
erased_access_trees (suc f) = Some (a_procedure 1 2 [] None (int_pointer ∷ []) (declare 0 (Some null)
    ∷ run_call (record { 0 = 0 }) (an_argument (erased (an_expression (cell (local 0 (at 2 33)) only_field int_block (at 2 32)) no_expressions)) (an_argument (passed (constant (pos 1))) no_arguments)) (at 2 28) ∷ []))

abbrev pub erased_access_program : TypedProgram
erased_access_program = record { types = One Int ∷ []; procedures = erased_access_trees }

abbrev pub erased_access_bug : Bug
erased_access_bug = record { kind = NullDereference; site = at 2 32; trace = mark Access (at 2 32) ∷ [] }

-- `int pick(long v, int n, long w) { return n; }` and `int f(void) { return pick(getchar(), 7, getchar()); }`
abbrev pub around_passed_trees : ℕ → Option ProcedureTree
around_passed_trees zero = Some (a_procedure 0 1 (Int ∷ []) (Some Int) [] (return (Some (local 0 (at 1 43))) ∷ []))
around_passed_trees (suc f) = Some (a_procedure 1 2 [] (Some Int) [] (return (Some (call (record { 0 = 0 })
    (an_argument (erased (an_expression (get_char (at 2 27)) no_expressions)) (an_argument (passed (constant (pos 7))) (an_argument (erased (an_expression (get_char (at 2 41)) no_expressions)) no_arguments))) Int (at 2 22))) ∷ []))

abbrev pub around_passed_program : TypedProgram
around_passed_program = record { types = One Int ∷ []; procedures = around_passed_trees }

-- `struct s { int v; char c; };`: only v is known
abbrev pub struct_block : TypeId
struct_block = record { 0 = 0 }

abbrev pub struct_program : ProcedureTree → TypedProgram
struct_program p = record { types = Fields (Int ∷ []) ∷ []; procedures = λ f. slice_get (p ∷ []) f }

-- `p->c = getchar();`, at p, `->` and that word
abbrev pub set_unknown : Site → Site → Site → Statement
set_unknown token arrow word = access (local 0 token) (an_expression (get_char word) no_expressions) only_field struct_block arrow

-- `void f(void) { struct s *p = 0; p->c = getchar(); }`
abbrev pub member_of_null_tree : TypedProgram
member_of_null_tree = struct_program (a_procedure 0 2 [] None (Pointer struct_block ∷ []) (declare 0 (Some null) ∷ set_unknown (at 2 33) (at 2 34) (at 2 40) ∷ []))

abbrev pub member_of_null_bug : Bug
member_of_null_bug = record { kind = NullDereference; site = at 2 34; trace = mark Input (at 2 40) ∷ mark Access (at 2 34) ∷ [] }

-- `void f(void) { struct s *p; p->c = getchar(); }`
abbrev pub member_of_unset_tree : TypedProgram
member_of_unset_tree = struct_program (a_procedure 0 2 [] None (Pointer struct_block ∷ []) (declare 0 None ∷ set_unknown (at 2 29) (at 2 30) (at 2 36) ∷ []))

abbrev pub member_of_unset_bug : Bug
member_of_unset_bug = record { kind = UninitialisedRead; site = at 2 29; trace = [] }

-- `int f(void) { struct s *p = malloc(sizeof(struct s)); p->v = 7; p->c = getchar(); return p->v; }`
abbrev pub member_kept_tree : TypedProgram
member_kept_tree = struct_program (a_procedure 0 2 [] (Some Int) (Pointer struct_block ∷ []) (declare 0 (Some (allocate struct_block (at 2 29)))
    ∷ assign (cell_place (local 0 (at 2 55)) only_field struct_block (at 2 56)) (constant (pos 7))
    ∷ set_unknown (at 2 65) (at 2 66) (at 2 72)
    ∷ return (Some (cell (local 0 (at 2 90)) only_field struct_block (at 2 91))) ∷ []))

-- What these programs do.
pub record WorkedTreeExecutions : Type 0 where
  pub unchecked_malloc : IsManifest (TreeCalls unchecked_tree 0) (One Int ∷ []) [] unchecked_bug
  pub wrapping : IsManifest (TreeCalls wraps_tree 0) (One Int ∷ []) [] wraps_bug
  pub reading_input : IsManifest (TreeCalls reads_input_tree 0) (One Int ∷ []) [] reads_input_bug
  pub never_written : IsManifest (TreeCalls unset_local_tree 0) (One Int ∷ []) [] unset_local_bug
  pub after_free : (end : HeapMap) × TreeCalls freed_too_early_tree 0 [] empty_heap (until_freed ++ mark Access (at 6 3) ∷ []) (Failed (error UseAfterFree) (at 6 3)) end
  pub in_callee : (end : HeapMap) × TreeCalls freed_by_callee_program 1 [] empty_heap
      (mark Got (at 2 21) ∷ mark Else (at 2 45) ∷ mark (Enter (record { 0 = 0 })) (at 2 59) ∷ mark Freed (at 1 16) ∷ mark Freed (at 1 24) ∷ [])
      (Failed (error DoubleFree) (at 1 24)) end
  pub in_loop : (end : HeapMap) × BoundedTreeCalls 2 freed_in_loop_tree 0 [] empty_heap two_turns (Failed (error DoubleFree) (at 1 78)) end
  -- an argument that isn't passed: the call isn't entered where it fails, and arguments stand in their order
  pub erased_access : IsManifest (TreeCalls erased_access_program 1) (One Int ∷ []) [] erased_access_bug
  pub around_passed : (end : HeapMap) × TreeCalls around_passed_program 1 [] empty_heap
      (mark Input (at 2 27) ∷ mark Input (at 2 41) ∷ mark (Enter (record { 0 = 0 })) (at 2 22) ∷ mark Leave (at 2 22) ∷ []) (Returned (Word (pos 7))) end
  -- a member that isn't known: the pointer comes first, and the access behind what would be written; the cell that is known is kept
  pub member_of_null : IsManifest (TreeCalls member_of_null_tree 0) (Fields (Int ∷ []) ∷ []) [] member_of_null_bug
  pub member_of_unset : IsManifest (TreeCalls member_of_unset_tree 0) (Fields (Int ∷ []) ∷ []) [] member_of_unset_bug
  pub member_kept : (end : HeapMap) × TreeCalls member_kept_tree 0 [] empty_heap
      (mark Got (at 2 29) ∷ mark Access (at 2 56) ∷ mark Input (at 2 72) ∷ mark Access (at 2 66) ∷ mark Access (at 2 91) ∷ []) (Returned (Word (pos 7))) end
