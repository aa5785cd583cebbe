-- A program with a struct, calls that give values, a `for` and an input, as typed trees.
--
--    1  #include <stdlib.h>
--    2  struct node {
--    3    int value;
--    4    struct node *next;
--    5  };
--    6  struct node *push(struct node *head, int value) {
--    7    struct node *n = (struct node *)malloc(sizeof(struct node));
--    8    n->value = value;
--    9    n->next = head;
--   10    return n;
--   11  }
--   12  void drop(struct node *n) {
--   13    if (n == NULL) return;
--   14    free(n);
--   15  }
--   16  int main(void) {
--   17    struct node *list = NULL;
--   18    int i;
--   19    for (i = 0; i < 2; i++) {
--   20      list = push(list, i);
--   21    }
--   22    drop(list);
--   23    if (getchar() == 10) drop(list);
--   24    return 0;
--   25  }
use Rattle.std.specs.Prelude.{ℕ, zero, suc, pos, List, [], ◌∷◌, ◌++◌, Option, Some, None}
use Rattle.px_base.specs.declared.trace.Mark.{Mark}
use Rattle.px_base.specs.declared.trace.MarkKind.TheVariants.{Then, Else, Iter, Done, Got, Input, Access, Freed, Enter, Leave}
use Rattle.px_base.specs.declared.trace.Kind.TheVariants.{DoubleFree}
use Rattle.px_base.specs.declared.trace.ProcId.{ProcId}
use Rattle.px_base.specs.declared.trace.FieldId.{FieldId}
use Rattle.px_syntax.specs.declared.typed_expression.Arithmetic.TheVariants.{Add}
use Rattle.px_syntax.specs.declared.typed_expression.Relation.TheVariants as relation
use Rattle.px_meaning.specs.Values.{TypeId, Int, Pointer, One, Fields}
use Rattle.px_meaning.specs.Heaps.{HeapMap}
use Rattle.px_meaning.specs.Calls.{error, Failed}
use Rattle.px_meaning.specs.Events.{mark}
use Rattle.px_syntax.specs.ProgramTree.{ProcedureTree}
use Rattle.px_meaning.specs.TypedProgram.{TypedProgram}
use Rattle.px_syntax.specs.TypedTree.{constant, null, local, allocate, get_char, call, passed, an_argument, no_arguments, compare, local_place, cell_place, block, declare, assign, update, run_call, free, choose, loop, return, statements_of}
use Rattle.px_meaning.specs.TreeCalls.{TreeCalls}
use Rattle.px_meaning.specs.WorkedBodies.{at, only_field, empty_heap}
use Rattle.px_meaning.specs.WorkedTrees.{a_procedure, nothing, return_if_null}

abbrev pub node : TypeId
node = record { 0 = 1 }

abbrev pub next_field : FieldId
next_field = record { 0 = 1 }

abbrev pub push : ProcId
push = record { 0 = 0 }

abbrev pub drop : ProcId
drop = record { 0 = 1 }

abbrev pub push_procedure : ProcedureTree
push_procedure = a_procedure 0 6 (Pointer node ∷ Int ∷ []) (Some (Pointer node)) (Pointer node ∷ [])
    (declare 2 (Some (allocate node (at 7 35)))
    ∷ assign (cell_place (local 2 (at 8 3)) only_field node (at 8 4)) (local 1 (at 8 14))
    ∷ assign (cell_place (local 2 (at 9 3)) next_field node (at 9 4)) (local 0 (at 9 13))
    ∷ return (Some (local 2 (at 10 10))) ∷ [])

abbrev pub drop_procedure : ProcedureTree
drop_procedure = a_procedure 1 12 (Pointer node ∷ []) None []
    (return_if_null 0 (at 13 7) (at 13 9) ∷ free (local 0 (at 14 8)) node (at 14 3) ∷ [])

abbrev pub main_procedure : ProcedureTree
main_procedure = a_procedure 2 16 [] (Some Int) (Pointer node ∷ Int ∷ [])
    (declare 0 (Some null) ∷ declare 1 None
    ∷ assign (local_place 1 (at 19 8)) (constant (pos 0))
    ∷ loop (at 19 3) (Some (compare relation.Less (local 1 (at 19 15)) (constant (pos 2)) (at 19 17)))
    (block (statements_of (assign (local_place 0 (at 20 5)) (call push (an_argument (passed (local 0 (at 20 17))) (an_argument (passed (local 1 (at 20 23))) no_arguments)) (Pointer node) (at 20 12)) ∷ [])))
    (update Add (local_place 1 (at 19 22)) (constant (pos 1)))
    ∷ run_call drop (an_argument (passed (local 0 (at 22 8))) no_arguments) (at 22 3)
    ∷ choose (compare relation.Equal (get_char (at 23 7)) (constant (pos 10)) (at 23 17))
    (run_call drop (an_argument (passed (local 0 (at 23 29))) no_arguments) (at 23 24)) nothing
    ∷ return (Some (constant (pos 0))) ∷ [])

abbrev pub list_procedures : ℕ → Option ProcedureTree
list_procedures zero = Some push_procedure
list_procedures (suc zero) = Some drop_procedure
list_procedures (suc (suc f)) = Some main_procedure

abbrev pub list_program : TypedProgram
list_program = record { types = One Int ∷ Fields (Int ∷ Pointer node ∷ []) ∷ []; procedures = list_procedures }

-- what one call of `push` marks
abbrev pub pushing : List Mark
pushing = mark Got (at 7 35) ∷ mark Access (at 8 4) ∷ mark Access (at 9 4) ∷ []

abbrev pub turn : List Mark
turn = mark Then (at 19 17) ∷ mark Iter (at 19 3) ∷ mark (Enter push) (at 20 12) ∷ (pushing ++ mark Leave (at 20 12) ∷ [])

abbrev pub dropping : List Mark
dropping = mark Else (at 13 9) ∷ mark Freed (at 14 3) ∷ []

abbrev pub list_trace : List Mark
list_trace = turn ++ turn ++ (mark Else (at 19 17) ∷ mark Done (at 19 3) ∷ [])
    ++ (mark (Enter drop) (at 22 3) ∷ (dropping ++ mark Leave (at 22 3) ∷ []))
    ++ (mark Input (at 23 7) ∷ mark Then (at 23 17) ∷ mark (Enter drop) (at 23 24) ∷ dropping)

-- the second `drop` frees a block twice
abbrev pub WorkedListExecution : Type 0
WorkedListExecution = (end : HeapMap) × TreeCalls list_program 2 [] empty_heap list_trace (Failed (error DoubleFree) (at 14 3)) end
