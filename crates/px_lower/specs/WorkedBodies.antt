-- Procedures and their commands, worked by hand.
--
-- Each says of a statement, with so many locals in front, what it becomes and how many slots there are then.
-- The sites are the columns of a short notation of the tree, and tell the nodes apart.
use Rattle.std.specs.Prelude.{◌≡◌, ℕ, pos, List, [], ◌∷◌, Some, None}
use Rattle.px_base.specs.declared.trace.Site.{Site}
use Rattle.px_base.specs.declared.trace.ProcId.{ProcId}
use Rattle.px_base.specs.declared.trace.FieldId.{FieldId}
use Rattle.px_core.specs.declared.command.Operand.TheVariants.{Slot, Word, Null}
use Rattle.px_core.specs.declared.command.Operator.TheVariants.{Copy, Neg, Add, Sub, Mul}
use Rattle.px_core.specs.declared.command.Comparison.TheVariants as test
use Rattle.px_core.specs.CommandTree.{CommandTree, assign, unset, read, test, choose, loop, leave, load, store, malloc, free, input, call, return, break, continue, stop, no_commands, a_command, divide}
use Rattle.px_syntax.specs.declared.typed_expression.Arithmetic.TheVariants as arithmetic
use Rattle.px_syntax.specs.declared.typed_expression.Relation.TheVariants as relation
use Rattle.px_syntax.specs.TypedTree.{Expression, Expressions, Place, Statement}
use Rattle.px_syntax.specs.TypedTree as tree
use Rattle.px_meaning.specs.Values.{TypeId, Int}
use Rattle.px_lower.specs.Lowering.{lowered_statement}

abbrev pub at : ℕ → Site
at column = record { file = 0; line = 1; column = column }

-- the block types of an `int`, and of a struct
abbrev pub ints : TypeId
ints = record { 0 = 0 }

abbrev pub pairs : TypeId
pairs = record { 0 = 1 }

-- the only cell of an `int`, and the second field of a struct
abbrev pub first : FieldId
first = record { 0 = 0 }

abbrev pub second : FieldId
second = record { 0 = 1 }

abbrev pub callee : ProcId
callee = record { 0 = 7 }

-- `*p` and `p->f`
abbrev pub star : Expression → ℕ → Expression
star p column = tree.cell p first ints (at column)

abbrev pub arrow : Expression → ℕ → Expression
arrow p column = tree.cell p second pairs (at column)

abbrev pub star_place : Expression → ℕ → Place
star_place p column = tree.cell_place p first ints (at column)

abbrev pub arrow_place : Expression → ℕ → Place
arrow_place p column = tree.cell_place p second pairs (at column)

abbrev pub Becomes : Statement → ℕ → ℕ → List CommandTree → Type 0
Becomes s locals slots commands = lowered_statement s locals ≡ record { commands = commands; value = Some tt; next = slots }

-- the last of the commands is a `stop`
abbrev pub Stops : Statement → ℕ → ℕ → List CommandTree → Type 0
Stops s locals slots commands = lowered_statement s locals ≡ record { commands = commands; value = None; next = slots }

-- an expression that isn't understood, with these parts
abbrev pub outside : Expressions → ℕ → Expression
outside parts column = tree.stop 7 (at column) parts

pub record WorkedBodies : Type 0 where
  -- `{ }`
  pub nothing : Becomes (tree.block tree.no_statements) 0 0 []
  -- `return 5;`
  pub constant :
      Becomes (tree.return (Some (tree.constant (pos 5)))) 0 0
      (return (Some (Word (pos 5))) ∷ [])
  -- `return NULL;`
  pub null_pointer :
      Becomes (tree.return (Some tree.null)) 0 0
      (return (Some Null) ∷ [])
  -- `return a;`
  pub local :
      Becomes (tree.return (Some (tree.local 0 (at 2)))) 1 1
      (read 0 (at 2) ∷ return (Some (Slot 0)) ∷ [])
  -- `return -a;`
  pub negation :
      Becomes (tree.return (Some (tree.negated (tree.local 0 (at 3))))) 1 2
      (read 0 (at 3) ∷ assign 1 Neg (Slot 0) (Word (pos 0)) ∷ return (Some (Slot 1)) ∷ [])
  -- `return a + b * c;`
  pub left_to_right :
      Becomes (tree.return (Some (tree.arithmetic arithmetic.Add (tree.local 0 (at 3)) (tree.arithmetic arithmetic.Multiply (tree.local 1 (at 5)) (tree.local 2 (at 6)))))) 3 5
      (read 0 (at 3) ∷ read 1 (at 5) ∷ read 2 (at 6) ∷ assign 3 Mul (Slot 1) (Slot 2) ∷ assign 4 Add (Slot 0) (Slot 3) ∷ return (Some (Slot 4)) ∷ [])
  -- `return a - 1;`
  pub subtraction :
      Becomes (tree.return (Some (tree.arithmetic arithmetic.Subtract (tree.local 0 (at 3)) (tree.constant (pos 1))))) 1 2
      (read 0 (at 3) ∷ assign 1 Sub (Slot 0) (Word (pos 1)) ∷ return (Some (Slot 1)) ∷ [])
  -- `return a / b;`
  pub quotient :
      Becomes (tree.return (Some (tree.arithmetic (arithmetic.Divide (at 2)) (tree.local 0 (at 3)) (tree.local 1 (at 4))))) 2 3
      (read 0 (at 3) ∷ read 1 (at 4) ∷ divide 2 (Slot 0) (Slot 1) (at 2) ∷ return (Some (Slot 2)) ∷ [])
  -- `return a % b;`
  pub remainder :
      Becomes (tree.return (Some (tree.arithmetic (arithmetic.Remainder (at 2)) (tree.local 0 (at 3)) (tree.local 1 (at 4))))) 2 5
      (read 0 (at 3) ∷ read 1 (at 4) ∷ divide 2 (Slot 0) (Slot 1) (at 2) ∷ assign 3 Mul (Slot 2) (Slot 1) ∷ assign 4 Sub (Slot 0) (Slot 3) ∷ return (Some (Slot 4)) ∷ [])
  -- `return a < 1;`
  pub comparison :
      Becomes (tree.return (Some (tree.truth (tree.compare relation.Less (tree.local 0 (at 4)) (tree.constant (pos 1)) (at 3))))) 1 2
      (read 0 (at 4) ∷ test 1 test.Less (Slot 0) (Word (pos 1)) (at 3) ∷ return (Some (Slot 1)) ∷ [])
  -- `return a > b;`
  pub greater :
      Becomes (tree.return (Some (tree.truth (tree.compare relation.Greater (tree.local 0 (at 4)) (tree.local 1 (at 5)) (at 3))))) 2 3
      (read 0 (at 4) ∷ read 1 (at 5) ∷ test 2 test.Less (Slot 1) (Slot 0) (at 3) ∷ return (Some (Slot 2)) ∷ [])
  -- `return a >= b;`
  pub at_least :
      Becomes (tree.return (Some (tree.truth (tree.compare relation.AtLeast (tree.local 0 (at 4)) (tree.local 1 (at 5)) (at 3))))) 2 3
      (read 0 (at 4) ∷ read 1 (at 5) ∷ test 2 test.AtMost (Slot 1) (Slot 0) (at 3) ∷ return (Some (Slot 2)) ∷ [])
  -- `return (a <= b) + (a == 0);`
  pub sum_of_comparisons :
      Becomes (tree.return (Some (tree.arithmetic arithmetic.Add (tree.truth (tree.compare relation.AtMost (tree.local 0 (at 5)) (tree.local 1 (at 6)) (at 4))) (tree.truth (tree.compare relation.Equal (tree.local 0 (at 9)) (tree.constant (pos 0)) (at 8)))))) 2 5
      (read 0 (at 5) ∷ read 1 (at 6) ∷ test 2 test.AtMost (Slot 0) (Slot 1) (at 4) ∷ read 0 (at 9) ∷ test 3 test.Equal (Slot 0) (Word (pos 0)) (at 8) ∷ assign 4 Add (Slot 2) (Slot 3) ∷ return (Some (Slot 4)) ∷ [])
  -- `return a != 2;`
  pub unequal :
      Becomes (tree.return (Some (tree.truth (tree.compare relation.Unequal (tree.local 0 (at 4)) (tree.constant (pos 2)) (at 3))))) 1 2
      (read 0 (at 4) ∷ test 1 test.Unequal (Slot 0) (Word (pos 2)) (at 3) ∷ return (Some (Slot 1)) ∷ [])
  -- `return a == NULL;`
  pub same_place :
      Becomes (tree.return (Some (tree.truth (tree.compare relation.SamePlace (tree.local 0 (at 4)) tree.null (at 3))))) 1 2
      (read 0 (at 4) ∷ test 1 test.SamePlace (Slot 0) Null (at 3) ∷ return (Some (Slot 1)) ∷ [])
  -- `return a != b;` of pointers
  pub other_place :
      Becomes (tree.return (Some (tree.truth (tree.compare relation.OtherPlace (tree.local 0 (at 4)) (tree.local 1 (at 5)) (at 3))))) 2 3
      (read 0 (at 4) ∷ read 1 (at 5) ∷ test 2 test.OtherPlace (Slot 0) (Slot 1) (at 3) ∷ return (Some (Slot 2)) ∷ [])
  -- `return *a;`
  pub cell :
      Becomes (tree.return (Some (star (tree.local 0 (at 3)) 2))) 1 2
      (read 0 (at 3) ∷ load 1 (Slot 0) first ints (at 2) ∷ read 1 (at 2) ∷ return (Some (Slot 1)) ∷ [])
  -- `return (*a)->f;`
  pub field_of_cell :
      Becomes (tree.return (Some (arrow (star (tree.local 0 (at 4)) 3) 2))) 1 3
      (read 0 (at 4) ∷ load 1 (Slot 0) first ints (at 3) ∷ read 1 (at 3) ∷ load 2 (Slot 1) second pairs (at 2) ∷ read 2 (at 2) ∷ return (Some (Slot 2)) ∷ [])
  -- `int *a = malloc(sizeof(int));`
  pub allocation :
      Becomes (tree.declare 0 (Some (tree.allocate ints (at 3)))) 1 2
      (unset 0 ∷ malloc 1 ints (at 3) ∷ assign 0 Copy (Slot 1) (Word (pos 0)) ∷ [])
  -- `int a = getchar();`
  pub get_char :
      Becomes (tree.declare 0 (Some (tree.get_char (at 3)))) 1 2
      (unset 0 ∷ input 1 (at 3) ∷ assign 0 Copy (Slot 1) (Word (pos 0)) ∷ [])
  -- `int a;`
  pub declaration :
      Becomes (tree.block (tree.a_statement (tree.declare 0 None) tree.no_statements)) 1 1
      (unset 0 ∷ [])
  -- `return f(a, -b);`
  pub used_call :
      Becomes (tree.return (Some (tree.call callee (tree.an_argument (tree.passed (tree.local 0 (at 3))) (tree.an_argument (tree.passed (tree.negated (tree.local 1 (at 5)))) tree.no_arguments)) Int (at 2)))) 2 4
      (read 0 (at 3) ∷ read 1 (at 5) ∷ assign 2 Neg (Slot 1) (Word (pos 0)) ∷ call (Some 3) callee ((Slot 0) ∷ (Slot 2) ∷ []) (at 2) ∷ read 3 (at 2) ∷ return (Some (Slot 3)) ∷ [])
  -- `f();`
  pub call_statement :
      Becomes (tree.run_call callee tree.no_arguments (at 2)) 0 0
      (call None callee [] (at 2) ∷ [])
  -- `f(5, NULL);`
  pub call_statement_with_arguments :
      Becomes (tree.run_call callee (tree.an_argument (tree.passed (tree.constant (pos 5))) (tree.an_argument (tree.passed tree.null) tree.no_arguments)) (at 2)) 0 0
      (call None callee ((Word (pos 5)) ∷ Null ∷ []) (at 2) ∷ [])
  -- `f(*a, b);`, whose first argument isn't passed
  pub call_with_erased :
      Becomes (tree.run_call callee (tree.an_argument (tree.erased (tree.an_expression (star (tree.local 0 (at 5)) 4) tree.no_expressions)) (tree.an_argument (tree.passed (tree.local 1 (at 7))) tree.no_arguments)) (at 2)) 2 3
      (read 0 (at 5) ∷ load 2 (Slot 0) first ints (at 4) ∷ unset 2 ∷ read 1 (at 7) ∷ call None callee ((Slot 1) ∷ []) (at 2) ∷ [])
  -- `return f(a, g() + *b);`, whose second argument isn't passed: its parts are `g()` and `*b`
  pub used_call_with_erased :
      Becomes (tree.return (Some (tree.call callee (tree.an_argument (tree.passed (tree.local 0 (at 3))) (tree.an_argument (tree.erased
      (tree.an_expression (tree.call callee tree.no_arguments Int (at 5)) (tree.an_expression (star (tree.local 1 (at 8)) 7) tree.no_expressions))) tree.no_arguments)) Int (at 2)))) 2 4
      (read 0 (at 3) ∷ call None callee [] (at 5) ∷ read 1 (at 8) ∷ load 2 (Slot 1) first ints (at 7) ∷ unset 2 ∷ call (Some 3) callee ((Slot 0) ∷ []) (at 2) ∷ read 3 (at 2) ∷ return (Some (Slot 3)) ∷ [])
  -- `free(a);`
  pub freed :
      Becomes (tree.free (tree.local 0 (at 2)) ints (at 1)) 1 1
      (read 0 (at 2) ∷ free (Slot 0) ints (at 1) ∷ [])
  -- `getchar();`
  pub get_char_statement :
      Becomes (tree.input (at 1)) 0 1
      (input 0 (at 1) ∷ [])
  -- `a = b;`
  pub assignment :
      Becomes (tree.assign (tree.local_place 0 (at 2)) (tree.local 1 (at 3))) 2 2
      (read 1 (at 3) ∷ assign 0 Copy (Slot 1) (Word (pos 0)) ∷ [])
  -- `*a = b + 1;`
  pub stored :
      Becomes (tree.assign (star_place (tree.local 0 (at 3)) 2) (tree.arithmetic arithmetic.Add (tree.local 1 (at 5)) (tree.constant (pos 1)))) 2 3
      (read 0 (at 3) ∷ read 1 (at 5) ∷ assign 2 Add (Slot 1) (Word (pos 1)) ∷ store (Slot 0) first ints (Slot 2) (at 2) ∷ [])
  -- `a += 5;`
  pub compound_assignment :
      Becomes (tree.update arithmetic.Add (tree.local_place 0 (at 3)) (tree.constant (pos 5))) 1 2
      (read 0 (at 3) ∷ assign 1 Add (Slot 0) (Word (pos 5)) ∷ assign 0 Copy (Slot 1) (Word (pos 0)) ∷ [])
  -- `a->f -= b;`
  pub compound_store :
      Becomes (tree.update arithmetic.Subtract (arrow_place (tree.local 0 (at 4)) 3) (tree.local 1 (at 5))) 2 4
      (read 0 (at 4) ∷ load 2 (Slot 0) second pairs (at 3) ∷ read 2 (at 3) ∷ read 1 (at 5) ∷ assign 3 Sub (Slot 2) (Slot 1) ∷ store (Slot 0) second pairs (Slot 3) (at 3) ∷ [])
  -- `if (a < 0) { } else return;`
  pub if_else :
      Becomes (tree.choose (tree.compare relation.Less (tree.local 0 (at 3)) (tree.constant (pos 0)) (at 2)) (tree.block tree.no_statements) (tree.return None)) 1 2
      (read 0 (at 3) ∷ test 1 test.Less (Slot 0) (Word (pos 0)) (at 2) ∷ choose 1 no_commands (a_command (return None) no_commands) ∷ [])
  -- `if (a) return;`
  pub if_word :
      Becomes (tree.choose (tree.word (tree.local 0 (at 3)) (at 2)) (tree.return None) (tree.block tree.no_statements)) 1 2
      (read 0 (at 3) ∷ test 1 test.Unequal (Slot 0) (Word (pos 0)) (at 2) ∷ choose 1 (a_command (return None) no_commands) no_commands ∷ [])
  -- `if (a) return;` of a pointer
  pub if_pointer :
      Becomes (tree.choose (tree.pointer (tree.local 0 (at 3)) (at 2)) (tree.return None) (tree.block tree.no_statements)) 1 2
      (read 0 (at 3) ∷ test 1 test.OtherPlace (Slot 0) Null (at 2) ∷ choose 1 (a_command (return None) no_commands) no_commands ∷ [])
  -- `if (a == 0) return getchar(); else return getchar();`
  pub branches :
      Becomes (tree.choose (tree.compare relation.Equal (tree.local 0 (at 3)) (tree.constant (pos 0)) (at 2)) (tree.return (Some (tree.get_char (at 6)))) (tree.return (Some (tree.get_char (at 8))))) 1 4
      (read 0 (at 3) ∷ test 1 test.Equal (Slot 0) (Word (pos 0)) (at 2) ∷ choose 1 (a_command (input 2 (at 6)) (a_command (return (Some (Slot 2))) no_commands)) (a_command (input 3 (at 8)) (a_command (return (Some (Slot 3))) no_commands)) ∷ [])
  -- `if (a && b) return;`
  pub if_both :
      Becomes (tree.choose (tree.both (tree.word (tree.local 0 (at 4)) (at 3)) (tree.word (tree.local 1 (at 6)) (at 5))) (tree.return None) (tree.block tree.no_statements)) 2 5
      (read 0 (at 4) ∷ test 2 test.Unequal (Slot 0) (Word (pos 0)) (at 3) ∷ assign 3 Copy (Slot 2) (Word (pos 0)) ∷ choose 3 (a_command (read 1 (at 6)) (a_command (test 4 test.Unequal (Slot 1) (Word (pos 0)) (at 5)) (a_command (assign 3 Copy (Slot 4) (Word (pos 0))) no_commands))) no_commands ∷ choose 3 (a_command (return None) no_commands) no_commands ∷ [])
  -- `return a || b;`
  pub either :
      Becomes (tree.return (Some (tree.truth (tree.either (tree.word (tree.local 0 (at 5)) (at 4)) (tree.word (tree.local 1 (at 7)) (at 6)))))) 2 5
      (read 0 (at 5) ∷ test 2 test.Unequal (Slot 0) (Word (pos 0)) (at 4) ∷ assign 3 Copy (Slot 2) (Word (pos 0)) ∷ choose 3 no_commands (a_command (read 1 (at 7)) (a_command (test 4 test.Unequal (Slot 1) (Word (pos 0)) (at 6)) (a_command (assign 3 Copy (Slot 4) (Word (pos 0))) no_commands))) ∷ return (Some (Slot 3)) ∷ [])
  -- `return !a;`
  pub opposite :
      Becomes (tree.return (Some (tree.truth (tree.opposite (tree.word (tree.local 0 (at 5)) (at 4)))))) 1 3
      (read 0 (at 5) ∷ test 1 test.Unequal (Slot 0) (Word (pos 0)) (at 4) ∷ assign 2 Sub (Word (pos 1)) (Slot 1) ∷ return (Some (Slot 2)) ∷ [])
  -- `return !(a && (!b || c));`
  pub nested :
      Becomes (tree.return (Some (tree.truth (tree.opposite (tree.both (tree.word (tree.local 0 (at 6)) (at 5)) (tree.either (tree.opposite (tree.word (tree.local 1 (at 10)) (at 9))) (tree.word (tree.local 2 (at 12)) (at 11)))))))) 3 10
      (read 0 (at 6) ∷ test 3 test.Unequal (Slot 0) (Word (pos 0)) (at 5) ∷ assign 4 Copy (Slot 3) (Word (pos 0)) ∷ choose 4 (a_command (read 1 (at 10)) (a_command (test 5 test.Unequal (Slot 1) (Word (pos 0)) (at 9)) (a_command (assign 6 Sub (Word (pos 1)) (Slot 5)) (a_command (assign 7 Copy (Slot 6) (Word (pos 0))) (a_command (choose 7 no_commands (a_command (read 2 (at 12)) (a_command (test 8 test.Unequal (Slot 2) (Word (pos 0)) (at 11)) (a_command (assign 7 Copy (Slot 8) (Word (pos 0))) no_commands)))) (a_command (assign 4 Copy (Slot 7) (Word (pos 0))) no_commands)))))) no_commands ∷ assign 9 Sub (Word (pos 1)) (Slot 4) ∷ return (Some (Slot 9)) ∷ [])
  -- `while (a) a -= 1;`
  pub while_loop :
      Becomes (tree.loop (at 1) (Some (tree.word (tree.local 0 (at 3)) (at 2))) (tree.update arithmetic.Subtract (tree.local_place 0 (at 6)) (tree.constant (pos 1))) (tree.block tree.no_statements)) 1 3
      (loop (at 1) (a_command (read 0 (at 3)) (a_command (test 1 test.Unequal (Slot 0) (Word (pos 0)) (at 2)) (a_command (choose 1 no_commands (a_command leave no_commands)) no_commands))) (a_command (read 0 (at 6)) (a_command (assign 2 Sub (Slot 0) (Word (pos 1))) (a_command (assign 0 Copy (Slot 2) (Word (pos 0))) no_commands))) no_commands ∷ [])
  -- `for (int a = 0; a < 3; a += 1) f(a);`
  pub for_loop :
      Becomes (tree.block (tree.a_statement (tree.declare 0 (Some (tree.constant (pos 0)))) (tree.a_statement (tree.loop (at 5) (Some (tree.compare relation.Less (tree.local 0 (at 7)) (tree.constant (pos 3)) (at 6))) (tree.run_call callee (tree.an_argument (tree.passed (tree.local 0 (at 11))) tree.no_arguments) (at 10)) (tree.update arithmetic.Add (tree.local_place 0 (at 15)) (tree.constant (pos 1)))) tree.no_statements))) 1 3
      (unset 0 ∷ assign 0 Copy (Word (pos 0)) (Word (pos 0)) ∷ loop (at 5) (a_command (read 0 (at 7)) (a_command (test 1 test.Less (Slot 0) (Word (pos 3)) (at 6)) (a_command (choose 1 no_commands (a_command leave no_commands)) no_commands))) (a_command (read 0 (at 11)) (a_command (call None callee ((Slot 0) ∷ []) (at 10)) no_commands)) (a_command (read 0 (at 15)) (a_command (assign 2 Add (Slot 0) (Word (pos 1))) (a_command (assign 0 Copy (Slot 2) (Word (pos 0))) no_commands))) ∷ [])
  -- `for (; ; a += 1) if (a) break;`
  pub for_without_condition :
      Becomes (tree.loop (at 1) None (tree.choose (tree.word (tree.local 0 (at 4)) (at 3)) tree.break (tree.block tree.no_statements)) (tree.update arithmetic.Add (tree.local_place 0 (at 10)) (tree.constant (pos 1)))) 1 3
      (loop (at 1) no_commands (a_command (read 0 (at 4)) (a_command (test 1 test.Unequal (Slot 0) (Word (pos 0)) (at 3)) (a_command (choose 1 (a_command break no_commands) no_commands) no_commands))) (a_command (read 0 (at 10)) (a_command (assign 2 Add (Slot 0) (Word (pos 1))) (a_command (assign 0 Copy (Slot 2) (Word (pos 0))) no_commands))) ∷ [])
  -- `for (; a; ) continue;`
  pub for_without_step :
      Becomes (tree.loop (at 1) (Some (tree.word (tree.local 0 (at 3)) (at 2))) tree.continue (tree.block tree.no_statements)) 1 2
      (loop (at 1) (a_command (read 0 (at 3)) (a_command (test 1 test.Unequal (Slot 0) (Word (pos 0)) (at 2)) (a_command (choose 1 no_commands (a_command leave no_commands)) no_commands))) (a_command continue no_commands) no_commands ∷ [])
  -- `for (; getchar() < a; a += getchar()) a = getchar();`
  pub slots_in_order :
      Becomes (tree.loop (at 1) (Some (tree.compare relation.Less (tree.get_char (at 3)) (tree.local 0 (at 4)) (at 2))) (tree.assign (tree.local_place 0 (at 6)) (tree.get_char (at 7))) (tree.update arithmetic.Add (tree.local_place 0 (at 10)) (tree.get_char (at 11)))) 1 6
      (loop (at 1) (a_command (input 1 (at 3)) (a_command (read 0 (at 4)) (a_command (test 2 test.Less (Slot 1) (Slot 0) (at 2)) (a_command (choose 2 no_commands (a_command leave no_commands)) no_commands)))) (a_command (input 3 (at 7)) (a_command (assign 0 Copy (Slot 3) (Word (pos 0))) no_commands)) (a_command (read 0 (at 10)) (a_command (input 4 (at 11)) (a_command (assign 5 Add (Slot 0) (Slot 4)) (a_command (assign 0 Copy (Slot 5) (Word (pos 0))) no_commands)))) ∷ [])
  -- `a;`
  pub value_of_local :
      Becomes (tree.evaluate (tree.local 0 (at 2))) 1 1
      []
  -- `*a;`
  pub value_of_cell :
      Becomes (tree.evaluate (star (tree.local 0 (at 3)) 2)) 1 2
      (read 0 (at 3) ∷ load 1 (Slot 0) first ints (at 2) ∷ unset 1 ∷ [])
  -- `f(a);`
  pub value_of_call :
      Becomes (tree.evaluate (tree.call callee (tree.an_argument (tree.passed (tree.local 0 (at 3))) tree.no_arguments) Int (at 2))) 1 1
      (read 0 (at 3) ∷ call None callee ((Slot 0) ∷ []) (at 2) ∷ [])
  -- `a + *b;`
  pub value_of_sum :
      Becomes (tree.evaluate (tree.arithmetic arithmetic.Add (tree.local 0 (at 3)) (star (tree.local 1 (at 5)) 4))) 2 4
      (read 0 (at 3) ∷ read 1 (at 5) ∷ load 2 (Slot 1) first ints (at 4) ∷ read 2 (at 4) ∷ assign 3 Add (Slot 0) (Slot 2) ∷ [])
  -- `a->m = b;`, of a member that isn't known
  pub unknown_member :
      Becomes (tree.access (tree.local 0 (at 3)) (tree.an_expression (tree.local 1 (at 4)) tree.no_expressions) first pairs (at 2)) 2 3
      (read 0 (at 3) ∷ load 2 (Slot 0) first pairs (at 2) ∷ unset 2 ∷ [])
  -- `a->f->m = getchar();`
  pub unknown_member_of_cell :
      Becomes (tree.access (arrow (tree.local 0 (at 4)) 3) (tree.an_expression (tree.get_char (at 5)) tree.no_expressions) first pairs (at 2)) 1 4
      (read 0 (at 4) ∷ load 1 (Slot 0) second pairs (at 3) ∷ read 1 (at 3) ∷ input 2 (at 5) ∷ load 3 (Slot 1) first pairs (at 2) ∷ unset 3 ∷ [])
  -- `outside;`
  pub stopped :
      Stops (tree.evaluate (outside tree.no_expressions 2)) 1 1
      (stop 7 (at 2) ∷ [])
  -- `outside(a, *b, f(), getchar());`
  pub stopped_after_parts :
      Stops (tree.evaluate (outside (tree.an_expression (tree.local 0 (at 3)) (tree.an_expression (star (tree.local 1 (at 5)) 4) (tree.an_expression (tree.call callee tree.no_arguments Int (at 6)) (tree.an_expression (tree.get_char (at 7)) tree.no_expressions)))) 2)) 2 4
      (read 1 (at 5) ∷ load 2 (Slot 1) first ints (at 4) ∷ unset 2 ∷ call None callee [] (at 6) ∷ input 3 (at 7) ∷ stop 7 (at 2) ∷ [])
  -- `f(a, outside, b);`, whose second argument isn't passed
  pub stopped_in_erased :
      Stops (tree.run_call callee (tree.an_argument (tree.passed (tree.local 0 (at 3))) (tree.an_argument (tree.erased (tree.an_expression (outside tree.no_expressions 4) tree.no_expressions)) (tree.an_argument (tree.passed (tree.local 1 (at 5))) tree.no_arguments))) (at 2)) 2 2
      (read 0 (at 3) ∷ stop 7 (at 4) ∷ [])
  -- `a->m = outside;`
  pub stopped_before_access :
      Stops (tree.access (tree.local 0 (at 3)) (tree.an_expression (outside tree.no_expressions 4) tree.no_expressions) first pairs (at 2)) 1 1
      (read 0 (at 3) ∷ stop 7 (at 4) ∷ [])
  -- `a = b + outside; return;`
  pub nothing_behind :
      Stops (tree.block (tree.a_statement (tree.assign (tree.local_place 0 (at 2)) (tree.arithmetic arithmetic.Add (tree.local 1 (at 4)) (outside tree.no_expressions 5))) (tree.a_statement (tree.return None) tree.no_statements))) 2 2
      (read 1 (at 4) ∷ stop 7 (at 5) ∷ [])
  -- `if (a && outside) outside; return;`
  pub lists_of_their_own :
      Becomes (tree.block (tree.a_statement (tree.choose (tree.both (tree.word (tree.local 0 (at 4)) (at 3)) (tree.word (outside tree.no_expressions 6) (at 5))) (tree.evaluate (outside tree.no_expressions 7)) (tree.block tree.no_statements)) (tree.a_statement (tree.return None) tree.no_statements))) 1 3
      (read 0 (at 4) ∷ test 1 test.Unequal (Slot 0) (Word (pos 0)) (at 3) ∷ assign 2 Copy (Slot 1) (Word (pos 0)) ∷ choose 2 (a_command (stop 7 (at 6)) no_commands) no_commands ∷ choose 2 (a_command (stop 7 (at 7)) no_commands) no_commands ∷ return None ∷ [])
  -- `while (outside) f();`
  pub head_of_loop :
      Becomes (tree.loop (at 1) (Some (tree.word (outside tree.no_expressions 3) (at 2))) (tree.run_call callee tree.no_arguments (at 4)) (tree.block tree.no_statements)) 0 0
      (loop (at 1) (a_command (stop 7 (at 3)) no_commands) (a_command (call None callee [] (at 4)) no_commands) no_commands ∷ [])
