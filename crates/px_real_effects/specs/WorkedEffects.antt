-- Statements that were worked by hand, with the names of the worked expressions: x, a local int; q, a local `int *`; p, a local `struct s *`; gc, a
-- global char; gs, a global struct s. A struct s has the cells v, an int, and n, a `struct s *`, and a char c.
use Rattle.std.specs.Prelude.{◌≡◌, ℕ, ◌+◌, pos, List, [], ◌∷◌, Some, None, codes}
use Rattle.px_syntax.specs.declared.typed_expression.Arithmetic.TheVariants as A
use Rattle.px_syntax.specs.TypedTree as T
use Rattle.px_syntax.specs.TypedTree.{Expression, Statement}
use Rattle.px_real_expressions.specs.declared.operators.Prefix.TheVariants as P
use Rattle.px_real_expressions.specs.declared.operators.Operator.TheVariants as O
use Rattle.px_real_expressions.specs.declared.operators.Step.TheVariants as S
use Rattle.px_real_expressions.specs.ExpressionTree.{ExpressionTree, name, parenthesised, index, call, member, pointer_member, step, prefixed, binary, choice, assign, no_expressions}
use Rattle.px_real_types.specs.Types.{int, pointer_to}
use Rattle.px_real_values.specs.Operands.{stop, first_cell}
use Rattle.px_real_values.specs.WorkedValues.{at, w, env, x, y, p, q, gc, gs, getchar, number, of_one, of_two, the_x, the_p, the_q, block, cell}
use Rattle.px_real_effects.specs.Effects.{performed, initialised, returned, argument_of}

abbrev pub Does : ExpressionTree → List Statement → Type 0
Does e ss = performed env e ≡ ss

-- a `Stop` as a statement
abbrev pub stops : List Expression → List ℕ → ℕ → List Statement
stops ps word n = T.evaluate (stop ps (w word) (at n)) ∷ []

-- an access through p at token 1, at `->` behind it, with these parts between
abbrev pub sets_outside : T.Expressions → List Statement
sets_outside ps = T.access (the_p 1) ps first_cell (block 1) (at 2) ∷ []

abbrev pub x_place : ℕ → T.Place
x_place n = T.local_place 0 (at n)

abbrev pub cell_v : Expression → ℕ → T.Place
cell_v e n = T.cell_place e (record { 0 = 0 }) (block 1) (at n)

abbrev pub arrow : ℕ → List ℕ → ExpressionTree
arrow n field = pointer_member (at (n + 1)) (p n) field

-- ---- assignments

pub record Assignments : Type 0 where
  -- `x = 3`, `p->v = x`, `*q = 3`, `(x) = 3`
  pub to_local : Does (assign None (at 3) (x 1) (number 3 5)) (T.assign (x_place 1) (T.constant (pos 3)) ∷ [])
  pub to_cell : Does (assign None (at 6) (arrow 1 (codes "v")) (x 8)) (T.assign (cell_v (the_p 1) 2) (the_x 8) ∷ [])
  pub through : Does (assign None (at 4) (prefixed P.Indirection (at 1) (q 2)) (number 3 6)) (T.assign (T.cell_place (the_q 2) first_cell (block 0) (at 1)) (T.constant (pos 3)) ∷ [])
  pub in_parentheses : Does (parenthesised (at 1) (assign None (at 4) (x 2) (number 3 6))) (T.assign (x_place 2) (T.constant (pos 3)) ∷ [])
  -- `q = 0`, `x = gc`, `x = p`
  pub of_null : Does (assign None (at 3) (q 1) (number 0 5)) (T.assign (T.local_place 2 (at 1)) T.null ∷ [])
  pub of_outside : Does (assign None (at 3) (x 1) (gc 5)) (T.assign (x_place 1) (stop [] (w (codes "char")) (at 5)) ∷ [])
  pub of_another_type : Does (assign None (at 3) (x 1) (p 5)) (T.assign (x_place 1) (stop (the_p 5 ∷ []) (w (codes "type")) (at 5)) ∷ [])
  -- `gc = getchar()`, `gs.v = getchar()`, `gc += getchar()`
  pub to_global : Does (assign None (at 4) (gc 1) (getchar 6)) (T.evaluate (T.get_char (at 6)) ∷ [])
  pub to_member_of_global : Does (assign None (at 6) (member (at 3) (gs 1) (codes "v")) (getchar 8)) (T.evaluate (T.get_char (at 8)) ∷ [])
  pub update_of_global : Does (assign (Some O.Add) (at 4) (gc 1) (getchar 7)) (T.evaluate (T.get_char (at 7)) ∷ [])
  -- `p->c = 3`, `p->c = getchar()`, `p->c |= x`: the pointer, the right side, and then the access
  pub to_outside_member : Does (assign None (at 6) (arrow 1 (codes "c")) (gc 8)) (sets_outside T.no_expressions)
  pub access_behind : Does (assign None (at 6) (arrow 1 (codes "c")) (getchar 8)) (sets_outside (T.an_expression (T.get_char (at 8)) T.no_expressions))
  pub update_of_member : Does (assign (Some O.BitOr) (at 6) (arrow 1 (codes "c")) (x 9)) (sets_outside (T.an_expression (the_x 9) T.no_expressions))
  -- `*gc = getchar()`, `*p = gs`, `p->z = 3`, `q[x] = 3`, `x + 1 = 3`
  pub to_outside_place : Does (assign None (at 5) (prefixed P.Indirection (at 1) (gc 2)) (getchar 7)) (stops [] (codes "*") 1)
  pub to_struct : Does (assign None (at 4) (prefixed P.Indirection (at 1) (p 2)) (gs 6)) (stops (the_p 2 ∷ []) (codes "*") 1)
  pub to_no_member : Does (assign None (at 6) (arrow 1 (codes "z")) (number 3 8)) (stops (the_p 1 ∷ []) (codes "->") 2)
  pub to_element : Does (assign None (at 6) (index (at 2) (q 1) (x 3)) (number 3 8)) (stops (the_q 1 ∷ the_x 3 ∷ []) (codes "[") 2)
  pub to_value : Does (assign None (at 7) (binary O.Add (at 3) (x 1) (number 1 5)) (number 3 9)) (stops (T.arithmetic A.Add (the_x 1) (T.constant (pos 1)) ∷ []) (codes "=") 7)

-- ---- operators with `=`, and steps

pub record Updates : Type 0 where
  -- `x += 2`, `p->v -= x`, `x *= gc`
  pub added : Does (assign (Some O.Add) (at 3) (x 1) (number 2 6)) (T.update A.Add (x_place 1) (T.constant (pos 2)) ∷ [])
  pub of_cell : Does (assign (Some O.Subtract) (at 6) (arrow 1 (codes "v")) (x 9)) (T.update A.Subtract (cell_v (the_p 1) 2) (the_x 9) ∷ [])
  pub by_outside : Does (assign (Some O.Multiply) (at 3) (x 1) (gc 6)) (T.update A.Multiply (x_place 1) (stop [] (w (codes "char")) (at 6)) ∷ [])
  -- `p->v |= 1`, `x /= 2`, `q += 1`
  pub lacking : Does (assign (Some O.BitOr) (at 6) (arrow 1 (codes "v")) (number 1 9)) (stops (the_p 1 ∷ T.constant (pos 1) ∷ []) (codes "|=") 6)
  pub divided : Does (assign (Some O.Divide) (at 3) (x 1) (number 2 6)) (stops (T.constant (pos 2) ∷ []) (codes "/=") 3)
  pub of_pointer : Does (assign (Some O.Add) (at 3) (q 1) (number 1 6)) (stops (T.constant (pos 1) ∷ []) (codes "+=") 3)
  -- `x++`, `--p->v`, `++gc`, `p->c--`, `q++`
  pub counted_up : Does (step S.Increment (at 2) (x 1)) (T.update A.Add (x_place 1) (T.constant (pos 1)) ∷ [])
  pub counted_down : Does (prefixed P.Decrement (at 1) (arrow 3 (codes "v"))) (T.update A.Subtract (cell_v (the_p 3) 4) (T.constant (pos 1)) ∷ [])
  pub of_global : Does (prefixed P.Increment (at 1) (gc 3)) []
  pub of_outside_member : Does (step S.Decrement (at 5) (arrow 1 (codes "c"))) (sets_outside T.no_expressions)
  pub pointer_step : Does (step S.Increment (at 2) (q 1)) (stops [] (codes "++") 2)

-- ---- calls, and other expressions

pub record Others : Type 0 where
  -- `f(x, gc)`, `h()`, `free(p)`, `free(gc)`, `free(p, p)`, `getchar()`
  pub a_call : Does (of_two (name (codes "f") (at 1)) 2 (x 3) (gc 6)) (T.run_call (record { 0 = 7 }) (T.an_argument (T.passed (the_x 3)) (T.an_argument (T.erased T.no_expressions) T.no_arguments)) (at 1) ∷ [])
  pub without_arguments : Does (call (at 2) (name (codes "h") (at 1)) no_expressions) (T.run_call (record { 0 = 8 }) T.no_arguments (at 1) ∷ [])
  pub of_another_number : Does (of_one (name (codes "f") (at 1)) 2 (x 3)) (stops (the_x 3 ∷ []) (codes "call") 1)
  pub a_free : Does (of_one (name (codes "free") (at 1)) 5 (p 6)) (T.free (the_p 6) (block 1) (at 1) ∷ [])
  pub free_of_outside : Does (of_one (name (codes "free") (at 1)) 5 (gc 6)) (T.free (stop [] (w (codes "char")) (at 6)) (block 0) (at 1) ∷ [])
  pub free_of_two : Does (of_two (name (codes "free") (at 1)) 5 (p 6) (p 8)) (stops (the_p 6 ∷ the_p 8 ∷ []) (codes "call") 1)
  pub an_input : Does (getchar 1) (T.input (at 1) ∷ [])
  -- `y(x)` of no declared name, `x`, `p->c`, `x ? 1 : 2`
  pub of_undeclared : Does (of_one (y 1) 2 (x 3)) (stops (the_x 3 ∷ []) (codes "call") 1)
  pub a_value : Does (x 1) (T.evaluate (the_x 1) ∷ [])
  pub an_access : Does (arrow 1 (codes "c")) (T.evaluate (cell (the_p 1) 0 2) ∷ [])
  pub a_choice : Does (choice (at 3) (x 1) (number 1 5) (number 2 9)) (stops (the_x 1 ∷ []) (codes "?") 3)
  -- an assignment in another is a `Stop`: `x = x = 1`
  pub within : Does (assign None (at 3) (x 1) (assign None (at 7) (x 5) (number 1 9))) (T.assign (x_place 1) (stop [] (w (codes "=")) (at 7)) ∷ [])

-- ---- initialisers and results

pub record Needed : Type 0 where
  pub uninitialised : initialised env 0 int None ≡ T.declare 0 None
  pub with_value : initialised env 0 int (Some (argument_of env (x 9))) ≡ T.declare 0 (Some (the_x 9))
  pub with_outside : initialised env 0 int (Some (argument_of env (gc 9))) ≡ T.declare 0 (Some (stop [] (w (codes "char")) (at 9)))
  pub with_null : initialised env 3 (pointer_to int) (Some (argument_of env (number 0 9))) ≡ T.declare 3 (Some T.null)
  pub a_result : returned env (Some int) (at 1) (Some (argument_of env (x 8))) ≡ T.return (Some (the_x 8)) ∷ []
  pub outside_result : returned env (Some int) (at 1) (Some (argument_of env (gc 8))) ≡ T.return (Some (stop [] (w (codes "char")) (at 8))) ∷ []
  pub no_result : returned env None (at 1) None ≡ T.return None ∷ []
  -- `return p->c;` of a function that gives a char
  pub unwanted : returned env None (at 1) (Some (argument_of env (arrow 8 (codes "c")))) ≡ T.evaluate (cell (the_p 8) 0 9) ∷ T.return None ∷ []
  -- `return;` of a function that gives an int
  pub missing : returned env (Some int) (at 1) None ≡ stops [] (codes "return") 1

pub record Worked : Type 0 where
  pub assignments : Assignments
  pub updates : Updates
  pub others : Others
  pub needs : Needed
