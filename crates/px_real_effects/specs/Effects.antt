-- What expressions do as statements, and what an initialiser and a `return` need.
use Rattle.std.specs.Prelude.{ℕ, pos, List, [], ◌∷◌, ◌++◌, map, Option, Some, None, codes, if◌then◌else◌}
use Rattle.px_base.specs.declared.trace.Site.{Site}
use Rattle.px_expressions.specs.Reading.{or_else}
use Rattle.px_terms.specs.declared.types.TypeId.{TypeId}
use Rattle.px_syntax.specs.declared.typed_expression.Arithmetic.{Arithmetic}
use Rattle.px_syntax.specs.declared.typed_expression.Arithmetic.TheVariants as A
use Rattle.px_syntax.specs.TypedTree as T
use Rattle.px_syntax.specs.TypedTree.{Expression, Place, Statement}
use Rattle.px_real_expressions.specs.declared.operators.Prefix.TheVariants as P
use Rattle.px_real_expressions.specs.declared.operators.Operator.{Operator}
use Rattle.px_real_expressions.specs.declared.operators.Operator.TheVariants as O
use Rattle.px_real_expressions.specs.declared.operators.Step.{Step}
use Rattle.px_real_expressions.specs.declared.operators.Step.TheVariants as S
use Rattle.px_real_expressions.specs.ExpressionTree.{ExpressionTree, parenthesised, call, step, prefixed, assign}
use Rattle.px_real_types.specs.declared.shape.ProfileType.{ProfileType}
use Rattle.px_real_values.specs.declared.environment.Library.TheVariants as L
use Rattle.px_real_types.specs.Types.{int, is_int}
use Rattle.px_real_values.specs.Environment.{Environment, library, type_id}
use Rattle.px_real_values.specs.Operands.{Operand, a_name, stop, first_cell, parts, needed, freed}
use Rattle.px_real_values.specs.Operators.{assignment_text, step_text}
use Rattle.px_real_values.specs.Calls.{Given, all_parts}
use Rattle.px_real_values.specs.Values.{first_site, valued, given}
use Rattle.px_real_effects.specs.Targets.{Target, a_place, an_access, away, nowhere, pointer_of, target}

-- evaluated in order; no value is read
abbrev pub evaluated : List Expression → List Statement
evaluated es = map T.evaluate es

-- `+=`, `-=` and `*=` are the profile's
abbrev pub arithmetic_of : Operator → Option Arithmetic
arithmetic_of O.Multiply = Some A.Multiply
arithmetic_of O.Add = Some A.Add
arithmetic_of O.Subtract = Some A.Subtract
arithmetic_of _ = None

abbrev pub counting : Step → Arithmetic
counting S.Increment = A.Add
counting S.Decrement = A.Subtract

-- the pointer, these parts, and then the access, by which nothing is stored
abbrev pub accessed : Expression → List Expression → TypeId → Site → Statement
accessed e ps block site = T.access e (T.expressions_of ps) first_cell block site

-- what is written to a place of the profile, and else what is evaluated before it would be
abbrev pub written : (ProfileType → Place → Statement) → List Expression → Target → List Statement
written write ps (a_place t p) = write t p ∷ []
written write ps (an_access e block site) = accessed e ps block site ∷ []
written write ps (away qs) = evaluated (qs ++ ps)
written write ps (nowhere e) = T.evaluate e ∷ []

-- the operator by which a place of this type is updated: an int's, if the profile has it
abbrev pub updating : Option Arithmetic → ProfileType → Option Arithmetic
updating o t = if is_int t then o else None

-- ---- calls whose value isn't read

-- the place of the name `free`, where that is what is called
abbrev pub free_at : Operand → Option Site
free_at (a_name (library L.Free) k word at) = Some at
free_at _ = None

-- what is evaluated of a call: itself, as a statement, or what it is else
abbrev pub ran : Expression → Statement
ran (T.call proc es result at) = T.run_call proc es at
ran (T.get_char at) = T.input at
ran e = T.evaluate e

module _ (env : Environment) where
  -- a place is updated, or it is a `Stop` behind what its pointer needs and these parts
  abbrev pub updated : List ℕ → Site → Option Arithmetic → Expression → List Expression → ProfileType → Place → Statement
  updated text site o value ps t p = or_else (updating o t) (λ a. T.update a p value) (T.evaluate (stop (pointer_of p ++ ps) (env.word_number text) site))

  -- `=`, at its site, of a value with its first token
  abbrev pub assigned : Site → Operand → Given → List Statement
  assigned site a b = written (λ t p. T.assign p (needed env b.first t b.operand)) (parts env b.operand) (target env (codes "=") site a)

  -- an operator with `=`
  abbrev pub assigned_with : Operator → Site → Operand → Given → List Statement
  assigned_with o site a b =
      written (updated (assignment_text (Some o)) site (arithmetic_of o) (needed env b.first int b.operand) (parts env b.operand)) (parts env b.operand)
      (target env (assignment_text (Some o)) site a)

  -- `++` and `--`
  abbrev pub stepped : Step → Site → Operand → List Statement
  stepped s site a = written (updated (step_text s) site (Some (counting s)) (T.constant (pos 1)) []) [] (target env (step_text s) site a)

  -- `free`, at its name
  abbrev pub freeing : Site → List Given → List Statement
  freeing at (x ∷ []) = T.free ((freed env x.first x.operand).1) (type_id env ((freed env x.first x.operand).0)) at ∷ []
  freeing at xs = T.evaluate (stop (all_parts env xs) (env.word_number (codes "call")) at) ∷ []

  -- of `free`, or any other call, which is an expression too
  abbrev pub called_by : Option Site → List Given → Operand → List Statement
  called_by (Some at) xs a = freeing at xs
  called_by None xs a = map ran (parts env a)

  -- ---- an expression as a statement

  abbrev pub argument_of : ExpressionTree → Given
  argument_of e = record { first = first_site e; operand = valued env e }

  abbrev pub assigned_by : Option Operator → Site → Operand → Given → List Statement
  assigned_by None site a b = assigned site a b
  assigned_by (Some o) site a b = assigned_with o site a b

  abbrev pub performed : ExpressionTree → List Statement
  performed (parenthesised site e) = performed e
  performed (prefixed P.Extension site e) = performed e
  performed (prefixed P.Increment site e) = stepped S.Increment site (valued env e)
  performed (prefixed P.Decrement site e) = stepped S.Decrement site (valued env e)
  performed (step s site e) = stepped s site (valued env e)
  performed (assign o site a b) = assigned_by o site (valued env a) (argument_of b)
  performed (call site f es) = called_by (free_at (valued env f)) (given env es) (valued env (call site f es))
  performed e = evaluated (parts env (valued env e))

  -- ---- values that are needed

  -- a local that is declared, with the value that it begins with
  abbrev pub initialised : ℕ → ProfileType → Option Given → Statement
  initialised n t None = T.declare n None
  initialised n t (Some x) = T.declare n (Some (needed env x.first t x.operand))

  -- `return` of a function with this result: without a value where one is due it is a `Stop`, and a value that nobody wants is evaluated
  abbrev pub returned : Option ProfileType → Site → Option Given → List Statement
  returned None site None = T.return None ∷ []
  returned None site (Some x) = evaluated (parts env x.operand) ++ T.return None ∷ []
  returned (Some t) site None = T.evaluate (stop [] (env.word_number (codes "return")) site) ∷ []
  returned (Some t) site (Some x) = T.return (Some (needed env x.first t x.operand)) ∷ []
