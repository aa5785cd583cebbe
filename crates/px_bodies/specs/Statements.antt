-- The typing of statements, one case for each kind of statement.
use Rattle.std.specs.Prelude.{ℕ, Bool, true, pos, List, [], ◌∷◌, ◌++◌, length, Option, Some, None, option_map, is_none}
use Rattle.px_syntax.specs.declared.type_name.Base.{Base}
use Rattle.px_syntax.specs.declared.type_name.TypeName.{TypeName}
use Rattle.px_syntax.specs.declared.expression.BinaryOperator.{BinaryOperator}
use Rattle.px_syntax.specs.declared.expression.BinaryOperator.TheVariants as B
use Rattle.px_syntax.specs.declared.typed_expression.Arithmetic.{Arithmetic}
use Rattle.px_syntax.specs.declared.typed_expression.Arithmetic.TheVariants.{Add, Subtract, Multiply}
use Rattle.px_syntax.specs.ExpressionTree.{ExpressionTree, call, free, get_char}
use Rattle.px_syntax.specs.StatementTree.{InitTree, SimpleTree, assign, update, increment, decrement, a_call, FirstTree, first_declaration, first_simple, StatementTree, StatementTrees, empty, block, declare, simple_statement, choose, choose_else, while_loop, for_loop, break, continue, return, no_statements, a_statement}
use Rattle.px_syntax.specs.TypedTree as T
use Rattle.px_syntax.specs.TypedTree.{Expression, Condition, Place, Statement}
use Rattle.px_bodies.specs.Types.{when, given, int, same_type}
use Rattle.px_bodies.specs.Environment.{Environment, type_id, proc_id}
use Rattle.px_bodies.specs.Typed.{as_place, as_freed}
use Rattle.px_bodies.specs.Locals.{Local, Locals, declared, after_scope}
use Rattle.px_bodies.specs.Expressions.{typed, typed_arguments, typed_as, typed_condition, callable}

-- a statement, and the locals after it
pub record Passed : Type 0 where
  pub tree : Statement
  pub after : Locals

-- the same of statements in order
pub record PassedAll : Type 0 where
  pub trees : List Statement
  pub after : Locals

-- the first part of a `for` and the locals after it, the condition and the step
pub record Head : Type 0 where
  pub trees : List Statement
  pub after : Locals
  pub test : Option Condition
  pub step : Statement

abbrev pub nothing : Statement
nothing = T.block T.no_statements

-- one statement before others
abbrev pub one_before : Statement → PassedAll → PassedAll
one_before tree rest = record { trees = tree ∷ rest.trees; after = rest.after }

-- statements before others
abbrev pub all_before : List Statement → Option PassedAll → Option PassedAll
all_before trees rest = option_map (λ rest. record { trees = trees ++ rest.trees; after = rest.after }) rest

-- statements as one block
abbrev pub as_block : PassedAll → Passed
as_block all = record { tree = T.block (T.statements_of all.trees); after = all.after }

-- a statement that is a scope of its own (C17 6.8.2, 6.8.4, 6.8.5): what it declares ends with it
abbrev pub as_scope : ℕ → Passed → Passed
as_scope outer p = record { tree = p.tree; after = after_scope outer p.after }

abbrev pub in_scope : ℕ → Option Passed → Option Passed
in_scope outer p = option_map (as_scope outer) p

-- the operator of `+=`, `-=` or `*=`
abbrev pub arithmetic_of : BinaryOperator → Option Arithmetic
arithmetic_of B.Multiply = Some Multiply
arithmetic_of B.Add = Some Add
arithmetic_of B.Subtract = Some Subtract
arithmetic_of _ = None

-- `place += value` and the like take ints
abbrev pub typed_update : Arithmetic → (TypeName × Place) → Expression → Option Statement
typed_update operator place value = when (same_type int place.0) (T.update operator place.1 value)

module _ (env : Environment) where
  -- ---- statements without statements in them

  -- what an assignment writes, and its type
  abbrev pub typed_place : List Local → ExpressionTree → Option (TypeName × Place)
  typed_place visible e = given (typed env visible e) as_place

  abbrev pub typed_simple : List Local → SimpleTree → Option Statement
  typed_simple visible (assign place value) =
      given (typed_place visible place) (λ p. given (typed_as env visible p.0 value) (λ v. Some (T.assign p.1 v)))
  typed_simple visible (update operator place value) =
      given (arithmetic_of operator) (λ o. given (typed_place visible place) (λ p. given (typed_as env visible int value) (typed_update o p)))
  typed_simple visible (increment place) = given (typed_place visible place) (λ p. typed_update Add p (T.constant (pos 1)))
  typed_simple visible (decrement place) = given (typed_place visible place) (λ p. typed_update Subtract p (T.constant (pos 1)))
  typed_simple visible (a_call (call f site arguments)) =
      given (callable env visible f) (λ wanted. given (typed_arguments env visible wanted arguments) (λ xs. Some (T.run_call (proc_id env f) (T.arguments_of xs) site)))
  typed_simple visible (a_call (free site e)) =
      given (typed env visible e) (λ a. given (as_freed a) (λ p. Some (T.free p.1 (type_id env p.0) site)))
  typed_simple visible (a_call (get_char site)) = Some (T.input site)
  typed_simple visible (a_call _) = None

  -- ---- declarations (C17 6.7)

  -- a local is in scope in its own initialiser (C17 6.2.1)
  abbrev pub typed_initialiser : List Local → TypeName → Option ExpressionTree → Option (Option Expression)
  typed_initialiser visible t None = Some None
  typed_initialiser visible t (Some e) = option_map Some (typed_as env visible t e)

  -- a declared name and the value that it begins with
  abbrev pub typed_local : ℕ → Locals → List ℕ → TypeName → Option ExpressionTree → Option Passed
  typed_local outer ls name t value =
      given (declared env outer ls name t) (λ more. given (typed_initialiser more.visible t value) (λ v. Some (record { tree = T.declare ls.next v; after = more })))

  abbrev pub typed_declarator : ℕ → Locals → Base → InitTree → Option Passed
  typed_declarator outer ls base d = typed_local outer ls d.declarator.name (record { base = base; stars = d.declarator.stars }) d.value

  abbrev pub typed_declarators : ℕ → Locals → Base → List InitTree → Option PassedAll
  typed_declarators outer ls base [] = Some (record { trees = []; after = ls })
  typed_declarators outer ls base (d ∷ rest) =
      given (typed_declarator outer ls base d) (λ p. option_map (one_before p.tree) (typed_declarators outer p.after base rest))

  -- ---- the parts of loops

  abbrev pub typed_first : ℕ → Locals → Option FirstTree → Option PassedAll
  typed_first outer ls None = Some (record { trees = []; after = ls })
  typed_first outer ls (Some (first_declaration d)) = typed_declarators outer ls d.base d.declarators
  typed_first outer ls (Some (first_simple s)) = option_map (λ tree. record { trees = tree ∷ []; after = ls }) (typed_simple ls.visible s)

  -- a missing condition
  abbrev pub typed_test : List Local → Option ExpressionTree → Option (Option Condition)
  typed_test visible None = Some None
  typed_test visible (Some e) = option_map Some (typed_condition env visible e)

  abbrev pub typed_step : List Local → Option SimpleTree → Option Statement
  typed_step visible None = Some nothing
  typed_step visible (Some s) = typed_simple visible s

  -- what stands between the parentheses of a `for`, whose declarations are in a scope of its own (C17 6.8.5)
  abbrev pub typed_head : Locals → Option FirstTree → Option ExpressionTree → Option SimpleTree → Option Head
  typed_head ls first e step =
      given (typed_first (length ls.visible) ls first) (λ f. given (typed_test f.after.visible e) (λ c. given (typed_step f.after.visible step)
      (λ s. Some (record { trees = f.trees; after = f.after; test = c; step = s }))))

  -- ---- statements

  module _ (returns : Option TypeName) where
    -- a value exactly in a function that isn't void (C17 6.8.6.4)
    abbrev pub typed_return : List Local → Option ExpressionTree → Option Statement
    typed_return visible None = when (is_none returns) (T.return None)
    typed_return visible (Some e) = given returns (λ t. option_map (λ v. T.return (Some v)) (typed_as env visible t e))

    abbrev mutual
      -- a statement in a loop or outside; its scope's own locals are those from `outer` on
      pub typed_statement : Bool → ℕ → Locals → StatementTree → Option Passed
      typed_statement loop outer ls empty = Some (record { tree = nothing; after = ls })
      typed_statement loop outer ls (block ss) =
          in_scope (length ls.visible) (option_map as_block (typed_statements loop (length ls.visible) ls ss))
      typed_statement loop outer ls (declare d) = option_map as_block (typed_declarators outer ls d.base d.declarators)
      typed_statement loop outer ls (simple_statement s) = option_map (λ tree. record { tree = tree; after = ls }) (typed_simple ls.visible s)
      typed_statement loop outer ls (choose e s) =
          given (typed_condition env ls.visible e) (λ c. given (in_scope (length ls.visible) (typed_statement loop (length ls.visible) ls s))
          (λ p. Some (record { tree = T.choose c p.tree nothing; after = p.after })))
      typed_statement loop outer ls (choose_else e s t) =
          given (typed_condition env ls.visible e) (λ c. given (in_scope (length ls.visible) (typed_statement loop (length ls.visible) ls s)) (λ p. given (in_scope (length p.after.visible) (typed_statement loop (length p.after.visible) p.after t))
          (λ q. Some (record { tree = T.choose c p.tree q.tree; after = q.after }))))
      typed_statement loop outer ls (while_loop site e s) =
          given (typed_condition env ls.visible e) (λ c. given (in_scope (length ls.visible) (typed_statement true (length ls.visible) ls s))
          (λ p. Some (record { tree = T.loop site (Some c) p.tree nothing; after = p.after })))
      typed_statement loop outer ls (for_loop site first e step s) =
          given (typed_head ls first e step) (λ h. given (in_scope (length h.after.visible) (typed_statement true (length h.after.visible) h.after s))
          (λ p. Some (as_scope (length ls.visible) (as_block (record { trees = h.trees ++ T.loop site h.test p.tree h.step ∷ []; after = p.after })))))
      typed_statement loop outer ls break = when loop (record { tree = T.break; after = ls })
      typed_statement loop outer ls continue = when loop (record { tree = T.continue; after = ls })
      typed_statement loop outer ls (return e) = option_map (λ tree. record { tree = tree; after = ls }) (typed_return ls.visible e)

      pub typed_statements : Bool → ℕ → Locals → StatementTrees → Option PassedAll
      typed_statements loop outer ls no_statements = Some (record { trees = []; after = ls })
      typed_statements loop outer ls (a_statement s rest) =
          given (typed_statement loop outer ls s) (λ p. option_map (one_before p.tree) (typed_statements loop outer p.after rest))
