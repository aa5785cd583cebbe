-- The typing of expressions, one case for each kind of expression.
use Rattle.std.specs.Prelude.{ℕ, List, [], ◌∷◌, Option, Some, None, option_map, drop, is_none}
use Rattle.px_base.specs.declared.trace.Site.{Site}
use Rattle.px_syntax.specs.declared.type_name.TypeName.{TypeName}
use Rattle.px_syntax.specs.declared.expression.UnaryOperator.{UnaryOperator}
use Rattle.px_syntax.specs.declared.expression.UnaryOperator.TheVariants.{Minus, Not, Indirection}
use Rattle.px_syntax.specs.declared.expression.BinaryOperator.{BinaryOperator}
use Rattle.px_syntax.specs.declared.expression.BinaryOperator.TheVariants as B
use Rattle.px_syntax.specs.declared.typed_expression.Arithmetic.TheVariants.{Add, Subtract, Multiply, Divide, Remainder}
use Rattle.px_syntax.specs.declared.typed_expression.Relation.TheVariants as R
use Rattle.px_syntax.specs.ExpressionTree.{ExpressionTree, ExpressionTrees, constant, null, variable, unary, binary, member, call, free, get_char, malloc, no_expressions, an_expression}
use Rattle.px_syntax.specs.TypedTree as T
use Rattle.px_syntax.specs.TypedTree.{Expression, Argument, Condition}
use Rattle.px_bodies.specs.Types.{when, given, int, is_value}
use Rattle.px_bodies.specs.Environment.{Environment, Signature, proc_id, value_type}
use Rattle.px_bodies.specs.Typed.{Typed, of_type, a_null, a_test, as_type, as_argument, as_condition, typed_constant, typed_arithmetic, typed_minus, typed_order, typed_equality, typed_indirection, typed_arrow, typed_malloc}
use Rattle.px_bodies.specs.Locals.{Local, named}

-- the token at which an expression stands
abbrev pub site_of : ExpressionTree → Site
site_of (constant value site) = site
site_of (null site) = site
site_of (variable name site) = site
site_of (unary operator site operand) = site
site_of (binary operator site left right) = site
site_of (member pointer field site) = site
site_of (call function site arguments) = site
site_of (free site pointer) = site
site_of (get_char site) = site
site_of (malloc cast site size) = site

-- `&&` and `||` take any values (C17 6.5.13, 6.5.14)
abbrev pub typed_binary : BinaryOperator → Site → Site → Site → Typed → Typed → Option Typed
typed_binary B.Multiply site left right a b = typed_arithmetic Multiply a b
typed_binary B.Add site left right a b = typed_arithmetic Add a b
typed_binary B.Subtract site left right a b = typed_arithmetic Subtract a b
typed_binary B.Less site left right a b = typed_order R.Less site a b
typed_binary B.LessEqual site left right a b = typed_order R.AtMost site a b
typed_binary B.Greater site left right a b = typed_order R.Greater site a b
typed_binary B.GreaterEqual site left right a b = typed_order R.AtLeast site a b
typed_binary B.Equal site left right a b = typed_equality R.Equal R.SamePlace site a b
typed_binary B.NotEqual site left right a b = typed_equality R.Unequal R.OtherPlace site a b
typed_binary B.And site left right a b = Some (a_test (T.both (as_condition left a) (as_condition right b)))
typed_binary B.Or site left right a b = Some (a_test (T.either (as_condition left a) (as_condition right b)))
typed_binary B.Divide site left right a b = typed_arithmetic (Divide site) a b
typed_binary B.Remainder site left right a b = typed_arithmetic (Remainder site) a b

-- the parameters' types after the first
abbrev pub after_first : Option (List TypeName) → Option (List TypeName)
after_first wanted = option_map (drop 1) wanted

-- no parameter is without an argument
abbrev pub none_is_missing : Option (List TypeName) → Option (List Argument)
none_is_missing None = Some []
none_is_missing (Some []) = Some []
none_is_missing (Some (t ∷ ts)) = None

abbrev pub parameters_of : Option Signature → Option (List TypeName)
parameters_of s = option_map (λ s. s.parameters) s

-- the type of a call: int where there is no signature, and none where it is void
abbrev pub call_type : Option Signature → Option TypeName
call_type None = Some int
call_type (Some s) = s.result

-- a name means a local
abbrev pub typed_variable : List Local → List ℕ → Site → Option Typed
typed_variable visible name site = given (named name visible) (λ l. Some (of_type l.type (T.local l.number site)))

module _ (env : Environment) where
  -- a called name is no local in scope; the types of its parameters, where they are known
  abbrev pub callable : List Local → List ℕ → Option (Option (List TypeName))
  callable visible f = when (is_none (named f visible)) (parameters_of (env.signature f))

  -- `!` takes any value (C17 6.5.3.3)
  abbrev pub typed_unary : UnaryOperator → Site → Site → Typed → Option Typed
  typed_unary Minus site at a = typed_minus a
  typed_unary Not site at a = Some (a_test (T.opposite (as_condition at a)))
  typed_unary Indirection site at a = typed_indirection env site a

  -- the value of a call
  abbrev pub typed_call : List ℕ → Site → List Argument → Option Typed
  typed_call f site arguments =
      given (call_type (env.signature f)) (λ t. when (is_value t) (of_type t (T.call (proc_id env f) (T.arguments_of arguments) (value_type env t) site)))

  abbrev mutual
    -- an expression where these locals are visible
    pub typed : List Local → ExpressionTree → Option Typed
    typed visible (constant n site) = typed_constant n
    typed visible (null site) = Some a_null
    typed visible (variable name site) = typed_variable visible name site
    typed visible (unary operator site e) = given (typed visible e) (typed_unary operator site (site_of e))
    typed visible (binary operator site a b) =
        given (typed visible a) (λ x. given (typed visible b) (typed_binary operator site (site_of a) (site_of b) x))
    typed visible (member e field site) = given (typed visible e) (typed_arrow env field site)
    typed visible (call f site arguments) =
        given (callable visible f) (λ wanted. given (typed_arguments visible wanted arguments) (typed_call f site))
    -- a void call stands only as a statement
    typed visible (free site e) = None
    typed visible (get_char site) = Some (of_type int (T.get_char site))
    typed visible (malloc cast site t) = typed_malloc env cast site t

    -- as many arguments as parameters, each of its parameter's type, and each is passed (C17 6.5.2.2)
    pub typed_arguments : List Local → Option (List TypeName) → ExpressionTrees → Option (List Argument)
    typed_arguments visible wanted no_expressions = none_is_missing wanted
    typed_arguments visible wanted (an_expression e rest) =
        given (typed visible e) (λ a. given (as_argument wanted a) (λ x. given (typed_arguments visible (after_first wanted) rest) (λ xs. Some (T.passed x ∷ xs))))

  -- a value of type t
  abbrev pub typed_as : List Local → TypeName → ExpressionTree → Option Expression
  typed_as visible t e = given (typed visible e) (as_type t)

  -- a condition is any value
  abbrev pub typed_condition : List Local → ExpressionTree → Option Condition
  typed_condition visible e = option_map (as_condition (site_of e)) (typed visible e)
