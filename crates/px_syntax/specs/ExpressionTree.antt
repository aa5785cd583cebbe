-- Expressions as plain data.
use Rattle.std.specs.Prelude.{ℕ, List, [], ◌∷◌, Option}
use Rattle.px_base.specs.declared.trace.Site.{Site}
use Rattle.px_syntax.specs.declared.type_name.TypeName.{TypeName}
use Rattle.px_syntax.specs.declared.expression.UnaryOperator.{UnaryOperator}
use Rattle.px_syntax.specs.declared.expression.BinaryOperator.{BinaryOperator}
use Rattle.px_syntax.specs.declared.expression.Arrow.{Arrow}
use Rattle.px_syntax.specs.declared.expression.Link.{Link}
use Rattle.px_syntax.specs.declared.expression.Expression.{Expression, Row_of-Expression, end_of-Expression, more_of-Expression, Row_of-Link, end_of-Link, more_of-Link}
use Rattle.px_syntax.specs.declared.expression.Expression as E

mutual
  pub data ExpressionTree : Type 0 where
    constant : ℕ → Site → ExpressionTree
    null : Site → ExpressionTree
    variable : List ℕ → Site → ExpressionTree
    unary : UnaryOperator → Site → ExpressionTree → ExpressionTree
    binary : BinaryOperator → Site → ExpressionTree → ExpressionTree → ExpressionTree
    member : ExpressionTree → List ℕ → Site → ExpressionTree
    call : List ℕ → Site → ExpressionTrees → ExpressionTree
    free : Site → ExpressionTree → ExpressionTree
    get_char : Site → ExpressionTree
    malloc : Option TypeName → Site → TypeName → ExpressionTree

  pub data ExpressionTrees : Type 0 where
    no_expressions : ExpressionTrees
    an_expression : ExpressionTree → ExpressionTrees → ExpressionTrees

abbrev pub expressions_of : List ExpressionTree → ExpressionTrees
expressions_of [] = no_expressions
expressions_of (e ∷ rest) = an_expression e (expressions_of rest)

-- an operator and the operand after it
pub record LinkTree : Type 0 where
  pub operator : BinaryOperator
  pub site : Site
  pub operand : ExpressionTree

-- operators associate to the left
abbrev pub chained : ExpressionTree → List LinkTree → ExpressionTree
chained e [] = e
chained e (l ∷ links) = chained (binary l.operator l.site e l.operand) links

-- arrows after a pointer
abbrev pub members : ExpressionTree → List Arrow → ExpressionTree
members e [] = e
members e (a ∷ path) = members (member e a.field a.site) path

abbrev mutual
  pub expression_tree : Expression → ExpressionTree
  expression_tree (E.Constant value site) = constant value site
  expression_tree (E.Null site) = null site
  expression_tree (E.Variable name site) = variable name site
  expression_tree (E.Unary' operator site p operand) = unary operator site (expression_tree operand)
  expression_tree (E.Binary' p first shape before operator site q right) = binary operator site (chained (expression_tree first) (link_row before)) (expression_tree right)
  expression_tree (E.Member' site p pointer before field) = member (members (expression_tree pointer) before.items) field site
  expression_tree (E.Call' function site shape arguments) = call function site (expression_row arguments)
  expression_tree (E.Free' site p pointer) = free site (expression_tree pointer)
  expression_tree (E.GetChar site) = get_char site
  expression_tree (E.Malloc site types) = malloc types.value.cast site types.value.size

  pub link_row : {m : _} → Row_of-Link m → List LinkTree
  link_row end_of-Link = []
  link_row (more_of-Link operator site operand rest) = record { operator = operator; site = site; operand = expression_tree operand } ∷ link_row rest

  pub expression_row : {m : _} → Row_of-Expression m → ExpressionTrees
  expression_row end_of-Expression = no_expressions
  expression_row (more_of-Expression e rest) = an_expression (expression_tree e) (expression_row rest)

abbrev pub link_tree : Link → LinkTree
link_tree l = record { operator = l.operator; site = l.site; operand = expression_tree l.operand }
