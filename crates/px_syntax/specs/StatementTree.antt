-- Statements as plain data.
use Rattle.std.specs.Prelude.{List, [], ◌∷◌, Option, option_map, map}
use Rattle.px_base.specs.declared.trace.Site.{Site}
use Rattle.px_syntax.specs.declared.type_name.Base.{Base}
use Rattle.px_syntax.specs.declared.type_name.Declarator.{Declarator}
use Rattle.px_syntax.specs.declared.expression.BinaryOperator.{BinaryOperator}
use Rattle.px_syntax.specs.declared.statement.InitDeclarator.{InitDeclarator}
use Rattle.px_syntax.specs.declared.statement.Declaration.{Declaration}
use Rattle.px_syntax.specs.declared.statement.SimpleStatement.{SimpleStatement}
use Rattle.px_syntax.specs.declared.statement.SimpleStatement.TheVariants as Simple
use Rattle.px_syntax.specs.declared.statement.FirstClause.{FirstClause}
use Rattle.px_syntax.specs.declared.statement.FirstClause.TheVariants as First
use Rattle.px_syntax.specs.declared.statement.Statement.{Statement}
use Rattle.px_syntax.specs.declared.statement.Statement.TheOpen.{Statement-F}
use Rattle.px_syntax.specs.declared.statement.Statement.TheFolds.{fold-Statement}
use Rattle.px_syntax.specs.ExpressionTree.{ExpressionTree, expression_tree}

pub record InitTree : Type 0 where
  pub declarator : Declarator
  pub value : Option ExpressionTree

pub record DeclarationTree : Type 0 where
  pub base : Base
  pub declarators : List InitTree

pub data SimpleTree : Type 0 where
  assign : ExpressionTree → ExpressionTree → SimpleTree
  update : BinaryOperator → ExpressionTree → ExpressionTree → SimpleTree
  increment : ExpressionTree → SimpleTree
  decrement : ExpressionTree → SimpleTree
  a_call : ExpressionTree → SimpleTree

pub data FirstTree : Type 0 where
  first_declaration : DeclarationTree → FirstTree
  first_simple : SimpleTree → FirstTree

mutual
  pub data StatementTree : Type 0 where
    empty : StatementTree
    block : StatementTrees → StatementTree
    declare : DeclarationTree → StatementTree
    simple_statement : SimpleTree → StatementTree
    choose : ExpressionTree → StatementTree → StatementTree
    choose_else : ExpressionTree → StatementTree → StatementTree → StatementTree
    while_loop : Site → ExpressionTree → StatementTree → StatementTree
    for_loop : Site → Option FirstTree → Option ExpressionTree → Option SimpleTree → StatementTree → StatementTree
    break : StatementTree
    continue : StatementTree
    return : Option ExpressionTree → StatementTree

  pub data StatementTrees : Type 0 where
    no_statements : StatementTrees
    a_statement : StatementTree → StatementTrees → StatementTrees

abbrev pub statements_of : List StatementTree → StatementTrees
statements_of [] = no_statements
statements_of (s ∷ rest) = a_statement s (statements_of rest)

abbrev pub init_tree : InitDeclarator → InitTree
init_tree i = record { declarator = i.declarator; value = option_map expression_tree i.value }

abbrev pub declaration_tree : Declaration → DeclarationTree
declaration_tree d = record { base = d.base; declarators = map init_tree d.declarators }

abbrev pub simple_tree : SimpleStatement → SimpleTree
simple_tree (Simple.Assign sides) = assign (expression_tree sides.value.place) (expression_tree sides.value.value)
simple_tree (Simple.Update operator sides) = update operator (expression_tree sides.value.place) (expression_tree sides.value.value)
simple_tree (Simple.Increment place) = increment (expression_tree place)
simple_tree (Simple.Decrement place) = decrement (expression_tree place)
simple_tree (Simple.Call call) = a_call (expression_tree call)

abbrev pub first_tree : FirstClause → FirstTree
first_tree (First.Declaration declaration) = first_declaration (declaration_tree declaration)
first_tree (First.Simple simple) = first_simple (simple_tree simple)

abbrev pub statement_node : Statement-F StatementTree → StatementTree
statement_node Statement-F.Empty = empty
statement_node (Statement-F.Block statements) = block (statements_of statements.items)
statement_node (Statement-F.Declare declaration) = declare (declaration_tree declaration)
statement_node (Statement-F.Simple simple) = simple_statement (simple_tree simple)
statement_node (Statement-F.If condition then) = choose (expression_tree condition.value) then.value
statement_node (Statement-F.IfElse condition then other) = choose_else (expression_tree condition.value) then.value other.value
statement_node (Statement-F.While site condition body) = while_loop site (expression_tree condition.value) body.value
statement_node (Statement-F.For site head body) =
    for_loop site (option_map first_tree head.value.first) (option_map expression_tree head.value.condition) (option_map simple_tree head.value.step) body.value
statement_node Statement-F.Break = break
statement_node Statement-F.Continue = continue
statement_node (Statement-F.Return value) = return (option_map expression_tree value)

abbrev pub statement_tree : Statement → StatementTree
statement_tree = fold-Statement StatementTree statement_node
