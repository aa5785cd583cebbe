-- The equations of `statement_tree`, one for each variant.
use Rattle.std.proofs.Common.{◌≡◌, Option, option_map, map, Box, Vec, Global, sym, ap, ◌∙◌}
use Rattle.px_base.specs.declared.trace.Site.{Site}
use Rattle.px_syntax.specs.declared.expression.Expression.{Expression}
use Rattle.px_syntax.specs.declared.statement.Declaration.{Declaration}
use Rattle.px_syntax.specs.declared.statement.SimpleStatement.{SimpleStatement}
use Rattle.px_syntax.specs.declared.statement.ForHead.{ForHead}
use Rattle.px_syntax.specs.declared.statement.Statement.{Statement, Statement-F, fold-roll-Statement}
use Rattle.px_syntax.specs.declared.statement.Statement.TheVariants as S
use Rattle.px_syntax.specs.ExpressionTree.{expression_tree}
use Rattle.px_syntax.specs.StatementTree.{StatementTree, statement_tree, statement_node, statements_of, declaration_tree, simple_tree, first_tree, empty, block, declare, simple_statement, choose, choose_else, while_loop, for_loop, break, continue, return}

pub tree-Empty : statement_tree S.Empty ≡ empty
tree-Empty = ap statement_tree (sym S.rolls-Empty) ∙ fold-roll-Statement StatementTree statement_node Statement-F.Empty

pub tree-Block : (ss : Vec Statement Global) → statement_tree (S.Block ss) ≡ block (statements_of (map statement_tree ss.items))
tree-Block ss = ap statement_tree (sym (S.rolls-Block ss)) ∙ fold-roll-Statement StatementTree statement_node (Statement-F.Block ss)

pub tree-Declare : (d : Declaration) → statement_tree (S.Declare d) ≡ declare (declaration_tree d)
tree-Declare d = ap statement_tree (sym (S.rolls-Declare d)) ∙ fold-roll-Statement StatementTree statement_node (Statement-F.Declare d)

pub tree-Simple : (a : SimpleStatement) → statement_tree (S.Simple a) ≡ simple_statement (simple_tree a)
tree-Simple a = ap statement_tree (sym (S.rolls-Simple a)) ∙ fold-roll-Statement StatementTree statement_node (Statement-F.Simple a)

pub tree-If : (e : Box Expression Global) (a : Box Statement Global) → statement_tree (S.If e a) ≡ choose (expression_tree e.value) (statement_tree a.value)
tree-If e a = ap statement_tree (sym (S.rolls-If e a)) ∙ fold-roll-Statement StatementTree statement_node (Statement-F.If e a)

pub tree-IfElse : (e : Box Expression Global) (a b : Box Statement Global) → statement_tree (S.IfElse e a b) ≡ choose_else (expression_tree e.value) (statement_tree a.value) (statement_tree b.value)
tree-IfElse e a b = ap statement_tree (sym (S.rolls-IfElse e a b)) ∙ fold-roll-Statement StatementTree statement_node (Statement-F.IfElse e a b)

pub tree-While : (s : Site) (e : Box Expression Global) (a : Box Statement Global) → statement_tree (S.While s e a) ≡ while_loop s (expression_tree e.value) (statement_tree a.value)
tree-While s e a = ap statement_tree (sym (S.rolls-While s e a)) ∙ fold-roll-Statement StatementTree statement_node (Statement-F.While s e a)

pub tree-For : (s : Site) (h : Box ForHead Global) (a : Box Statement Global) → statement_tree (S.For s h a) ≡ for_loop s (option_map first_tree h.value.first) (option_map expression_tree h.value.condition) (option_map simple_tree h.value.step) (statement_tree a.value)
tree-For s h a = ap statement_tree (sym (S.rolls-For s h a)) ∙ fold-roll-Statement StatementTree statement_node (Statement-F.For s h a)

pub tree-Break : statement_tree S.Break ≡ break
tree-Break = ap statement_tree (sym S.rolls-Break) ∙ fold-roll-Statement StatementTree statement_node Statement-F.Break

pub tree-Continue : statement_tree S.Continue ≡ continue
tree-Continue = ap statement_tree (sym S.rolls-Continue) ∙ fold-roll-Statement StatementTree statement_node Statement-F.Continue

pub tree-Return : (e : Option Expression) → statement_tree (S.Return e) ≡ return (option_map expression_tree e)
tree-Return e = ap statement_tree (sym (S.rolls-Return e)) ∙ fold-roll-Statement StatementTree statement_node (Statement-F.Return e)

pub ruleset trees = (tree-Empty, tree-Block, tree-Declare, tree-Simple, tree-If, tree-IfElse, tree-While, tree-For, tree-Break, tree-Continue, tree-Return)
