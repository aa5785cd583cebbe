-- The equations of `statement_tree`, one for each variant.
use Rattle.std.proofs.Common.{◌≡◌, List, map, Box, Vec, Global, sym, ap, ◌∙◌}
use Rattle.px_base.specs.declared.trace.Site.{Site}
use Rattle.px_real_expressions.specs.Lexemes.{Lexeme}
use Rattle.px_real_symbols.specs.declared.held.Span.{Span}
use Rattle.px_real_symbols.specs.Symbols.{held_in}
use Rattle.px_real_statements.specs.StatementTree.{StatementTree, statements_of, empty, simple, block, choose, choose_else, switch, while_loop, do_loop, for_loop, goto, break, continue, return, labelled, unread}
use Rattle.px_real_blocks.specs.declared.tree.Label.{Label}
use Rattle.px_real_blocks.specs.declared.tree.Statement.{Statement, Statement-F, fold-roll-Statement}
use Rattle.px_real_blocks.specs.declared.tree.Statement.TheVariants as S
use Rattle.px_real_blocks.specs.Trees.{label_tree, statement_tree, statement_node}

pub tree-Empty : (all : List Lexeme) → statement_tree all S.Empty ≡ empty
tree-Empty all = ap (statement_tree all) (sym S.rolls-Empty) ∙ fold-roll-Statement StatementTree (statement_node all) Statement-F.Empty

pub tree-Simple : (all : List Lexeme) (t : Span) → statement_tree all (S.Simple t) ≡ simple (held_in all t)
tree-Simple all t = ap (statement_tree all) (sym (S.rolls-Simple t)) ∙ fold-roll-Statement StatementTree (statement_node all) (Statement-F.Simple t)

pub tree-Block : (all : List Lexeme) (ss : Vec Statement Global) → statement_tree all (S.Block ss) ≡ block (statements_of (map (statement_tree all) ss.items))
tree-Block all ss = ap (statement_tree all) (sym (S.rolls-Block ss)) ∙ fold-roll-Statement StatementTree (statement_node all) (Statement-F.Block ss)

pub tree-If : (all : List Lexeme) (s : Site) (e : Span) (a : Box Statement Global) → statement_tree all (S.If s e a) ≡ choose s (held_in all e) (statement_tree all a.value)
tree-If all s e a = ap (statement_tree all) (sym (S.rolls-If s e a)) ∙ fold-roll-Statement StatementTree (statement_node all) (Statement-F.If s e a)

pub tree-IfElse : (all : List Lexeme) (s : Site) (e : Span) (a : Box Statement Global) (b : Box Statement Global) → statement_tree all (S.IfElse s e a b) ≡ choose_else s (held_in all e) (statement_tree all a.value) (statement_tree all b.value)
tree-IfElse all s e a b = ap (statement_tree all) (sym (S.rolls-IfElse s e a b)) ∙ fold-roll-Statement StatementTree (statement_node all) (Statement-F.IfElse s e a b)

pub tree-Switch : (all : List Lexeme) (s : Site) (e : Span) (a : Box Statement Global) → statement_tree all (S.Switch s e a) ≡ switch s (held_in all e) (statement_tree all a.value)
tree-Switch all s e a = ap (statement_tree all) (sym (S.rolls-Switch s e a)) ∙ fold-roll-Statement StatementTree (statement_node all) (Statement-F.Switch s e a)

pub tree-While : (all : List Lexeme) (s : Site) (e : Span) (a : Box Statement Global) → statement_tree all (S.While s e a) ≡ while_loop s (held_in all e) (statement_tree all a.value)
tree-While all s e a = ap (statement_tree all) (sym (S.rolls-While s e a)) ∙ fold-roll-Statement StatementTree (statement_node all) (Statement-F.While s e a)

pub tree-Do : (all : List Lexeme) (s : Site) (a : Box Statement Global) (e : Span) → statement_tree all (S.Do s a e) ≡ do_loop s (statement_tree all a.value) (held_in all e)
tree-Do all s a e = ap (statement_tree all) (sym (S.rolls-Do s a e)) ∙ fold-roll-Statement StatementTree (statement_node all) (Statement-F.Do s a e)

pub tree-For : (all : List Lexeme) (s : Site) (f : Span) (e : Span) (g : Span) (a : Box Statement Global) → statement_tree all (S.For s f e g a) ≡ for_loop s (held_in all f) (held_in all e) (held_in all g) (statement_tree all a.value)
tree-For all s f e g a = ap (statement_tree all) (sym (S.rolls-For s f e g a)) ∙ fold-roll-Statement StatementTree (statement_node all) (Statement-F.For s f e g a)

pub tree-Goto : (all : List Lexeme) (s : Site) (e : Span) → statement_tree all (S.Goto s e) ≡ goto s (held_in all e)
tree-Goto all s e = ap (statement_tree all) (sym (S.rolls-Goto s e)) ∙ fold-roll-Statement StatementTree (statement_node all) (Statement-F.Goto s e)

pub tree-Break : (all : List Lexeme) (s : Site) → statement_tree all (S.Break s) ≡ break s
tree-Break all s = ap (statement_tree all) (sym (S.rolls-Break s)) ∙ fold-roll-Statement StatementTree (statement_node all) (Statement-F.Break s)

pub tree-Continue : (all : List Lexeme) (s : Site) → statement_tree all (S.Continue s) ≡ continue s
tree-Continue all s = ap (statement_tree all) (sym (S.rolls-Continue s)) ∙ fold-roll-Statement StatementTree (statement_node all) (Statement-F.Continue s)

pub tree-Return : (all : List Lexeme) (s : Site) (e : Span) → statement_tree all (S.Return s e) ≡ return s (held_in all e)
tree-Return all s e = ap (statement_tree all) (sym (S.rolls-Return s e)) ∙ fold-roll-Statement StatementTree (statement_node all) (Statement-F.Return s e)

pub tree-Labelled : (all : List Lexeme) (ls : Vec Label Global) (a : Box Statement Global) → statement_tree all (S.Labelled ls a) ≡ labelled (map (label_tree all) ls.items) (statement_tree all a.value)
tree-Labelled all ls a = ap (statement_tree all) (sym (S.rolls-Labelled ls a)) ∙ fold-roll-Statement StatementTree (statement_node all) (Statement-F.Labelled ls a)

pub tree-Unread : (all : List Lexeme) (t : Span) → statement_tree all (S.Unread t) ≡ unread (held_in all t)
tree-Unread all t = ap (statement_tree all) (sym (S.rolls-Unread t)) ∙ fold-roll-Statement StatementTree (statement_node all) (Statement-F.Unread t)

pub ruleset trees = (tree-Empty, tree-Simple, tree-Block, tree-If, tree-IfElse, tree-Switch, tree-While, tree-Do, tree-For, tree-Goto, tree-Break, tree-Continue, tree-Return, tree-Labelled, tree-Unread)
