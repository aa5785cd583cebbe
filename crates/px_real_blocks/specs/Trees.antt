-- The statements of the code as the plain trees of the grammar, by the lexemes that were read.
use Rattle.std.specs.Prelude.{List, map}
use Rattle.px_real_expressions.specs.Lexemes.{Lexeme}
use Rattle.px_real_symbols.specs.Symbols.{held_in}
use Rattle.px_real_statements.specs.StatementTree.{LabelTree, named, case, default, StatementTree, statements_of, empty, simple, block, choose, choose_else, switch, while_loop, do_loop, for_loop, goto, break, continue, return, labelled, unread}
use Rattle.px_real_blocks.specs.declared.tree.Label.{Label}
use Rattle.px_real_blocks.specs.declared.tree.Label.TheVariants as L
use Rattle.px_real_blocks.specs.declared.tree.Statement.{Statement}
use Rattle.px_real_blocks.specs.declared.tree.Statement.TheOpen.{Statement-F}
use Rattle.px_real_blocks.specs.declared.tree.Statement.TheFolds.{fold-Statement}

abbrev pub label_tree : List Lexeme → Label → LabelTree
label_tree all (L.Named name site) = named name site
label_tree all (L.Case site value) = case site (held_in all value)
label_tree all (L.Default site) = default site

abbrev pub statement_node : List Lexeme → Statement-F StatementTree → StatementTree
statement_node all Statement-F.Empty = empty
statement_node all (Statement-F.Simple tokens) = simple (held_in all tokens)
statement_node all (Statement-F.Block statements) = block (statements_of statements.items)
statement_node all (Statement-F.If site condition then) = choose site (held_in all condition) then.value
statement_node all (Statement-F.IfElse site condition then other) = choose_else site (held_in all condition) then.value other.value
statement_node all (Statement-F.Switch site value body) = switch site (held_in all value) body.value
statement_node all (Statement-F.While site condition body) = while_loop site (held_in all condition) body.value
statement_node all (Statement-F.Do site body condition) = do_loop site body.value (held_in all condition)
statement_node all (Statement-F.For site first condition step body) = for_loop site (held_in all first) (held_in all condition) (held_in all step) body.value
statement_node all (Statement-F.Goto site target) = goto site (held_in all target)
statement_node all (Statement-F.Break site) = break site
statement_node all (Statement-F.Continue site) = continue site
statement_node all (Statement-F.Return site value) = return site (held_in all value)
statement_node all (Statement-F.Labelled labels statement) = labelled (map (label_tree all) labels.items) statement.value
statement_node all (Statement-F.Unread tokens) = unread (held_in all tokens)

abbrev pub statement_tree : List Lexeme → Statement → StatementTree
statement_tree all = fold-Statement StatementTree (statement_node all)
