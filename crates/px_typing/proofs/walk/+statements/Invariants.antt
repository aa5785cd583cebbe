use Rattle.std.proofs.Common.{◌≡◌, ◌++◌, map, drop}
use Rattle.px_syntax.specs.StatementTree.{statement_tree, statements_of}
use Rattle.px_typing.specs.Mentions.{of_statements}
use Rattle.px_typing.proofs.walk.+statements.Given as goal

-- what was found, and what is left, are all
abbrev pub invariant-statements_mentions-loop-statement :
    goal.invariant-statements_mentions-loop-statement
invariant-statements_mentions-loop-statement l =
    l.out ++ of_statements (statements_of (map statement_tree (drop l.statement-index l.statements)))
    ≡ l.initial.out ++ of_statements (statements_of (map statement_tree l.statements))
