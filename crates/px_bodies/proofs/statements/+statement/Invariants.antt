use Rattle.std.proofs.Common.{◌≡◌, map, drop, option_map}
use Rattle.px_syntax.specs.StatementTree.{statement_tree, statements_of}
use Rattle.px_syntax.specs.TypedViews.{typed_statement}
use Rattle.px_bodies.specs.Environment.{environment_of}
use Rattle.px_bodies.specs.Lent.{type_of}
use Rattle.px_bodies.specs.Statements.{typed_statements, all_before}
use Rattle.px_bodies.proofs.statements.+statement.Given as goal

abbrev pub invariant-statements-loop-i : goal.invariant-statements-loop-i
invariant-statements-loop-i l =
    typed_statements (environment_of l.environment) (option_map type_of l.position.returns) l.position.in_loop l.position.outer l.initial.locals (statements_of (map statement_tree l.all))
    ≡ all_before (map typed_statement l.typed.items)
    (typed_statements (environment_of l.environment) (option_map type_of l.position.returns) l.position.in_loop l.position.outer l.locals (statements_of (map statement_tree (drop l.i l.all))))
