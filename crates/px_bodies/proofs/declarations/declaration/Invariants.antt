use Rattle.std.proofs.Common.{◌≡◌, map, drop}
use Rattle.px_syntax.specs.StatementTree.{init_tree}
use Rattle.px_syntax.specs.TypedViews.{typed_statement}
use Rattle.px_bodies.specs.Environment.{environment_of}
use Rattle.px_bodies.specs.Statements.{typed_declarators, all_before}
use Rattle.px_bodies.proofs.declarations.declaration.Given as goal

abbrev pub invariant-loop-i : goal.invariant-loop-i
invariant-loop-i l =
    typed_declarators (environment_of l.environment) l.outer l.initial.locals l.declared.base (map init_tree l.declarators)
    ≡ all_before (map typed_statement l.all.items) (typed_declarators (environment_of l.environment) l.outer l.locals l.declared.base (map init_tree (drop l.i l.declarators)))
