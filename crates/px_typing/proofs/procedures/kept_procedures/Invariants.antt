use Rattle.std.proofs.Common.{◌≡◌, ◌++◌, map, drop}
use Rattle.px_syntax.specs.StatementTree.{statement_tree}
use Rattle.px_syntax.specs.ParsedTree.{parsed_tree}
use Rattle.px_syntax.specs.ProgramTree.{procedure_tree}
use Rattle.px_bodies.specs.Environment.{environment_of}
use Rattle.px_typing.specs.Apart.{wholes, made_in}
use Rattle.px_typing.proofs.procedures.kept_procedures.Given as goal

-- the procedures so far, and those of what is left, are all
abbrev pub invariant-loop-i : goal.invariant-loop-i
invariant-loop-i l =
    map procedure_tree l.all ++ made_in (environment_of l.environment) (wholes (map parsed_tree (drop l.i l.heads)) (map (map statement_tree) (drop l.i l.bodies))) (drop l.i l.kept)
    ≡ made_in (environment_of l.environment) (wholes (map parsed_tree l.heads) (map (map statement_tree) l.initial.bodies)) l.kept
