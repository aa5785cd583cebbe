use Rattle.std.proofs.Common.{◌≡◌, ◌++◌, map, drop}
use Rattle.px_syntax.specs.StatementTree.{init_tree}
use Rattle.px_typing.specs.Mentions.{of_declarators}
use Rattle.px_typing.proofs.walk.declarators_mentions.Given as goal

-- what was found, and what is left, are all
abbrev pub invariant-loop-declared : goal.invariant-loop-declared
invariant-loop-declared l =
    l.out ++ of_declarators l.base (map init_tree (drop l.declared-index l.declarators))
    ≡ l.initial.out ++ of_declarators l.base (map init_tree l.declarators)
