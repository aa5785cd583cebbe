use Rattle.std.proofs.Common.{◌≡◌, ◌++◌, drop}
use Rattle.px_syntax.specs.ProgramTree.{program_tree}
use Rattle.px_undecided.specs.CountTexts.{count_lines}
use Rattle.px_undecided.proofs.texts.render.Given as goal

abbrev pub invariant-loop-one : goal.invariant-loop-one
invariant-loop-one l = l.out.items ++ count_lines (program_tree l.program) (drop l.one-index l.counts) ≡ count_lines (program_tree l.program) l.counts
