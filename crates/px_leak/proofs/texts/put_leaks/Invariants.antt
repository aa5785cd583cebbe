use Rattle.std.proofs.Common.{◌≡◌, ◌++◌, drop}
use Rattle.px_syntax.specs.ProgramTree.{program_tree}
use Rattle.px_leak.specs.LeakTexts.{leak_texts}
use Rattle.px_leak.proofs.texts.put_leaks.Given as goal

abbrev pub invariant-loop-leak : goal.invariant-loop-leak
invariant-loop-leak l = l.out.items ++ leak_texts (program_tree l.program) (drop l.leak-index l.leaks) ≡ l.initial.out.items ++ leak_texts (program_tree l.program) l.leaks
