use Rattle.std.proofs.Common.{[]}
use Rattle.px_typing.specs.Numberings.{Sees}
use Rattle.px_typing.specs.Programs.{behind}
use Rattle.px_typing.proofs.numbering.Numbering.see_after.Given as goal

abbrev pub invariant-loop-n : goal.invariant-loop-n
invariant-loop-n l = Sees l.initial.self l.self [] (behind l.base l.n)
