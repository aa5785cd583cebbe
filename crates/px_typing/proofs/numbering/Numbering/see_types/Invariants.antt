use Rattle.std.proofs.Common.{[], take}
use Rattle.px_typing.specs.Numberings.{Sees}
use Rattle.px_typing.proofs.numbering.Numbering.see_types.Given as goal

abbrev pub invariant-loop-of : goal.invariant-loop-of
invariant-loop-of l = Sees l.initial.self l.self [] (take l.of-index l.types)
