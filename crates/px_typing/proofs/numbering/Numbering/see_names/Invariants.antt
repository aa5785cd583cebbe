use Rattle.std.proofs.Common.{[], take}
use Rattle.px_typing.specs.Numberings.{Sees}
use Rattle.px_typing.proofs.numbering.Numbering.see_names.Given as goal

abbrev pub invariant-loop-name : goal.invariant-loop-name
invariant-loop-name l = Sees l.initial.self l.self (take l.name-index l.names) []
