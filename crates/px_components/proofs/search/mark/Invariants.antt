use Rattle.px_components.specs.Searches.{IsMarked}
use Rattle.px_components.proofs.search.mark.Given as goal

abbrev pub invariant-loop-i : goal.invariant-loop-i
invariant-loop-i l = IsMarked l.path l.start l.i l.count l.initial.nodes l.nodes l.initial.numbers l.numbers
