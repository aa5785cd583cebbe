use Rattle.std.proofs.Common.{None}
use Rattle.px_meaning.specs.Events.{mark_of}
use Rattle.px_meaning.proofs.TreeGrown.{tree_calls_grow}
use Rattle.px_meaning.proofs.laws.tree_heaps_grow.Goals as goal

pub returns : goal.returns
returns c = λ P f arguments heap t ending end h. tree_calls_grow mark_of None P f arguments heap t ending end h
