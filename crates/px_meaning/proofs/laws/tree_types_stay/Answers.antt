use Rattle.std.proofs.Common.{None}
use Rattle.px_meaning.specs.Events.{mark_of}
use Rattle.px_meaning.proofs.TypedTrees.{tree_calls_stay}
use Rattle.px_meaning.proofs.laws.tree_types_stay.Goals as goal

pub returns : goal.returns
returns c = record {
  stay = λ P keeps f p e arguments heap state t ending end h. tree_calls_stay mark_of None P keeps f p e arguments heap state.well_typed state.written t ending end h;
}
