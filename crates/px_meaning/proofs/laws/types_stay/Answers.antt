use Rattle.std.proofs.Common.{None}
use Rattle.px_meaning.specs.Events.{mark_of}
use Rattle.px_meaning.proofs.TypedHeaps.{written_cells}
use Rattle.px_meaning.proofs.TypedSteps.{calls_stay}
use Rattle.px_meaning.proofs.laws.types_stay.Goals as goal

pub returns : goal.returns
returns c = record {
  stay = λ P keeps f b e arguments heap state t ending end h.
      calls_stay mark_of None P keeps f b e arguments heap state.well_typed (written_cells heap b.parameters arguments state.written) t ending end h;
}
