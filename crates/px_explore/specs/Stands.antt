-- Where a search stands on a path.
use Rattle.std.specs.Prelude.{◌≡◌, List}
use Rattle.px_entry.specs.declared.derivations.Step.{Step}
use Rattle.px_callgraph.specs.declared.states.State.{State}
use Rattle.px_callgraph.specs.JobTree.{JobTree}
use Rattle.px_callgraph.specs.Outcomes.{IfNext}
use Rattle.px_callgraph.specs.Alternatives.{Leads}
use Rattle.px_callgraph.specs.ActsLeft.{state_of}
use Rattle.px_callgraph.specs.Laws.{IsReached, IsAskable}
use Rattle.px_explore.specs.Paths.{Path, paths}
use Rattle.px_explore.specs.Trails.{IsAfter}

-- where the path goes on, listed ways lead there from the start, and a solver may be asked
pub record Stands (j : JobTree) (a : Leads) : Type 0 where
  pub reached : IfNext a (IsReached j)
  pub askable : IsAskable (state_of a)

-- a search that began at a state, and whose paths from here, after these steps, are the ones that it had then
pub record IsOn (j : JobTree) (first : State) (ps : List Path) (steps : List Step) (here : Leads) : Type 0 where
  pub stands : Stands j here
  pub after : IsAfter first (state_of here)
  pub same : paths j steps here ≡ ps
