-- What is left to visit.
use Rattle.std.specs.Prelude.{◌≡◌, List, [], ◌∷◌, ◌++◌, length, drop, reverse, ⊤}
use Rattle.px_terms.specs.declared.conjuncts.Conj.{Conj}
use Rattle.px_plain.specs.Held.{HeldItem}
use Rattle.px_entry.specs.declared.derivations.Step.{Step}
use Rattle.px_callgraph.specs.JobTree.{JobTree}
use Rattle.px_callgraph.specs.declared.states.State.{State}
use Rattle.px_callgraph.specs.Alternatives.{Leads}
use Rattle.px_callgraph.specs.ActsLeft.{state_of}
use Rattle.px_walks.specs.Walks.{walk_of}
use Rattle.px_explore.specs.declared.branch_points.BranchPoint.{BranchPoint}
use Rattle.px_explore.specs.declared.trail.Trail.{Trail}
use Rattle.px_explore.specs.Stands.{Stands}
use Rattle.px_explore.specs.Trails.{IsOn, AreOf, IsAfter, IsAt}
use Rattle.px_explore.specs.Paths.{Path, paths}
use Rattle.px_explore.specs.Stops.{extensions}
use Rattle.px_explore.specs.Thinned.{IsLeft}

-- the paths that are left of a point of choice
abbrev pub left_at : JobTree → BranchPoint → List Path
left_at j f = extensions j f.fork.steps (walk_of f.fork.walk) (drop f.next f.fork.ways.items)

-- of all points, of which the last comes first
abbrev pub left_of : JobTree → List BranchPoint → List Path
left_of j [] = []
left_of j (f ∷ fs) = left_of j fs ++ left_at j f

abbrev pub AreForks : JobTree → List BranchPoint → Type 0
AreForks j [] = ⊤
AreForks j (f ∷ fs) = IsLeft j f.fork × AreForks j fs

-- the next way of a point is taken, and leads there by these steps: nothing of what is left is lost, and nothing added
pub record IsAdvanced (j : JobTree) (f : BranchPoint) (old new : List BranchPoint) (steps : List Step) (from : Leads) : Type 0 where
  pub left : paths j steps from ++ left_of j new ≡ left_at j f ++ left_of j old
  pub stands : Stands j from
  pub forks : AreForks j old → AreForks j new

-- ---- what is held

-- The items of each point, of which the first comes last, are what its state assumes; upon them stand those of the points
-- after it.
abbrev pub AreHeldDown : List BranchPoint → List HeldItem → Type 0
AreHeldDown [] all = ⊤
AreHeldDown (f ∷ fs) all =
    (above : List HeldItem) × (items : List HeldItem) × (all ≡ above ++ items) × (f.held ≡ length items) × AreOf f.fork.walk.state items × AreHeldDown fs items

abbrev pub AreHeld : List BranchPoint → List HeldItem → Type 0
AreHeld fs items = AreHeldDown (reverse fs) items

-- a point of choice may be gone back to
abbrev pub IsResting : Trail → (List Conj → Type 0) → List BranchPoint → Type 0
IsResting t domains points = (items : List HeldItem) × IsOn t domains items × AreHeld points items

-- and where a way led may be gone on from: a state before it is held
abbrev pub IsReady : Trail → (List Conj → Type 0) → Leads → List BranchPoint → Type 0
IsReady t domains a points = (s : State) × (items : List HeldItem) × IsAt t domains s items × IsAfter s (state_of a) × AreHeld points items
