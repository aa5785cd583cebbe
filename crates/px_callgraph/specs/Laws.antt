-- What every way on from a state keeps.
use Rattle.std.specs.Prelude.{◌≡◌, ◌<◌, ◌≤◌, true, List, ◌++◌, length, All, Contains}
use Rattle.std.specs.List.{list_all}
use Rattle.px_base.specs.Bounds.{most_variables}
use Rattle.px_terms.specs.Conjuncts.{AreWellSorted}
use Rattle.px_terms.specs.declared.variables.VarInfo.{VarInfo}
use Rattle.px_core.specs.Control.{Item}
use Rattle.px_entry.specs.declared.atoms.Atom.{Atom}
use Rattle.px_entry.specs.Constraint.{constraint_of}
use Rattle.px_entry.specs.Sorts.{is_well_sorted, is_pointer}
use Rattle.px_callgraph.specs.declared.states.State.{State}
use Rattle.px_callgraph.specs.declared.states.Way.{Way}
use Rattle.px_callgraph.specs.JobTree.{JobTree}
use Rattle.px_callgraph.specs.declared.outcomes.StepOutcome.TheVariants.{Next, Ends, Cut, Past}
use Rattle.px_callgraph.specs.Alternatives.{Walk, Leads, at, ways, act, start}
use Rattle.px_callgraph.specs.ActsLeft.{acts_left, state_of, FallsBelow}

-- its conjuncts are well sorted, and the places of its blocks are pointers of its list
pub record IsSorted (s : State) : Type 0 where
  pub pure : list_all (is_well_sorted s.vars) s.pure ≡ true
  pub atoms : list_all (λ (a : Atom). is_pointer s.vars a.place.0) s.atoms ≡ true

-- a state after another: it is well sorted, and has as many slots
pub record IsKept (s t : State) : Type 0 where
  pub sorted : IsSorted t
  pub slots : length t.slots ≡ length s.slots

-- where the path is dropped, or ends past the bound of a loop, the state is the one before
abbrev pub KeepsState : State → Leads → Type 0
KeepsState s (Next w) = IsKept s w.state
KeepsState s (Ends t exit result) = IsKept s t
KeepsState s (Cut t gap) = t ≡ s
KeepsState s (Past t) = t ≡ s

-- each way that is listed, where no call is going on
abbrev pub WaysKeepStates : Type 0
WaysKeepStates = (j : JobTree) (s : State) (k : List Item) → IsSorted s → All (λ name. KeepsState s (act j (at k s) name)) (ways j (at k s))

-- the constraint of such a state is well sorted, too
abbrev pub ConstraintsAreSorted : Type 0
ConstraintsAreSorted = (s : State) → IsSorted s → list_all (is_well_sorted s.vars) (constraint_of s.vars s.pure s.atoms) ≡ true

-- each act leaves fewer acts, whether its name is listed or not
abbrev pub ActsLessen : Type 0
ActsLessen = (j : JobTree) (w : Walk) (name : Way) → FallsBelow j (acts_left j w) (act j w name)

-- the places of its blocks are variables of its list
abbrev pub HasPlaces : State → Type 0
HasPlaces s = All (λ (a : Atom). a.place.0 < length s.vars) s.atoms

-- a state after another: variables are added at the end, and each conjunct of the old constraint is among the new ones
pub record IsLater (s t : State) : Type 0 where
  pub vars : (more : List VarInfo) × (t.vars ≡ s.vars ++ more)
  pub constraint : All (λ c. Contains (constraint_of t.vars t.pure t.atoms) c) (constraint_of s.vars s.pure s.atoms)

-- Each act adds to what is assumed, whether its name is listed or not. (Of a block whose place is no variable of the
-- list nothing can be said: a variable that comes later could be its place, and made.)
abbrev pub ConstraintsGrow : Type 0
ConstraintsGrow = (j : JobTree) (w : Walk) (name : Way) → HasPlaces w.state → IsLater w.state (state_of (act j w name))

-- ---- from the start

-- listed ways lead there from the start
pub data IsReached (j : JobTree) : Walk → Type 0 where
  at_start : {w : Walk} → w ≡ start j → IsReached j w
  by_way : {v w : Walk} (name : Way) → IsReached j v → Contains (ways j v) name → act j v name ≡ Next w → IsReached j w

-- The state of each place that is reached is well sorted, and each way that is listed there keeps it, calls included.
abbrev pub ReachedKeepStates : Type 0
ReachedKeepStates = (j : JobTree) (w : Walk) → IsReached j w → IsSorted w.state × All (λ name. KeepsState w.state (act j w name)) (ways j w)

-- the constraint of a state is what a solver may be asked
abbrev pub IsAskable : State → Type 0
IsAskable s = AreWellSorted s.vars (constraint_of s.vars s.pure s.atoms)

-- The constraint of each place that is reached may be asked, and that of each state that a listed way leads to, where
-- the body has no more parameters than a path may have variables.
abbrev pub ReachedAreAskable : Type 0
ReachedAreAskable =
    (j : JobTree) (w : Walk) → length j.body.parameters ≤ most_variables → IsReached j w → IsAskable w.state × All (λ name. IsAskable (state_of (act j w name))) (ways j w)
