-- The prefixes of a job.
use Rattle.std.specs.Prelude.{ℕ, zero, suc, List, [], ◌∷◌, flat_map, Option}
use Rattle.px_terms.specs.declared.conjuncts.Content.{Content}
use Rattle.px_terms.specs.declared.conjuncts.Conj.{Conj}
use Rattle.px_entry.specs.declared.entries.Exit.{Exit}
use Rattle.px_entry.specs.declared.tables.Gap.{Gap}
use Rattle.px_entry.specs.Constraint.{constraint_of}
use Rattle.px_callgraph.specs.declared.states.State.{State}
use Rattle.px_callgraph.specs.declared.states.Way.{Way}
use Rattle.px_callgraph.specs.JobTree.{JobTree}
use Rattle.px_callgraph.specs.declared.outcomes.StepOutcome.TheVariants.{Next, Ends, Cut, «Past» as IsPast}
use Rattle.px_callgraph.specs.Alternatives.{Leads, ways, act, start}
use Rattle.px_callgraph.specs.ActsLeft.{acts_left_of}

-- where a prefix stops: where nothing is listed, at a point of choice, at the end of the procedure, at a drop, or
-- past the bound of a loop
pub data Prefix : Type 0 where
  Dead : State → Prefix
  Choice : State → Prefix
  Ended : State → Exit → Option Content → Prefix
  Dropped : State → Gap → Prefix
  Past : State → Prefix

-- the state where it stops
abbrev pub stop_of : Prefix → State
stop_of (Dead s) = s
stop_of (Choice s) = s
stop_of (Ended s exit result) = s
stop_of (Dropped s gap) = s
stop_of (Past s) = s

-- what a state assumes of its variables
abbrev pub constraint : State → List Conj
constraint s = constraint_of s.vars s.pure s.atoms

-- A way that is listed alone is taken. Where two or more are listed, a prefix stops, and is extended by each of
-- them, in order.
abbrev pub from_listed : State → List Way → (Way → List Prefix) → List Prefix
from_listed s [] extend = Dead s ∷ []
from_listed s (w ∷ []) extend = extend w
from_listed s (w ∷ more ∷ ws) extend = Choice s ∷ flat_map extend (w ∷ more ∷ ws)

-- the prefixes that go on from there with at most n acts, in lexicographic order, each before its extensions
abbrev pub prefixes_within : ℕ → JobTree → Leads → List Prefix
prefixes_within n j (Ends s exit result) = Ended s exit result ∷ []
prefixes_within n j (Cut s gap) = Dropped s gap ∷ []
prefixes_within n j (IsPast s) = Past s ∷ []
prefixes_within zero j (Next w) = Dead w.state ∷ []
prefixes_within (suc n) j (Next w) = from_listed w.state (ways j w) (λ name. prefixes_within n j (act j w name))

-- all that go on from there
unfoldable pub prefixes : JobTree → Leads → List Prefix
prefixes j a = prefixes_within (acts_left_of j a) j a

-- the prefixes of a job
abbrev pub prefixes_of : JobTree → List Prefix
prefixes_of j = prefixes j (Next (start j))
