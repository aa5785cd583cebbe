-- The prefixes of a job, with the steps that their choices take.
use Rattle.std.specs.Prelude.{ℕ, zero, suc, List, [], ◌∷◌, map, flat_map}
use Rattle.px_entry.specs.declared.derivations.Step.{Step}
use Rattle.px_callgraph.specs.declared.states.State.{State}
use Rattle.px_callgraph.specs.declared.states.Way.{Way}
use Rattle.px_callgraph.specs.JobTree.{JobTree}
use Rattle.px_callgraph.specs.declared.outcomes.StepOutcome.TheVariants.{Next, Ends, Cut, «Past» as IsPast}
use Rattle.px_callgraph.specs.Alternatives.{Leads, ways, act, start}
use Rattle.px_callgraph.specs.ActsLeft.{acts_left_of}
use Rattle.px_symexec.specs.Prefixes.{Prefix, Dead, Choice, Ended, Dropped, Past}
use Rattle.px_explore.specs.Taken.{steps_with}

-- a prefix, and the steps that lead from the start to where it stops
pub record Path : Type 0 where
  pub prefix : Prefix
  pub steps : List Step

abbrev pub path_to : List Step → Prefix → Path
path_to steps p = record { prefix = p; steps = steps }

abbrev pub prefixes_in : List Path → List Prefix
prefixes_in ps = map (λ (p : Path). p.prefix) ps

-- A way that is listed alone is taken. Where two or more are listed, a prefix stops, and is extended by each of
-- them, in order.
abbrev pub paths_by : State → List Step → List Way → (Way → List Path) → List Path
paths_by s steps [] extend = path_to steps (Dead s) ∷ []
paths_by s steps (w ∷ []) extend = extend w
paths_by s steps (w ∷ more ∷ ws) extend = path_to steps (Choice s) ∷ flat_map extend (w ∷ more ∷ ws)

-- Those that go on from there, where these steps lead, with at most n acts: each act takes the steps of its way. They
-- are in lexicographic order, each before its extensions.
abbrev pub paths_within : ℕ → JobTree → List Step → Leads → List Path
paths_within n j steps (Ends s exit result) = path_to steps (Ended s exit result) ∷ []
paths_within n j steps (Cut s gap) = path_to steps (Dropped s gap) ∷ []
paths_within n j steps (IsPast s) = path_to steps (Past s) ∷ []
paths_within zero j steps (Next w) = path_to steps (Dead w.state) ∷ []
paths_within (suc n) j steps (Next w) = paths_by w.state steps (ways j w) (λ name. paths_within n j (steps_with w name steps) (act j w name))

-- all that go on from there
unfoldable pub paths : JobTree → List Step → Leads → List Path
paths j steps a = paths_within (acts_left_of j a) j steps a

-- the paths of a job
abbrev pub paths_of : JobTree → List Path
paths_of j = paths j [] (Next (start j))
