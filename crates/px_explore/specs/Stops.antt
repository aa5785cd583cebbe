-- What a stop of the search says of the paths.
use Rattle.std.specs.Prelude.{◌≡◌, ◌<◌, List, [], ◌∷◌, length, flat_map, ⊤}
use Rattle.px_entry.specs.declared.derivations.Step.{Step}
use Rattle.px_callgraph.specs.declared.states.Way.{Way}
use Rattle.px_callgraph.specs.JobTree.{JobTree}
use Rattle.px_callgraph.specs.Alternatives.{Walk, ways, act}
use Rattle.px_callgraph.specs.Laws.{IsReached, IsAskable}
use Rattle.px_walks.specs.Walks.{walk_of}
use Rattle.px_symexec.specs.Prefixes.{Prefix, Dead, Choice, Ended, Dropped, Past, stop_of}
use Rattle.px_explore.specs.declared.stops.Fork.{Fork}
use Rattle.px_explore.specs.declared.stops.Listed.{Listed}
use Rattle.px_explore.specs.declared.stops.Listed.TheVariants as L
use Rattle.px_explore.specs.declared.stops.Stop.{Stop}
use Rattle.px_explore.specs.declared.stops.Stop.TheVariants as S
use Rattle.px_explore.specs.Taken.{steps_with}
use Rattle.px_explore.specs.Paths.{Path, path_to, paths}

-- the prefix that stops there
abbrev pub prefix_of : Stop → Prefix
prefix_of (S.Dead s) = Dead s
prefix_of (S.Choice f) = Choice f.walk.state
prefix_of (S.Ended s exit result) = Ended s exit result
prefix_of (S.Dropped s gap) = Dropped s gap
prefix_of (S.Past s) = Past s

-- the steps that lead there: a point of choice has taken them
abbrev pub steps_at : List Step → Stop → List Step
steps_at steps (S.Dead s) = steps
steps_at steps (S.Choice f) = f.steps
steps_at steps (S.Ended s exit result) = steps
steps_at steps (S.Dropped s gap) = steps
steps_at steps (S.Past s) = steps

abbrev pub path_of : List Step → Stop → Path
path_of steps stop = path_to (steps_at steps stop) (prefix_of stop)

-- those after a point of choice, where these steps lead, that go on by these ways
abbrev pub extensions : JobTree → List Step → Walk → List Way → List Path
extensions j steps w names = flat_map (λ name. paths j (steps_with w name steps) (act j w name)) names

abbrev pub extensions_of : JobTree → Stop → List Path
extensions_of j (S.Dead s) = []
extensions_of j (S.Choice f) = extensions j f.steps (walk_of f.walk) f.ways.items
extensions_of j (S.Ended s exit result) = []
extensions_of j (S.Dropped s gap) = []
extensions_of j (S.Past s) = []

-- a point of choice that is reached, with the two or more ways that are listed there
pub record IsFork (j : JobTree) (f : Fork) : Type 0 where
  pub reached : IsReached j (walk_of f.walk)
  pub listed : f.ways.items ≡ ways j (walk_of f.walk)
  pub some : 1 < length f.ways.items

abbrev pub ForksRightly : JobTree → Stop → Type 0
ForksRightly j (S.Dead s) = ⊤
ForksRightly j (S.Choice f) = IsFork j f
ForksRightly j (S.Ended s exit result) = ⊤
ForksRightly j (S.Dropped s gap) = ⊤
ForksRightly j (S.Past s) = ⊤

-- these ways are none, one, or several, which are lent as they are
abbrev pub AreListed : List Way → Listed → Type 0
AreListed ways L.Nothing = ways ≡ []
AreListed ways (L.One way) = ways ≡ way ∷ []
AreListed ways (L.Several some) = (some.items ≡ ways) × (1 < length some.items)

-- these paths are the one that stops there, by these steps, and its extensions
pub record IsStop (j : JobTree) (ps : List Path) (steps : List Step) (stop : Stop) : Type 0 where
  pub is : ps ≡ path_of steps stop ∷ extensions_of j stop
  pub askable : IsAskable (stop_of (prefix_of stop))
  pub forks : ForksRightly j stop
