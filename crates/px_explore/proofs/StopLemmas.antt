-- What a stop says of the paths.
use Rattle.std.proofs.Common.{◌≡◌, suc, ◌<◌, List, [], ◌∷◌, length, get_or, Option, refl, sym, ◌∙◌, ap, subst, arith}
use Rattle.std.specs.Prelude.{flat_map}
use Rattle.px_terms.specs.declared.conjuncts.Content.{Content}
use Rattle.px_entry.specs.declared.derivations.Step.{Step}
use Rattle.px_entry.specs.declared.entries.Exit.{Exit}
use Rattle.px_entry.specs.declared.tables.Gap.{Gap}
use Rattle.px_callgraph.specs.declared.states.State.{State}
use Rattle.px_callgraph.specs.declared.states.Way.{Way}
use Rattle.px_callgraph.specs.JobTree.{JobTree}
use Rattle.px_callgraph.specs.declared.outcomes.StepOutcome.TheVariants.{Next, Ends, Cut, «Past» as IsPast}
use Rattle.px_callgraph.specs.Alternatives.{Walk, Leads, ways, act}
use Rattle.px_callgraph.specs.ActsLeft.{acts_left, acts_left_of, state_of}
use Rattle.px_callgraph.specs.Laws.{IsAskable}
use Rattle.px_callgraph.proofs.FallLemmas.{acts_lessen}
use Rattle.px_walks.specs.Walks.{walk_of}
use Rattle.px_symexec.specs.Prefixes.{Dead, Choice}
use Rattle.px_symexec.proofs.PrefixLemmas.{falls_to}
use Rattle.px_explore.specs.declared.stops.Fork.{Fork}
use Rattle.px_explore.specs.declared.stops.Stop.TheVariants as S
use Rattle.px_explore.specs.Stands.{Stands}
use Rattle.px_explore.specs.Taken.{steps_with}
use Rattle.px_explore.specs.Paths.{Path, path_to, paths_by, paths}
use Rattle.px_explore.specs.Stops.{extensions, IsStop}
use Rattle.px_explore.proofs.PathLemmas.{paths_next, paths_ends, paths_cut, paths_past}

none_listed : (s : State) (steps : List Step) (ws : List Way) (f : Way → List Path) → length ws ≡ 0 → paths_by s steps ws f ≡ path_to steps (Dead s) ∷ []
none_listed s steps [] f h = refl
none_listed s steps (w ∷ ws) f h = absurd (omega arith)

many_listed : (s : State) (steps : List Step) (ws : List Way) (f : Way → List Path) → 1 < length ws → paths_by s steps ws f ≡ path_to steps (Choice s) ∷ flat_map f ws
many_listed s steps [] f h = absurd (omega arith)
many_listed s steps (w ∷ []) f h = absurd (omega arith)
many_listed s steps (w ∷ more ∷ ws) f h = refl

one_listed : (s : State) (steps : List Step) (ws : List Way) (f : Way → List Path) (d : Way) → length ws ≡ 1 → paths_by s steps ws f ≡ f (get_or ws 0 d)
one_listed s steps [] f d h = absurd (omega arith)
one_listed s steps (w ∷ []) f d h = refl
one_listed s steps (w ∷ more ∷ ws) f d h = absurd (omega arith)

-- those by each way
abbrev after_way : JobTree → List Step → Walk → Way → List Path
after_way j steps w name = paths j (steps_with w name steps) (act j w name)

-- by what is listed there
listed_next : (j : JobTree) (steps : List Step) (w : Walk) (listed : List Way) → listed ≡ ways j w → paths j steps (Next w) ≡ paths_by w.state steps listed (after_way j steps w)
listed_next j steps w listed l = paths_next j steps w ∙ ap (λ z. paths_by w.state steps z (after_way j steps w)) (sym l)

-- a point of choice, and those after it
pub fork_next : (j : JobTree) (steps : List Step) (w : Walk) (listed : List Way) → listed ≡ ways j w → 1 < length listed →
    paths j steps (Next w) ≡ path_to steps (Choice w.state) ∷ extensions j steps w listed
fork_next j steps w listed l h = listed_next j steps w listed l ∙ many_listed w.state steps listed (after_way j steps w) h

at_end : (j : JobTree) (here a : Leads) → here ≡ a → Stands j here → IsAskable (state_of a)
at_end j here a e s = (subst (Stands j) e s).askable

pub stop_dead : (j : JobTree) (ps : List Path) (steps : List Step) (here : Leads) (w : Walk) (listed : List Way) → here ≡ Next w → listed ≡ ways j w → length listed ≡ 0 →
    Stands j here → paths j steps here ≡ ps → IsStop j ps steps (S.Dead w.state)
stop_dead j ps steps here w listed e l h s i = record {
  is = sym i ∙ ap (paths j steps) e ∙ listed_next j steps w listed l ∙ none_listed w.state steps listed (after_way j steps w) h;
  askable = at_end j here (Next w) e s;
  forks = tt;
}

-- it takes the steps so far
pub stop_choice : (j : JobTree) (ps : List Path) (steps left : List Step) (here : Leads) (f : Fork) → here ≡ Next (walk_of f.walk) → f.steps ≡ steps → f.ways.items ≡ ways j (walk_of f.walk) →
    1 < length f.ways.items → Stands j here → paths j steps here ≡ ps → IsStop j ps left (S.Choice f)
stop_choice j ps steps left here f e t l h s i = record {
  is = sym i ∙ ap (λ z. paths j z here) (sym t) ∙ ap (paths j f.steps) e ∙ fork_next j f.steps (walk_of f.walk) f.ways.items l h;
  askable = at_end j here (Next (walk_of f.walk)) e s;
  forks = record { reached = (subst (Stands j) e s).reached; listed = l; some = h };
}

pub stop_ends : (j : JobTree) (ps : List Path) (steps : List Step) (here : Leads) (s : State) (exit : Exit) (result : Option Content) → here ≡ Ends s exit result →
    Stands j here → paths j steps here ≡ ps → IsStop j ps steps (S.Ended s exit result)
stop_ends j ps steps here s exit result e h i =
    record { is = sym i ∙ ap (paths j steps) e ∙ paths_ends j steps s exit result; askable = at_end j here (Ends s exit result) e h; forks = tt }

pub stop_cut : (j : JobTree) (ps : List Path) (steps : List Step) (here : Leads) (s : State) (gap : Gap) → here ≡ Cut s gap → Stands j here → paths j steps here ≡ ps →
    IsStop j ps steps (S.Dropped s gap)
stop_cut j ps steps here s gap e h i = record { is = sym i ∙ ap (paths j steps) e ∙ paths_cut j steps s gap; askable = at_end j here (Cut s gap) e h; forks = tt }

pub stop_past : (j : JobTree) (ps : List Path) (steps : List Step) (here : Leads) (s : State) → here ≡ IsPast s → Stands j here → paths j steps here ≡ ps → IsStop j ps steps (S.Past s)
stop_past j ps steps here s e h i = record { is = sym i ∙ ap (paths j steps) e ∙ paths_past j steps s; askable = at_end j here (IsPast s) e h; forks = tt }

-- the way that is listed alone is taken, by its steps
pub alone : (j : JobTree) (here next : Leads) (w : Walk) (listed : List Way) (name : Way) (steps new : List Step) (ps : List Path) → here ≡ Next w → listed ≡ ways j w → length listed ≡ 1 →
    name ≡ get_or listed 0 name → next ≡ act j w name → new ≡ steps_with w name steps → paths j steps here ≡ ps → paths j new next ≡ ps
alone j here next w listed name steps new ps e l h g n t i =
    ap (λ z. paths j z next) t ∙ ap (paths j (steps_with w name steps)) n
    ∙ sym (ap (paths j steps) e ∙ listed_next j steps w listed l ∙ one_listed w.state steps listed (after_way j steps w) name h ∙ ap (after_way j steps w) (sym g)) ∙ i

pub less : (j : JobTree) (here next : Leads) (w : Walk) (name : Way) → here ≡ Next w → next ≡ act j w name → acts_left_of j next < acts_left_of j here
less j here next w name e n =
    subst (λ z. acts_left_of j next < acts_left_of j z) (sym e)
    (subst (λ z. acts_left_of j z < suc (acts_left j w)) (sym n) (falls_to j (act j w name) (acts_left j w) (acts_lessen j w name)))
