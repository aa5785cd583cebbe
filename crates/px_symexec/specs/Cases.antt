-- The straight run of one list of choices.
use Rattle.std.specs.Prelude.{◌≡◌, ◌⊎◌, ℕ, zero, suc, ◌<◌, List, [], ◌∷◌, slice_get, Option, Some, None}
use Rattle.px_callgraph.specs.declared.states.State.{State}
use Rattle.px_callgraph.specs.declared.states.Way.{Way}
use Rattle.px_callgraph.specs.JobTree.{JobTree}
use Rattle.px_callgraph.specs.declared.outcomes.StepOutcome.TheVariants.{Next, Ends, Cut, «Past» as IsPast}
use Rattle.px_callgraph.specs.Alternatives.{Leads, ways, act, start}
use Rattle.px_callgraph.specs.ActsLeft.{acts_left_of}
use Rattle.px_symexec.specs.Prefixes.{Prefix, Dead, Choice, Ended, Dropped, Past}

-- where a path has stopped no choice may be left
abbrev pub at_stop : List ℕ → Prefix → Option Prefix
at_stop [] p = Some p
at_stop (c ∷ cs) p = None

abbrev pub go_on : Option Way → (Way → Option Prefix) → Option Prefix
go_on None f = None
go_on (Some w) f = f w

-- Where two or more ways are listed, the next number chooses one, and the prefix stops where there is no number left.
abbrev pub by_choice : State → List Way → List ℕ → (List ℕ → Way → Option Prefix) → Option Prefix
by_choice s [] cs f = at_stop cs (Dead s)
by_choice s (w ∷ []) cs f = f cs w
by_choice s (w ∷ more ∷ ws) [] f = Some (Choice s)
by_choice s (w ∷ more ∷ ws) (c ∷ cs) f = go_on (slice_get (w ∷ more ∷ ws) c) (f cs)

-- from there, with at most n acts
abbrev pub case_within : ℕ → JobTree → List ℕ → Leads → Option Prefix
case_within n j cs (Ends s exit result) = at_stop cs (Ended s exit result)
case_within n j cs (Cut s gap) = at_stop cs (Dropped s gap)
case_within n j cs (IsPast s) = at_stop cs (Past s)
case_within zero j cs (Next w) = at_stop cs (Dead w.state)
case_within (suc n) j cs (Next w) = by_choice w.state (ways j w) cs (λ cs name. case_within n j cs (act j w name))

-- where a list of choices stops; nothing where a number chooses nothing, or a path stops before the last
unfoldable pub case_of : JobTree → List ℕ → Option Prefix
case_of j cs = case_within (acts_left_of j (Next (start j))) j cs (Next (start j))

-- in lexicographic order, each before its extensions
abbrev pub IsEarlier : List ℕ → List ℕ → Type 0
IsEarlier p [] = ⊥
IsEarlier [] (k ∷ q) = Unit {0}
IsEarlier (i ∷ p) (k ∷ q) = (i < k) ⊎ ((i ≡ k) × IsEarlier p q)
