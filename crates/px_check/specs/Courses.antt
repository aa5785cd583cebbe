-- Where steps lead, as the code keeps it.
use Rattle.std.specs.Prelude.{◌≡◌, ℕ, suc, ◌+◌, ◌≤◌, true, false, List, [], ◌∷◌, ◌++◌, length, drop, Option, Some, None, ⊤}
use Rattle.px_entry.specs.declared.derivations.Rule.{Rule}
use Rattle.px_entry.specs.declared.derivations.Step.{Step}
use Rattle.px_callgraph.specs.declared.states.Way.TheVariants as way
use Rattle.px_callgraph.specs.JobTree.{JobTree}
use Rattle.px_callgraph.specs.declared.outcomes.StepOutcome.TheVariants.{Next}
use Rattle.px_callgraph.specs.Alternatives as W
use Rattle.px_callgraph.specs.Laws.{IsSorted}
use Rattle.px_callgraph.specs.Derivations as D
use Rattle.px_check.specs.Leading.{lead_at}
use Rattle.px_check.specs.declared.turns.Turn.{Turn}
use Rattle.px_check.specs.declared.turns.Turn.TheVariants.{Taken, Fails}
use Rattle.px_check.specs.declared.steps.Course.{Course}
use Rattle.px_check.specs.declared.steps.Course.TheVariants.{FailsAt, ComesTo}

-- these are the steps from one place to another
abbrev pub AreBetween : List Step → ℕ → ℕ → List Step → Type 0
AreBetween steps i k taken = (drop i steps ≡ taken ++ drop k steps) × (k ≡ i + length taken)

-- the use of a block that was met just now, as the atom with this number, where one is owed by a rule; else no step
abbrev pub IsUse : ℕ → Option Rule → List Step → Type 0
IsUse n None [] = ⊤
IsUse n (Some r) (st ∷ []) = D.uses_atom r n st ≡ true
IsUse n _ _ = ⊥

-- behind it a path goes on; where one is owed and isn't taken, the step at its place fails
abbrev pub IsBehindUse : List Step → ℕ → ℕ → Option Rule → Option ℕ → Type 0
IsBehindUse steps i n owed None = (go : ℕ → List Step → W.Leads → D.Course) (a : W.Leads) → D.by_use go i (drop i steps) n owed a ≡ D.fails_next i (drop i steps)
IsBehindUse steps i n owed (Some k) = (taken : List Step) × AreBetween steps i k taken × IsUse n owed taken

-- it leads there without a step, or by a step, and by the use of a block that it meets
abbrev pub IsTurn : JobTree → W.Walk → List Step → W.Leads → Type 0
IsTurn j w [] a = (D.is_silent w.control ≡ true) × (D.take_listed j w way.On ≡ Some a)
IsTurn j w (st ∷ used) a =
    (D.is_silent w.control ≡ false) × (D.item_step j w w.control st.rule st.choices ≡ Some a) × IsUse (length w.state.atoms) (D.use_rule w.control st.rule) used

-- A turn was taken that left a walk so, by the steps from one place to another; or a step fails, the next or the one behind it.
abbrev pub TakesTurn : JobTree → List Step → W.Walk → ℕ → W.Walk → Turn → Type 0
TakesTurn j steps w i v (Taken k led) = (taken : List Step) × AreBetween steps i k taken × IsTurn j w taken (lead_at v led)
TakesTurn j steps w i v (Fails k) = (k ≤ i + 2) × ((n : ℕ) → D.course (suc n) j i (drop i steps) (Next w) ≡ D.fails_next k (drop k steps))

-- the steps after an `End` are those from the next place on
abbrev pub course_of : List Step → Course → D.Course
course_of steps (FailsAt i r) = D.fails_at i r
course_of steps (ComesTo i s exit result) = D.comes_to i s exit result (drop (suc i) steps)

abbrev pub place_of : Course → ℕ
place_of (FailsAt i r) = i
place_of (ComesTo i s exit result) = i

-- the state at the end of a path is well sorted
abbrev pub IsSortedCourse : Course → Type 0
IsSortedCourse (FailsAt i r) = ⊤
IsSortedCourse (ComesTo i s exit result) = IsSorted s
