-- Steps that lead to a place of a path, and the derivations of entries.
use Rattle.std.specs.Prelude.{◌≡◌, ℕ, List, [], ◌∷◌, ◌++◌, length, ⊤, Option, Some, None, false}
use Rattle.px_entry.specs.declared.derivations.Derivation.{Derivation}
use Rattle.px_entry.specs.declared.derivations.Rule.TheVariants as rule
use Rattle.px_entry.specs.declared.derivations.Step.{Step}
use Rattle.px_entry.specs.declared.entries.Entry.{Entry}
use Rattle.px_callgraph.specs.JobTree.{JobTree}
use Rattle.px_callgraph.specs.Calls.{Calling, Stage}
use Rattle.px_callgraph.specs.declared.outcomes.StepOutcome.TheVariants.{Next, Ends, Cut, Past}
use Rattle.px_callgraph.specs.Alternatives.{Walk, Leads, start}
use Rattle.px_callgraph.specs.Derivations.{is_silent, item_step, take_choices, course, Derives}

-- The steps lead there from the start: whatever steps follow, the course of all is that of those from there.
pub record Reaches (j : JobTree) (steps : List Step) (a : Leads) : Type 0 where
  pub course_is : (rest : List Step) (n : ℕ) → (m : ℕ) × (course m j 0 (steps ++ rest) (Next (start j)) ≡ course n j (length steps) rest a)

-- The steps lead to a place of a call that is going on: those before the last lead to the call, and the last, by whose
-- choices the call came there, isn't over. Whatever choices follow, they lead where they lead from there.
pub record ReachesInCall (j : JobTree) (steps : List Step) (w : Walk) : Type 0 where
  pub before : List Step
  pub choices : List ℕ
  pub steps_are : steps ≡ before ++ record { rule = rule.Call; choices = choices } ∷ []
  pub at_call : Walk
  pub own : is_silent at_call.control ≡ false
  pub reached : Reaches j before (Next at_call)
  pub step_is : (more : List ℕ) → item_step j at_call at_call.control rule.Call (choices ++ more) ≡ take_choices j more (Next w)

abbrev pub reaches_by : JobTree → List Step → Walk → Option (Calling × Stage) → Type 0
reaches_by j steps w None = Reaches j steps (Next w)
reaches_by j steps w (Some c) = ReachesInCall j steps w

-- where the path goes on, the steps lead there, within a call or not
abbrev pub ReachesWalk : JobTree → List Step → Walk → Type 0
ReachesWalk j steps w = reaches_by j steps w w.call

-- Of a drop, and of what is past the bound of a loop, nothing is said: no step leads there.
abbrev pub Arrives : JobTree → List Step → Leads → Type 0
Arrives j steps (Next w) = ReachesWalk j steps w
Arrives j steps (Ends s exit result) = Reaches j steps (Ends s exit result)
Arrives j steps (Cut s gap) = ⊤
Arrives j steps (Past s) = ⊤

-- with an `End` after them
abbrev pub ended : List Step → List Step
ended steps = steps ++ record { rule = rule.End; choices = [] } ∷ []

abbrev pub derivation : List Step → Derivation
derivation steps = record { steps = ended steps }

-- each entry derives by the derivation beside it, and there are as many
abbrev pub AreDerived : JobTree → List Entry → List Derivation → Type 0
AreDerived j [] ds = ds ≡ []
AreDerived j (x ∷ xs) [] = ⊥
AreDerived j (x ∷ xs) (d ∷ ds) = Derives j x d.steps × AreDerived j xs ds
