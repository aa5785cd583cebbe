-- Where steps lead, whatever steps follow; and places that are kept, from which others go on.
use Rattle.std.specs.Prelude.{◌≡◌, ⊤, ℕ, suc, ◌+◌, ◌*◌, ◌≤◌, List, [], ◌++◌, length, take, None}
use Rattle.px_entry.specs.declared.derivations.Step.{Step}
use Rattle.px_callgraph.specs.JobTree.{JobTree}
use Rattle.px_callgraph.specs.declared.outcomes.StepOutcome.TheVariants.{Next, Ends, Cut, Past}
use Rattle.px_callgraph.specs.Alternatives.{Leads, at, start}
use Rattle.px_callgraph.specs.ActsLeft.{acts_left}
use Rattle.px_callgraph.specs.Laws.{IsSorted, IsReached}
use Rattle.px_callgraph.specs.Derivations.{course}
use Rattle.px_walks.specs.Walks.{walk_of}
use Rattle.px_check.specs.declared.forks.Fork.{Fork}

-- a place of a path that listed ways lead to, or its end
abbrev pub IsSound : JobTree → Leads → Type 0
IsSound j (Next w) = IsReached j w
IsSound j (Ends s exit result) = IsSorted s
IsSound j (Cut s gap) = ⊤
IsSound j (Past s) = ⊤

-- no call is going on, where the path goes on
abbrev pub IsFree : Leads → Type 0
IsFree (Next w) = w.call ≡ None
IsFree (Ends s exit result) = ⊤
IsFree (Cut s gap) = ⊤
IsFree (Past s) = ⊤

-- the same job without what it knows of callees
abbrev pub alone : JobTree → JobTree
alone j = record j { callees = [] }

-- how many turns a path may still have; whether a call is going on is no matter
abbrev pub turns_left_of : JobTree → Leads → ℕ
turns_left_of j (Next w) = suc (acts_left (alone j) (at w.control w.state))
turns_left_of j (Ends s exit result) = 0
turns_left_of j (Cut s gap) = 0
turns_left_of j (Past s) = 0

-- These steps, i of them, lead there: whatever steps follow, the course of all is that of those from there, in some number
-- of acts. The place is reached, no call is going on, and two steps a turn are all that there can be.
pub record Follows (j : JobTree) (taken : List Step) (i : ℕ) (a : Leads) : Type 0 where
  pub size : length taken ≡ i
  pub course_is : (more : List Step) (n : ℕ) → (m : ℕ) × (course m j 0 (taken ++ more) (Next (start j)) ≡ course n j i more a)
  pub sound : IsSound j a
  pub free : IsFree a
  pub few : i + 2 * turns_left_of j a ≤ 25538

-- a fork stands where its steps lead
abbrev pub IsForkOf : JobTree → Fork → Type 0
IsForkOf j f = Follows j f.taken.now f.place (Next (walk_of f.walk))

-- and others go on from there, that begin with its steps
abbrev pub IsForkFor : JobTree → List Step → Fork → Type 0
IsForkFor j steps f = IsForkOf j f × (take f.place steps ≡ f.taken.now)
