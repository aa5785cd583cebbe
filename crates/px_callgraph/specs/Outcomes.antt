-- Where a step leads: what is made of it, and what is said of it.
use Rattle.std.specs.Prelude.{⊤}
use Rattle.px_callgraph.specs.declared.outcomes.StepOutcome.{StepOutcome}
use Rattle.px_callgraph.specs.declared.outcomes.StepOutcome.TheVariants.{Next, Ends, Cut, Past}

-- the same, with what f makes of where the path goes on
abbrev pub map_next : {A B : Type 0} → (A → B) → StepOutcome A → StepOutcome B
map_next f (Next x) = Next (f x)
map_next f (Ends s exit result) = Ends s exit result
map_next f (Cut s gap) = Cut s gap
map_next f (Past s) = Past s

-- where the path goes on, P holds of it
abbrev pub IfNext : {A : Type 0} → StepOutcome A → (A → Type 0) → Type 0
IfNext (Next x) P = P x
IfNext (Ends s exit result) P = ⊤
IfNext (Cut s gap) P = ⊤
IfNext (Past s) P = ⊤
