-- Where a call leads, once it is over.
use Rattle.std.specs.Prelude.{ℕ, zero, suc, ◌+◌, List, [], ◌∷◌, ◌++◌, length, map, flat_map, Some, None}
use Rattle.px_callgraph.specs.declared.states.Alternative.{Alternative}
use Rattle.px_callgraph.specs.declared.states.Alternative.TheVariants as alternative
use Rattle.px_callgraph.specs.JobTree.{JobTree, callee_in}
use Rattle.px_callgraph.specs.Calls.{Calling, Stage, choosing, matching, unfit}
use Rattle.px_callgraph.specs.declared.outcomes.StepOutcome.TheVariants.{Next, Ends, Cut, Past}
use Rattle.px_callgraph.specs.Alternatives.{Leads, ways, act, longest_pre}

-- what a place gives where the call is over
abbrev pub end_at : Leads → List Alternative
end_at (Next w) = elim w.call [ None ↦ alternative.Next w.state ∷ [] | Some c ↦ [] ]
end_at (Ends s exit result) = alternative.Ends s exit result ∷ []
end_at (Cut s gap) = alternative.Cut gap ∷ []
end_at (Past s) = alternative.Beyond ∷ []

-- where its ways on lead, in order, while the call is going on
abbrev pub places_after : JobTree → Leads → List Leads
places_after j (Next w) = elim w.call [ None ↦ [] | Some c ↦ map (act j w) (ways j w) ]
places_after j (Ends s exit result) = []
places_after j (Cut s gap) = []
places_after j (Past s) = []

-- what a place and then those after it give, each with all that is after it, with at most n acts
abbrev pub gathered_within : {A : Type 0} → (Leads → List A) → ℕ → JobTree → Leads → List A
gathered_within give zero j a = []
gathered_within give (suc n) j a = give a ++ flat_map (gathered_within give n j) (places_after j a)

-- the acts up to the end of a call: an entry, a case for each block that it requires, and what follows them
abbrev pub acts_to_end : JobTree → Calling → Stage → ℕ
acts_to_end j c choosing = 2 + longest_pre (callee_in j.callees c.proc)
acts_to_end j c (matching x σ required used) = 1 + length required
acts_to_end j c unfit = 1

-- with one for the end
abbrev pub acts_to_end_of : JobTree → Leads → ℕ
acts_to_end_of j (Next w) = suc (elim w.call [ None ↦ 0 | Some c ↦ acts_to_end j c.0 c.1 ])
acts_to_end_of j (Ends s exit result) = 1
acts_to_end_of j (Cut s gap) = 1
acts_to_end_of j (Past s) = 1

-- what they give, up to the ends of the call
unfoldable pub gathered : {A : Type 0} → (Leads → List A) → JobTree → Leads → List A
gathered give j a = gathered_within give (acts_to_end_of j a) j a

-- where a call leads from there, once it is over
abbrev pub ends : JobTree → Leads → List Alternative
ends = gathered end_at

-- all places of a call from there on
abbrev pub places : JobTree → Leads → List Leads
places = gathered (λ a. a ∷ [])
