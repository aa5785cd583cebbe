-- Few blocks are met in the state that an act leaves.
use Rattle.std.proofs.Common.{◌≡◌, ◌<◌, ◌^◌, ℕ, List, [], ◌∷◌, length, Option, Some, None, refl, sym, subst}
use Rattle.px_terms.specs.declared.conjuncts.Place.TheVariants as place
use Rattle.px_terms.specs.declared.conjuncts.Content.{Content}
use Rattle.px_core.specs.Control.{Item}
use Rattle.px_entry.specs.declared.entries.Entry.{Entry}
use Rattle.px_entry.specs.declared.entries.Exit.{Exit}
use Rattle.px_entry.specs.declared.entries.Exit.TheVariants as exits
use Rattle.px_entry.specs.declared.tables.Cause.{Cause}
use Rattle.px_entry.specs.declared.tables.Cause.TheVariants.{Outside}
use Rattle.px_entry.specs.declared.tables.LongKind.{LongKind}
use Rattle.px_callgraph.specs.declared.states.State.{State}
use Rattle.px_callgraph.specs.declared.states.Way.{Way}
use Rattle.px_callgraph.specs.declared.states.Way.TheVariants as way
use Rattle.px_callgraph.specs.declared.outcomes.StepOutcome.{StepOutcome}
use Rattle.px_callgraph.specs.declared.outcomes.StepOutcome.TheVariants.{Next, Ends, Cut, Past}
use Rattle.px_callgraph.specs.JobTree.{JobTree}
use Rattle.px_callgraph.specs.States.{Outcome, goes, ends, past, drops, Done, on}
use Rattle.px_callgraph.specs.Renaming.{Substitution, place_through}
use Rattle.px_callgraph.specs.Calls.{Calling, Stage, choosing, matching, unfit, take_case, stand_all}
use Rattle.px_callgraph.specs.Alternatives.{Walk, Leads, passes, dropped, limited, within_limits, leads, at, going_on, choosing_act, stage_act}
use Rattle.px_calls.specs.Finishing.{finish_by}
use Rattle.px_steps.specs.declared.led.Led.{Led}
use Rattle.px_steps.specs.declared.led.Led.TheVariants as act
use Rattle.px_steps.specs.Led.{led_of, at_state}
use Rattle.px_steps.proofs.LedLemmas.{few_atoms}
use Rattle.px_walks.specs.Few.{IsFewLeft, IfGoes}
use Rattle.px_walks.specs.Walks.{at_walk}

-- ---- a state

-- what is left by an act that isn't past a bound
abbrev IsLeft : State → StepOutcome State → Type 0
IsLeft s (Next t) = length t.atoms < 2 ^ 32
IsLeft s (Ends t exit result) = length t.atoms < 2 ^ 32
IsLeft s (Cut t gap) = t ≡ s
IsLeft s (Past t) = Unit {0}

goes_left : (s t : State) (o : Option LongKind) → (o ≡ None → length t.atoms < 2 ^ 32) → IsLeft s (limited s (Next t) o)
goes_left s t None h = h refl
goes_left s t (Some kind) h = refl

ends_left : (s t : State) (exit : Exit) (result : Option Content) (o : Option LongKind) → (o ≡ None → length t.atoms < 2 ^ 32) → IsLeft s (limited s (Ends t exit result) o)
ends_left s t exit result None h = h refl
ends_left s t exit result (Some kind) h = refl

drops_left : (s : State) (why : Cause) (o : Option LongKind) → IsLeft s (limited s (dropped s why) o)
drops_left s why None = refl
drops_left s why (Some kind) = refl

left_by : (s : State) (d : Done) (o : Outcome) → IsLeft s (within_limits s d (λ t. t) o)
left_by s d goes = goes_left s d.state (passes d) (few_atoms d)
left_by s d (ends exit result) = ends_left s d.state exit result (passes d) (few_atoms d)
left_by s d past = tt
left_by s d (drops word) = drops_left s (Outside word) (passes d)

left_so : (s : State) (d : Done) → IsLeft s (led_of s d)
unfolding led_of
left_so s d = left_by s d d.outcome

few_left : (s t : State) (led : Led) → IsLeft s (at_state led t) → IsFewLeft s (Some led) t
few_left s t act.Goes h = h
few_left s t (act.Ends exit result) h = λ _. h
few_left s t (act.Cut gap) h = h

-- an act that leaves a state in its place
pub few_command : (s t : State) (d : Done) (led : Led) → at_state led t ≡ led_of s d → IsFewLeft s (Some led) t
few_command s t d led e = few_left s t led (subst (IsLeft s) (sym e) (left_so s d))

-- where the path goes on
pub few_goes : (s t : State) (led : Option Led) → IsFewLeft s led t → IfGoes led (length t.atoms < 2 ^ 32)
few_goes s t None h = tt
few_goes s t (Some act.Goes) h = h
few_goes s t (Some (act.Ends exit result)) h = tt
few_goes s t (Some (act.Cut gap)) h = tt

-- wherever it leads
pub few_anywhere : (s t : State) (led : Option Led) → length s.atoms < 2 ^ 32 → IsFewLeft s led t → length t.atoms < 2 ^ 32
few_anywhere s t None f h = subst (λ (z : State). length z.atoms < 2 ^ 32) (sym h) f
few_anywhere s t (Some act.Goes) f h = h
few_anywhere s t (Some (act.Ends exit result)) f h = h f
few_anywhere s t (Some (act.Cut gap)) f h = subst (λ (z : State). length z.atoms < 2 ^ 32) (sym h) f

-- ---- a call

abbrev IsWalkLeft : State → Leads → Type 0
IsWalkLeft s (Next w) = length w.state.atoms < 2 ^ 32
IsWalkLeft s (Ends t exit result) = length t.atoms < 2 ^ 32
IsWalkLeft s (Cut t gap) = t ≡ s
IsWalkLeft s (Past t) = t ≡ s

walk_on : (s : State) (w : Walk) (o : Option LongKind) → (o ≡ None → length w.state.atoms < 2 ^ 32) → IsWalkLeft s (limited s (Next w) o)
walk_on s w None h = h refl
walk_on s w (Some kind) h = refl

walk_ends : (s t : State) (exit : Exit) (result : Option Content) (o : Option LongKind) → (o ≡ None → length t.atoms < 2 ^ 32) → IsWalkLeft s (limited s (Ends t exit result) o)
walk_ends s t exit result None h = h refl
walk_ends s t exit result (Some kind) h = refl

finish_left : (s : State) (c : Calling) (x : Entry) (σ : Substitution) (used : List ℕ) (k : List Item) (exit : Exit) → IsWalkLeft s (leads s (finish_by c x σ used s exit) (at k))
finish_left s c x σ used k exits.Ok = let d : Done = finish_by c x σ used s exits.Ok in walk_on s (at k d.state) (passes d) (few_atoms d)
finish_left s c x σ used k (exits.Error kind site) =
    let d : Done = finish_by c x σ used s (exits.Error kind site) in walk_ends s d.state (exits.Error kind site) None (passes d) (few_atoms d)

choosing_left : (j : JobTree) (s : State) (c : Calling) (k : List Item) (w : Way) → length s.atoms < 2 ^ 32 → IsWalkLeft s (choosing_act j s c k w)
choosing_left j s c k (way.Entry n) f = f
choosing_left j s c k way.Drop f = refl
choosing_left j s c k way.ByZero f = refl
choosing_left j s c k way.Divided f = refl
choosing_left j s c k way.Null f = refl
choosing_left j s c k way.MissingLive f = refl
choosing_left j s c k way.MissingFreed f = refl
choosing_left j s c k way.Missing f = refl
choosing_left j s c k way.On f = refl
choosing_left j s c k way.Then f = refl
choosing_left j s c k way.Else f = refl
choosing_left j s c k way.Made f = refl
choosing_left j s c k way.Written f = refl
choosing_left j s c k way.Unwritten f = refl
choosing_left j s c k (way.Atom n) f = refl

stage_left : (j : JobTree) (s : State) (c : Calling) (k : List Item) (stage : Stage) (w : Way) → length s.atoms < 2 ^ 32 → IsWalkLeft s (stage_act j s c k stage w)
stage_left j s c k choosing w f = choosing_left j s c k w f
stage_left j s c k (matching x σ [] used) w f = finish_left s c x (stand_all x σ s) used k x.exit
stage_left j s c k (matching x σ (p ∷ rest) used) w f =
    let t = take_case j.types x σ rest used p w (place_through σ (place.Var p.place)) s in
    walk_on s (going_on c k t.state t.stage) (passes (on t.state)) (few_atoms (on t.state))
stage_left j s c k unfit w f = refl

few_walk : (s : State) (w : Walk) (led : Option Led) → IsWalkLeft s (at_walk led w) → IsFewLeft s led w.state
few_walk s w None h = h
few_walk s w (Some act.Goes) h = h
few_walk s w (Some (act.Ends exit result)) h = λ _. h
few_walk s w (Some (act.Cut gap)) h = h

-- an act of a call that leaves a walk in its place
pub few_call : (j : JobTree) (s : State) (c : Calling) (k : List Item) (stage : Stage) (w : Way) (v : Walk) (led : Option Led) → length s.atoms < 2 ^ 32 → at_walk led v ≡ stage_act j s c k stage w →
    IsFewLeft s led v.state
few_call j s c k stage w v led f e = few_walk s v led (subst (IsWalkLeft s) (sym e) (stage_left j s c k stage w f))
