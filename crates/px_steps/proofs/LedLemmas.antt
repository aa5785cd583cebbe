-- What a path does by an act is what the act comes to, with what is to be done after it; and where it goes on, it has
-- met few blocks.
use Rattle.std.proofs.Common.{◌≡◌, ◌<◌, ◌^◌, length, nat_lt, Option, Some, None, refl, sym, subst, arith}
use Rattle.std.specs.Prelude.{drop}
use Rattle.std.proofs.lemmas.Bool.{ltb-false}
use Rattle.px_base.specs.Bounds.{most_marks, most_steps, most_conjuncts, most_atoms}
use Rattle.px_entry.specs.declared.tables.Cause.TheVariants.{Outside}
use Rattle.px_entry.specs.declared.tables.LongKind.{LongKind}
use Rattle.px_entry.specs.declared.tables.LongKind.TheVariants as long
use Rattle.px_callgraph.specs.declared.states.State.{State}
use Rattle.px_callgraph.specs.States.{Outcome, goes, ends, past, drops, Done}
use Rattle.px_callgraph.specs.declared.outcomes.StepOutcome.{StepOutcome}
use Rattle.px_callgraph.specs.Outcomes.{map_next}
use Rattle.px_callgraph.specs.declared.outcomes.StepOutcome.TheVariants.{Next, Ends}
use Rattle.px_callgraph.specs.Alternatives.{limits_of, passes, dropped, limited, within_limits, leads}
use Rattle.px_callgraph.proofs.FallLemmas.{none_first}
use Rattle.px_steps.specs.Led.{led_of, IsFew}

kept_through : {A : Type 0} (s : State) (go : State → A) (a : StepOutcome State) (o : Option LongKind) → limited s (map_next go a) o ≡ map_next go (limited s a o)
kept_through s go a None = refl
kept_through s go a (Some kind) = refl

by_through : {A : Type 0} (s : State) (d : Done) (go : State → A) (o : Outcome) → within_limits s d go o ≡ map_next go (within_limits s d (λ t. t) o)
by_through s d go goes = kept_through s go (Next d.state) (passes d)
by_through s d go (ends exit result) = kept_through s go (Ends d.state exit result) (passes d)
by_through s d go past = refl
by_through s d go (drops word) = kept_through s go (dropped s (Outside word)) (passes d)

pub leads_through : {A : Type 0} (s : State) (d : Done) (go : State → A) → leads s d go ≡ map_next go (led_of s d)
unfolding led_of
leads_through s d go = by_through s d go d.outcome

-- ---- few blocks

-- an act that passes no limit
pub few_atoms : (d : Done) → passes d ≡ None → length d.state.atoms < 2 ^ 32
few_atoms d e =
    let s = d.state in
    let a = none_first (nat_lt most_marks (length s.trace), long.Trace) (drop 1 (limits_of d)) e in
    let b = none_first (nat_lt most_steps s.steps, long.Steps) (drop 2 (limits_of d)) a.1 in
    let c = none_first (nat_lt most_conjuncts (length s.pure), long.Conjuncts) (drop 3 (limits_of d)) b.1 in
    let f = none_first (nat_lt most_atoms (length s.atoms), long.Atoms) (drop 4 (limits_of d)) c.1 in
    let few = ltb-false most_atoms (length s.atoms) f.0 in omega (arith, few)

few_kept : (s t : State) (o : Option LongKind) → (o ≡ None → length t.atoms < 2 ^ 32) → IsFew (limited s (Next t) o)
few_kept s t None h = h refl
few_kept s t (Some kind) h = tt

few_ends : (s : State) (a : StepOutcome State) (o : Option LongKind) → IsFew a → IsFew (limited s a o)
few_ends s a None h = h
few_ends s a (Some kind) h = tt

few_by : (s : State) (d : Done) (o : Outcome) → IsFew (within_limits s d (λ t. t) o)
few_by s d goes = few_kept s d.state (passes d) (few_atoms d)
few_by s d (ends exit result) = few_ends s (Ends d.state exit result) (passes d) tt
few_by s d past = tt
few_by s d (drops word) = few_ends s (dropped s (Outside word)) (passes d) tt

-- within its limits a path meets few blocks
pub few_led : (s : State) (d : Done) (a : StepOutcome State) → a ≡ led_of s d → IsFew a
unfolding led_of
few_led s d a e = subst IsFew (sym e) (few_by s d d.outcome)
