-- Where a path is cut, the drop isn't undecided.
use Rattle.std.proofs.Common.{ℕ, zero, suc, List, [], ◌∷◌, Option, Some, None}
use Rattle.px_base.specs.declared.trace.ProcId.{ProcId}
use Rattle.px_core.specs.Control.{Item, Act, AfterHead, AfterBody, AfterStep, acts, one_turn_more}
use Rattle.px_entry.specs.declared.tables.Cause.{Cause}
use Rattle.px_entry.specs.declared.tables.Cause.TheVariants as cause
use Rattle.px_entry.specs.declared.tables.LongKind.{LongKind}
use Rattle.px_entry.proofs.Lists.{Each}
use Rattle.px_callgraph.specs.declared.jobs.Callee.{Callee}
use Rattle.px_callgraph.specs.declared.jobs.Callee.TheVariants as callee
use Rattle.px_callgraph.specs.declared.states.State.{State}
use Rattle.px_callgraph.specs.declared.states.Way.{Way}
use Rattle.px_callgraph.specs.declared.states.Way.TheVariants as way
use Rattle.px_callgraph.specs.declared.outcomes.StepOutcome.{StepOutcome}
use Rattle.px_callgraph.specs.declared.outcomes.StepOutcome.TheVariants.{Next, Ends, Cut, «Past» as IsPast}
use Rattle.px_callgraph.specs.JobTree.{JobTree, callee_in}
use Rattle.px_callgraph.specs.States.{Outcome, goes, ends, past, drops, Done, on}
use Rattle.px_callgraph.specs.Commands.{command_done, iteration}
use Rattle.px_callgraph.specs.Calls.{Calling, Stage, choosing, matching, unfit, drop_cause, Taken, take_case, finish_call}
use Rattle.px_callgraph.specs.Renaming.{place_through}
use Rattle.px_terms.specs.declared.conjuncts.Place.TheVariants as place
use Rattle.px_callgraph.specs.Alternatives.{Walk, Leads, passes, led, limited, within_limits, leads, at, items_after, after_command, item_act, going_on, choosing_act, taking, stage_act, ways, act, start}
use Rattle.px_callgraph.specs.ActsLeft.{acts_left_of}
use Rattle.px_symexec.specs.Prefixes.{Prefix, Dead, Choice, Ended, Dropped, Past, from_listed, prefixes_within, prefixes, prefixes_of}
use Rattle.px_symexec.proofs.Lists.{each_flat}

-- another cause
abbrev pub IsOther : Cause → Type 0
IsOther (cause.Undecided hard) = ⊥
IsOther (cause.Nodes n) = Unit {0}
IsOther (cause.Paths n) = Unit {0}
IsOther (cause.Long kind) = Unit {0}
IsOther (cause.Unknown f) = Unit {0}
IsOther (cause.Cycle f) = Unit {0}
IsOther (cause.Dropped f) = Unit {0}
IsOther (cause.LeftOut f) = Unit {0}
IsOther (cause.Outside word) = Unit {0}

-- if a path is cut there, the cause is another
abbrev CutsOther : {A : Type 0} → StepOutcome A → Type 0
CutsOther (Next w) = Unit {0}
CutsOther (Ends s exit result) = Unit {0}
CutsOther (Cut s gap) = IsOther gap.cause
CutsOther (IsPast s) = Unit {0}

limited_other : {A : Type 0} (s : State) (a : StepOutcome A) (kind : Option LongKind) → CutsOther a → CutsOther (limited s a kind)
limited_other s a None h = h
limited_other s a (Some kind) h = tt

leads_other : {A : Type 0} (s : State) (d : Done) (go : State → A) → CutsOther (leads s d go)
leads_other {A} s d go = by d.outcome
  where
    by : (o : Outcome) → CutsOther (within_limits s d go o)
    by goes = limited_other s (led s d go goes) (passes d) tt
    by (ends exit result) = limited_other s (led s d go (ends exit result)) (passes d) tt
    by past = tt
    by (drops word) = limited_other s (led s d go (drops word)) (passes d) tt

drop_other : (f : ProcId) (c : Callee) → IsOther (drop_cause f c)
drop_other f (callee.Table t) = tt
drop_other f callee.Cycle = tt
drop_other f callee.LeftOut = tt
drop_other f callee.Unknown = tt

item_other : (j : JobTree) (s : State) (k : List Item) (w : Way) → CutsOther (item_act j s k w)
item_other j s [] w = tt
item_other j s (Act c ∷ k) w = by (items_after s c k)
  where
    by : (o : Option (List Item)) → CutsOther {A = Walk} (elim o [ None ↦ IsPast s | Some k' ↦ leads s (command_done j c w s) (after_command s c k') ])
    by None = tt
    by (Some k') = leads_other s (command_done j c w s) (after_command s c k')
item_other j s (AfterHead l ∷ k) w = leads_other s (iteration j.limits.unroll l.site l.made s) (at (acts l.body (AfterBody (one_turn_more l) ∷ k)))
item_other j s (AfterBody l ∷ k) w = tt
item_other j s (AfterStep l ∷ k) w = tt

choosing_other : (j : JobTree) (s : State) (c : Calling) (k : List Item) (w : Way) → CutsOther (choosing_act j s c k w)
choosing_other j s c k (way.Entry n) = tt
choosing_other j s c k way.On = drop_other c.proc (callee_in j.callees c.proc)
choosing_other j s c k way.Then = drop_other c.proc (callee_in j.callees c.proc)
choosing_other j s c k way.Else = drop_other c.proc (callee_in j.callees c.proc)
choosing_other j s c k way.Null = drop_other c.proc (callee_in j.callees c.proc)
choosing_other j s c k way.Made = drop_other c.proc (callee_in j.callees c.proc)
choosing_other j s c k way.Written = drop_other c.proc (callee_in j.callees c.proc)
choosing_other j s c k way.Unwritten = drop_other c.proc (callee_in j.callees c.proc)
choosing_other j s c k (way.Atom n) = drop_other c.proc (callee_in j.callees c.proc)
choosing_other j s c k way.MissingLive = drop_other c.proc (callee_in j.callees c.proc)
choosing_other j s c k way.MissingFreed = drop_other c.proc (callee_in j.callees c.proc)
choosing_other j s c k way.Missing = drop_other c.proc (callee_in j.callees c.proc)
choosing_other j s c k way.Drop = drop_other c.proc (callee_in j.callees c.proc)
choosing_other j s c k way.ByZero = drop_other c.proc (callee_in j.callees c.proc)
choosing_other j s c k way.Divided = drop_other c.proc (callee_in j.callees c.proc)

taking_other : (s : State) (c : Calling) (k : List Item) (t : Taken) → CutsOther (taking s c k t)
taking_other s c k t = leads_other s (on t.state) (λ u. going_on c k u t.stage)

stage_other : (j : JobTree) (s : State) (c : Calling) (k : List Item) (stage : Stage) (w : Way) → CutsOther (stage_act j s c k stage w)
stage_other j s c k choosing w = choosing_other j s c k w
stage_other j s c k (matching x σ [] used) w = leads_other s (finish_call c x σ used s) (at k)
stage_other j s c k (matching x σ (p ∷ rest) used) w = taking_other s c k (take_case j.types x σ rest used p w (place_through σ (place.Var p.place)) s)
stage_other j s c k unfit w = tt

act_other : (j : JobTree) (w : Walk) (name : Way) → CutsOther (act j w name)
unfolding act
act_other j w name = by w.call
  where
    by : (o : Option (Calling × Stage)) → CutsOther {A = Walk} (elim o [ None ↦ item_act j w.state w.control name | Some c ↦ stage_act j w.state c.0 w.control c.1 name ])
    by None = item_other j w.state w.control name
    by (Some c) = stage_other j w.state c.0 w.control c.1 name

-- if a prefix is a drop, its cause is another
abbrev pub DropsOther : Prefix → Type 0
DropsOther (Dead s) = Unit {0}
DropsOther (Choice s) = Unit {0}
DropsOther (Ended s exit result) = Unit {0}
DropsOther (Dropped s gap) = IsOther gap.cause
DropsOther (Past s) = Unit {0}

listed_other : (s : State) (ws : List Way) (extend : Way → List Prefix) → ((w : Way) → Each DropsOther (extend w)) → Each DropsOther (from_listed s ws extend)
listed_other s [] extend h = (tt, tt)
listed_other s (w ∷ []) extend h = h w
listed_other s (w ∷ more ∷ ws) extend h = (tt, each_flat DropsOther extend (w ∷ more ∷ ws) (λ x k. h x))

within_other : (n : ℕ) (j : JobTree) (a : Leads) → CutsOther a → Each DropsOther (prefixes_within n j a)
within_other n j (Ends s exit result) h = (tt, tt)
within_other n j (Cut s gap) h = (h, tt)
within_other n j (IsPast s) h = (tt, tt)
within_other zero j (Next w) h = (tt, tt)
within_other (suc n) j (Next w) h = listed_other w.state (ways j w) (λ name. prefixes_within n j (act j w name)) (λ name. within_other n j (act j w name) (act_other j w name))

pub prefixes_other : (j : JobTree) → Each DropsOther (prefixes_of j)
unfolding prefixes
prefixes_other j = within_other (acts_left_of j (Next (start j))) j (Next (start j)) tt
