-- The constraint of what is reached is well sorted, and no longer than the limits of a path allow.
use Rattle.std.proofs.Common.{◌≡◌, ℕ, suc, ◌+◌, ◌*◌, ◌≤◌, List, [], ◌∷◌, ◌++◌, map, length, Bool, true, false, nat_lt, cond, Option, Some, None, refl, ap, sym, subst, arith}
use Rattle.std.specs.Prelude.{filter, drop}
use Rattle.std.proofs.lemmas.Bool.{ltb-false}
use Rattle.std.proofs.lemmas.List.{length-append, length-map}
use Rattle.px_terms.specs.Conjuncts.{IsWellSorted}
use Rattle.px_terms.specs.declared.types.ValueType.{ValueType}
use Rattle.px_terms.specs.declared.conjuncts.Place.TheVariants as place
use Rattle.px_terms.specs.declared.conjuncts.Conj.TheVariants.{OtherPlace}
use Rattle.px_core.specs.CommandTree.{CommandTree, assign, unset, read, test, choose, loop, leave, load, store, malloc, free, input, call, return, break, continue, stop, divide}
use Rattle.px_core.specs.Control.{Item, Act, AfterHead, AfterBody, AfterStep, acts, one_turn_more}
use Rattle.px_entry.specs.declared.atoms.Atom.{Atom}
use Rattle.px_entry.specs.declared.tables.LongKind.{LongKind}
use Rattle.px_entry.specs.declared.tables.LongKind.TheVariants as long
use Rattle.px_entry.specs.Sorts.{is_well_sorted}
use Rattle.px_entry.specs.Constraint.{found_atoms, same_block, apart_from, apart_all, separate, constraint_of}
use Rattle.px_entry.proofs.Lists.{each_all, each_from}
use Rattle.px_entry.proofs.TestLemmas.{tests_decide}
use Rattle.px_callgraph.specs.declared.states.State.{State}
use Rattle.px_callgraph.specs.declared.states.Way.{Way}
use Rattle.px_callgraph.specs.declared.states.Way.TheVariants as way
use Rattle.px_callgraph.specs.JobTree.{JobTree}
use Rattle.px_callgraph.specs.States.{Outcome, goes, ends, past, drops, Done, on, given_variables}
use Rattle.px_callgraph.specs.Commands.{iteration, command_done}
use Rattle.px_callgraph.specs.Renaming.{place_through}
use Rattle.px_callgraph.specs.Calls.{Calling, Stage, choosing, matching, unfit, take_case, finish_call}
use Rattle.px_callgraph.specs.declared.outcomes.StepOutcome.TheVariants.{Next, Ends, Cut, Past}
use Rattle.px_callgraph.specs.Alternatives.{Walk, Leads, limits_of, passes, limited, led, within_limits, leads, at, items_after, after_command, item_act, going_on, choosing_act, stage_act, act}
use Rattle.px_callgraph.specs.ActsLeft.{state_of}
use Rattle.px_callgraph.specs.Laws.{IsSorted, KeepsState, IsReached, at_start, by_way, IsAskable, ReachedAreAskable}
use Rattle.px_callgraph.proofs.FallLemmas.{none_first}
use Rattle.px_callgraph.proofs.ConstraintLemmas.{constraints_sorted}
use Rattle.px_callgraph.proofs.ReachedLemmas.{reached_keep}

-- ---- few variables, conjuncts and blocks

pub record IsFew (s : State) : Type 0 where
  pub vars : length s.vars ≤ 8192
  pub pure : length s.pure ≤ 200
  pub atoms : length s.atoms ≤ 64

fewer : {A : Type 0} (such : A → Bool) (xs : List A) → length (filter such xs) ≤ length xs
fewer such [] = omega arith
fewer such (x ∷ xs) = by (such x) (fewer such xs)
  where
    by : (b : Bool) → length (filter such xs) ≤ length xs → length (cond b (x ∷ filter such xs) (filter such xs)) ≤ suc (length xs)
    by true h = omega arith
    by false h = omega arith

apart_length : (earlier atoms : List Atom) (n : ℕ) → length earlier + length atoms ≤ n → length (apart_all earlier atoms) ≤ length atoms * suc n
apart_length earlier [] n l = omega arith
apart_length earlier (a ∷ rest) n l =
    let one = apart_from earlier a in
    let two = apart_all (earlier ++ a ∷ []) rest in
    let e : length (one ++ two) ≡ length one + length two = length-append one two in
    let m : length (map (λ (b : Atom). OtherPlace (place.Var a.place) (place.Var b.place)) (filter (same_block a) earlier)) ≡ length (filter (same_block a) earlier) = length-map (filter (same_block a) earlier) _ in
    let f = fewer (same_block a) earlier in
    let p : length (earlier ++ a ∷ []) ≡ length earlier + 1 = length-append earlier (a ∷ []) in
    let r : length two ≤ length rest * suc n = apart_length (earlier ++ a ∷ []) rest n (omega (arith, p, l)) in
    let q : suc (length rest) * suc n ≡ suc n + length rest * suc n = grind arith in
    omega (arith, e, m, f, r, q, l)

few_conjuncts : (s : State) → IsFew s → length (constraint_of s.vars s.pure s.atoms) ≤ 65536
few_conjuncts s h =
    let fs = found_atoms s.vars s.atoms in
    let e : length (s.pure ++ separate s.vars s.atoms) ≡ length s.pure + length (separate s.vars s.atoms) = length-append s.pure (separate s.vars s.atoms) in
    let f = fewer _ s.atoms in
    let n : length fs ≤ 64 = (let p : length fs ≤ length s.atoms = f in let a = h.atoms in omega (arith, p, a)) in
    let a : length (apart_all [] fs) ≤ length fs * 65 = apart_length [] fs 64 (omega (arith, n)) in
    let p = h.pure in omega (arith, e, n, a, p)

askable : (s : State) → IsFew s → IsSorted s → IsAskable s
askable s f h =
    let sorted = constraints_sorted s h in record {
      few_variables = (let v = f.vars in omega (arith, v));
      few_conjuncts = few_conjuncts s f;
      sorted = each_all (IsWellSorted s.vars) _ (each_from (is_well_sorted s.vars) (IsWellSorted s.vars) (λ c e. (tests_decide.sorts s.vars c).0 e) (constraint_of s.vars s.pure s.atoms) sorted);
    }

-- ---- acts

-- an act that passes no limit
few : (d : Done) → passes d ≡ None → IsFew d.state
few d e =
    let s = d.state in
    let a = none_first (nat_lt 256 (length s.trace), long.Trace) (drop 1 (limits_of d)) e in
    let b = none_first (nat_lt 4000 s.steps, long.Steps) (drop 2 (limits_of d)) a.1 in
    let c = none_first (nat_lt 200 (length s.pure), long.Conjuncts) (drop 3 (limits_of d)) b.1 in
    let f = none_first (nat_lt 64 (length s.atoms), long.Atoms) (drop 4 (limits_of d)) c.1 in
    let g = none_first (nat_lt 8192 (length s.vars), long.Variables) (drop 5 (limits_of d)) f.1 in
    record { vars = ltb-false 8192 (length s.vars) g.0; pure = ltb-false 200 (length s.pure) c.0; atoms = ltb-false 64 (length s.atoms) f.0 }

-- where the path goes on or ends
abbrev GoesFew : Leads → Type 0
GoesFew (Next w) = IsFew w.state
GoesFew (Ends s exit result) = IsFew s
GoesFew (Cut s gap) = Unit {0}
GoesFew (Past s) = Unit {0}

leads_few : (s : State) (d : Done) (go : State → Walk) → (IsFew d.state → IsFew (go d.state).state) → GoesFew (leads s d go)
leads_few s d go h = by d.outcome
  where
    limit : (a : Leads) → (passes d ≡ None → GoesFew a) → (o : Option LongKind) → passes d ≡ o → GoesFew (limited s a o)
    limit a f None e = f e
    limit a f (Some k) e = tt

    by : (o : Outcome) → GoesFew (within_limits s d go o)
    by goes = limit (led s d go goes) (λ e. h (few d e)) (passes d) refl
    by (ends e r) = limit (led s d go (ends e r)) (few d) (passes d) refl
    by past = tt
    by (drops word) = limit (led s d go (drops word)) (λ e. tt) (passes d) refl

after_few : (s : State) (c : CommandTree) (k : List Item) (t : State) → IsFew t → IsFew (after_command s c k t).state
after_few s (call to proc arguments site) k t h = h
after_few s (assign to op a b) k t h = h
after_few s (unset to) k t h = h
after_few s (read slot site) k t h = h
after_few s (test to how a b site) k t h = h
after_few s (choose slot first second) k t h = h
after_few s (loop site head body step) k t h = h
after_few s leave k t h = h
after_few s (load to at' field block site) k t h = h
after_few s (store at' field block from site) k t h = h
after_few s (malloc to block site) k t h = h
after_few s (free at' block site) k t h = h
after_few s (input to site) k t h = h
after_few s (return from) k t h = h
after_few s break k t h = h
after_few s continue k t h = h
after_few s (stop word site) k t h = h
after_few s (divide to a b site) k t h = h

item_few : (j : JobTree) (s : State) → IsFew s → (k : List Item) (w : Way) → GoesFew (item_act j s k w)
item_few j s h [] w = h
item_few j s h (Act c ∷ k) w = by (items_after s c k)
  where
    by : (o : Option (List Item)) → GoesFew (elim o as (λ _. Leads) [ None ↦ Past s | Some k' ↦ leads s (command_done j c w s) (after_command s c k') ])
    by None = tt
    by (Some k') = leads_few s (command_done j c w s) (after_command s c k') (after_few s c k' (command_done j c w s).state)
item_few j s h (AfterHead l ∷ k) w = leads_few s (iteration j.limits.unroll l.site l.made s) (at (acts l.body (AfterBody (one_turn_more l) ∷ k))) (λ f. f)
item_few j s h (AfterBody l ∷ k) w = h
item_few j s h (AfterStep l ∷ k) w = h

choosing_few : (j : JobTree) (s : State) → IsFew s → (c : Calling) (k : List Item) (w : Way) → GoesFew (choosing_act j s c k w)
choosing_few j s h c k (way.Entry n) = h
choosing_few j s h c k way.Drop = tt
choosing_few j s h c k way.ByZero = tt
choosing_few j s h c k way.Divided = tt
choosing_few j s h c k way.Null = tt
choosing_few j s h c k way.MissingLive = tt
choosing_few j s h c k way.MissingFreed = tt
choosing_few j s h c k way.Missing = tt
choosing_few j s h c k way.On = tt
choosing_few j s h c k way.Then = tt
choosing_few j s h c k way.Else = tt
choosing_few j s h c k way.Made = tt
choosing_few j s h c k way.Written = tt
choosing_few j s h c k way.Unwritten = tt
choosing_few j s h c k (way.Atom n) = tt

stage_few : (j : JobTree) (s : State) → IsFew s → (c : Calling) (k : List Item) (stage : Stage) (w : Way) → GoesFew (stage_act j s c k stage w)
stage_few j s h c k choosing w = choosing_few j s h c k w
stage_few j s h c k (matching x σ [] used) w = leads_few s (finish_call c x σ used s) (at k) (λ f. f)
stage_few j s h c k (matching x σ (p ∷ rest) used) w =
    let t = take_case j.types x σ rest used p w (place_through σ (place.Var p.place)) s in
    leads_few s (on t.state) (λ u. going_on c k u t.stage) (λ f. f)
stage_few j s h c k unfit w = tt

walk_few : (j : JobTree) (w : Walk) → IsFew w.state → (name : Way) → GoesFew (act j w name)
unfolding act
walk_few j w h name = by w.call
  where
    by : (o : Option (Calling × Stage)) → GoesFew (elim o as (λ _. Leads) [ None ↦ item_act j w.state w.control name | Some c ↦ stage_act j w.state c.0 w.control c.1 name ])
    by None = item_few j w.state h w.control name
    by (Some c) = stage_few j w.state h c.0 w.control c.1 name

-- ---- what is reached

given_length : (ts : List ValueType) → length (given_variables ts) ≡ length ts
given_length [] = refl
given_length (t ∷ ts) = ap suc (given_length ts)

next_few : (a : Leads) (w : Walk) → a ≡ Next w → GoesFew a → IsFew w.state
next_few a w e h = subst GoesFew e h

reached_few : (j : JobTree) (w : Walk) → length j.body.parameters ≤ 8192 → IsReached j w → IsFew w.state
reached_few j w l (at_start e) =
    let n = given_length j.body.parameters in
    subst (λ z. IsFew z.state) (sym e) (record { vars = omega (arith, n, l); pure = omega arith; atoms = omega arith })
reached_few j w l (by_way {v} name r i e) = next_few (act j v name) w e (walk_few j v (reached_few j v l r) name)

-- where an act leads; a drop, and the end past a bound, have the state before it
led_askable : (s : State) → IsFew s → IsAskable s → (a : Leads) → GoesFew a → KeepsState s a → IsAskable (state_of a)
led_askable s h q (Next w) f k = askable w.state f k.sorted
led_askable s h q (Ends t exit result) f k = askable t f k.sorted
led_askable s h q (Cut t gap) f k = subst IsAskable (sym k) q
led_askable s h q (Past t) f k = subst IsAskable (sym k) q

pub reached_askable : ReachedAreAskable
reached_askable j w l r =
    let f = reached_few j w l r in
    let k = reached_keep j w r in
    let q = askable w.state f k.0 in
    (q, λ i d m. led_askable w.state f q _ (walk_few j w f _) (k.1 i d m))
