-- Each act adds to what is assumed.
use Rattle.std.proofs.Common.{◌≡◌, ℕ, zero, suc, ◌<◌, List, [], ◌∷◌, ◌++◌, map, length, Bool, true, false, not, cond, nat_eq, nat_lt, Option, Some, None, slice_get, refl, ap, sym, ◌∙◌, append_assoc, append-nil, arith, subst}
use Rattle.std.specs.Prelude.{filter, Contains}
use Rattle.std.proofs.lemmas.List.Elements.{filter-append, Contains-append_left, Contains-append_right}
use Rattle.px_base.specs.declared.trace.MarkKind.TheVariants as mark
use Rattle.px_terms.specs.declared.types.TypeId.{TypeId}
use Rattle.px_terms.specs.declared.variables.Var.{Var}
use Rattle.px_terms.specs.declared.variables.VarInfo.{VarInfo}
use Rattle.px_terms.specs.declared.conjuncts.Place.TheVariants as place
use Rattle.px_terms.specs.declared.conjuncts.Conj.{Conj}
use Rattle.px_terms.specs.declared.conjuncts.Conj.TheVariants.{OtherPlace}
use Rattle.px_core.specs.CommandTree.{CommandTree, assign, unset, read, test, choose, loop, leave, load, store, malloc, free, input, call, return, break, continue, stop, divide}
use Rattle.px_core.specs.Control.{Turns, Item, Act, AfterHead, AfterBody, AfterStep, acts, one_turn_more}
use Rattle.px_entry.specs.declared.atoms.Atom.{Atom}
use Rattle.px_entry.specs.declared.tables.LongKind.{LongKind}
use Rattle.px_entry.specs.Sorts.{is_made, is_made_sort, is_some_and}
use Rattle.px_entry.specs.Constraint.{found_atoms, same_block, apart_all, separate}
use Rattle.px_entry.proofs.Lists.{Each, each_append, each_all, all_each}
use Rattle.px_callgraph.specs.declared.states.State.{State}
use Rattle.px_callgraph.specs.declared.states.Way.{Way}
use Rattle.px_callgraph.specs.declared.states.Way.TheVariants as way
use Rattle.px_callgraph.specs.JobTree.{JobTree}
use Rattle.px_callgraph.specs.States.{Outcome, goes, ends, past, drops, Done, on, marked, begun}
use Rattle.px_callgraph.specs.Commands.{repeat_loop, command_done}
use Rattle.px_callgraph.specs.Renaming.{place_through}
use Rattle.px_callgraph.specs.Calls.{Calling, Stage, choosing, matching, unfit, take_case, finish_call}
use Rattle.px_callgraph.specs.declared.outcomes.StepOutcome.TheVariants.{Past}
use Rattle.px_callgraph.specs.Alternatives.{Walk, Leads, passes, limited, led, within_limits, leads, at, items_after, after_command, item_act, going_on, choosing_act, stage_act, act}
use Rattle.px_callgraph.specs.ActsLeft.{state_of}
use Rattle.px_callgraph.specs.Laws.{HasPlaces, IsLater, ConstraintsGrow}
use Rattle.px_callgraph.proofs.KeepLemmas.{each_weaker}
use Rattle.px_callgraph.proofs.GrowLemmas.{Extends, base, Grows, grows_self, grows_same, grows_trans, grows_begun, grows_marked, act_grows, case_grows, call_grows}

-- ---- what atoms say is said of their places and block types

abbrev Base : Type 0
Base = Var × TypeId

abbrev is_found : List VarInfo → Base → Bool
is_found vars b = not (is_made vars b.0.0)

abbrev apart_base : List Base → Base → List Conj
apart_base earlier b =
    OtherPlace (place.Var b.0) place.Null ∷ map (λ (e : Base). OtherPlace (place.Var b.0) (place.Var e.0)) (filter (λ (e : Base). nat_eq b.1.0 e.1.0) earlier)

abbrev apart_bases : List Base → List Base → List Conj
apart_bases earlier [] = []
apart_bases earlier (b ∷ rest) = apart_base earlier b ++ apart_bases (earlier ++ b ∷ []) rest

map_cond : {A B : Type 0} (f : A → B) (b : Bool) (x : A) (xs : List A) → map f (cond b (x ∷ xs) xs) ≡ cond b (f x ∷ map f xs) (map f xs)
map_cond f true x xs = refl
map_cond f false x xs = refl

found_bases : (vars : List VarInfo) (atoms : List Atom) → map base (found_atoms vars atoms) ≡ filter (is_found vars) (map base atoms)
found_bases vars [] = refl
found_bases vars (a ∷ rest) =
    map_cond base (not (is_made vars a.place.0)) a (found_atoms vars rest)
    ∙ ap (λ z. cond (not (is_made vars a.place.0)) (base a ∷ z) z) (found_bases vars rest)

apart_each : (a : Atom) (earlier : List Atom) →
    map (λ (b : Atom). OtherPlace (place.Var a.place) (place.Var b.place)) (filter (same_block a) earlier)
    ≡ map (λ (e : Base). OtherPlace (place.Var a.place) (place.Var e.0)) (filter (λ (e : Base). nat_eq a.block.0 e.1.0) (map base earlier))
apart_each a [] = refl
apart_each a (b ∷ earlier) =
    map_cond (λ (b : Atom). OtherPlace (place.Var a.place) (place.Var b.place)) (same_block a b) b (filter (same_block a) earlier)
    ∙ ap (λ z. cond (same_block a b) (OtherPlace (place.Var a.place) (place.Var b.place) ∷ z) z) (apart_each a earlier)
    ∙ sym (map_cond (λ (e : Base). OtherPlace (place.Var a.place) (place.Var e.0)) (same_block a b) (base b) (filter (λ (e : Base). nat_eq a.block.0 e.1.0) (map base earlier)))

base_push : (earlier : List Atom) (a : Atom) → map base (earlier ++ a ∷ []) ≡ map base earlier ++ base a ∷ []
base_push [] a = refl
base_push (b ∷ earlier) a = ap (λ z. base b ∷ z) (base_push earlier a)

apart_same : (earlier atoms : List Atom) → apart_all earlier atoms ≡ apart_bases (map base earlier) (map base atoms)
apart_same earlier [] = refl
apart_same earlier (a ∷ rest) =
    ap (λ z. (OtherPlace (place.Var a.place) place.Null ∷ z) ++ apart_all (earlier ++ a ∷ []) rest) (apart_each a earlier)
    ∙ ap (λ z. apart_base (map base earlier) (base a) ++ z) (apart_same (earlier ++ a ∷ []) rest ∙ ap (λ z. apart_bases z (map base rest)) (base_push earlier a))

apart_more : (earlier bs more : List Base) → apart_bases earlier (bs ++ more) ≡ apart_bases earlier bs ++ apart_bases (earlier ++ bs) more
apart_more earlier [] more = ap (λ z. apart_bases z more) (sym (append-nil earlier))
apart_more earlier (b ∷ bs) more =
    ap (λ z. apart_base earlier b ++ z) (apart_more (earlier ++ b ∷ []) bs more ∙ ap (λ z. apart_bases (earlier ++ b ∷ []) bs ++ apart_bases z more) (append_assoc earlier (b ∷ []) bs))
    ∙ sym (append_assoc (apart_base earlier b) (apart_bases (earlier ++ b ∷ []) bs) (apart_bases (earlier ++ b ∷ bs) more))

-- ---- more variables and blocks

get_more : (vars more : List VarInfo) (x : ℕ) → x < length vars → slice_get (vars ++ more) x ≡ slice_get vars x
get_more [] more x l = let n : ⊥ = omega arith in absurd n
get_more (i ∷ vars) more zero l = refl
get_more (i ∷ vars) more (suc x) l = get_more vars more x (omega arith)

found_more : (vars more : List VarInfo) (b : Base) → b.0.0 < length vars → is_found (vars ++ more) b ≡ is_found vars b
found_more vars more b l = ap (λ z. not (is_some_made z)) (get_more vars more b.0.0 l)
  where
    is_some_made : Option VarInfo → Bool
    is_some_made o = is_some_and o (λ i. is_made_sort i.sort)

filter_more : (vars more : List VarInfo) (atoms : List Atom) → Each (λ (a : Atom). a.place.0 < length vars) atoms →
    filter (is_found (vars ++ more)) (map base atoms) ≡ filter (is_found vars) (map base atoms)
filter_more vars more [] h = refl
filter_more vars more (a ∷ rest) h =
    ap (λ z. cond z (base a ∷ filter (is_found (vars ++ more)) (map base rest)) (filter (is_found (vars ++ more)) (map base rest))) (found_more vars more (base a) h.0)
    ∙ ap (λ z. cond (is_found vars (base a)) (base a ∷ z) z) (filter_more vars more rest h.1)

separate_bases : (vars : List VarInfo) (atoms : List Atom) → separate vars atoms ≡ apart_bases [] (filter (is_found vars) (map base atoms))
separate_bases vars atoms = apart_same [] (found_atoms vars atoms) ∙ ap (apart_bases []) (found_bases vars atoms)

-- what atoms say is said by more of them, too
separate_extends : (s t : State) → Grows s t → HasPlaces s → Extends (separate s.vars s.atoms) (separate t.vars t.atoms)
separate_extends s t g h =
    let more = g.atoms.0 in
    let fs = filter (is_found s.vars) (map base s.atoms) in
    let gs = filter (is_found t.vars) more in
    let e : filter (is_found t.vars) (map base t.atoms) ≡ fs ++ gs =
    ap (filter (is_found t.vars)) g.atoms.1 ∙ filter-append (is_found t.vars) (map base s.atoms) more
    ∙ ap (λ z. filter (is_found z) (map base s.atoms) ++ gs) g.vars.1
    ∙ ap (λ z. z ++ gs) (filter_more s.vars g.vars.0 s.atoms (all_each _ s.atoms h)) in (
      apart_bases fs gs,
      separate_bases t.vars t.atoms ∙ ap (apart_bases []) e ∙ apart_more [] fs gs ∙ ap (λ z. z ++ apart_bases fs gs) (sym (separate_bases s.vars s.atoms)),
    )

-- ---- among more conjuncts

contains_next : {A : Type 0} (x y : A) (xs : List A) → Contains xs y → Contains (x ∷ xs) y
contains_next x y xs (k, l, e) = (suc k, (let m : suc k < suc (length xs) = omega arith in m), e)

each_itself : {A : Type 0} (xs : List A) → Each (Contains xs) xs
each_itself [] = tt
each_itself (x ∷ xs) = ((zero, (let m : 0 < suc (length xs) = omega arith in m), refl), each_weaker (Contains xs) (Contains (x ∷ xs)) (λ y h. contains_next x y xs h) xs (each_itself xs))

each_among : {A : Type 0} (xs ys xs' ys' : List A) → Extends xs xs' → Extends ys ys' → Each (Contains (xs' ++ ys')) (xs ++ ys)
each_among xs ys xs' ys' f g =
    each_append (Contains (xs' ++ ys')) xs ys
    (each_weaker (Contains xs) _ (λ c h. Contains-append_left xs' ys' c (subst (λ z. Contains z c) (sym f.1) (Contains-append_left xs f.0 c h))) xs (each_itself xs))
    (each_weaker (Contains ys) _ (λ c h. Contains-append_right xs' ys' c (subst (λ z. Contains z c) (sym g.1) (Contains-append_left ys g.0 c h))) ys (each_itself ys))

later : (s t : State) → Grows s t → HasPlaces s → IsLater s t
later s t g h = record {
  vars = g.vars;
  constraint = each_all _ _ (each_among s.pure (separate s.vars s.atoms) t.pure (separate t.vars t.atoms) g.pure (separate_extends s t g h));
}

-- ---- acts

limited_grows : (s : State) (a : Leads) (o : Option LongKind) → Grows s (state_of a) → Grows s (state_of (limited s a o))
limited_grows s a None g = g
limited_grows s a (Some k) g = grows_self s

leads_grows : (s : State) (d : Done) (go : State → Walk) → Grows s d.state → Grows s (go d.state).state → Grows s (state_of (leads s d go))
leads_grows s d go g h = by d.outcome
  where
    by : (o : Outcome) → Grows s (state_of (within_limits s d go o))
    by goes = limited_grows s (led s d go goes) (passes d) h
    by (ends e r) = limited_grows s (led s d go (ends e r)) (passes d) g
    by past = g
    by (drops word) = limited_grows s (led s d go (drops word)) (passes d) (grows_self s)

after_state : (s : State) (c : CommandTree) (k : List Item) (t : State) → Grows s t → Grows s (after_command s c k t).state
after_state s (call to proc arguments site) k t h = h
after_state s (assign to op a b) k t h = h
after_state s (unset to) k t h = h
after_state s (read slot site) k t h = h
after_state s (test to how a b site) k t h = h
after_state s (choose slot first second) k t h = h
after_state s (loop site head body step) k t h = h
after_state s leave k t h = h
after_state s (load to at' field block site) k t h = h
after_state s (store at' field block from site) k t h = h
after_state s (malloc to block site) k t h = h
after_state s (free at' block site) k t h = h
after_state s (input to site) k t h = h
after_state s (return from) k t h = h
after_state s break k t h = h
after_state s continue k t h = h
after_state s (stop word site) k t h = h
after_state s (divide to a b site) k t h = h

turn_grows : (s : State) (l : Turns) (k : List Item) (b : Bool) → Grows s (state_of (leads s (elim b as (λ _. Done) [
  | true ↦ on (repeat_loop l.site (suc l.made) (marked mark.Iter l.site s))
  | false ↦ record { state = s; terms = []; outcome = past }
]) (at k)))
turn_grows s l k false = grows_self s
turn_grows s l k true =
    let m : State = marked mark.Iter l.site s in
    let t : State = repeat_loop l.site (suc l.made) m in
    let g : Grows s t = grows_trans s m t (grows_marked mark.Iter l.site s) (grows_same m t refl refl refl refl refl) in
    leads_grows s (on t) (at k) g g

item_grows : (j : JobTree) (s : State) (k : List Item) (w : Way) → Grows s (state_of (item_act j s k w))
item_grows j s [] w = grows_self s
item_grows j s (Act c ∷ k) w = by (items_after s c k)
  where
    d : Done
    d = command_done j c w s

    g : Grows s d.state
    g = grows_trans s (begun s) d.state (grows_begun s) (act_grows j c w (begun s))

    by : (o : Option (List Item)) → Grows s (state_of (elim o as (λ _. Leads) [ None ↦ Past s | Some k' ↦ leads s d (after_command s c k') ]))
    by None = grows_self s
    by (Some k') = leads_grows s d (after_command s c k') g (after_state s c k' d.state g)
item_grows j s (AfterHead l ∷ k) w = turn_grows s l (acts l.body (AfterBody (one_turn_more l) ∷ k)) (nat_lt l.made j.limits.unroll)
item_grows j s (AfterBody l ∷ k) w = grows_self s
item_grows j s (AfterStep l ∷ k) w = grows_self s

choosing_grows : (j : JobTree) (s : State) (c : Calling) (k : List Item) (w : Way) → Grows s (state_of (choosing_act j s c k w))
choosing_grows j s c k (way.Entry n) = grows_self s
choosing_grows j s c k way.Drop = grows_self s
choosing_grows j s c k way.ByZero = grows_self s
choosing_grows j s c k way.Divided = grows_self s
choosing_grows j s c k way.Null = grows_self s
choosing_grows j s c k way.MissingLive = grows_self s
choosing_grows j s c k way.MissingFreed = grows_self s
choosing_grows j s c k way.Missing = grows_self s
choosing_grows j s c k way.On = grows_self s
choosing_grows j s c k way.Then = grows_self s
choosing_grows j s c k way.Else = grows_self s
choosing_grows j s c k way.Made = grows_self s
choosing_grows j s c k way.Written = grows_self s
choosing_grows j s c k way.Unwritten = grows_self s
choosing_grows j s c k (way.Atom n) = grows_self s

stage_grows : (j : JobTree) (s : State) (c : Calling) (k : List Item) (stage : Stage) (w : Way) → Grows s (state_of (stage_act j s c k stage w))
stage_grows j s c k choosing w = choosing_grows j s c k w
stage_grows j s c k (matching x σ [] used) w =
    let d : Done = finish_call c x σ used s in
    leads_grows s d (at k) (call_grows c x σ used s) (call_grows c x σ used s)
stage_grows j s c k (matching x σ (p ∷ rest) used) w =
    let t = take_case j.types x σ rest used p w (place_through σ (place.Var p.place)) s in
    let g = case_grows j.types x σ rest used p w (place_through σ (place.Var p.place)) s in
    leads_grows s (on t.state) (λ u. going_on c k u t.stage) g g
stage_grows j s c k unfit w = grows_self s

pub walk_grows : (j : JobTree) (w : Walk) (name : Way) → Grows w.state (state_of (act j w name))
unfolding act
walk_grows j w name = by w.call
  where
    by : (o : Option (Calling × Stage)) → Grows w.state (state_of (elim o as (λ _. Leads) [ None ↦ item_act j w.state w.control name | Some c ↦ stage_act j w.state c.0 w.control c.1 name ]))
    by None = item_grows j w.state w.control name
    by (Some c) = stage_grows j w.state c.0 w.control c.1 name

pub constraints_grow : ConstraintsGrow
constraints_grow j w name h = later w.state (state_of (act j w name)) (walk_grows j w name) h
