-- The ends of a call, whatever acts are allowed beyond those that it has.
use Rattle.std.proofs.Common.{◌≡◌, ℕ, zero, suc, ◌+◌, ◌≤◌, List, [], ◌∷◌, ◌++◌, length, Bool, true, false, Option, Some, None, slice_get, refl, ap, sym, ◌∙◌, arith}
use Rattle.std.specs.Prelude.{flat_map, ◌&&◌}
use Rattle.std.proofs.lemmas.List.Folds.{flat_map-map}
use mathlib.Core.Path.{fun_ext}
use Rattle.px_terms.specs.declared.conjuncts.Place.{Place as PlaceOf}
use Rattle.px_terms.specs.declared.conjuncts.Place.TheVariants as place
use Rattle.px_entry.specs.declared.atoms.Atom.{Atom}
use Rattle.px_entry.specs.declared.entries.Entry.{Entry}
use Rattle.px_entry.specs.declared.tables.LongKind.{LongKind}
use Rattle.px_entry.specs.Regular.{is_regular}
use Rattle.px_core.specs.CommandTree.{CommandTree, call}
use Rattle.px_core.specs.Control.{Item, Act}
use Rattle.px_callgraph.specs.declared.jobs.Callee.TheVariants as callee
use Rattle.px_callgraph.specs.declared.states.Alternative.{Alternative}
use Rattle.px_callgraph.specs.declared.states.State.{State}
use Rattle.px_callgraph.specs.declared.states.Way.{Way}
use Rattle.px_callgraph.specs.declared.states.Way.TheVariants as way
use Rattle.px_callgraph.specs.JobTree.{JobTree, callee_in}
use Rattle.px_callgraph.specs.States.{Outcome, goes, ends as ends_so, past, drops, Done, on}
use Rattle.px_callgraph.specs.Commands.{command_ways, command_done}
use Rattle.px_callgraph.specs.Renaming.{Substitution, place_through, stand_from}
use Rattle.px_callgraph.specs.Calls.{Calling, Stage, choosing, matching, unfit, entry_in, choose_entry, fits_arguments, take_atom, meet_required, take_case, finish_call}
use Rattle.px_callgraph.specs.declared.outcomes.StepOutcome.TheVariants.{Next, Ends, Cut, Past}
use Rattle.px_callgraph.specs.Alternatives.{Walk, Leads, passes, limited, led, within_limits, leads, at, going_on, choosing_act, item_act, stage_act, act, ways, after_command, longest_pre, to_the_end, call_acts, alternatives}
use Rattle.px_symexec.specs.Ends.{end_at, places_after, gathered_within, acts_to_end, acts_to_end_of, gathered, ends}
use Rattle.px_symexec.specs.Steps.{is_call}
use Rattle.px_callgraph.proofs.FallLemmas.{shorter_in}

-- ---- each act of a call brings it nearer to its end

chosen_nearer : (j : JobTree) (s : State) (c : Calling) (o : Option Entry) (n : ℕ) → entry_in (callee_in j.callees c.proc) n ≡ o →
    acts_to_end j c (choose_entry j.types s c.arguments o) ≤ 1 + longest_pre (callee_in j.callees c.proc)
chosen_nearer j s c None n e = omega arith
chosen_nearer j s c (Some x) n e = by (is_regular j.types (length c.arguments) x && fits_arguments s.vars c.arguments x)
  where
    by : (b : Bool) → acts_to_end j c (elim b as (λ _. Stage) [ true ↦ matching x (stand_from 0 c.arguments) x.pre [] | false ↦ unfit ]) ≤ 1 + longest_pre (callee_in j.callees c.proc)
    by true = let a = shorter_in (callee_in j.callees c.proc) n x e in omega (arith, a)
    by false = omega arith

-- where the limits let an act through, or doesn't
module _ (j : JobTree) (n : ℕ) (s : State) (d : Done) (go : State → Walk) where
  pub leads_nearer : 1 ≤ n → acts_to_end_of j (Next (go d.state)) ≤ n → acts_to_end_of j (leads s d go) ≤ n
  leads_nearer one h = by d.outcome
    where
      going : (o : Option LongKind) → acts_to_end_of j (limited s (led s d go goes) o) ≤ n
      going None = h
      going (Some k) = one

      ending : (e : _) (r : _) (o : Option LongKind) → acts_to_end_of j (limited s (led s d go (ends_so e r)) o) ≤ n
      ending e r None = one
      ending e r (Some k) = one

      dropping : (word : _) (o : Option LongKind) → acts_to_end_of j (limited s (led s d go (drops word)) o) ≤ n
      dropping word None = one
      dropping word (Some k) = one

      by : (o : Outcome) → acts_to_end_of j (within_limits s d go o) ≤ n
      by goes = going (passes d)
      by (ends_so e r) = ending e r (passes d)
      by past = one
      by (drops word) = dropping word (passes d)

module _ (j : JobTree) (s : State) (c : Calling) (k : List Item) where
  atom_nearer : (x : Entry) (σ : Substitution) (rest : List Atom) (used : List ℕ) (p : Atom) (n : ℕ) (a : PlaceOf) (o : Option Atom) (s : State) →
      acts_to_end j c (take_atom x σ rest used p n a o s).stage ≤ 1 + length rest
  atom_nearer x σ rest used p n a None s = omega arith
  atom_nearer x σ rest used p n a (Some b) s = omega arith

  case_nearer : (x : Entry) (σ : Substitution) (rest : List Atom) (used : List ℕ) (p : Atom) (w : Way) (o : Option PlaceOf) (s : State) →
      acts_to_end j c (take_case j.types x σ rest used p w o s).stage ≤ 1 + length rest
  case_nearer x σ rest used p (way.Atom n) (Some a) s = atom_nearer x σ rest used p n a (slice_get s.atoms n) s
  case_nearer x σ rest used p way.Missing (Some a) s =
      let m : State = meet_required j.types p a s in
      atom_nearer x σ rest used p (length s.atoms) a (slice_get m.atoms (length s.atoms)) m
  case_nearer x σ rest used p (way.Atom n) None s = omega arith
  case_nearer x σ rest used p way.Missing None s = omega arith
  case_nearer x σ rest used p way.Null o s = omega arith
  case_nearer x σ rest used p way.MissingLive o s = omega arith
  case_nearer x σ rest used p way.MissingFreed o s = omega arith
  case_nearer x σ rest used p way.On o s = omega arith
  case_nearer x σ rest used p way.Then o s = omega arith
  case_nearer x σ rest used p way.Else o s = omega arith
  case_nearer x σ rest used p way.Made o s = omega arith
  case_nearer x σ rest used p way.Written o s = omega arith
  case_nearer x σ rest used p way.Unwritten o s = omega arith
  case_nearer x σ rest used p (way.Entry n) o s = omega arith
  case_nearer x σ rest used p way.Drop o s = omega arith
  case_nearer x σ rest used p way.ByZero o s = omega arith
  case_nearer x σ rest used p way.Divided o s = omega arith

  choosing_nearer : (w : Way) → acts_to_end_of j (choosing_act j s c k w) ≤ acts_to_end j c choosing
  choosing_nearer (way.Entry n) = let h = chosen_nearer j s c (entry_in (callee_in j.callees c.proc) n) n refl in omega (arith, h)
  choosing_nearer way.Drop = omega arith
  choosing_nearer way.ByZero = omega arith
  choosing_nearer way.Divided = omega arith
  choosing_nearer way.Null = omega arith
  choosing_nearer way.MissingLive = omega arith
  choosing_nearer way.MissingFreed = omega arith
  choosing_nearer way.Missing = omega arith
  choosing_nearer way.On = omega arith
  choosing_nearer way.Then = omega arith
  choosing_nearer way.Else = omega arith
  choosing_nearer way.Made = omega arith
  choosing_nearer way.Written = omega arith
  choosing_nearer way.Unwritten = omega arith
  choosing_nearer (way.Atom n) = omega arith

  stage_nearer : (stage : Stage) (w : Way) → acts_to_end_of j (stage_act j s c k stage w) ≤ acts_to_end j c stage
  stage_nearer choosing w = choosing_nearer w
  stage_nearer (matching x σ [] used) w = leads_nearer j _ s (finish_call c x σ used s) (at k) (omega arith) (omega arith)
  stage_nearer (matching x σ (p ∷ rest) used) w =
      let taken = take_case j.types x σ rest used p w (place_through σ (place.Var p.place)) s in
      let h = case_nearer x σ rest used p w (place_through σ (place.Var p.place)) s in
      leads_nearer j _ s (on taken.state) (λ u. going_on c k u taken.stage) (omega arith) (omega (arith, h))
  stage_nearer unfit w = omega arith

-- ---- more acts than it has make no difference

some_left : (j : JobTree) (a : Leads) → 1 ≤ acts_to_end_of j a
some_left j (Next w) = omega arith
some_left j (Ends s exit result) = omega arith
some_left j (Cut s gap) = omega arith
some_left j (Past s) = omega arith

-- after a place two ways of gathering agree where they do at each that is nearer to its end
after_same : {A : Type 0} (f g : Leads → List A) (j : JobTree) (a : Leads) → ((b : Leads) → suc (acts_to_end_of j b) ≤ acts_to_end_of j a → f b ≡ g b) →
    flat_map f (places_after j a) ≡ flat_map g (places_after j a)
unfolding act
after_same {A} f g j (Next w) h = by w.call h
  where
    walk : Option (Calling × Stage) → Walk
    walk o = record { state = w.state; call = o; control = w.control }

    by : (o : Option (Calling × Stage)) → ((b : Leads) → suc (acts_to_end_of j b) ≤ acts_to_end_of j (Next (walk o)) → f b ≡ g b) →
        flat_map f (places_after j (Next (walk o))) ≡ flat_map g (places_after j (Next (walk o)))
    by None h = refl
    by (Some c) h =
        let to : Way → Leads = act j (walk (Some c)) in
        flat_map-map f to (ways j (walk (Some c)))
        ∙ ap (λ (e : Way → List A). flat_map e (ways j (walk (Some c)))) (fun_ext (λ name. h (to name) (let n = stage_nearer j w.state c.0 w.control c.1 name in omega (arith, n))))
        ∙ sym (flat_map-map g to (ways j (walk (Some c))))
after_same f g j (Ends s exit result) h = refl
after_same f g j (Cut s gap) h = refl
after_same f g j (Past s) h = refl

steady : {A : Type 0} (give : Leads → List A) (n m : ℕ) (j : JobTree) (a : Leads) → acts_to_end_of j a ≤ n → acts_to_end_of j a ≤ m →
    gathered_within give n j a ≡ gathered_within give m j a
steady give zero m j a f g = let l = some_left j a in absurd (omega (arith, l, f))
steady give (suc n) zero j a f g = let l = some_left j a in absurd (omega (arith, l, g))
steady give (suc n) (suc m) j a f g =
    ap (λ xs. give a ++ xs) (after_same (gathered_within give n j) (gathered_within give m j) j a (λ b h. steady give n m j b (omega (arith, h, f)) (omega (arith, h, g))))

pub enough : {A : Type 0} (give : Leads → List A) (n : ℕ) (j : JobTree) (a : Leads) → acts_to_end_of j a ≤ n → gathered_within give n j a ≡ gathered give j a
unfolding gathered
enough give n j a h = steady give n (acts_to_end_of j a) j a h (omega arith)

-- what is gathered at a place, and then after it
pub gathered_at : {A : Type 0} (give : Leads → List A) (j : JobTree) (a : Leads) → gathered give j a ≡ give a ++ flat_map (gathered give j) (places_after j a)
gathered_at give j a =
    sym (enough give (suc (acts_to_end_of j a)) j a (omega arith))
    ∙ ap (λ xs. give a ++ xs) (after_same (gathered_within give (acts_to_end_of j a) j) (gathered give j) j a (λ b h. enough give (acts_to_end_of j a) j b (omega (arith, h))))

-- ---- the definition's list

gathers_ends : (n : ℕ) (j : JobTree) (a : Leads) → to_the_end n j a ≡ gathered_within end_at n j a
gathers_ends zero j a = refl
gathers_ends (suc n) j (Next w) = by (λ b. gathers_ends n j b) w.call
  where
    walk : Option (Calling × Stage) → Walk
    walk o = record { state = w.state; call = o; control = w.control }

    by : ((b : Leads) → to_the_end n j b ≡ gathered_within end_at n j b) → (o : Option (Calling × Stage)) →
        to_the_end (suc n) j (Next (walk o)) ≡ gathered_within end_at (suc n) j (Next (walk o))
    by h None = refl
    by h (Some c) =
        ap (λ (e : Way → List Alternative). flat_map e (ways j (walk (Some c)))) (fun_ext (λ name. h (act j (walk (Some c)) name)))
        ∙ sym (flat_map-map (gathered_within end_at n j) (act j (walk (Some c))) (ways j (walk (Some c))))
gathers_ends (suc n) j (Ends s exit result) = refl
gathers_ends (suc n) j (Cut s gap) = refl
gathers_ends (suc n) j (Past s) = refl

-- with as many acts as a call has, or more
pub ends_within : (n : ℕ) (j : JobTree) (a : Leads) → acts_to_end_of j a ≤ n → to_the_end n j a ≡ gathered end_at j a
ends_within n j a h = gathers_ends n j a ∙ enough end_at n j a h

-- the alternatives of a call, by where each way of it leads
pub of_calls : (j : JobTree) (s : State) (c : CommandTree) → is_call c ≡ true → flat_map (λ w. ends j (item_act j s (Act c ∷ []) w)) (command_ways j s c) ≡ alternatives j s c
unfolding alternatives
of_calls j s (call to proc arguments site) e =
    ap (λ (f : Way → List Alternative). flat_map f (command_ways j s (call to proc arguments site)))
    (fun_ext (λ w. sym (ends_within (call_acts j proc) j (item_act j s (Act (call to proc arguments site) ∷ []) w)
    (leads_nearer j (call_acts j proc) s (command_done j (call to proc arguments site) w s) (after_command s (call to proc arguments site) []) (omega arith) (omega arith)))))
of_calls j s _ e = cc
