-- The steps of an entry's own path derive it.
use Rattle.std.proofs.Common.{◌≡◌, ℕ, zero, suc, List, [], ◌∷◌, ◌++◌, length, Option, refl, sym, subst, inl, inr}
use Rattle.std.specs.Prelude.{⊤}
use Rattle.px_terms.specs.declared.types.Value.{Value}
use Rattle.px_terms.specs.declared.conjuncts.Content.{Content}
use Rattle.px_entry.specs.declared.derivations.Step.{Step}
use Rattle.px_entry.specs.declared.entries.Entry.{Entry}
use Rattle.px_entry.specs.declared.entries.Exit.{Exit}
use Rattle.px_entry.proofs.Lists.{Each}
use Rattle.px_solver.specs.Decisions.{IsDecided}
use Rattle.px_solver.specs.declared.decision.Decision.TheVariants.{Found}
use Rattle.px_callgraph.specs.declared.states.State.{State}
use Rattle.px_callgraph.specs.declared.states.Way.{Way}
use Rattle.px_callgraph.specs.JobTree.{JobTree}
use Rattle.px_callgraph.specs.declared.outcomes.StepOutcome.TheVariants.{Next, Ends, Cut, «Past» as IsPast}
use Rattle.px_callgraph.specs.Alternatives.{Leads, ways, act, start}
use Rattle.px_callgraph.specs.ActsLeft.{acts_left_of}
use Rattle.px_callgraph.specs.Derivations.{IsEndOf, Derives}
use Rattle.px_symexec.specs.Prefixes.{Prefix, Dead, Choice, Ended, Dropped, Past, constraint}
use Rattle.px_symexec.specs.Tables.{Selects, Gives, entry_of, IsRow}
use Rattle.px_symexec.proofs.Lists.{IsIn, in_contains, each_flat}
use Rattle.px_explore.specs.Taken.{steps_with}
use Rattle.px_explore.specs.Derived.{Reaches, ReachesWalk, Arrives, ended, derivation, AreDerived}
use Rattle.px_explore.specs.Paths.{Path, paths_by, paths_within, paths, paths_of}
use Rattle.px_explore.specs.Own.{IsFound, AreEntriesOf, derivations_of}
use Rattle.px_explore.specs.Laws.{OwnDerive}
use Rattle.px_explore.proofs.CallLemmas.{goes_there}

-- ---- the steps of a path lead to its end

-- where it has one
abbrev LeadsTo : JobTree → List Step → Prefix → Type 0
LeadsTo j steps (Dead s) = ⊤
LeadsTo j steps (Choice s) = ⊤
LeadsTo j steps (Ended s exit result) = Reaches j steps (Ends s exit result)
LeadsTo j steps (Dropped s gap) = ⊤
LeadsTo j steps (Past s) = ⊤

abbrev IsLed : JobTree → Path → Type 0
IsLed j p = LeadsTo j p.steps p.prefix

reaches_start : (j : JobTree) → ReachesWalk j [] (start j)
reaches_start j = record { course_is = λ rest n. (n, refl) }

each_by : (j : JobTree) (s : State) (steps : List Step) (ws : List Way) (f : Way → List Path) → ((w : Way) → IsIn w ws → Each (IsLed j) (f w)) → Each (IsLed j) (paths_by s steps ws f)
each_by j s steps [] f h = (tt, tt)
each_by j s steps (w ∷ []) f h = h w (inl refl)
each_by j s steps (w ∷ more ∷ ws) f h = (tt, each_flat (IsLed j) f (w ∷ more ∷ ws) h)

each_within : (n : ℕ) (j : JobTree) (steps : List Step) (a : Leads) → Arrives j steps a → Each (IsLed j) (paths_within n j steps a)
each_within n j steps (Ends s exit result) h = (h, tt)
each_within n j steps (Cut s gap) h = (tt, tt)
each_within n j steps (IsPast s) h = (tt, tt)
each_within zero j steps (Next w) h = (tt, tt)
each_within (suc n) j steps (Next w) h =
    each_by j w.state steps (ways j w) (λ name. paths_within n j (steps_with w name steps) (act j w name))
    (λ name i. each_within n j (steps_with w name steps) (act j w name)
    (goes_there j w.state w.call w.control steps name (in_contains name (ways j w) i) h (act j w name) refl))

each_led : (j : JobTree) → Each (IsLed j) (paths_of j)
unfolding paths
each_led j = each_within (acts_left_of j (Next (start j))) j [] (Next (start j)) (reaches_start j)

-- ---- the end of a path

-- an entry with the values that are found is its end
is_end : (j : JobTree) (s : State) (exit : Exit) (result : Option Content) (model : List Value) → IsDecided s.vars (constraint s) j.kinds (Found model) →
    IsEndOf j s exit result (entry_of j s exit result model)
is_end j s exit result model h = record {
  proc = refl;
  trace = refl;
  exit = refl;
  result = refl;
  vars = refl;
  pure = refl;
  pre = refl;
  post = refl;
  satisfied = record { size = h.model.size; values = record { fits = h.fits; true_of = h.are_true } };
}

at_end : (j : JobTree) (s : State) (exit : Exit) (result : Option Content) (model : List Value) (steps : List Step) → Reaches j steps (Ends s exit result) →
    IsDecided s.vars (constraint s) j.kinds (Found model) → Derives j (entry_of j s exit result model) (ended steps)
at_end j s exit result model steps r h = record {
  place = length steps;
  state = s;
  exit = exit;
  result = result;
  runs = r.course_is _ 1;
  is_end = is_end j s exit result model h;
}

by_row : (j : JobTree) (p : Prefix) (x : Entry) (steps : List Step) → LeadsTo j steps p → IsRow j p (Gives x) → Derives j x (ended steps)
by_row j (Dead s) x steps a r = absurd r
by_row j (Choice s) x steps a r = cc
by_row j (Ended s exit result) x steps a (inl (model, d, e)) =
    let f : x ≡ entry_of j s exit result model = cc in subst (λ z. Derives j z (ended steps)) (sym f) (at_end j s exit result model steps a d)
by_row j (Ended s exit result) x steps a (inr (hard, d, e)) = cc
by_row j (Dropped s gap) x steps a r = cc
by_row j (Past s) x steps a r = cc

-- ---- all entries

by_rows : (j : JobTree) (ps : List Path) (xs : List Entry) → Each (IsLed j) ps → AreEntriesOf j ps xs → AreDerived j xs (derivations_of ps)
by_rows j [] xs h e = subst (λ z. AreDerived j z []) (sym e) refl
by_rows j (p ∷ ps) xs h (x, rest, e, i, a) =
    subst (λ z. AreDerived j z (derivation p.steps ∷ derivations_of ps)) (sym e) (by_row j p.prefix x p.steps h.0 i, by_rows j ps rest h.1 a)

each_left : {A : Type 0} (P : A → Type 0) (xs ys : List A) → Each P (xs ++ ys) → Each P xs
each_left P [] ys h = tt
each_left P (x ∷ xs) ys h = (h.0, each_left P xs ys h.1)

each_chosen : {A : Type 0} (P Q : A → Type 0) (xs ys : List A) → Selects P xs ys → Each Q xs → Each Q ys
each_chosen P Q [] ys s h = subst (Each Q) (sym s) tt
each_chosen P Q (x ∷ xs) ys (inl (p, rest, e, s)) h = subst (Each Q) (sym e) (h.0, each_chosen P Q xs rest s h.1)
each_chosen P Q (x ∷ xs) ys (inr (n, s)) h = each_chosen P Q xs ys s h.1

pub own_derive : OwnDerive
own_derive j xs ds o =
    let led : Each (IsLed j) o.before = each_left (IsLed j) o.before o.rest (subst (Each (IsLed j)) o.split (each_led j)) in
    subst (AreDerived j xs) (sym o.own.derivations_are) (by_rows j o.own.found xs (each_chosen (IsFound j) (IsLed j) o.before o.own.found o.own.selects led) o.own.entries_are)
