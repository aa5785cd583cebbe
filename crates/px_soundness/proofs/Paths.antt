-- The path of a derivation, step by step.
use Rattle.std.proofs.Common.{◌≡◌, ℕ, zero, suc, Bool, true, false, Option, Some, None, List, [], ◌∷◌, length, refl, sym, ap, subst}
use Rattle.std.specs.List.{list_any}
use Rattle.std.proofs.lemmas.Option.{none-some}
use Rattle.px_base.specs.declared.trace.Site.{Site}
use Rattle.px_base.specs.declared.trace.Mark.{Mark}
use Rattle.px_base.specs.declared.trace.ProcId.{ProcId}
use Rattle.px_terms.specs.declared.conjuncts.Content.{Content}
use Rattle.px_core.specs.CommandTree.{CommandTree, assign, unset, read, test, choose, loop, leave, load, store, malloc, free, input, call, return, break, continue, stop, divide}
use Rattle.px_core.specs.Control.{Turns, Item, Act, AfterHead, AfterBody, AfterStep}
use Rattle.px_core.specs.declared.command.Operand.{Operand}
use Rattle.px_entry.specs.declared.entries.Exit.{Exit}
use Rattle.px_entry.specs.declared.entries.Exit.TheVariants.{Ok}
use Rattle.px_entry.specs.declared.derivations.Rule.{Rule}
use Rattle.px_entry.specs.declared.derivations.Rule.TheVariants as rule
use Rattle.px_entry.specs.declared.derivations.Step.{Step}
use Rattle.px_entry.specs.Rules.{same_rule}
use Rattle.px_entry.proofs.Lists.{Each}
use Rattle.px_callgraph.specs.declared.states.State.{State}
use Rattle.px_callgraph.specs.declared.states.Way.{Way}
use Rattle.px_callgraph.specs.declared.states.Way.TheVariants as way
use Rattle.px_callgraph.specs.JobTree.{JobTree}
use Rattle.px_callgraph.specs.States.{goes, ends}
use Rattle.px_callgraph.specs.declared.outcomes.StepOutcome.TheVariants.{Next, Ends, Cut, Past}
use Rattle.px_callgraph.specs.Alternatives.{Walk, Leads, at, fallen, item_ways, item_act, ways, act}
use Rattle.px_callgraph.specs.Derivations.{same_way, still_there, take_listed, take_choices, then_take, command_way, alone, item_step, is_silent, use_rule, uses_atom, Course, fails_at, comes_to, unsaid, fails_next, at_end, onward, by_use, by_item, course}
use Rattle.px_check.proofs.TakeLemmas.{there_is}
use Rattle.px_meaning.specs.Steps.{ProcedureCalls}
use Rattle.px_soundness.proofs.WellFormed.{WellTyped, CompleteAt, EndsWell, WellFormed, WellFormedLeads}
use Rattle.px_soundness.proofs.AtomHeaps.{absent}
use Rattle.px_soundness.proofs.Sound.{Sound}
use Rattle.px_soundness.proofs.Endings.{fallen_well}
use Rattle.px_soundness.proofs.Walks.{Machine, SoundLeads, Good1, IsOwn, listed_has, item_good}

-- from a state and what is to be done, each step one of the machine, to this end
pub data Path (j : JobTree) (calls : ProcedureCalls Mark) (t : State) (e : Exit) (r : Option Content) : State → List Item → Type 1 where
  falls : {s : State} → s ≡ t → e ≡ Ok → r ≡ fallen j.body.result → Path j calls t e r s []
  stops : {s : State} {i : Item} {k : List Item} → Sound (Machine j calls i k s) s [] t (ends e r) → Path j calls t e r s (i ∷ k)
  follows : {s u : State} {i : Item} {k k' : List Item} → Sound (Machine j calls i k s) s k' u goes → Path j calls t e r u k' → Path j calls t e r s (i ∷ k)

-- ---- what a step takes

-- a listed way that leads there
pub record Named (j : JobTree) (w : Walk) (a : Leads) : Type 0 where
  pub name : Way
  pub listed : list_any (same_way name) (ways j w) ≡ true
  pub leads : act j w name ≡ a

pub named : (j : JobTree) (w : Walk) (name : Way) (a : Leads) → take_listed j w name ≡ Some a → Named j w a
named j w name a e = by (list_any (same_way name) (ways j w)) refl e
  where
    by : (b : Bool) → list_any (same_way name) (ways j w) ≡ b → (elim b as (λ _. Option Leads) [ true ↦ still_there (act j w name) | false ↦ None ]) ≡ Some a → Named j w a
    by true is e = record { name = name; listed = is; leads = there_is (act j w name) a e }
    by false is e = absent e

by_name : (j : JobTree) (w : Walk) (o : Option Way) (a : Leads) → (elim o as (λ _. Option Leads) [ None ↦ None | Some name ↦ take_listed j w name ]) ≡ Some a → Named j w a
by_name j w None a e = absent e
by_name j w (Some name) a e = named j w name a e

module _ (j : JobTree) (calls : ProcedureCalls Mark) (t : State) (e : Exit) (r : Option Content) where
  abbrev pub PathFrom : Leads → Type 1
  PathFrom (Next w) = Path j calls t e r w.state w.control
  PathFrom (Ends s e' r') = Unit {1} × (s ≡ t) × (e' ≡ e) × (r' ≡ r)
  PathFrom (Cut s gap) = Unit {1} × ⊥
  PathFrom (Past s) = Unit {1} × ⊥

  path_more : (s : State) (i : Item) (k : List Item) (a : Leads) → SoundLeads (Machine j calls i k s) s a → PathFrom a → Path j calls t e r s (i ∷ k)
  path_more s i k (Next w) sound p = follows sound p
  path_more s i k (Ends u e' r') sound (_, is, at', same) =
      stops (subst (λ (x : State). Sound (Machine j calls i k s) s [] x (ends e r)) is (subst (λ x. Sound (Machine j calls i k s) s [] u (ends x r)) at' (subst (λ x. Sound (Machine j calls i k s) s [] u (ends e' x)) same sound)))
  path_more s i k (Cut u gap) sound p = absurd p.1
  path_more s i k (Past u) sound p = absurd p.1

  -- what the first item's named way gives
  named_good : (s : State) (i : Item) (k : List Item) → ((c : CommandTree) → i ≡ Act c → IsOwn c) → WellFormed j s (i ∷ k) → (a : Leads) → Named j (at (i ∷ k) s) a → Good1 j (Machine j calls i k s) s a
  unfolding ways act
  named_good s i k own well_formed a n =
      subst (Good1 j (Machine j calls i k s) s) n.leads (listed_has (λ name. Good1 j (Machine j calls i k s) s (item_act j s (i ∷ k) name)) n.name (item_ways j s (i ∷ k)) (item_good j calls s i k own well_formed) n.listed)

  act_is : {c d : CommandTree} → Act c ≡ Act d → c ≡ d
  act_is e = cc

  own_is : (c : CommandTree) → IsOwn c → (d : CommandTree) → Act c ≡ Act d → IsOwn d
  own_is c own d e = subst IsOwn (act_is e) own

  no_act : (x : Item) → ((c : CommandTree) → x ≡ Act c → ⊥) → (c : CommandTree) → x ≡ Act c → IsOwn c
  no_act x f c e = absurd (f c e)

  -- ---- a step, where calls are known

  module _ (Allowed : Step → Type 0)
      (call_step : (s : State) (k : List Item) (to : Option ℕ) (proc : ProcId) (arguments : List Operand) (site : Site) (st : Step) (a : Leads) → Allowed st → st.rule ≡ rule.Call →
      WellFormed j s (Act (call to proc arguments site) ∷ k) →
      then_take (take_choices j st.choices) (take_listed j (at (Act (call to proc arguments site) ∷ k) s) way.On) ≡ Some a →
      Good1 j (Machine j calls (Act (call to proc arguments site)) k s) s a) where
    abbrev StepGood : State → List Item → Leads → Type 1
    StepGood s k a = (i : Item) × (k' : List Item) × (k ≡ i ∷ k') × Good1 j (Machine j calls i k' s) s a

    own_step : (s : State) (c : CommandTree) (k : List Item) → IsOwn c → WellFormed j s (Act c ∷ k) → (a : Leads) → Named j (at (Act c ∷ k) s) a → StepGood s (Act c ∷ k) a
    own_step s c k own well_formed a n = (Act c, k, refl, named_good s (Act c) k (own_is c own) well_formed a n)

    call_good : (s : State) (k : List Item) (to : Option ℕ) (proc : ProcId) (arguments : List Operand) (site : Site) (st : Step) (a : Leads) → Allowed st → WellFormed j s (Act (call to proc arguments site) ∷ k) → (ru : Rule) → st.rule ≡ ru →
        item_step j (at (Act (call to proc arguments site) ∷ k) s) (Act (call to proc arguments site) ∷ k) ru st.choices ≡ Some a → StepGood s (Act (call to proc arguments site) ∷ k) a
    call_good s k to proc arguments site st a allowed well_formed rule.Call is e = (Act (call to proc arguments site), k, refl, call_step s k to proc arguments site st a allowed is well_formed e)
    call_good s k to proc arguments site st a allowed well_formed _ is e = absurd (none-some _ e)

    head_step : (s : State) (l : Turns) (k : List Item) (ru : Rule) (cs : List ℕ) (a : Leads) → WellFormed j s (AfterHead l ∷ k) → item_step j (at (AfterHead l ∷ k) s) (AfterHead l ∷ k) ru cs ≡ Some a → StepGood s (AfterHead l ∷ k) a
    head_step s l k rule.Unroll cs a well_formed e = (AfterHead l, k, refl, named_good s (AfterHead l) k (no_act (AfterHead l) (λ c f. cc)) well_formed a (by_name j (at (AfterHead l ∷ k) s) (alone cs way.On) a e))
    head_step s l k _ cs a well_formed e = absurd (none-some _ e)

    step_good : (s : State) (k : List Item) (st : Step) (a : Leads) → Allowed st → WellFormed j s k → item_step j (at k s) k st.rule st.choices ≡ Some a → StepGood s k a
    step_good s [] st a allowed well_formed e = absurd (none-some _ e)
    step_good s (AfterHead l ∷ k) st a allowed well_formed e = head_step s l k st.rule st.choices a well_formed e
    step_good s (AfterBody l ∷ k) st a allowed well_formed e = absurd (none-some _ e)
    step_good s (AfterStep l ∷ k) st a allowed well_formed e = absurd (none-some _ e)
    step_good s (Act (call to proc arguments site) ∷ k) st a allowed well_formed e = call_good s k to proc arguments site st a allowed well_formed st.rule refl e
    step_good s (Act (assign to op x y) ∷ k) st a allowed well_formed e = own_step s (assign to op x y) k tt well_formed a (by_name j (at (Act (assign to op x y) ∷ k) s) (command_way s.atoms (assign to op x y) st.rule st.choices) a e)
    step_good s (Act (unset to) ∷ k) st a allowed well_formed e = own_step s (unset to) k tt well_formed a (by_name j (at (Act (unset to) ∷ k) s) (command_way s.atoms (unset to) st.rule st.choices) a e)
    step_good s (Act (read slot site) ∷ k) st a allowed well_formed e = own_step s (read slot site) k tt well_formed a (by_name j (at (Act (read slot site) ∷ k) s) (command_way s.atoms (read slot site) st.rule st.choices) a e)
    step_good s (Act (test to how x y site) ∷ k) st a allowed well_formed e = own_step s (test to how x y site) k tt well_formed a (by_name j (at (Act (test to how x y site) ∷ k) s) (command_way s.atoms (test to how x y site) st.rule st.choices) a e)
    step_good s (Act (choose slot first second) ∷ k) st a allowed well_formed e = own_step s (choose slot first second) k tt well_formed a (by_name j (at (Act (choose slot first second) ∷ k) s) (command_way s.atoms (choose slot first second) st.rule st.choices) a e)
    step_good s (Act (loop site head body after) ∷ k) st a allowed well_formed e = own_step s (loop site head body after) k tt well_formed a (by_name j (at (Act (loop site head body after) ∷ k) s) (command_way s.atoms (loop site head body after) st.rule st.choices) a e)
    step_good s (Act leave ∷ k) st a allowed well_formed e = own_step s leave k tt well_formed a (by_name j (at (Act leave ∷ k) s) (command_way s.atoms leave st.rule st.choices) a e)
    step_good s (Act (load to x field block site) ∷ k) st a allowed well_formed e = own_step s (load to x field block site) k tt well_formed a (by_name j (at (Act (load to x field block site) ∷ k) s) (command_way s.atoms (load to x field block site) st.rule st.choices) a e)
    step_good s (Act (store x field block from site) ∷ k) st a allowed well_formed e = own_step s (store x field block from site) k tt well_formed a (by_name j (at (Act (store x field block from site) ∷ k) s) (command_way s.atoms (store x field block from site) st.rule st.choices) a e)
    step_good s (Act (malloc to block site) ∷ k) st a allowed well_formed e = own_step s (malloc to block site) k tt well_formed a (by_name j (at (Act (malloc to block site) ∷ k) s) (command_way s.atoms (malloc to block site) st.rule st.choices) a e)
    step_good s (Act (free x block site) ∷ k) st a allowed well_formed e = own_step s (free x block site) k tt well_formed a (by_name j (at (Act (free x block site) ∷ k) s) (command_way s.atoms (free x block site) st.rule st.choices) a e)
    step_good s (Act (input to site) ∷ k) st a allowed well_formed e = own_step s (input to site) k tt well_formed a (by_name j (at (Act (input to site) ∷ k) s) (command_way s.atoms (input to site) st.rule st.choices) a e)
    step_good s (Act (return from) ∷ k) st a allowed well_formed e = own_step s (return from) k tt well_formed a (by_name j (at (Act (return from) ∷ k) s) (command_way s.atoms (return from) st.rule st.choices) a e)
    step_good s (Act break ∷ k) st a allowed well_formed e = own_step s break k tt well_formed a (by_name j (at (Act break ∷ k) s) (command_way s.atoms break st.rule st.choices) a e)
    step_good s (Act continue ∷ k) st a allowed well_formed e = own_step s continue k tt well_formed a (by_name j (at (Act continue ∷ k) s) (command_way s.atoms continue st.rule st.choices) a e)
    step_good s (Act (stop number site) ∷ k) st a allowed well_formed e = absurd (none-some _ e)
    step_good s (Act (divide to x y site) ∷ k) st a allowed well_formed e = own_step s (divide to x y site) k tt well_formed a (by_name j (at (Act (divide to x y site) ∷ k) s) (command_way s.atoms (divide to x y site) st.rule st.choices) a e)

    -- ---- what takes no step of its own

    silent_own : (c : CommandTree) (k : List Item) → is_silent (Act c ∷ k) ≡ true → IsOwn c
    silent_own (loop site head body after) k e = tt
    silent_own (return from) k e = tt
    silent_own (call to proc arguments site) k e = absurd (let f : false ≡ true = e in cc)
    silent_own (assign to op x y) k e = tt
    silent_own (unset to) k e = tt
    silent_own (read slot site) k e = tt
    silent_own (test to how x y site) k e = tt
    silent_own (choose slot first second) k e = tt
    silent_own leave k e = tt
    silent_own (load to x field block site) k e = tt
    silent_own (store x field block from site) k e = tt
    silent_own (malloc to block site) k e = tt
    silent_own (free x block site) k e = tt
    silent_own (input to site) k e = tt
    silent_own break k e = tt
    silent_own continue k e = tt
    silent_own (stop number site) k e = tt
    silent_own (divide to x y site) k e = tt

    silent_good : (s : State) (i : Item) (k : List Item) → is_silent (i ∷ k) ≡ true → WellFormed j s (i ∷ k) → (a : Leads) → Named j (at (i ∷ k) s) a → Good1 j (Machine j calls i k s) s a
    silent_good s (Act c) k e well_formed a n = named_good s (Act c) k (own_is c (silent_own c k e)) well_formed a n
    silent_good s (AfterHead l) k e well_formed a n = absurd (let f : false ≡ true = e in cc)
    silent_good s (AfterBody l) k e well_formed a n = named_good s (AfterBody l) k (no_act (AfterBody l) (λ c f. cc)) well_formed a n
    silent_good s (AfterStep l) k e well_formed a n = named_good s (AfterStep l) k (no_act (AfterStep l) (λ c f. cc)) well_formed a n

    end_is : (s : State) (a : Leads) → Named j (at [] s) a → Ends s Ok (fallen j.body.result) ≡ a
    unfolding ways act
    end_is s a n = n.leads

    -- ---- the course

    abbrev Comes : ℕ → List Step → Course
    Comes place rest = comes_to place t e r rest

    next_fails : (i : ℕ) (steps : List Step) (place : ℕ) (rest : List Step) → fails_next i steps ≡ Comes place rest → ⊥
    next_fails i [] place rest x = cc
    next_fails i (st ∷ steps) place rest x = cc

    end_comes : (i : ℕ) (s : State) (e' : Exit) (r' : Option Content) (steps : List Step) (place : ℕ) (rest : List Step) → at_end i s e' r' steps ≡ Comes place rest → (s ≡ t) × (e' ≡ e) × (r' ≡ r)
    end_comes i s e' r' [] place rest x = cc
    end_comes i s e' r' (st ∷ steps) place rest x = by (same_rule st.rule rule.End) st.choices x
      where
        by : (b : Bool) (cs : List ℕ) → (elim b as (λ _. Course) [ true ↦ elim cs as (λ _. Course) [ [] ↦ comes_to i s e' r' steps | _ ∷ _ ↦ fails_at i st.rule ] | false ↦ fails_at i st.rule ]) ≡ Comes place rest → (s ≡ t) × (e' ≡ e) × (r' ≡ r)
        by true [] x = (cc, cc, cc)
        by true (c ∷ cs) x = cc
        by false cs x = cc

    abbrev Result : Leads → Type 1
    Result a = PathFrom a × WellTyped j.types t × EndsWell j t (ends e r) × CompleteAt j t

    -- the path from where an act leads, if the rest of the course has one
    abbrev Going : (ℕ → List Step → Leads → Course) → Type 1
    Going go = (i : ℕ) (steps : List Step) (a : Leads) (place : ℕ) (rest : List Step) → Each Allowed steps → go i steps a ≡ Comes place rest → WellFormedLeads j a → Result a

    use_goes : (go : ℕ → List Step → Leads → Course) → Going go → (i : ℕ) (steps : List Step) (n : ℕ) (o : Option Rule) (a : Leads) (place : ℕ) (rest : List Step) → Each Allowed steps → by_use go i steps n o a ≡ Comes place rest → WellFormedLeads j a → Result a
    use_goes go ih i steps n None a place rest all x well_formed = ih i steps a place rest all x well_formed
    use_goes go ih i [] n (Some ru) a place rest all x well_formed = absurd (let f : fails_at i rule.End ≡ Comes place rest = x in cc)
    use_goes go ih i (st ∷ steps) n (Some ru) a place rest all x well_formed = by (uses_atom ru n st) x
      where
        by : (b : Bool) → (elim b as (λ _. Course) [ true ↦ go (suc i) steps a | false ↦ fails_at i st.rule ]) ≡ Comes place rest → Result a
        by true x = ih (suc i) steps a place rest all.1 x well_formed
        by false x = absurd (let f : fails_at i st.rule ≡ Comes place rest = x in cc)

    step_path : (go : ℕ → List Step → Leads → Course) → Going go → (i : ℕ) (st : Step) (steps : List Step) (s : State) (k : List Item) (place : ℕ) (rest : List Step) → Allowed st → Each Allowed steps → WellFormed j s k →
        (o : Option Leads) → item_step j (at k s) k st.rule st.choices ≡ o → onward (fails_at i st.rule) (by_use go (suc i) steps (length s.atoms) (use_rule k st.rule)) o ≡ Comes place rest → Result (Next (at k s))
    step_path go ih i st steps s k place rest ok all well_formed None is x = absurd (let f : fails_at i st.rule ≡ Comes place rest = x in cc)
    step_path go ih i st steps s k place rest ok all well_formed (Some a) is x =
        let (y, k', split, (sound, after)) = step_good s k st a ok well_formed is in
        let (p, well_typed, well, complete) = use_goes go ih (suc i) steps (length s.atoms) (use_rule k st.rule) a place rest all x after in
        (subst (Path j calls t e r s) (sym split) (path_more s y k' a sound p), well_typed, well, complete)

    silent_path : (go : ℕ → List Step → Leads → Course) → Going go → (i : ℕ) (steps : List Step) (s : State) (k : List Item) (place : ℕ) (rest : List Step) → Each Allowed steps → WellFormed j s k → is_silent k ≡ true →
        (o : Option Leads) → take_listed j (at k s) way.On ≡ o → onward (fails_next i steps) (go i steps) o ≡ Comes place rest → Result (Next (at k s))
    silent_path go ih i steps s k place rest all well_formed silent None is x = absurd (next_fails i steps place rest x)
    silent_path go ih i steps s [] place rest all well_formed silent (Some a) is x =
        let same : Ends s Ok (fallen j.body.result) ≡ a = end_is s a (named j (at [] s) way.On a is) in
        let ((_, st, ex, re), well_typed, well, complete) = ih i steps (Ends s Ok (fallen j.body.result)) place rest all (subst (λ z. go i steps z ≡ Comes place rest) (sym same) x) (well_formed.well_typed, fallen_well j s, well_formed.complete) in
        (falls st (sym ex) (sym re), well_typed, well, complete)
    silent_path go ih i steps s (y ∷ k) place rest all well_formed silent (Some a) is x =
        let (sound, after) = silent_good s y k silent well_formed a (named j (at (y ∷ k) s) way.On a is) in
        let (p, well_typed, well, complete) = ih i steps a place rest all x after in
        (path_more s y k a sound p, well_typed, well, complete)

    walk_path : (go : ℕ → List Step → Leads → Course) → Going go → (i : ℕ) (steps : List Step) (s : State) (k : List Item) (place : ℕ) (rest : List Step) → Each Allowed steps → WellFormed j s k →
        (b : Bool) → is_silent k ≡ b → by_item j go i steps (at k s) b ≡ Comes place rest → Result (Next (at k s))
    walk_path go ih i steps s k place rest all well_formed true silent x = silent_path go ih i steps s k place rest all well_formed silent (take_listed j (at k s) way.On) refl x
    walk_path go ih i [] s k place rest all well_formed false silent x = absurd (let f : fails_at i rule.End ≡ Comes place rest = x in cc)
    walk_path go ih i (st ∷ steps) s k place rest all well_formed false silent x = step_path go ih i st steps s k place rest all.0 all.1 well_formed (item_step j (at k s) k st.rule st.choices) refl x

    pub path : (n : ℕ) → Going (course n j)
    path zero i steps a place rest all x well_formed = absurd (let f : unsaid ≡ Comes place rest = x in cc)
    path (suc n) i steps (Ends s e' r') place rest all x well_formed =
        let (is, at', same) = end_comes i s e' r' steps place rest x in ((tt, is, at', same), subst (λ (z : State). WellTyped j.types z) is well_formed.0, subst (λ (z : State). EndsWell j z (ends e r)) is (subst (λ z. EndsWell j s (ends z r)) at' (subst (λ z. EndsWell j s (ends e' z)) same well_formed.1)), subst (λ (z : State). CompleteAt j z) is well_formed.2)
    path (suc n) i steps (Cut s gap) place rest all x well_formed = absurd (next_fails i steps place rest x)
    path (suc n) i steps (Past s) place rest all x well_formed = absurd (next_fails i steps place rest x)
    path (suc n) i steps (Next w) place rest all x well_formed =
        let same : w ≡ at w.control w.state = ap (λ c. let z : Walk = record { state = w.state; call = c; control = w.control } in z) well_formed.0 in
        walk_path (course n j) (path n) i steps w.state w.control place rest all well_formed.1 (is_silent w.control) refl
        (subst (λ (z : Walk). by_item j (course n j) i steps z (is_silent w.control) ≡ Comes place rest) same x)
