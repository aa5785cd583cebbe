-- What the course of steps is at the next item of a path.
use Rattle.std.proofs.Common.{◌≡◌, ℕ, zero, suc, ◌+◌, Result, Ok, Err, IfOk, List, [], ◌∷◌, length, drop, true, Option, Some, None, slice_get, Bool, false, refl, sym, ◌∙◌, ap, subst, arith}
use Rattle.std.proofs.lemmas.Bool.{and_parts}
use Rattle.px_terms.specs.declared.conjuncts.Content.{Content}
use Rattle.px_core.specs.Control.{Item}
use Rattle.px_entry.specs.declared.atoms.Atom.{Atom}
use Rattle.px_entry.specs.declared.derivations.Rule.{Rule}
use Rattle.px_entry.specs.declared.derivations.Rule.TheVariants as rule
use Rattle.px_entry.specs.declared.derivations.Step.{Step}
use Rattle.px_entry.specs.declared.entries.Exit.{Exit}
use Rattle.px_entry.specs.Rules.{same_rule}
use Rattle.px_callgraph.specs.declared.states.State.{State}
use Rattle.px_callgraph.specs.declared.states.Way.{Way}
use Rattle.px_callgraph.specs.declared.states.Way.TheVariants as way
use Rattle.px_callgraph.specs.JobTree.{JobTree}
use Rattle.px_callgraph.specs.declared.outcomes.StepOutcome.TheVariants.{Next}
use Rattle.px_callgraph.specs.Alternatives.{Walk, Leads}
use Rattle.px_callgraph.specs.Derivations.{Course, fails_at, comes_to, at_end, uses_atom, onward, fails_next, by_use, by_step, by_item, use_rule, item_step, take_listed, is_silent, course}
use Rattle.px_walks.specs.declared.control.Upcoming.{Upcoming}
use Rattle.px_walks.specs.Nexts.{items_from, IsNext}
use Rattle.px_match.proofs.PathLimitLemmas as limits
use Rattle.px_steps.specs.declared.led.Led.{Led}
use Rattle.px_check.specs.Leading.{lead_at, leads_at}
use Rattle.px_check.specs.Steps.{is_call, named_way, take_named, is_call_rule, is_step_that, is_end}
use Rattle.px_check.specs.declared.turns.Turn.{Turn}
use Rattle.px_check.specs.declared.turns.Turn.TheVariants.{Taken, Fails}
use Rattle.px_check.specs.Courses.{IsUse, IsBehindUse, TakesTurn}
use Rattle.px_walks.proofs.NextLemmas.{is_items}
use Rattle.px_check.proofs.StepLemmas.{named_step, whole_call, by_rule, call_step}

-- ---- lists

pub got : {A : Type 0} (xs : List A) (i : ℕ) (x : A) → slice_get xs i ≡ Some x → drop i xs ≡ x ∷ drop (suc i) xs
got [] i x e = cc
got (y ∷ ys) zero x e = let f : y ≡ x = cc in ap (λ z. z ∷ ys) f
got (y ∷ ys) (suc i) x e = got ys i x e

pub gone : {A : Type 0} (xs : List A) (i : ℕ) → slice_get xs i ≡ None → drop i xs ≡ []
gone [] zero e = refl
gone [] (suc i) e = refl
gone (y ∷ ys) zero e = cc
gone (y ∷ ys) (suc i) e = gone ys i e

-- ---- what takes no step

module _ (j : JobTree) (i : ℕ) (steps : List Step) (w v : Walk) (silent : is_silent w.control ≡ true) where
  pub silent_goes : (led : Led) → Some (lead_at v led) ≡ take_listed j w way.On → TakesTurn j steps w i v (Taken i led)
  silent_goes led e = ([], (refl, limits.none i), (silent, sym e))

  pub silent_fails : None ≡ take_listed j w way.On → TakesTurn j steps w i v (Fails i)
  silent_fails e = (
    omega arith,
    λ n. ap (by_item j (course n j) i (drop i steps) w) silent ∙ ap (onward (fails_next i (drop i steps)) (course n j i (drop i steps))) (sym e),
  )

pub for_steps : {E : Type 0} (j : JobTree) (steps : List Step) (w v : Walk) (i : ℕ) (r : Result Turn E) → IfOk r (λ t. (ss : List Step) → TakesTurn j ss w i v t) → IfOk r (TakesTurn j steps w i v)
for_steps j steps w v i (Ok t) h = h steps
for_steps j steps w v i (Err x) h = tt

-- ---- what takes a step

pub no_step : (j : JobTree) (i : ℕ) (steps : List Step) (w v : Walk) → is_silent w.control ≡ false → slice_get steps i ≡ None → TakesTurn j steps w i v (Fails i)
no_step j i steps w v own e = (
  omega arith,
  λ n. ap (by_item j (course n j) i (drop i steps) w) own ∙ subst (λ z. by_step j (course n j) i z w ≡ fails_next i z) (sym (gone steps i e)) refl,
)

module _ (j : JobTree) (w : Walk) (next : Upcoming) (rest : List Item) (is : IsNext next w.control rest) where
  -- by what comes next it is told whether that is a call
  pub next_call : (b : Bool) → b ≡ is_call (items_from next rest) → is_call w.control ≡ b
  next_call b e = ap is_call (is_items next w.control rest is) ∙ sym e

  -- and whether it takes a step
  pub next_silent : (b s : Bool) → b ≡ is_silent (items_from next rest) → b ≡ s → is_silent w.control ≡ s
  next_silent b s e f = ap is_silent (is_items next w.control rest is) ∙ sym e ∙ f

  -- what a step names, where that is no call
  names : (r : Rule) (cs : List ℕ) (atoms : List Atom) (choices : List ℕ) (o : Option Way) → is_call w.control ≡ false → atoms ≡ w.state.atoms → choices ≡ cs →
      o ≡ named_way atoms (items_from next rest) r choices → take_named j w o ≡ item_step j w w.control r cs
  names r cs atoms choices o plain same e f =
      ap (take_named j w) f
      ∙ ap (λ ds. take_named j w (named_way atoms (items_from next rest) r ds)) e
      ∙ ap (λ xs. take_named j w (named_way xs (items_from next rest) r cs)) same
      ∙ sym (ap (λ k. take_named j w (named_way w.state.atoms k r cs)) (is_items next w.control rest is))
      ∙ sym (named_step j w w.control r cs plain)

  pub named_takes : {A E : Type 0} (f : A → Option Leads) (result : Result A E) (r : Rule) (cs : List ℕ) (atoms : List Atom) (choices : List ℕ) (o : Option Way) → is_call w.control ≡ false →
      atoms ≡ w.state.atoms → choices ≡ cs → o ≡ named_way atoms (items_from next rest) r choices →
      IfOk result (λ t. f t ≡ take_named j w o) → IfOk result (λ t. f t ≡ item_step j w w.control r cs)
  named_takes f (Ok t) r cs atoms choices o plain same e g h = h ∙ names r cs atoms choices o plain same e g
  named_takes f (Err x) r cs atoms choices o plain same e g h = tt

-- ---- calls

module _ (j : JobTree) (w : Walk) (calls : is_call w.control ≡ true) (r : Rule) (cs : List ℕ) where
  pub call_takes : {A E : Type 0} (f : A → Option Leads) (result : Result A E) (choices : List ℕ) → choices ≡ cs → is_call_rule r ≡ true → IfOk result (λ t. f t ≡ whole_call j w choices) →
      IfOk result (λ t. f t ≡ item_step j w w.control r cs)
  call_takes f (Ok t) choices e g h = h ∙ ap (whole_call j w) e ∙ sym (call_step j w w.control r cs calls ∙ ap (by_rule (whole_call j w cs)) g)
  call_takes f (Err x) choices e g h = tt

  pub other_rule : is_call_rule r ≡ false → None ≡ item_step j w w.control r cs
  other_rule f = sym (call_step j w w.control r cs calls ∙ ap (by_rule (whole_call j w cs)) f)

module _ (j : JobTree) (w v : Walk) (next : Upcoming) (rest : List Item) (is : IsNext next w.control rest) (own : is_silent w.control ≡ false)
    (steps : List Step) (i : ℕ) (st : Step) (here : slice_get steps i ≡ Some st)
    (o : Option Led) (taken : leads_at v o ≡ item_step j w w.control st.rule st.choices) where
  -- the use of a block, behind this step
  abbrev use_at : (n k : ℕ) → Leads → Course
  use_at n k = by_use (course n j) k (drop k steps) (length w.state.atoms) (use_rule w.control st.rule)

  step_is : (n : ℕ) → course (suc n) j i (drop i steps) (Next w) ≡ onward (fails_next i (drop i steps)) (use_at n (suc i)) (leads_at v o)
  step_is n =
      ap (by_item j (course n j) i (drop i steps) w) own
      ∙ subst (λ z. by_step j (course n j) i z w ≡ onward (fails_next i z) (use_at n (suc i)) (leads_at v o))
      (sym (got steps i st here))
      (ap (onward (fails_at i st.rule) (use_at n (suc i))) (sym taken))

  -- the step takes nothing
  pub not_taken : o ≡ None → TakesTurn j steps w i v (Fails i)
  not_taken e = (omega arith, λ n. step_is n ∙ ap (λ z. onward (fails_next i (drop i steps)) (use_at n (suc i)) (leads_at v z)) e)

  -- the step leads there, and the use of a block is looked at
  module _ (led : Led) (r : Option Rule) (m : ℕ) (leads : o ≡ Some led) (owed : r ≡ use_rule (items_from next rest) st.rule) (count : m ≡ length w.state.atoms) where
    owed_is : r ≡ use_rule w.control st.rule
    owed_is = owed ∙ sym (ap (λ k. use_rule k st.rule) (is_items next w.control rest is))

    pub not_used : IsBehindUse steps (i + 1) m r None → TakesTurn j steps w i v (Fails (i + 1))
    not_used h = (
      omega arith,
      λ n.
          let z : suc i ≡ i + 1 = omega arith in
          step_is n
          ∙ ap (λ z. onward (fails_next i (drop i steps)) (use_at n (suc i)) (leads_at v z)) leads
          ∙ ap (λ k. use_at n k (lead_at v led)) z
          ∙ ap (λ q. by_use (course n j) (i + 1) (drop (i + 1) steps) (length w.state.atoms) q (lead_at v led)) (sym owed_is)
          ∙ ap (λ q. by_use (course n j) (i + 1) (drop (i + 1) steps) q r (lead_at v led)) (sym count)
          ∙ h (course n j) (lead_at v led),
    )

    pub step_goes : (k : ℕ) → IsBehindUse steps (i + 1) m r (Some k) → TakesTurn j steps w i v (Taken k led)
    step_goes k (used, (e, f), u) =
        let g : k ≡ i + suc (length used) = omega (arith, f) in (
          st ∷ used,
          (got steps i st here ∙ ap (λ n. st ∷ drop n steps) (suc_is i) ∙ ap (λ zs. st ∷ zs) e, g),
          (
            own,
            sym taken ∙ ap (leads_at v) leads,
            subst (λ q. IsUse q (use_rule w.control st.rule) used) count (subst (λ q. IsUse m q used) owed_is u),
          ),
        )
      where
        suc_is : (n : ℕ) → suc n ≡ n + 1
        suc_is n = omega arith

-- ---- the next step

drop_next : {A : Type 0} (xs : List A) (i : ℕ) (x : A) (rest : List A) → drop i xs ≡ x ∷ rest → drop (suc i) xs ≡ rest
drop_next [] zero x rest e = cc
drop_next [] (suc i) x rest e = cc
drop_next (y ∷ ys) zero x rest e = cc
drop_next (y ∷ ys) (suc i) x rest e = drop_next ys i x rest e

-- the use of a block is taken, or the step at its place fails
pub is_used : (steps : List Step) (i n : ℕ) (r : Rule) → is_step_that (uses_atom r n) (drop i steps) ≡ true → IsBehindUse steps i n (Some r) (Some (i + 1))
is_used steps i n r h = by (drop i steps) (λ st rest e. drop_next steps i st rest e) refl h
  where
    by : (xs : List Step) → ((st : Step) (rest : List Step) → xs ≡ st ∷ rest → drop (suc i) steps ≡ rest) → drop i steps ≡ xs → is_step_that (uses_atom r n) xs ≡ true →
        IsBehindUse steps i n (Some r) (Some (i + 1))
    by [] f e h = cc
    by (st ∷ rest) f e h =
        let z : suc i ≡ i + 1 = omega arith in
        (st ∷ [], (e ∙ ap (λ zs. st ∷ zs) (sym (f st rest refl)) ∙ ap (λ k. st ∷ drop k steps) z, refl), h)

pub not_used_there : (steps : List Step) (i n : ℕ) (r : Rule) → is_step_that (uses_atom r n) (drop i steps) ≡ false → IsBehindUse steps i n (Some r) None
not_used_there steps i n r h go a = by (drop i steps) h
  where
    by : (xs : List Step) → is_step_that (uses_atom r n) xs ≡ false → by_use go i xs n (Some r) a ≡ fails_next i xs
    by [] h = refl
    by (st ∷ rest) h = ap (λ b. elim b as (λ _. Course) [ true ↦ go (suc i) rest a | false ↦ fails_at i st.rule ]) h

pub none_owed : (steps : List Step) (i n : ℕ) → IsBehindUse steps i n None (Some i)
none_owed steps i n = ([], (refl, limits.none i), tt)

at_end_is : (i : ℕ) (s : State) (exit : Exit) (r : Option Content) (st : Step) (rest : List Step) → is_end st ≡ true → comes_to i s exit r rest ≡ at_end i s exit r (st ∷ rest)
at_end_is i s exit r st rest h =
    let p = and_parts (same_rule st.rule rule.End) (elim st.choices as (λ _. Bool) [ [] ↦ true | _ ∷ _ ↦ false ]) h in
    no_choices st.choices p.1
    ∙ sym (ap (λ b. elim b as (λ _. Course) [ true ↦ of_choices st.choices | false ↦ fails_at i st.rule ]) p.0)
  where
    of_choices : List ℕ → Course
    of_choices cs = elim cs as (λ _. Course) [ [] ↦ comes_to i s exit r rest | _ ∷ _ ↦ fails_at i st.rule ]

    no_choices : (cs : List ℕ) → elim cs as (λ _. Bool) [ [] ↦ true | _ ∷ _ ↦ false ] ≡ true → comes_to i s exit r rest ≡ of_choices cs
    no_choices [] e = refl
    no_choices (c ∷ cs) e = cc

-- the path ends at an `End`
pub ends_well : (i : ℕ) (s : State) (exit : Exit) (r : Option Content) (steps : List Step) → is_step_that is_end (drop i steps) ≡ true →
    comes_to i s exit r (drop (suc i) steps) ≡ at_end i s exit r (drop i steps)
ends_well i s exit r steps h = by (drop i steps) (λ st rest e. drop_next steps i st rest e) h
  where
    by : (xs : List Step) → ((st : Step) (rest : List Step) → xs ≡ st ∷ rest → drop (suc i) steps ≡ rest) → is_step_that is_end xs ≡ true →
        comes_to i s exit r (drop (suc i) steps) ≡ at_end i s exit r xs
    by [] f h = cc
    by (st ∷ rest) f h = ap (comes_to i s exit r) (f st rest refl) ∙ at_end_is i s exit r st rest h
