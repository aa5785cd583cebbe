-- What a step takes: the way that it names, or a whole call.
use Rattle.std.proofs.Common.{◌≡◌, ◌⊎◌, inl, inr, ℕ, List, [], ◌∷◌, Bool, true, false, Option, Some, None, refl, sym, ◌∙◌}
use Rattle.px_core.specs.CommandTree.{assign, unset, read, test, choose, loop, leave, load, store, malloc, free, input, call, return, break, continue, stop, divide}
use Rattle.px_core.specs.Control.{Item, Act, AfterHead, AfterBody, AfterStep}
use Rattle.px_entry.specs.declared.derivations.Rule.{Rule}
use Rattle.px_entry.specs.declared.derivations.Rule.TheVariants as rule
use Rattle.px_entry.specs.declared.derivations.Step.{Step}
use Rattle.px_callgraph.specs.declared.states.Way.{Way}
use Rattle.px_callgraph.specs.declared.states.Way.TheVariants as way
use Rattle.px_callgraph.specs.JobTree.{JobTree}
use Rattle.px_callgraph.specs.Alternatives.{Walk, Leads}
use Rattle.px_callgraph.specs.Derivations.{take_listed, then_take, take_choices, item_step, is_silent}
use Rattle.px_check.specs.Steps.{is_call, named_way, take_named, is_call_rule}
use Rattle.px_check.specs.Courses.{IsTurn}

-- where no call comes next, a step takes the way that it names
pub named_step : (j : JobTree) (w : Walk) (k : List Item) (r : Rule) (cs : List ℕ) → is_call k ≡ false → item_step j w k r cs ≡ take_named j w (named_way w.state.atoms k r cs)
named_step j w [] r cs e = refl
named_step j w (Act (assign to op a b) ∷ k) r cs e = refl
named_step j w (Act (unset to) ∷ k) r cs e = refl
named_step j w (Act (read slot site) ∷ k) r cs e = refl
named_step j w (Act (test to how a b site) ∷ k) r cs e = refl
named_step j w (Act (choose slot first second) ∷ k) r cs e = refl
named_step j w (Act (loop site head body step) ∷ k) r cs e = refl
named_step j w (Act leave ∷ k) r cs e = refl
named_step j w (Act (load to at field block site) ∷ k) r cs e = refl
named_step j w (Act (store at field block from site) ∷ k) r cs e = refl
named_step j w (Act (malloc to block site) ∷ k) r cs e = refl
named_step j w (Act (free at block site) ∷ k) r cs e = refl
named_step j w (Act (input to site) ∷ k) r cs e = refl
named_step j w (Act (call to proc arguments site) ∷ k) r cs e = cc
named_step j w (Act (return from) ∷ k) r cs e = refl
named_step j w (Act break ∷ k) r cs e = refl
named_step j w (Act continue ∷ k) r cs e = refl
named_step j w (Act (stop word site) ∷ k) r cs e = refl
named_step j w (Act (divide to a b site) ∷ k) r cs e = refl
named_step j w (AfterHead l ∷ k) rule.Unroll cs e = refl
named_step j w (AfterHead l ∷ k) _ cs e = refl
named_step j w (AfterBody l ∷ k) r cs e = refl
named_step j w (AfterStep l ∷ k) r cs e = refl

-- a call that is entered, its choices, and what its entry says
abbrev pub whole_call : JobTree → Walk → List ℕ → Option Leads
whole_call j w cs = then_take (take_choices j cs) (take_listed j w way.On)

abbrev pub by_rule : Option Leads → Bool → Option Leads
by_rule o b = elim b [ true ↦ o | false ↦ None ]

-- where a call comes next, a step `Call` takes the whole of it
pub call_step : (j : JobTree) (w : Walk) (k : List Item) (r : Rule) (cs : List ℕ) → is_call k ≡ true → item_step j w k r cs ≡ by_rule (whole_call j w cs) (is_call_rule r)
call_step j w (Act (call to proc arguments site) ∷ k) rule.Call cs e = refl
call_step j w (Act (call to proc arguments site) ∷ k) _ cs e = refl
call_step j w _ r cs e = cc

silent_no_call : (k : List Item) → is_call k ≡ true → is_silent k ≡ true → ⊥
silent_no_call (Act (call to proc arguments site) ∷ k) c s = cc
silent_no_call _ c s = cc

-- ---- turns

-- one way was taken, or a whole call
abbrev pub IsTaken : JobTree → Walk → Leads → Type 0
IsTaken j w a =
    ((is_call w.control ≡ false) × ((name : Way) × (take_listed j w name ≡ Some a)))
    ⊎ ((is_call w.control ≡ true) × ((cs : List ℕ) × (whole_call j w cs ≡ Some a)))

module _ (j : JobTree) (w : Walk) (a : Leads) where
  of_name : (o : Option Way) → take_named j w o ≡ Some a → (name : Way) × (take_listed j w name ≡ Some a)
  of_name None e = cc
  of_name (Some name) e = (name, e)

  of_rule : (o : Option Leads) (b : Bool) → by_rule o b ≡ Some a → o ≡ Some a
  of_rule o true e = e
  of_rule o false e = cc

  of_step : (r : Rule) (cs : List ℕ) → item_step j w w.control r cs ≡ Some a → IsTaken j w a
  of_step r cs e = by (is_call w.control) refl
    where
      by : (b : Bool) → is_call w.control ≡ b → IsTaken j w a
      by true c = inr (c, (cs, of_rule (whole_call j w cs) (is_call_rule r) (sym (call_step j w w.control r cs c) ∙ e)))
      by false c = inl (c, of_name (named_way w.state.atoms w.control r cs) (sym (named_step j w w.control r cs c) ∙ e))

  of_silent : is_silent w.control ≡ true → take_listed j w way.On ≡ Some a → IsTaken j w a
  of_silent s e = by (is_call w.control) refl
    where
      by : (b : Bool) → is_call w.control ≡ b → IsTaken j w a
      by true c = absurd (silent_no_call w.control c s)
      by false c = inl (c, (way.On, e))

  pub turn_taken : (taken : List Step) → IsTurn j w taken a → IsTaken j w a
  turn_taken [] t = of_silent t.0 t.1
  turn_taken (st ∷ used) t = of_step st.rule st.choices t.1
