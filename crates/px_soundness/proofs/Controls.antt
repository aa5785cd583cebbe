-- What is still to be done, and the open loops of a state.
use Rattle.std.proofs.Common.{◌≡◌, ℕ, Bool, true, false, Option, Some, None, List, [], ◌∷◌, refl, sym, ap, ◌∙◌, subst, inl, inr}
use Rattle.std.specs.Prelude.{option_map}
use Rattle.std.proofs.lemmas.Option.{same_Some}
use Rattle.px_base.specs.declared.trace.Site.{Site}
use Rattle.px_core.specs.CommandTree.{CommandTree, CommandTrees, no_commands, a_command, assign, unset, read, test, choose, loop, leave, load, store, malloc, free, input, call, return, break, continue, stop, divide}
use Rattle.px_core.specs.Control.{Turns, Item, Act, AfterHead, AfterBody, AfterStep, acts, no_turns, leave_to, break_to, continue_to}
use Rattle.px_callgraph.specs.Callees.{Names, NamedIn}
use Rattle.px_callgraph.specs.declared.states.State.{State}
use Rattle.px_callgraph.specs.States.{content_at}
use Rattle.px_callgraph.specs.Commands.{outcome_of, last_loop, all_but_last}
use Rattle.px_callgraph.specs.Alternatives.{chosen, items_after}
use Rattle.px_soundness.proofs.WellFormed.{NamesOnly, NameOnly, CommandKeeps, CommandsKeep, ItemsKeep, Opens}
use Rattle.px_soundness.proofs.AtomHeaps.{absent}
use Rattle.px_callgraph.proofs.LengthLemmas.{last_is, but_last_is}

-- ---- the procedures that are called

mutual
  names_own : (Such : ℕ → Type 0) (c : CommandTree) → ((f : ℕ) → Names f c → Such f) → NamesOnly Such c
  names_own Such (choose slot first second) h = (name_own Such first (λ f n. h f (inl n)), name_own Such second (λ f n. h f (inr n)))
  names_own Such (loop site head body step) h = (name_own Such head (λ f n. h f (inl n)), name_own Such body (λ f n. h f (inr (inl n))), name_own Such step (λ f n. h f (inr (inr n))))
  names_own Such (call to proc arguments site) h = h proc.0 refl
  names_own Such _ h = tt

  pub name_own : (Such : ℕ → Type 0) (cs : CommandTrees) → ((f : ℕ) → NamedIn f cs → Such f) → NameOnly Such cs
  name_own Such no_commands h = tt
  name_own Such (a_command c rest) h = (names_own Such c (λ f n. h f (inl n)), name_own Such rest (λ f n. h f (inr n)))

pub acts_keep : (Such : ℕ → Type 0) (cs : CommandTrees) (k : List Item) → CommandsKeep Such cs → ItemsKeep Such k → ItemsKeep Such (acts cs k)
acts_keep Such no_commands k h g = g
acts_keep Such (a_command c rest) k h g = ((h.0.0, h.1.0), acts_keep Such rest k (h.0.1, h.1.1) g)

-- ---- open loops

pub acts_open : (cs : CommandTrees) (k : List Item) (loops : List (Site × ℕ)) → Opens k loops → Opens (acts cs k) loops
acts_open no_commands k loops h = h
acts_open (a_command c rest) k loops h = acts_open rest k loops h

-- where `Leave` goes, and the site that it marks
pub leave_opens : (k : List Item) (loops : List (Site × ℕ)) (p : Turns × List Item) → Opens k loops → leave_to k ≡ Some p →
    (m : ℕ) × (last_loop loops ≡ Some (p.0.site, m)) × Opens p.1 (all_but_last loops)
leave_opens [] loops p h e = absent e
leave_opens (Act c ∷ k) loops p h e = leave_opens k loops p h e
leave_opens (AfterHead l ∷ k) loops p (rest, m, is, h) e =
    let same : (l, k) ≡ p = same_Some _ _ e in
    subst (λ (q : Turns × List Item). (m : ℕ) × (last_loop loops ≡ Some (q.0.site, m)) × Opens q.1 (all_but_last loops)) same
    (m, ap last_loop is ∙ last_is rest (l.site, m), subst (Opens k) (sym (ap all_but_last is ∙ but_last_is rest (l.site, m))) h)
leave_opens (AfterBody l ∷ k) loops p h e = absent e
leave_opens (AfterStep l ∷ k) loops p h e = absent e

pub break_opens : (k : List Item) (loops : List (Site × ℕ)) (p : List Item) → Opens k loops → break_to k ≡ Some p → Opens p (all_but_last loops)
break_opens [] loops p h e = absent e
break_opens (Act c ∷ k) loops p h e = break_opens k loops p h e
break_opens (AfterHead l ∷ k) loops p h e = absent e
break_opens (AfterBody l ∷ k) loops p (rest, m, is, h) e = subst (λ q. Opens q (all_but_last loops)) (same_Some _ _ e) (subst (Opens k) (sym (ap all_but_last is ∙ but_last_is rest (l.site, m))) h)
break_opens (AfterStep l ∷ k) loops p (rest, m, is, h) e = subst (λ q. Opens q (all_but_last loops)) (same_Some _ _ e) (subst (Opens k) (sym (ap all_but_last is ∙ but_last_is rest (l.site, m))) h)

pub continue_opens : (k : List Item) (loops : List (Site × ℕ)) (p : List Item) → Opens k loops → continue_to k ≡ Some p → Opens p loops
continue_opens [] loops p h e = absent e
continue_opens (Act c ∷ k) loops p h e = continue_opens k loops p h e
continue_opens (AfterHead l ∷ k) loops p h e = absent e
continue_opens (AfterBody l ∷ k) loops p h e = subst (λ q. Opens q loops) (same_Some _ _ e) h
continue_opens (AfterStep l ∷ k) loops p h e = absent e

leave_keeps : (Such : ℕ → Type 0) (k : List Item) (p : Turns × List Item) → ItemsKeep Such k → leave_to k ≡ Some p → ItemsKeep Such p.1
leave_keeps Such [] p h e = absent e
leave_keeps Such (Act c ∷ k) p h e = leave_keeps Such k p h.1 e
leave_keeps Such (AfterHead l ∷ k) p h e = subst (λ (q : Turns × List Item). ItemsKeep Such q.1) (same_Some _ _ e) h.1
leave_keeps Such (AfterBody l ∷ k) p h e = absent e
leave_keeps Such (AfterStep l ∷ k) p h e = absent e

break_keeps : (Such : ℕ → Type 0) (k p : List Item) → ItemsKeep Such k → break_to k ≡ Some p → ItemsKeep Such p
break_keeps Such [] p h e = absent e
break_keeps Such (Act c ∷ k) p h e = break_keeps Such k p h.1 e
break_keeps Such (AfterHead l ∷ k) p h e = absent e
break_keeps Such (AfterBody l ∷ k) p h e = subst (ItemsKeep Such) (same_Some _ _ e) h.1
break_keeps Such (AfterStep l ∷ k) p h e = subst (ItemsKeep Such) (same_Some _ _ e) h.1

continue_keeps : (Such : ℕ → Type 0) (k p : List Item) → ItemsKeep Such k → continue_to k ≡ Some p → ItemsKeep Such p
continue_keeps Such [] p h e = absent e
continue_keeps Such (Act c ∷ k) p h e = continue_keeps Such k p h.1 e
continue_keeps Such (AfterHead l ∷ k) p h e = absent e
continue_keeps Such (AfterBody l ∷ k) p h e = subst (ItemsKeep Such) (same_Some _ _ e) h
continue_keeps Such (AfterStep l ∷ k) p h e = absent e

-- a mapped option that has something
pub mapped : {A B : Type 0} (f : A → B) (o : Option A) (b : B) → option_map f o ≡ Some b → (a : A) × (o ≡ Some a) × (f a ≡ b)
mapped f None b e = absent e
mapped f (Some a) b e = (a, refl, same_Some _ _ e)

-- what is after a command keeps to range
pub after_keeps : (Such : ℕ → Type 0) (s : State) (c : CommandTree) (k p : List Item) → CommandKeeps Such c → ItemsKeep Such k → items_after s c k ≡ Some p → ItemsKeep Such p
after_keeps Such s (choose slot first second) k p r h e =
    let (b, is, same) = mapped (λ b. acts (chosen b first second) k) (outcome_of (content_at s.slots slot)) p e in subst (ItemsKeep Such) same (by b)
  where
    by : (b : Bool) → ItemsKeep Such (acts (chosen b first second) k)
    by true = acts_keep Such first k (r.0.0, r.1.0) h
    by false = acts_keep Such second k (r.0.1, r.1.1) h
after_keeps Such s (loop site head body step) k p r h e = subst (ItemsKeep Such) (same_Some _ _ e) (acts_keep Such head (AfterHead (no_turns site head body step) ∷ k) (r.0.0, r.1.0) (((r.0.0, r.1.0), (r.0.1, r.1.1), (r.0.2, r.1.2)), h))
after_keeps Such s leave k p r h e = let (q, is, same) = mapped (λ (place : Turns × List Item). place.1) (leave_to k) p e in subst (ItemsKeep Such) same (leave_keeps Such k q h is)
after_keeps Such s break k p r h e = break_keeps Such k p h e
after_keeps Such s continue k p r h e = continue_keeps Such k p h e
after_keeps Such s (assign to op a b) k p r h e = subst (ItemsKeep Such) (same_Some _ _ e) h
after_keeps Such s (unset to) k p r h e = subst (ItemsKeep Such) (same_Some _ _ e) h
after_keeps Such s (read slot site) k p r h e = subst (ItemsKeep Such) (same_Some _ _ e) h
after_keeps Such s (test to how a b site) k p r h e = subst (ItemsKeep Such) (same_Some _ _ e) h
after_keeps Such s (load to at field block site) k p r h e = subst (ItemsKeep Such) (same_Some _ _ e) h
after_keeps Such s (store at field block from site) k p r h e = subst (ItemsKeep Such) (same_Some _ _ e) h
after_keeps Such s (malloc to block site) k p r h e = subst (ItemsKeep Such) (same_Some _ _ e) h
after_keeps Such s (free at block site) k p r h e = subst (ItemsKeep Such) (same_Some _ _ e) h
after_keeps Such s (input to site) k p r h e = subst (ItemsKeep Such) (same_Some _ _ e) h
after_keeps Such s (call to proc arguments site) k p r h e = subst (ItemsKeep Such) (same_Some _ _ e) h
after_keeps Such s (return from) k p r h e = subst (ItemsKeep Such) (same_Some _ _ e) h
after_keeps Such s (stop number site) k p r h e = subst (ItemsKeep Such) (same_Some _ _ e) h
after_keeps Such s (divide to a b site) k p r h e = subst (ItemsKeep Such) (same_Some _ _ e) h
