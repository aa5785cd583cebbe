-- What stays true while steps are followed.
use Rattle.std.proofs.Common.{◌≡◌, ℕ, zero, suc, ◌+◌, ◌*◌, ◌<◌, ◌≤◌, List, [], ◌∷◌, ◌++◌, length, min, take, drop, Option, Some, None, true, false, refl, sym, ◌∙◌, ap, subst, append_assoc, length-append, arith}
use Rattle.std.proofs.Math.Seq.{take-append_seam}
use Rattle.std.proofs.lemmas.List.{take-append-drop, length-take}
use Rattle.px_terms.specs.declared.conjuncts.Content.{Content}
use Rattle.px_entry.specs.declared.derivations.Rule.{Rule}
use Rattle.px_entry.specs.declared.derivations.Step.{Step}
use Rattle.px_entry.specs.declared.entries.Exit.{Exit}
use Rattle.px_callgraph.specs.declared.states.State.{State}
use Rattle.px_callgraph.specs.JobTree.{JobTree}
use Rattle.px_callgraph.specs.declared.outcomes.StepOutcome.TheVariants.{Next, Ends}
use Rattle.px_callgraph.specs.Alternatives.{Walk, Leads, at, start}
use Rattle.px_callgraph.specs.ActsLeft.{acts_left}
use Rattle.px_callgraph.specs.Laws.{at_start}
use Rattle.px_callgraph.specs.Derivations.{Course, fails_at, at_end, fails_next, onward, by_use, by_item, use_rule, course, RunsTo}
use Rattle.px_steps.specs.declared.led.Led.{Led}
use Rattle.px_steps.specs.declared.led.Led.TheVariants as act
use Rattle.px_check.specs.Leading.{lead_at}
use Rattle.px_check.specs.declared.turns.Turn.{Turn}
use Rattle.px_check.specs.declared.turns.Turn.TheVariants.{Taken, Fails}
use Rattle.px_check.specs.Follows.{alone, turns_left_of, Follows}
use Rattle.px_check.specs.Courses.{AreBetween, IsUse, IsTurn, TakesTurn}
use Rattle.px_check.proofs.FewActs.{start_acts, still_few}
use Rattle.px_check.proofs.KeptTurns.{turn_kept}

begins_there : (j : JobTree) → Follows j [] 0 (Next (start j))
begins_there j = record {
  size = refl;
  course_is = λ more n. (n, refl);
  sound = at_start refl;
  free = refl;
  few = subst (λ n. 0 + 2 * n ≤ 25538) (sym (start_acts j)) (omega arith);
}

pub begins : (j : JobTree) (w : Walk) → w ≡ start j → Follows j [] 0 (Next w)
begins j w e = subst (λ z. Follows j [] 0 (Next z)) (sym e) (begins_there j)

-- ---- one turn

-- what a turn takes leads where it leads, whatever steps follow
turn_course : (j : JobTree) (w : Walk) (i n : ℕ) (taken more : List Step) (a : Leads) → IsTurn j w taken a → course (suc n) j i (taken ++ more) (Next w) ≡ course n j (i + length taken) more a
turn_course j w i n [] more a (silent, leads) =
    ap (by_item j (course n j) i more w) silent ∙ ap (onward (fails_next i more) (course n j i more)) leads ∙ ap (λ k. course n j k more a) (same i)
  where
    same : (i : ℕ) → i ≡ i + 0
    same i = omega arith
turn_course j w i n (st ∷ used) more a (own, leads, owed) =
    ap (by_item j (course n j) i (st ∷ used ++ more) w) own
    ∙ ap (onward (fails_at i st.rule) (by_use (course n j) (suc i) (used ++ more) (length w.state.atoms) (use_rule w.control st.rule))) leads
    ∙ by_owed used (use_rule w.control st.rule) owed
  where
    one : (i : ℕ) → suc i ≡ i + 1
    one i = omega arith

    two : (i : ℕ) → suc (suc i) ≡ i + 2
    two i = omega arith

    by_owed : (used : List Step) (o : Option Rule) → IsUse (length w.state.atoms) o used →
        by_use (course n j) (suc i) (used ++ more) (length w.state.atoms) o a ≡ course n j (i + suc (length used)) more a
    by_owed [] None u = ap (λ k. course n j k more a) (one i)
    by_owed [] (Some r) u = absurd u
    by_owed (last ∷ []) None u = absurd u
    by_owed (last ∷ []) (Some r) u =
        ap (λ b. elim b as (λ _. Course) [ true ↦ course n j (suc (suc i)) more a | false ↦ fails_at (suc i) last.rule ]) u ∙ ap (λ k. course n j k more a) (two i)
    by_owed (last ∷ other ∷ others) None u = absurd u
    by_owed (last ∷ other ∷ others) (Some r) u = absurd u

-- which are two steps at most
at_most_two : (j : JobTree) (w : Walk) (taken : List Step) (a : Leads) → IsTurn j w taken a → length taken ≤ 2
at_most_two j w [] a t = omega arith
at_most_two j w (st ∷ used) a t = by_owed used (use_rule w.control st.rule) t.2
  where
    by_owed : (used : List Step) (o : Option Rule) → IsUse (length w.state.atoms) o used → suc (length used) ≤ 2
    by_owed [] o u = omega arith
    by_owed (last ∷ []) o u = omega arith
    by_owed (last ∷ other ∷ others) None u = absurd u
    by_owed (last ∷ other ∷ others) (Some r) u = absurd u

-- the steps up to the next place are those up to here and those that a turn takes
taken_more : (steps taken : List Step) (i k : ℕ) → AreBetween steps i k taken → take k steps ≡ take i steps ++ taken
taken_more steps taken i k (e, f) = ap (λ n. take n steps) f ∙ by i steps taken e
  where
    by : (i : ℕ) (xs taken : List Step) → drop i xs ≡ taken ++ drop k steps → take (i + length taken) xs ≡ take i xs ++ taken
    by zero xs taken e = let z : 0 + length taken ≡ length taken = omega arith in ap (λ n. take n xs) z ∙ ap (take (length taken)) e ∙ take-append_seam taken (drop k steps)
    by (suc i) [] [] e = none (suc i + length {A = Step} [])
      where
        none : (n : ℕ) → take {A = Step} n [] ≡ []
        none zero = refl
        none (suc n) = refl
    by (suc i) [] (st ∷ taken) e = cc
    by (suc i) (st ∷ xs) taken e = let z : suc i + length taken ≡ suc (i + length taken) = omega arith in ap (λ n. take n (st ∷ xs)) z ∙ ap (λ z. st ∷ z) (by i xs taken e)

module _ (j : JobTree) (steps : List Step) (i : ℕ) (a : Leads) (h : Follows j (take i steps) i a) where
  -- what is left of the course is the course
  rest_is : (n : ℕ) → (m : ℕ) × (course m j 0 steps (Next (start j)) ≡ course n j i (drop i steps) a)
  rest_is n = let r = h.course_is (drop i steps) n in (r.0, ap (λ z. course r.0 j 0 z (Next (start j))) (sym (take-append-drop i steps)) ∙ r.1)

-- the place is that of one of these steps, or behind them
pub within : (j : JobTree) (steps : List Step) (i : ℕ) (a : Leads) → Follows j (take i steps) i a → i ≤ length steps
within j steps i a h = let e : min i (length steps) ≡ i = sym (length-take i steps) ∙ h.size in omega (arith, e)

module _ (j : JobTree) (steps : List Step) (i : ℕ) (w : Walk) (h : Follows j (take i steps) i (Next w)) where
  pub goes : (k : ℕ) (taken : List Step) (a : Leads) → AreBetween steps i k taken → IsTurn j w taken a → Follows j (take k steps) k a
  goes k taken a b t =
      let kept = turn_kept j w taken a h.free h.sound t in
      let l = at_most_two j w taken a t in
      subst (λ z. Follows j z k a) (sym (taken_more steps taken i k b)) (record {
        size = length-append (take i steps) taken ∙ ap (λ n. n + length taken) h.size ∙ sym b.1;
        course_is = λ more n.
            let r = h.course_is (taken ++ more) (suc n) in (
              r.0,
              ap (λ z. course r.0 j 0 z (Next (start j))) (append_assoc (take i steps) taken more) ∙ r.1 ∙ turn_course j w i n taken more a t
                  ∙ ap (λ m. course n j m more a) (sym b.1),
            );
        sound = kept.sound;
        free = kept.free;
        few = still_few i k (acts_left (alone j) (at w.control w.state)) (turns_left_of j a) h.few (omega (arith, b.1, l)) kept.few;
      })

  pub falls : (taken : List Step) (a : Leads) → IsTurn j w taken a → turns_left_of j a < turns_left_of j (Next w)
  falls taken a t = let k = turn_kept j w taken a h.free h.sound t in let l = k.few in omega (arith, l)

  pub fails : (k : ℕ) → ((n : ℕ) → course (suc n) j i (drop i steps) (Next w) ≡ fails_next k (drop k steps)) → RunsTo j steps (fails_next k (drop k steps))
  fails k e = let r = rest_is j steps i (Next w) h 1 in (r.0, r.1 ∙ e 0)

-- ---- where a path ends

pub ends_there : (j : JobTree) (steps : List Step) (i : ℕ) (s : State) (exit : Exit) (r : Option Content) → Follows j (take i steps) i (Ends s exit r) → RunsTo j steps (at_end i s exit r (drop i steps))
ends_there j steps i s exit r h = rest_is j steps i (Ends s exit r) h 1

pub is_cut : (j : JobTree) (steps : List Step) (i : ℕ) (a : Leads) → Follows j (take i steps) i a → course 1 j i (drop i steps) a ≡ fails_next i (drop i steps) → RunsTo j steps (fails_next i (drop i steps))
is_cut j steps i a h e = let r = rest_is j steps i a h 1 in (r.0, r.1 ∙ e)

-- ---- by what the code keeps

module _ (j : JobTree) (steps : List Step) (i : ℕ) (w : Walk) (led : Led) (h : Follows j (take i steps) i (lead_at w led)) (is : led ≡ act.Goes) where
  pub here : Follows j (take i steps) i (Next w)
  here = subst (λ z. Follows j (take i steps) i (lead_at w z)) is h

  pub goes_by : (v : Walk) (t : Turn) (k : ℕ) (to : Led) → TakesTurn j steps w i v t → t ≡ Taken k to → Follows j (take k steps) k (lead_at v to)
  goes_by v t k to l e = let r = subst (TakesTurn j steps w i v) e l in goes j steps i w here k r.0 (lead_at v to) r.1 r.2

  pub falls_by : (v : Walk) (t : Turn) (k : ℕ) (to : Led) → TakesTurn j steps w i v t → t ≡ Taken k to → turns_left_of j (lead_at v to) < turns_left_of j (lead_at w led)
  falls_by v t k to l e =
      let r = subst (TakesTurn j steps w i v) e l in
      subst (λ z. turns_left_of j (lead_at v to) < turns_left_of j (lead_at w z)) (sym is) (falls j steps i w here r.0 (lead_at v to) r.2)

  pub fails_by : (v : Walk) (t : Turn) (k : ℕ) → TakesTurn j steps w i v t → t ≡ Fails k → RunsTo j steps (fails_next k (drop k steps))
  fails_by v t k l e = let r = subst (TakesTurn j steps w i v) e l in fails j steps i w here k r.1
