-- Fuller meanings agree with the meaning of a program up to what isn't understood.
use Rattle.std.proofs.Common.{◌≡◌, ◌⊎◌, ℕ, zero, suc, ◌≤◌, ◌+◌, Option, Some, None, IsSomeAnd, List, [], ◌++◌, length, refl, sym, ap, ◌∙◌, subst, inl, inr, arith, append-nil, length-append}
use Rattle.px_base.specs.Bounds.{most_marks}
use Rattle.px_base.specs.declared.trace.Site.{Site}
use Rattle.px_base.specs.declared.trace.Mark.{Mark}
use Rattle.px_meaning.specs.Values.{Value}
use Rattle.px_meaning.specs.Heaps.{HeapMap}
use Rattle.px_meaning.specs.Calls.{error, outside, Ending, Returned, Failed}
use Rattle.px_meaning.specs.Execution.{Locals}
use Rattle.px_meaning.specs.Events.{Event, mark_of}
use Rattle.px_meaning.specs.TypedProgram.{TypedProgram}
use Rattle.px_meaning.specs.TreeExecution.{Exit, falls, breaks, continues, returns, fails, Exits, Executes}
use Rattle.px_meaning.specs.TreeCalls.{first_locals, closes, TreeCallsWithin, SeenTreeCalls}
use Rattle.px_meaning.specs.Fuller.{Rest, closes_by, FullerCallsWithin, SeenFullerCalls, IsUnderstood}
use Rattle.px_meaning.specs.FullerLaws.{FullerMeanings}
use Rattle.px_meaning.proofs.TreeBegins.{Begins}
use Rattle.px_meaning.proofs.TreeEvents.{some_pick}
use Rattle.px_meaning.proofs.FullerTrees.{Splits, runs_to}

module _ {E : Type 0} (seen : Event → E) (bound : Option ℕ) (rest : Rest E) (P : TypedProgram) where
  -- ---- each fuller call is a call, or passes what isn't understood

  -- the call as it is, or one that comes to what isn't understood, as t begins
  abbrev Choices : List E → Type 0
  Choices t = Unit {0} ⊎ ((first : List E) × (w : ℕ) × (s : Site) × HeapMap × Begins t first)

  abbrev chosen : (t : List E) → Ending → HeapMap → Choices t → Exits E
  chosen t ending end (inl u) = closes t ending end
  chosen t ending end (inr (first, w, s, there, b)) = closes first (Failed (outside w) s) there

  module _ (f : ℕ) (t : List E) (ending : Ending) (end : HeapMap) where
    whole : (a : List E) → t ≡ a → Begins t a
    whole a e = ([], e ∙ sym (append-nil a))

    exits_to : (a : List E) (x : Exit) (l : Locals) (h : HeapMap) → closes_by rest f t ending end a x l h → (q : Begins t a × Choices t) × chosen t ending end q.1 a x l h
    exits_to a falls l h k = ((whole a k.0, inl tt), k)
    exits_to a (returns v) l h k = ((whole a k.0, inl tt), k)
    exits_to a (fails (error kind) site) l h k = ((whole a k.0, inl tt), k)
    exits_to a (fails (outside w) site) l h (more, e, r) = (((more, e), inr (a, w, site, h, (more, e))), (refl, refl, refl))
    exits_to a breaks l h k = absurd k
    exits_to a continues l h k = absurd k

  fuller_splits : (n f : ℕ) (arguments : List Value) (heap : HeapMap) (t : List E) (ending : Ending) (end : HeapMap) → FullerCallsWithin seen bound rest P n f arguments heap t ending end →
      Splits (Unit {0}) ⊥ (TreeCallsWithin seen bound P n) f arguments heap t ending end
  fuller_splits zero f arguments heap t ending end c = absurd c
  fuller_splits (suc n) f arguments heap t ending end c =
      let (q, r) = some_pick (Begins t [] × Choices t) (P.procedures f)
      (λ p. Executes seen P.types (FullerCallsWithin seen bound rest P n) bound n p.body (first_locals arguments) [] heap (closes_by rest f t ending end))
      (λ q p. Executes seen P.types (TreeCallsWithin seen bound P n) bound n p.body (first_locals arguments) [] heap (chosen t ending end q.1))
      (λ p. runs_to seen P.types (FullerCallsWithin seen bound rest P n) (TreeCallsWithin seen bound P n) t (Choices t) (Unit {0}) ⊥ (fuller_splits n) bound n p.body (first_locals arguments) [] heap
      (closes_by rest f t ending end) (chosen t ending end) (exits_to f t ending end)
      (λ l. record {
        to = λ a kind site h k. exits_to f t ending end a (fails kind site) l h k;
        cut = λ m a w site h b. (inr (a, w, site, h, b), (refl, refl, refl));
        never = λ none a w site h k. none;
      })) c in
      by q.1 r
    where
      by : (z : Choices t) → IsSomeAnd (P.procedures f) (λ p. Executes seen P.types (TreeCallsWithin seen bound P n) bound n p.body (first_locals arguments) [] heap (chosen t ending end z)) →
          Splits (Unit {0}) ⊥ (TreeCallsWithin seen bound P (suc n)) f arguments heap t ending end
      by (inl u) r = inl r
      by (inr (first, w, s, there, (more, e))) r = inr (inl (tt, (first, more, w, s, there, e, r)))

  -- ---- each call that is understood is a fuller one

  abbrev Halted : Ending → Type 0
  Halted ending = (w : ℕ) × (s : Site) × (ending ≡ Failed (outside w) s)

  understood : (ending : Ending) → IsUnderstood ending ⊎ Halted ending
  understood (Returned v) = inl tt
  understood (Failed (error kind) s) = inl tt
  understood (Failed (outside w) s) = inr (w, s, refl)

  module _ (f : ℕ) (t : List E) (ending : Ending) (end : HeapMap) (is : IsUnderstood ending) where
    not_halted : (w : ℕ) (s : Site) → ending ≡ Failed (outside w) s → ⊥
    not_halted w s e = subst IsUnderstood e is

    exits_on : (a : List E) (x : Exit) (l : Locals) (h : HeapMap) → closes t ending end a x l h → (q : Begins t a × Unit {0}) × closes_by rest f t ending end a x l h
    exits_on a falls l h k = ((whole f t ending end a k.0, tt), k)
    exits_on a (returns v) l h k = ((whole f t ending end a k.0, tt), k)
    exits_on a (fails (error kind) site) l h k = ((whole f t ending end a k.0, tt), k)
    exits_on a (fails (outside w) site) l h k = absurd (not_halted w site k.1)
    exits_on a breaks l h k = absurd k
    exits_on a continues l h k = absurd k

  abbrev TreeSplits : ℕ → Type 0
  TreeSplits n = (f : ℕ) (arguments : List Value) (heap : HeapMap) (t : List E) (ending : Ending) (end : HeapMap) → TreeCallsWithin seen bound P n f arguments heap t ending end →
      Splits ⊥ (Unit {0}) (FullerCallsWithin seen bound rest P n) f arguments heap t ending end

  tree_step : (n : ℕ) → TreeSplits n → TreeSplits (suc n)
  tree_step n inner f arguments heap t ending end c = by (understood ending)
    where
      by : IsUnderstood ending ⊎ Halted ending → Splits ⊥ (Unit {0}) (FullerCallsWithin seen bound rest P (suc n)) f arguments heap t ending end
      by (inl is) =
          let (q, r) = some_pick (Begins t [] × Unit {0}) (P.procedures f)
          (λ p. Executes seen P.types (TreeCallsWithin seen bound P n) bound n p.body (first_locals arguments) [] heap (closes t ending end))
          (λ q p. Executes seen P.types (FullerCallsWithin seen bound rest P n) bound n p.body (first_locals arguments) [] heap (closes_by rest f t ending end))
          (λ p. runs_to seen P.types (TreeCallsWithin seen bound P n) (FullerCallsWithin seen bound rest P n) t (Unit {0}) ⊥ (Unit {0}) inner bound n p.body (first_locals arguments) [] heap
          (closes t ending end) (λ z. closes_by rest f t ending end) (exits_on f t ending end is)
          (λ l. record {
            to = λ a kind site h k. exits_on f t ending end is a (fails kind site) l h k;
            cut = λ none a w site h b. absurd none;
            never = λ m a w site h k. not_halted f t ending end is w site k.1;
          })) c in
          inl r
      by (inr halted) = inr (inr (tt, halted))

  tree_splits : (n : ℕ) → TreeSplits n
  tree_splits zero f arguments heap t ending end c = absurd c
  tree_splits (suc n) f arguments heap t ending end c = tree_step n (tree_splits n) f arguments heap t ending end c

  pub fuller_is : (f : ℕ) (arguments : List Value) (heap : HeapMap) (t : List E) (ending : Ending) (end : HeapMap) → SeenFullerCalls seen bound rest P f arguments heap t ending end →
      SeenTreeCalls seen bound P f arguments heap t ending end
      ⊎ ((first : List E) × (more : List E) × (w : ℕ) × (s : Site) × (there : HeapMap) × (t ≡ first ++ more) × SeenTreeCalls seen bound P f arguments heap first (Failed (outside w) s) there)
  fuller_is f arguments heap t ending end (n, c) = by (fuller_splits n f arguments heap t ending end c)
    where
      by : Splits (Unit {0}) ⊥ (TreeCallsWithin seen bound P n) f arguments heap t ending end →
          SeenTreeCalls seen bound P f arguments heap t ending end
          ⊎ ((first : List E) × (more : List E) × (w : ℕ) × (s : Site) × (there : HeapMap) × (t ≡ first ++ more) × SeenTreeCalls seen bound P f arguments heap first (Failed (outside w) s) there)
      by (inl d) = inl (n, d)
      by (inr (inl (m, (first, more, w, s, there, e, d)))) = inr (first, more, w, s, there, e, (n, d))
      by (inr (inr (none, halted))) = absurd none

  pub fuller_keeps : (f : ℕ) (arguments : List Value) (heap : HeapMap) (t : List E) (ending : Ending) (end : HeapMap) → SeenTreeCalls seen bound P f arguments heap t ending end → IsUnderstood ending →
      SeenFullerCalls seen bound rest P f arguments heap t ending end
  fuller_keeps f arguments heap t ending end (n, c) is = by (tree_splits n f arguments heap t ending end c)
    where
      by : Splits ⊥ (Unit {0}) (FullerCallsWithin seen bound rest P n) f arguments heap t ending end → SeenFullerCalls seen bound rest P f arguments heap t ending end
      by (inl d) = (n, d)
      by (inr (inl (none, cut))) = absurd none
      by (inr (inr (u, (w, s, e)))) = absurd (subst IsUnderstood e is)

-- ---- the law

few : (t first more : List Mark) → t ≡ first ++ more → length t ≤ most_marks → length first ≤ most_marks
few t first more e l = let q : length t ≡ length first + length more = ap length e ∙ length-append first more in omega arith

pub fuller_meanings : (rest : Rest Mark) → FullerMeanings rest
fuller_meanings rest = record {
  same_or_passes = λ P f arguments heap t ending end c. elim (fuller_is mark_of None rest P f arguments heap t ending end c) [
    | inl d ↦ inl d
    | inr (first, more, w, s, there, e, d) ↦ inr (record { first = first; more = more; word = w; site = s; there = there; comes = d; begins = e })
  ];
  bounded = λ bound P f arguments heap t ending end c. elim (fuller_is mark_of (Some bound) rest P f arguments heap t ending end c.0) [
    | inl d ↦ inl (d, c.1)
    | inr (first, more, w, s, there, e, d) ↦ inr (record { first = first; more = more; word = w; site = s; there = there; comes = (d, few t first more e c.1); begins = e })
  ];
  keeps = λ P f arguments heap t ending end c is. fuller_keeps mark_of None rest P f arguments heap t ending end c is;
  manifest = λ P f parameters bug m arguments heap calling.
      let (heap', c) = m arguments heap calling in (heap', fuller_keeps mark_of None rest P f arguments heap bug.trace (Failed (error bug.kind) bug.site) heap' c tt);
}
