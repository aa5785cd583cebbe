-- Executions that are seen in one way, in another.
use Rattle.std.proofs.Common.{◌≡◌, ℕ, zero, suc, Option, Some, None, List, [], ◌∷◌, ◌++◌, map, refl, sym, ap₂, ◌∙◌, subst, IsSomeAnd}
use Rattle.std.proofs.lemmas.List.{map-append}
use Rattle.px_core.specs.BodyTree.{BodyTree}
use Rattle.px_meaning.specs.Values.{Value}
use Rattle.px_meaning.specs.Heaps.{HeapMap}
use Rattle.px_meaning.specs.Calls.{Ending}
use Rattle.px_meaning.specs.Events.{Event, mark_of}
use Rattle.px_core.specs.Control.{Item, acts}
use Rattle.px_meaning.specs.Steps.{Next, Goes, Ends}
use Rattle.px_meaning.specs.CoreCalls.{CoreProgram, Behind, Runs, CallsWithin, SeenCalls, after, first_slots}
use Rattle.px_meaning.proofs.Steps.{Across, step_across}
use Rattle.px_meaning.proofs.Determined.{after-append}
use Rattle.px_meaning.proofs.Chosen.{step_chosen}

module _ {E E' : Type 0} (seen : Event → E) (seen' : Event → E') (Same : List E → List E' → Type 0) (across : Across seen seen' Same) (bound : Option ℕ) (P : CoreProgram) where
  after_across : (s a : List E) (s' a' : List E') → Same s s' → Same a a' → Same (after s a) (after s' a')
  after_across s a s' a' p q = subst (λ u. Same u (after s' a')) (sym (after-append s a)) (subst (λ u. Same (s ++ a) u) (sym (after-append s' a')) (across.join s a s' a' p q))

  abbrev On : ℕ → List E → Ending → HeapMap → List Item → List Value → HeapMap → List E → Type 0
  On n t ending end k slots heap so_far = Runs seen bound P n k slots heap so_far t ending end

  abbrev On' : ℕ → List E' → Ending → HeapMap → List Item → List Value → HeapMap → List E' → Type 0
  On' n t ending end k slots heap so_far = Runs seen' bound P n k slots heap so_far t ending end

  abbrev Crosses : ℕ → List E → Ending → HeapMap → Type 0
  Crosses n t ending end = (k : List Item) (slots : List Value) (heap : HeapMap) (so_far : List E) (so_far' : List E') → Same so_far so_far' →
      Runs seen bound P n k slots heap so_far t ending end → (t' : List E') × Same t t' × Runs seen' bound P n k slots heap so_far' t' ending end

  behind_across : (n : ℕ) (t : List E) (ending : Ending) (end : HeapMap) → Crosses n t ending end → (so_far : List E) (so_far' : List E') → Same so_far so_far' →
      (a : List E) (a' : List E') (x : Next) → Same a a' → Behind (On n t ending end) so_far t ending end a x →
      (w : (t' : List E') × Same t t') × Behind (On' n w.0 ending end) so_far' w.0 ending end a' x
  behind_across n t ending end crosses so_far so_far' same a a' (Goes k slots heap) p h =
      let (t', tt', r) = crosses k slots heap (after so_far a) (after so_far' a') (after_across so_far a so_far' a' same p) h in ((t', tt'), r)
  behind_across n t ending end crosses so_far so_far' same a a' (Ends ending' heap) p h =
      ((after so_far' a', subst (λ u. Same u (after so_far' a')) (sym h.0) (after_across so_far a so_far' a' same p)), (refl, h.1, h.2))

  called : (n : ℕ) (o : Option BodyTree) (arguments : List Value) (heap : HeapMap) (t : List E) (ending : Ending) (end : HeapMap) → Crosses n t ending end →
      IsSomeAnd o (λ b. Runs seen bound P n (acts b.commands []) (first_slots b.slots arguments) heap [] t ending end) →
      (t' : List E') × Same t t' × IsSomeAnd o (λ b. Runs seen' bound P n (acts b.commands []) (first_slots b.slots arguments) heap [] t' ending end)
  called n None arguments heap t ending end crosses c = absurd c
  called n (Some b) arguments heap t ending end crosses c = crosses (acts b.commands []) (first_slots b.slots arguments) heap [] [] across.none c

  pub runs_across : (n : ℕ) (t : List E) (ending : Ending) (end : HeapMap) → Crosses n t ending end
  runs_across zero t ending end k slots heap so_far so_far' same h = absurd h
  runs_across (suc n) t ending end [] slots heap so_far so_far' same h = (so_far', subst (λ u. Same u so_far') (sym h.0) same, (refl, h.1, h.2))
  runs_across (suc n) t ending end (i ∷ k) slots heap so_far so_far' same h =
      let (w, h') = step_chosen seen' P.types (CallsWithin seen' bound P n) ((t' : List E') × Same t t') (λ w. Behind (On' n w.0 ending end) so_far' w.0 ending end) bound i k slots heap
      (step_across seen seen' Same across P.types (CallsWithin seen bound P n) (CallsWithin seen' bound P n)
      (λ f arguments heap t ending end c. called n (P.bodies f) arguments heap t ending end (runs_across n t ending end) c)
      (Behind (On n t ending end) so_far t ending end) (λ a' x. (w : (t' : List E') × Same t t') × Behind (On' n w.0 ending end) so_far' w.0 ending end a' x)
      (λ a a' x p h. behind_across n t ending end (runs_across n t ending end) so_far so_far' same a a' x p h)
      bound bound (λ made h. h) i k slots heap h) in
      (w.0, w.1, h')

  pub calls_across : (f : ℕ) (arguments : List Value) (heap : HeapMap) (t : List E) (ending : Ending) (end : HeapMap) →
      SeenCalls seen bound P f arguments heap t ending end → (t' : List E') × Same t t' × SeenCalls seen' bound P f arguments heap t' ending end
  calls_across f arguments heap t ending end (n, c) =
      let (t', same, c') = called n (P.bodies f) arguments heap t ending end (runs_across n t ending end) c in (t', same, (n, c'))

-- events have marks
pub to_marks : Across (λ (e : Event). e) mark_of (λ events t. map mark_of events ≡ t)
to_marks = record {
  none = refl;
  one = λ e. refl;
  join = λ a b a' b' p q. map-append mark_of a b ∙ ap₂ (λ x y. x ++ y) p q;
}

-- marks are those of events
pub to_events : Across mark_of (λ (e : Event). e) (λ t events. map mark_of events ≡ t)
to_events = record {
  none = refl;
  one = λ e. refl;
  join = λ a b a' b' p q. map-append mark_of a' b' ∙ ap₂ (λ x y. x ++ y) p q;
}
