-- Executions from one state that go on in the same way are one.
use Rattle.std.proofs.Common.{◌≡◌, ℕ, zero, suc, Option, Some, None, List, [], ◌∷◌, ◌++◌, length, refl, sym, ap, ◌∙◌, subst, IsSomeAnd, append_assoc, append-nil}
use Rattle.std.proofs.lemmas.List.{append_cancel_left}
use Rattle.px_core.specs.BodyTree.{BodyTree}
use Rattle.px_meaning.specs.Values.{Value}
use Rattle.px_meaning.specs.Heaps.{HeapMap}
use Rattle.px_meaning.specs.Calls.{Ending}
use Rattle.px_meaning.specs.Events.{Event}
use Rattle.px_core.specs.Control.{Item, acts}
use Rattle.px_meaning.specs.Steps.{Next, Goes, Ends}
use Rattle.px_meaning.specs.CoreCalls.{CoreProgram, Behind, Runs, CallsWithin, CoreEvents, after, first_slots}
use Rattle.px_meaning.proofs.Taken.{step_to}
use Rattle.px_meaning.proofs.Pairs.{Alike, Agree, step_pair}

pub after-append : {E : Type 0} (so_far a : List E) → after so_far a ≡ so_far ++ a
after-append so_far [] = sym (append-nil so_far)
after-append so_far (e ∷ a) = after-append (so_far ++ e ∷ []) a ∙ append_assoc so_far (e ∷ []) a

pub length-first_slots : (n : ℕ) (arguments : List Value) → length (first_slots n arguments) ≡ n
length-first_slots zero arguments = refl
length-first_slots (suc n) [] = ap suc (length-first_slots n [])
length-first_slots (suc n) (a ∷ arguments) = ap suc (length-first_slots n arguments)

module _ {E : Type 0} (seen : Event → E) (bound : Option ℕ) (P : CoreProgram) where
  abbrev Then : ℕ → List E → Ending → HeapMap → List Item → List Value → HeapMap → List E → Type 0
  Then n t ending end k slots heap so_far = Runs seen bound P n k slots heap so_far t ending end

  after_begins : (n : ℕ) (so_far t : List E) (ending : Ending) (end : HeapMap) →
      ((k : List Item) (slots : List Value) (heap : HeapMap) (so_far : List E) → Runs seen bound P n k slots heap so_far t ending end → (r : List E) × (t ≡ so_far ++ r)) →
      (a : List E) (x : Next) → Behind (Then n t ending end) so_far t ending end a x → (r : List E) × (t ≡ so_far ++ (a ++ r))
  after_begins n so_far t ending end begins a (Goes k slots heap) h =
      let (r, e) = begins k slots heap (after so_far a) h in
      (r, e ∙ (ap (λ s. s ++ r) (after-append so_far a) ∙ append_assoc so_far a r))
  after_begins n so_far t ending end begins a (Ends ending' heap) h =
      ([], h.0 ∙ (after-append so_far a ∙ ap (λ s. so_far ++ s) (sym (append-nil a))))

  -- what was seen so far is the beginning of the whole
  pub runs_begin : (n : ℕ) (k : List Item) (slots : List Value) (heap : HeapMap) (so_far t : List E) (ending : Ending) (end : HeapMap) →
      Runs seen bound P n k slots heap so_far t ending end → (r : List E) × (t ≡ so_far ++ r)
  runs_begin zero k slots heap so_far t ending end h = absurd h
  runs_begin (suc n) [] slots heap so_far t ending end h = ([], h.0 ∙ sym (append-nil so_far))
  runs_begin (suc n) (i ∷ k) slots heap so_far t ending end h =
      step_to seen P.types (CallsWithin seen bound P n) (Behind (Then n t ending end) so_far t ending end) ((r : List E) × (t ≡ so_far ++ r))
      (λ a x h. let (r, e) = after_begins n so_far t ending end (λ k slots heap so_far. runs_begin n k slots heap so_far t ending end) a x h in (a ++ r, e))
      bound i k slots heap h

  pub after_begin : (n : ℕ) (so_far t : List E) (ending : Ending) (end : HeapMap) (a : List E) (x : Next) →
      Behind (Then n t ending end) so_far t ending end a x → (r : List E) × (t ≡ so_far ++ (a ++ r))
  after_begin n so_far t ending end = after_begins n so_far t ending end (λ k slots heap so_far. runs_begin n k slots heap so_far t ending end)

module _ (P : CoreProgram) where
  abbrev see : Event → Event
  see e = e

  abbrev Runs' : ℕ → List Event → Ending → HeapMap → List Item → List Value → HeapMap → List Event → Type 0
  Runs' n t ending end k slots heap so_far = Runs see None P n k slots heap so_far t ending end

  -- the whole and the ending are the same
  abbrev Same : List Event → List Event → List Event → List Event → Ending → Ending → HeapMap → HeapMap → Type 0
  Same s t p q d e m n = (s ≡ t) × (p ≡ q) × (d ≡ e) × (m ≡ n)

  abbrev AgreeFor : ℕ → ℕ → Type 0
  AgreeFor i j = (k : List Item) (slots : List Value) (heap : HeapMap) (so_far s t : List Event) (d e : Ending) (m n : HeapMap) →
      Runs see None P i k slots heap so_far s d m → Runs see None P j k slots heap so_far t e n → (p q : List Event) → s ++ p ≡ t ++ q → Same s t p q d e m n

  after_agree : (i j : ℕ) → AgreeFor i j → (so_far s t : List Event) (d e : Ending) (m n : HeapMap) (a : List Event) (x : Next) →
      Behind (Runs' i s d m) so_far s d m a x → Behind (Runs' j t e n) so_far t e n a x → (p q : List Event) → s ++ p ≡ t ++ q → Same s t p q d e m n
  after_agree i j agree so_far s t d e m n a (Goes k slots heap) h h' p q eq = agree k slots heap (after so_far a) s t d e m n h h' p q eq
  after_agree i j agree so_far s t d e m n a (Ends ending heap) (s1, d1, m1) (t1, e1, n1) p q eq =
      let st : s ≡ t = s1 ∙ sym t1 in
      (st, append_cancel_left s p q (eq ∙ ap (λ u. u ++ q) (sym st)), d1 ∙ sym e1, m1 ∙ sym n1)

  alike_agree : (i j : ℕ) → AgreeFor i j → (so_far s t : List Event) (d e : Ending) (m n : HeapMap) →
      Alike (Behind (Runs' i s d m) so_far s d m) (Behind (Runs' j t e n) so_far t e n) → (p q : List Event) → s ++ p ≡ t ++ q → Same s t p q d e m n
  alike_agree i j agree so_far s t d e m n (a, b, x, y, h, h', same) p q eq =
      let (r, s1) = after_begin see None P i so_far s d m a x h in
      let (r', t1) = after_begin see None P j so_far t e n b y h' in
      let joined : so_far ++ (a ++ (r ++ p)) ≡ so_far ++ (b ++ (r' ++ q)) =
      sym (whole so_far a r p) ∙ (ap (λ u. u ++ p) (sym s1) ∙ (eq ∙ (ap (λ u. u ++ q) t1 ∙ whole so_far b r' q))) in
      let (ab, rest, xy) = same (r ++ p) (r' ++ q) (append_cancel_left so_far (a ++ (r ++ p)) (b ++ (r' ++ q)) joined) in
      after_agree i j agree so_far s t d e m n a x h
      (subst (λ u. Behind (Runs' j t e n) so_far t e n u x) (sym ab) (subst (λ z. Behind (Runs' j t e n) so_far t e n b z) (sym xy) h')) p q eq
    where
      whole : (so_far a r p : List Event) → (so_far ++ (a ++ r)) ++ p ≡ so_far ++ (a ++ (r ++ p))
      whole so_far a r p = append_assoc so_far (a ++ r) p ∙ ap (λ u. so_far ++ u) (append_assoc a r p)

  calls_agree : (i j : ℕ) → AgreeFor i j → Agree (CallsWithin see None P i) (CallsWithin see None P j)
  calls_agree i j agree f arguments heap s t d e m n c c' p q eq = go (P.bodies f) c c'
    where
      go : (o : Option BodyTree) →
          IsSomeAnd o (λ b. Runs see None P i (acts b.commands []) (first_slots b.slots arguments) heap [] s d m) →
          IsSomeAnd o (λ b. Runs see None P j (acts b.commands []) (first_slots b.slots arguments) heap [] t e n) → Same s t p q d e m n
      go None c c' = absurd c
      go (Some b) c c' = agree (acts b.commands []) (first_slots b.slots arguments) heap [] s t d e m n c c' p q eq

  runs_agree : (i j : ℕ) → AgreeFor i j
  runs_agree zero j k slots heap so_far s t d e m n h h' p q eq = absurd h
  runs_agree (suc i) zero k slots heap so_far s t d e m n h h' p q eq = absurd h'
  runs_agree (suc i) (suc j) [] slots heap so_far s t d e m n (s1, d1, m1) (t1, e1, n1) p q eq =
      let st : s ≡ t = s1 ∙ sym t1 in
      (st, append_cancel_left s p q (eq ∙ ap (λ u. u ++ q) (sym st)), d1 ∙ sym e1, m1 ∙ sym n1)
  runs_agree (suc i) (suc j) (c ∷ k) slots heap so_far s t d e m n h h' p q eq =
      alike_agree i j (runs_agree i j) so_far s t d e m n
      (step_pair P.types (CallsWithin see None P i) (CallsWithin see None P j) (calls_agree i j (runs_agree i j))
      (Behind (Runs' i s d m) so_far s d m) (Behind (Runs' j t e n) so_far t e n) None None c k slots heap h h')
      p q eq

  pub events_agree : Agree (CoreEvents P) (CoreEvents P)
  events_agree f arguments heap s t d e m n (i, c) (j, c') p q eq = calls_agree i j (runs_agree i j) f arguments heap s t d e m n c c' p q eq
