-- More steps, and wider bounds, allow the same executions.
use Rattle.std.proofs.Common.{◌≡◌, ℕ, zero, suc, ◌≤◌, Option, List, [], ◌∷◌, ◌++◌, refl, subst, ap₂, arith}
use Rattle.px_meaning.specs.Values.{Value, BlockType}
use Rattle.px_meaning.specs.Heaps.{HeapMap}
use Rattle.px_meaning.specs.Calls.{Ending}
use Rattle.px_meaning.specs.Events.{Event}
use Rattle.px_core.specs.Control.{Item, acts}
use Rattle.px_meaning.specs.Steps.{Next, Goes, Ends, Goal, ProcedureCalls, Allows, step}
use Rattle.px_meaning.specs.CoreCalls.{CoreProgram, Behind, Runs, CallsWithin, SeenCalls, after, first_slots}
use Rattle.px_meaning.proofs.Steps.{Across, step_across, some_more}

-- what is seen in one way alone
pub same_across : {E : Type 0} (seen : Event → E) → Across seen seen (λ a b. a ≡ b)
same_across seen = record { none = refl; one = λ e. refl; join = λ a b a' b' p q. ap₂ (λ x y. x ++ y) p q }

-- from one goal to another of the same events
pub step_more : {E : Type 0} (seen : Event → E) (types : List BlockType) (bound bound' : Option ℕ) (calls calls' : ProcedureCalls E)
    (wider : (made : ℕ) → Allows bound made → Allows bound' made)
    (more : (f : ℕ) (arguments : List Value) (heap : HeapMap) (t : List E) (ending : Ending) (end : HeapMap) → calls f arguments heap t ending end → calls' f arguments heap t ending end)
    (K K' : Goal E) (on : (a : List E) (next : Next) → K a next → K' a next)
    (i : Item) (k : List Item) (slots : List Value) (heap : HeapMap) → step seen bound types calls i k slots heap K → step seen bound' types calls' i k slots heap K'
step_more seen types bound bound' calls calls' wider more K K' on i k slots heap h =
    step_across seen seen (λ a b. a ≡ b) (same_across seen) types calls calls' (λ f arguments heap t ending end c. (t, refl, more f arguments heap t ending end c))
    K K' (λ a a' next same h. subst (λ b. K' b next) same (on a next h)) bound bound' wider i k slots heap h

module _ {E : Type 0} (seen : Event → E) (P : CoreProgram) (bound bound' : Option ℕ) (wider : (made : ℕ) → Allows bound made → Allows bound' made) where
  abbrev On : ℕ → List E → Ending → HeapMap → List Item → List Value → HeapMap → List E → Type 0
  On n t ending end k slots heap so_far = Runs seen bound P n k slots heap so_far t ending end

  abbrev On' : ℕ → List E → Ending → HeapMap → List Item → List Value → HeapMap → List E → Type 0
  On' n t ending end k slots heap so_far = Runs seen bound' P n k slots heap so_far t ending end

  after_up : (n m : ℕ) (so_far t : List E) (ending : Ending) (end : HeapMap) →
      ((k : List Item) (slots : List Value) (heap : HeapMap) (so_far : List E) → Runs seen bound P n k slots heap so_far t ending end → Runs seen bound' P m k slots heap so_far t ending end) →
      (a : List E) (next : Next) → Behind (On n t ending end) so_far t ending end a next → Behind (On' m t ending end) so_far t ending end a next
  after_up n m so_far t ending end up a (Goes k slots heap) h = up k slots heap (after so_far a) h
  after_up n m so_far t ending end up a (Ends ending' heap) h = h

  pub runs_up : (n m : ℕ) → n ≤ m → (k : List Item) (slots : List Value) (heap : HeapMap) (so_far t : List E) (ending : Ending) (end : HeapMap) →
      Runs seen bound P n k slots heap so_far t ending end → Runs seen bound' P m k slots heap so_far t ending end
  runs_up zero m le k slots heap so_far t ending end h = absurd h
  runs_up (suc n) zero le k slots heap so_far t ending end h = absurd (omega arith)
  runs_up (suc n) (suc m) le [] slots heap so_far t ending end h = h
  runs_up (suc n) (suc m) le (i ∷ k) slots heap so_far t ending end h =
      step_more seen P.types bound bound' (CallsWithin seen bound P n) (CallsWithin seen bound' P m) wider
      (λ f arguments heap t ending end c. some_more (P.bodies f)
      (λ b. Runs seen bound P n (acts b.commands []) (first_slots b.slots arguments) heap [] t ending end)
      (λ b. Runs seen bound' P m (acts b.commands []) (first_slots b.slots arguments) heap [] t ending end)
      (λ b. runs_up n m (omega arith) (acts b.commands []) (first_slots b.slots arguments) heap [] t ending end) c)
      (Behind (On n t ending end) so_far t ending end) (Behind (On' m t ending end) so_far t ending end)
      (after_up n m so_far t ending end (λ k slots heap so_far. runs_up n m (omega arith) k slots heap so_far t ending end))
      i k slots heap h

  pub calls_up : (n m : ℕ) → n ≤ m → (f : ℕ) (arguments : List Value) (heap : HeapMap) (t : List E) (ending : Ending) (end : HeapMap) →
      CallsWithin seen bound P n f arguments heap t ending end → CallsWithin seen bound' P m f arguments heap t ending end
  calls_up n m le f arguments heap t ending end c = some_more (P.bodies f)
      (λ b. Runs seen bound P n (acts b.commands []) (first_slots b.slots arguments) heap [] t ending end)
      (λ b. Runs seen bound' P m (acts b.commands []) (first_slots b.slots arguments) heap [] t ending end)
      (λ b. runs_up n m le (acts b.commands []) (first_slots b.slots arguments) heap [] t ending end) c

  pub seen_calls_up : (f : ℕ) (arguments : List Value) (heap : HeapMap) (t : List E) (ending : Ending) (end : HeapMap) →
      SeenCalls seen bound P f arguments heap t ending end → SeenCalls seen bound' P f arguments heap t ending end
  seen_calls_up f arguments heap t ending end (n, c) = (n, calls_up n n (omega arith) f arguments heap t ending end c)
