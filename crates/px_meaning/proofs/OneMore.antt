-- A step, with any calls, and the execution after it are an execution. So what builds executions can
-- speak of calls without a number of steps.
use Rattle.std.proofs.Common.{ℕ, suc, ◌+◌, ◌≤◌, Option, List, ◌∷◌, arith}
use Rattle.px_core.specs.CommandTree.{CommandTree, assign, unset, read, test, choose, loop, leave, load, store, malloc, free, input, call, return, break, continue, stop, divide}
use Rattle.px_meaning.specs.Values.{Value}
use Rattle.px_meaning.specs.Heaps.{HeapMap}
use Rattle.px_meaning.specs.Calls.{Ending}
use Rattle.px_meaning.specs.Events.{Event}
use Rattle.px_core.specs.Control.{Item, Act, AfterHead, AfterBody, AfterStep}
use Rattle.px_meaning.specs.Steps.{Next, Goes, Ends, Goal, command, step}
use Rattle.px_meaning.specs.CoreCalls.{CoreProgram, Behind, Runs, CallsWithin, SeenCalls, after}
use Rattle.px_meaning.proofs.MoreSteps.{step_more, runs_up, calls_up}

module _ {E : Type 0} (seen : Event → E) (bound : Option ℕ) (P : CoreProgram) where
  command_counted : (K : Goal E) (c : CommandTree) (k : List Item) (slots : List Value) (heap : HeapMap) →
      command seen P.types (SeenCalls seen bound P) c k slots heap K → (n : ℕ) × command seen P.types (CallsWithin seen bound P n) c k slots heap K
  command_counted K (assign to op a b) k slots heap h = (0, h)
  command_counted K (unset to) k slots heap h = (0, h)
  command_counted K (read slot site) k slots heap h = (0, h)
  command_counted K (test to how a b site) k slots heap h = (0, h)
  command_counted K (choose slot first second) k slots heap h = (0, h)
  command_counted K (loop site head body after_body) k slots heap h = (0, h)
  command_counted K leave k slots heap h = (0, h)
  command_counted K (load to at field block site) k slots heap h = (0, h)
  command_counted K (store at field block from site) k slots heap h = (0, h)
  command_counted K (malloc to block site) k slots heap h = (0, h)
  command_counted K (free at block site) k slots heap h = (0, h)
  command_counted K (input to site) k slots heap h = (0, h)
  command_counted K (call to proc arguments site) k slots heap (w, (t, ending, heap', (n, c), h)) = (n, (w, (t, ending, heap', c, h)))
  command_counted K (return from) k slots heap h = (0, h)
  command_counted K break k slots heap h = (0, h)
  command_counted K continue k slots heap h = (0, h)
  command_counted K (stop word site) k slots heap h = (0, h)
  command_counted K (divide to a b site) k slots heap h = (0, h)

  -- the callee of a step takes some number of steps
  step_counted : (K : Goal E) (i : Item) (k : List Item) (slots : List Value) (heap : HeapMap) →
      step seen bound P.types (SeenCalls seen bound P) i k slots heap K → (n : ℕ) × step seen bound P.types (CallsWithin seen bound P n) i k slots heap K
  step_counted K (Act c) k slots heap h = command_counted K c k slots heap h
  step_counted K (AfterHead l) k slots heap h = (0, h)
  step_counted K (AfterBody l) k slots heap h = (0, h)
  step_counted K (AfterStep l) k slots heap h = (0, h)

  abbrev On : ℕ → List E → Ending → HeapMap → List Item → List Value → HeapMap → List E → Type 0
  On n t ending end k slots heap so_far = Runs seen bound P n k slots heap so_far t ending end

  after_up : (n m : ℕ) → n ≤ m → (so_far t : List E) (ending : Ending) (end : HeapMap) (a : List E) (next : Next) →
      Behind (On n t ending end) so_far t ending end a next → Behind (On m t ending end) so_far t ending end a next
  after_up n m le so_far t ending end a (Goes k slots heap) h = runs_up seen P bound bound (λ made h. h) n m le k slots heap (after so_far a) t ending end h
  after_up n m le so_far t ending end a (Ends ending' heap) h = h

  pub one_more : (n : ℕ) (i : Item) (k : List Item) (slots : List Value) (heap : HeapMap) (so_far t : List E) (ending : Ending) (end : HeapMap) →
      step seen bound P.types (SeenCalls seen bound P) i k slots heap (Behind (On n t ending end) so_far t ending end) →
      (m : ℕ) × Runs seen bound P m (i ∷ k) slots heap so_far t ending end
  one_more n i k slots heap so_far t ending end h =
      let (m, h') = step_counted (Behind (On n t ending end) so_far t ending end) i k slots heap h in (
        suc (m + n),
        step_more seen P.types bound bound (CallsWithin seen bound P m) (CallsWithin seen bound P (m + n)) (λ made h. h)
            (calls_up seen P bound bound (λ made h. h) m (m + n) (omega arith))
            (Behind (On n t ending end) so_far t ending end) (Behind (On (m + n) t ending end) so_far t ending end)
            (after_up n (m + n) (omega arith) so_far t ending end) i k slots heap h',
      )
