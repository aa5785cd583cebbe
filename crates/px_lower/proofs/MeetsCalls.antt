-- Calls: by the depth of the tree's, and by the steps of the machine's.
use Rattle.std.proofs.Common.{◌≡◌, ℕ, zero, suc, ◌<◌, ◌≤◌, true, List, [], ◌∷◌, ◌++◌, Option, None, Some, IsSomeAnd, option_map, refl, arith, le_refl, le_trans}
use Rattle.px_base.specs.declared.trace.MarkKind.TheVariants.{Iter}
use Rattle.px_syntax.specs.ProgramTree.{ProcedureTree}
use Rattle.px_meaning.specs.Values.{Value}
use Rattle.px_meaning.specs.Heaps.{HeapMap}
use Rattle.px_meaning.specs.Calls.{Ending}
use Rattle.px_meaning.specs.Execution.{Locals}
use Rattle.px_meaning.specs.Events.{Event}
use Rattle.px_meaning.specs.Operations.{value_at}
use Rattle.px_core.specs.Control.{Item, AfterHead, AfterBody, Turns, acts, one_turn_more}
use Rattle.px_meaning.specs.Steps.{Next, Goes, Ends, ProcedureCalls, marking, Allows, step}
use Rattle.px_meaning.specs.CoreCalls.{CoreProgram, first_slots, Behind, Runs, CallsWithin, SeenCalls}
use Rattle.px_meaning.specs.TypedProgram.{TypedProgram}
use Rattle.px_meaning.specs.TreeExecution.{Exit, falls, breaks, continues, returns, fails, Executes}
use Rattle.px_meaning.specs.TreeCalls.{first_locals, closes, TreeCallsWithin}
use Rattle.px_meaning.proofs.MoreSteps.{step_more}
use Rattle.px_meaning.proofs.Chosen.{step_chosen}
use Rattle.px_meaning.proofs.OneMore.{one_more}
use Rattle.px_meaning.proofs.Determined.{length-first_slots}
use Rattle.px_lower.specs.LoweredProgram.{locals_of, lowered, lowered_program}
use Rattle.px_lower.specs.Scopes.{IsStatementWithin, KeepsScopes}
use Rattle.px_lower.proofs.Ways.{down, up, Meets, same}
use Rattle.px_lower.proofs.Slots.{Agrees}
use Rattle.px_lower.proofs.Numbers.{grows_statement}
use Rattle.px_lower.proofs.MeetsStatements.{one_less, ComesTo, of_statement}

begun : (n : ℕ) (arguments : List Value) (i : ℕ) → i < n → value_at (first_slots n arguments) i ≡ first_locals arguments i
begun zero arguments i h = absurd (omega arith)
begun (suc n) [] zero h = refl
begun (suc n) [] (suc i) h = begun n [] i (omega arith)
begun (suc n) (a ∷ arguments) zero h = refl
begun (suc n) (a ∷ arguments) (suc i) h = begun n arguments i (omega arith)

pub first_agree : (N m : ℕ) (arguments : List Value) → m ≤ N → Agrees N m (first_locals arguments) (first_slots N arguments)
first_agree N m arguments le = record { sized = length-first_slots N arguments; agree = λ i h. begun N arguments i (let q : i < N = omega arith in q) }

less_less : (j : ℕ) → one_less j ≤ j
less_less zero = le_refl 0
less_less (suc j) = omega arith

module _ {E : Type 0} (seen : Event → E) (bound : Option ℕ) (P : TypedProgram) (scopes : KeepsScopes P) where
  abbrev Q : CoreProgram
  Q = lowered_program P

  module _ (t : List E) (ending : Ending) (end : HeapMap) where
    -- ---- down from the tree: in any number of steps

    abbrev Reaches : ℕ → List Item → List Value → HeapMap → List E → Type 0
    Reaches j k slots heap so_far = (i : ℕ) × Runs seen bound Q i k slots heap so_far t ending end

    abbrev On : ℕ → List Item → List Value → HeapMap → List E → Type 0
    On i k slots heap so_far = Runs seen bound Q i k slots heap so_far t ending end

    counted : (so_far : List E) (a : List E) (next : Next) → Behind (Reaches 0) so_far t ending end a next → (i : ℕ) × Behind (On i) so_far t ending end a next
    counted so_far a (Goes k slots heap) h = h
    counted so_far a (Ends e heap) h = (0, h)

    reaches : (j : ℕ) (x : Item) (k : List Item) (slots : List Value) (heap : HeapMap) (so_far : List E) →
        Meets down (Reaches j (x ∷ k) slots heap so_far) (step seen bound Q.types (SeenCalls seen bound Q) x k slots heap (Behind (Reaches j) so_far t ending end))
    reaches j x k slots heap so_far = record {
      leads = λ h.
          let one = step_more seen Q.types bound bound (SeenCalls seen bound Q) (SeenCalls seen bound Q) (λ made a. a) (λ f arguments heap t ending end c. c)
          (Behind (Reaches 0) so_far t ending end) (λ a next. (i : ℕ) × Behind (On i) so_far t ending end a next) (counted so_far) x k slots heap h in
          let (i, some) = step_chosen seen Q.types (SeenCalls seen bound Q) ℕ (λ i. Behind (On i) so_far t ending end) bound x k slots heap one in
          one_more seen bound Q i x k slots heap so_far t ending end some;
    }

    -- ---- up from the machine: in at most j steps, of which there are at most d

    module _ (d : ℕ) where
      abbrev Within : ℕ → List Item → List Value → HeapMap → List E → Type 0
      Within j k slots heap so_far = (i : ℕ) × (i ≤ j) × (i ≤ d) × Runs seen bound Q i k slots heap so_far t ending end

      abbrev Inner : ProcedureCalls E
      Inner f arguments heap t ending end = (i : ℕ) × (i < d) × CallsWithin seen bound Q i f arguments heap t ending end

      within : (j i : ℕ) → i ≤ j → i ≤ d → (so_far : List E) (a : List E) (next : Next) → Behind (On i) so_far t ending end a next → Behind (Within j) so_far t ending end a next
      within j i le led so_far a (Goes k slots heap) h = (i, le, led, h)
      within j i le led so_far a (Ends e heap) h = h

      taken : (j i : ℕ) → i ≤ j → i ≤ d → (x : Item) (k : List Item) (slots : List Value) (heap : HeapMap) (so_far : List E) → Runs seen bound Q i (x ∷ k) slots heap so_far t ending end →
          step seen bound Q.types Inner x k slots heap (Behind (Within j) so_far t ending end)
      taken j zero le led x k slots heap so_far h = absurd h
      taken j (suc i) le led x k slots heap so_far h =
          step_more seen Q.types bound bound (CallsWithin seen bound Q i) Inner (λ made a. a) (λ f arguments heap t ending end c. (i, (let q : i < d = omega arith in q), c))
          (Behind (On i) so_far t ending end) (Behind (Within j) so_far t ending end) (within j i (omega arith) (omega arith) so_far) x k slots heap h

      takes : (j : ℕ) (x : Item) (k : List Item) (slots : List Value) (heap : HeapMap) (so_far : List E) →
          Meets up (Within j (x ∷ k) slots heap so_far) (step seen bound Q.types Inner x k slots heap (Behind (Within j) so_far t ending end))
      takes j x k slots heap so_far = record { leads = λ (i, le, led, h). taken j i le led x k slots heap so_far h }

      turned : (j i : ℕ) → i ≤ j → i ≤ d → (l : Turns) (k : List Item) (slots : List Value) (heap : HeapMap) (so_far : List E) → Runs seen bound Q i (AfterHead l ∷ k) slots heap so_far t ending end →
          Allows bound l.made × Within (one_less j) (acts l.body (AfterBody (one_turn_more l) ∷ k)) slots heap (so_far ++ marking seen Iter l.site)
      turned j zero le led l k slots heap so_far h = absurd h
      turned zero (suc i) le led l k slots heap so_far h = absurd (omega arith)
      turned (suc j) (suc i) le led l k slots heap so_far h = (h.0, (i, (let q : i ≤ j = omega arith in q), (let q : i ≤ d = omega arith in q), h.1))

      stopped : (j i : ℕ) → i ≤ j → j ≤ 0 → (k : List Item) (slots : List Value) (heap : HeapMap) (so_far : List E) → Runs seen bound Q i k slots heap so_far t ending end → ⊥
      stopped j zero le none k slots heap so_far h = h
      stopped j (suc i) le none k slots heap so_far h = absurd (omega arith)

      ended : (i : ℕ) (slots : List Value) (heap : HeapMap) (so_far : List E) → Runs seen bound Q i [] slots heap so_far t ending end → closes t ending end so_far falls (first_locals []) heap
      ended zero slots heap so_far h = absurd h
      ended (suc i) slots heap so_far h = h

  -- a body's exits, where nothing stands after it
  exits_down : (t : List E) (ending : Ending) (end : HeapMap) (N m j : ℕ) (so_far : List E) (x : Exit) (locals : Locals) (heap : HeapMap) (slots : List Value) →
      Meets down (ComesTo t ending end (Reaches t ending end) j [] slots so_far x heap) (closes t ending end so_far x locals heap)
  exits_down t ending end N m j so_far falls locals heap slots = record { leads = λ h. (1, h) }
  exits_down t ending end N m j so_far breaks locals heap slots = same down
  exits_down t ending end N m j so_far continues locals heap slots = same down
  exits_down t ending end N m j so_far (returns v) locals heap slots = same down
  exits_down t ending end N m j so_far (fails kind site) locals heap slots = same down

  down_body : (n : ℕ) → ((f : ℕ) (arguments : List Value) (heap : HeapMap) (t : List E) (ending : Ending) (end : HeapMap) → TreeCallsWithin seen bound P n f arguments heap t ending end → SeenCalls seen bound Q f arguments heap t ending end) →
      (p : ProcedureTree) → IsStatementWithin (locals_of p) true p.body → (arguments : List Value) (heap : HeapMap) (t : List E) (ending : Ending) (end : HeapMap) →
      Executes seen P.types (TreeCallsWithin seen bound P n) bound n p.body (first_locals arguments) [] heap (closes t ending end) →
      (i : ℕ) × Runs seen bound Q i (acts (lowered p).commands []) (first_slots (lowered p).slots arguments) heap [] t ending end
  down_body n deeper p l arguments heap t ending end h =
      let m = locals_of p in
      let N = (lowered p).slots in
      let fits : m ≤ N = grows_statement p.body m in
      (of_statement down seen bound P.types (SeenCalls seen bound Q) (TreeCallsWithin seen bound P n) (λ f arguments heap t ending end. record { leads = deeper f arguments heap t ending end })
      t ending end (Reaches t ending end) (reaches t ending end) (λ j l k slots heap so_far. reaches t ending end j (AfterHead l) k slots heap so_far)
      (λ j k slots heap so_far. same down) (λ j _ k slots heap so_far. record { leads = λ h. absurd h }) N m n fits
      true p.body m l (le_refl m) (le_refl N) 0 tt (first_locals arguments) (first_slots N arguments) [] heap (closes t ending end) [] (first_agree N m arguments fits)
      (λ so_far x locals heap slots _ _. exits_down t ending end N m 0 so_far x locals heap slots)).leads h

  down_at : (n : ℕ) → ((f : ℕ) (arguments : List Value) (heap : HeapMap) (t : List E) (ending : Ending) (end : HeapMap) → TreeCallsWithin seen bound P n f arguments heap t ending end → SeenCalls seen bound Q f arguments heap t ending end) →
      (o : Option ProcedureTree) → ((p : ProcedureTree) → o ≡ Some p → IsStatementWithin (locals_of p) true p.body) → (arguments : List Value) (heap : HeapMap) (t : List E) (ending : Ending) (end : HeapMap) →
      IsSomeAnd o (λ p. Executes seen P.types (TreeCallsWithin seen bound P n) bound n p.body (first_locals arguments) [] heap (closes t ending end)) →
      (i : ℕ) × IsSomeAnd (option_map lowered o) (λ b. Runs seen bound Q i (acts b.commands []) (first_slots b.slots arguments) heap [] t ending end)
  down_at n deeper None l arguments heap t ending end h = absurd h
  down_at n deeper (Some p) l arguments heap t ending end h = down_body n deeper p (l p refl) arguments heap t ending end h

  pub down_calls : (n f : ℕ) (arguments : List Value) (heap : HeapMap) (t : List E) (ending : Ending) (end : HeapMap) → TreeCallsWithin seen bound P n f arguments heap t ending end → SeenCalls seen bound Q f arguments heap t ending end
  down_calls zero f arguments heap t ending end h = absurd h
  down_calls (suc n) f arguments heap t ending end h = down_at n (down_calls n) (P.procedures f) (scopes f) arguments heap t ending end h

  exits_up : (d : ℕ) (t : List E) (ending : Ending) (end : HeapMap) (j : ℕ) (so_far : List E) (x : Exit) (locals : Locals) (heap : HeapMap) (slots : List Value) →
      Meets up (ComesTo t ending end (Within t ending end d) j [] slots so_far x heap) (closes t ending end so_far x locals heap)
  exits_up d t ending end j so_far falls locals heap slots = record { leads = λ (i, _, _, h). ended t ending end d i slots heap so_far h }
  exits_up d t ending end j so_far breaks locals heap slots = same up
  exits_up d t ending end j so_far continues locals heap slots = same up
  exits_up d t ending end j so_far (returns v) locals heap slots = same up
  exits_up d t ending end j so_far (fails kind site) locals heap slots = same up

  up_body : (d : ℕ) → ((f : ℕ) (arguments : List Value) (heap : HeapMap) (t : List E) (ending : Ending) (end : HeapMap) (i : ℕ) → i < d → CallsWithin seen bound Q i f arguments heap t ending end → TreeCallsWithin seen bound P d f arguments heap t ending end) →
      (p : ProcedureTree) → IsStatementWithin (locals_of p) true p.body → (arguments : List Value) (heap : HeapMap) (t : List E) (ending : Ending) (end : HeapMap) (i : ℕ) → i ≤ d →
      Runs seen bound Q i (acts (lowered p).commands []) (first_slots (lowered p).slots arguments) heap [] t ending end →
      Executes seen P.types (TreeCallsWithin seen bound P d) bound d p.body (first_locals arguments) [] heap (closes t ending end)
  up_body d deeper p l arguments heap t ending end i le h =
      let m = locals_of p in
      let N = (lowered p).slots in
      let fits : m ≤ N = grows_statement p.body m in
      (of_statement up seen bound P.types (Inner t ending end d) (TreeCallsWithin seen bound P d) (λ f arguments heap t ending end. record { leads = λ (i, less, c). deeper f arguments heap t ending end i less c })
      t ending end (Within t ending end d) (takes t ending end d) (λ j l k slots heap so_far. record { leads = λ (i, le, led, h). turned t ending end d j i le led l k slots heap so_far h })
      (λ j k slots heap so_far. record { leads = λ (i, le, led, h). (i, le_trans le (less_less j), led, h) }) (λ j none k slots heap so_far. record { leads = λ (i, le, led, h). stopped t ending end d j i le none k slots heap so_far h }) N m d fits
      true p.body m l (le_refl m) (le_refl N) d (le_refl d) (first_locals arguments) (first_slots N arguments) [] heap (closes t ending end) [] (first_agree N m arguments fits)
      (λ so_far x locals heap slots _ _. exits_up d t ending end d so_far x locals heap slots)).leads (i, le, le, h)

  up_at : (d : ℕ) → ((f : ℕ) (arguments : List Value) (heap : HeapMap) (t : List E) (ending : Ending) (end : HeapMap) (i : ℕ) → i < d → CallsWithin seen bound Q i f arguments heap t ending end → TreeCallsWithin seen bound P d f arguments heap t ending end) →
      (o : Option ProcedureTree) → ((p : ProcedureTree) → o ≡ Some p → IsStatementWithin (locals_of p) true p.body) → (arguments : List Value) (heap : HeapMap) (t : List E) (ending : Ending) (end : HeapMap) (i : ℕ) → i ≤ d →
      IsSomeAnd (option_map lowered o) (λ b. Runs seen bound Q i (acts b.commands []) (first_slots b.slots arguments) heap [] t ending end) →
      IsSomeAnd o (λ p. Executes seen P.types (TreeCallsWithin seen bound P d) bound d p.body (first_locals arguments) [] heap (closes t ending end))
  up_at d deeper None l arguments heap t ending end i le h = absurd h
  up_at d deeper (Some p) l arguments heap t ending end i le h = up_body d deeper p (l p refl) arguments heap t ending end i le h

  -- a call of at most d steps has calls that nest at most d deep, and loops that make at most d turns
  pub up_calls : (d f : ℕ) (arguments : List Value) (heap : HeapMap) (t : List E) (ending : Ending) (end : HeapMap) (i : ℕ) → i ≤ d → CallsWithin seen bound Q i f arguments heap t ending end → TreeCallsWithin seen bound P (suc d) f arguments heap t ending end
  up_calls zero f arguments heap t ending end i le h = up_at zero (λ f arguments heap t ending end i less c. absurd (omega arith)) (P.procedures f) (scopes f) arguments heap t ending end i le h
  up_calls (suc d) f arguments heap t ending end i le h =
      up_at (suc d) (λ f arguments heap t ending end i less c. up_calls d f arguments heap t ending end i (omega arith) c) (P.procedures f) (scopes f) arguments heap t ending end i le h
