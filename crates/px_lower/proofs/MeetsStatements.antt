-- Statements and loops, with any goal and with what is done after them.
use Rattle.std.proofs.Common.{◌≡◌, ◌∙◌, ℕ, zero, suc, ◌<◌, ◌≤◌, Bool, true, false, IsTrue, List, [], ◌∷◌, ◌++◌, Option, None, Some, IsSomeAnd, refl, slice_set, sym, subst, arith, le_refl, le_trans}
use Rattle.std.specs.Prelude.{⊤}
use Rattle.px_base.specs.declared.trace.Site.{Site}
use Rattle.px_base.specs.declared.trace.FieldId.{FieldId}
use Rattle.px_base.specs.declared.trace.MarkKind.TheVariants.{Iter, Done, Access, Freed, FreeNull}
use Rattle.px_base.specs.declared.trace.Kind.TheVariants.{NullDereference, UseAfterFree, DoubleFree}
use Rattle.px_core.specs.declared.command.Operand.{Operand}
use Rattle.px_core.specs.declared.command.Operand.TheVariants as operand
use Rattle.px_core.specs.CommandTree.{CommandTree, assign, unset, store, leave, no_commands, a_command, commands_of}
use Rattle.px_core.specs.CommandTree as command
use Rattle.px_syntax.specs.declared.typed_expression.Arithmetic.{Arithmetic}
use Rattle.px_syntax.specs.TypedTree.{Expression, Expressions, no_expressions, an_expression, Condition, Place, local_place, cell_place, Statement, block, declare, update, run_call, free, input, choose, loop, break, continue, return, evaluate, access, Statements, no_statements, a_statement}
use Rattle.px_syntax.specs.TypedTree as tree
use Rattle.px_meaning.specs.Values.{TypeId, BlockType, Value, Word, Unwritten}
use Rattle.px_meaning.specs.Heaps.{HeapMap, with_block}
use Rattle.px_meaning.specs.Calls.{Halt, error, Ending, Returned, Failed}
use Rattle.px_meaning.specs.Execution.{Locals, with_local}
use Rattle.px_meaning.specs.Events.{Event, reads}
use Rattle.px_meaning.specs.Operations.{operand_value}
use Rattle.px_core.specs.Control.{Item, Act, AfterHead, AfterBody, AfterStep, Turns, acts, one_turn_more, break_to, continue_to}
use Rattle.px_meaning.specs.Steps.{ProcedureCalls, marking, by_pointer, live_block, freed_block, Allows, step}
use Rattle.px_meaning.specs.CoreCalls.{Behind}
use Rattle.px_meaning.specs.TreeExecution.{by_outcome, yes, no, fault, Verdicts, Exit, falls, breaks, continues, returns, fails, Exits, with_fall, behind_body, Stores, Frees, failing, Takes, Declares, Assigns, Updates, Accesses, TestsIf, Loops, GivesBack, Executes, ExecutesAll, Calculates}
use Rattle.px_lower.specs.Lowering.{Lowered, and_then, doing, reached, lowered_expression, lowered_arguments, lowered_passed, lowered_condition, lowered_declaration, lowered_assignment, lowered_update, lowered_access, lowered_head, lowered_return, lowered_statement, lowered_statements, copy, applied, operation, result_slot}
use Rattle.px_lower.specs.Scopes.{IsWithin, AreWithin, IsWithinIf, IsTestWithinIf, IsPlaceWithin, IsStatementWithin, AreStatementsWithin}
use Rattle.px_lower.proofs.Ways.{Way, down, up, Meets, then', with', on_some, on_pointer, on_input}
use Rattle.px_core.proofs.Acts.{break_acts, continue_acts}
use Rattle.px_lower.proofs.Slots.{Kept, Agrees, kept_same, kept_set, kept_then, operand_kept, agrees_kept, agrees_set}
use Rattle.px_lower.proofs.Numbers.{one_more, grows, grows_passed, grows_test, grows_head, grows_statement, grows_statements, operand_below, result_more}
use Rattle.px_lower.proofs.Sequences.{grown}
use Rattle.px_lower.proofs.MeetsExpressions as expression

-- one step less, where there is one
abbrev pub one_less : ℕ → ℕ
one_less zero = zero
one_less (suc n) = n

-- the turns that a loop may make are as many as the steps of the machine; down from the tree, any are
abbrev pub Enough : Way → ℕ → ℕ → Type 0
Enough down j g = Unit {0}
Enough up j g = j ≤ g

pub enough_less : (w : Way) (j g : ℕ) → Enough w j (suc g) → Enough w (one_less j) g
enough_less down j g h = tt
enough_less up zero g h = omega arith
enough_less up (suc j) g h = omega arith

pub enough_still : (w : Way) (j g : ℕ) → Enough w j g → Enough w (one_less j) g
enough_still down j g h = tt
enough_still up zero g h = h
enough_still up (suc j) g h = omega arith

-- a statement whose last command is a `stop` doesn't fall through, and one that isn't to leave a loop doesn't
abbrev pub MayExit : Bool → Option ⊤ → Exit → Type 0
MayExit leaves value falls = value ≡ Some tt
MayExit leaves value breaks = IsTrue leaves
MayExit leaves value continues = IsTrue leaves
MayExit leaves value (returns v) = Unit {0}
MayExit leaves value (fails kind site) = Unit {0}

-- what the machine does where a statement exits so, with k after it
abbrev pub ComesTo : {E : Type 0} → List E → Ending → HeapMap → (ℕ → List Item → List Value → HeapMap → List E → Type 0) → ℕ → List Item → List Value → List E → Exit → HeapMap → Type 0
ComesTo t ending end M j k slots so_far falls heap = M j k slots heap so_far
ComesTo t ending end M j k slots so_far breaks heap = IsSomeAnd (break_to k) (λ p. M j p slots heap so_far)
ComesTo t ending end M j k slots so_far continues heap = IsSomeAnd (continue_to k) (λ p. M j p slots heap so_far)
ComesTo t ending end M j k slots so_far (returns v) heap = (t ≡ so_far) × (ending ≡ Returned v) × (end ≡ heap)
ComesTo t ending end M j k slots so_far (fails kind site) heap = (t ≡ so_far) × (ending ≡ Failed kind site) × (end ≡ heap)

module _ {E : Type 0} (w : Way) (seen : Event → E) (bound : Option ℕ) (types : List BlockType) (ccalls tcalls : ProcedureCalls E)
    (ties : (f : ℕ) (arguments : List Value) (heap : HeapMap) (t : List E) (ending : Ending) (end : HeapMap) → Meets w (ccalls f arguments heap t ending end) (tcalls f arguments heap t ending end))
    (t : List E) (ending : Ending) (end : HeapMap)
    (M : ℕ → List Item → List Value → HeapMap → List E → Type 0)
    (machine : (j : ℕ) (i : Item) (k : List Item) (slots : List Value) (heap : HeapMap) (so_far : List E) →
    Meets w (M j (i ∷ k) slots heap so_far) (step seen bound types ccalls i k slots heap (Behind (M j) so_far t ending end)))
    (iterates : (j : ℕ) (l : Turns) (k : List Item) (slots : List Value) (heap : HeapMap) (so_far : List E) →
    Meets w (M j (AfterHead l ∷ k) slots heap so_far) (Allows bound l.made × M (one_less j) (acts l.body (AfterBody (one_turn_more l) ∷ k)) slots heap (so_far ++ marking seen Iter l.site)))
    (widens : (j : ℕ) (k : List Item) (slots : List Value) (heap : HeapMap) (so_far : List E) → Meets w (M (one_less j) k slots heap so_far) (M j k slots heap so_far))
    (stops : (j : ℕ) → Enough w j 0 → (k : List Item) (slots : List Value) (heap : HeapMap) (so_far : List E) → Meets w (M j k slots heap so_far) ⊥)
    (N m turns : ℕ) (fits : m ≤ N) where
  abbrev Comes : ℕ → List Item → List Value → List E → Exit → HeapMap → Type 0
  Comes = ComesTo t ending end M

  -- what is to be known of the goal: at each exit that the statement may have
  abbrev pub OnExit : Bool → Option ⊤ → ℕ → List Item → Exits E → Type 0
  OnExit leaves value j k K = (so_far : List E) (x : Exit) (locals : Locals) (heap : HeapMap) (slots : List Value) → MayExit leaves value x → Agrees N m locals slots → Meets w (Comes j k slots so_far x heap) (K so_far x locals heap)

  -- these commands do what the tree does
  abbrev pub Does : Bool → ℕ → Lowered ⊤ → (Locals → List E → HeapMap → Exits E → Type 0) → Type 1
  Does leaves j x does =
      (locals : Locals) (slots : List Value) (so_far : List E) (heap : HeapMap) (K : Exits E) (k : List Item) → Agrees N m locals slots → OnExit leaves x.value j k K →
      Meets w (M j (acts (commands_of x.commands) k) slots heap so_far) (does locals so_far heap K)

  narrowed : (leaves : Bool) (value : Option ⊤) (j : ℕ) (k : List Item) (K : Exits E) → OnExit leaves value j k K → OnExit leaves value (one_less j) k K
  narrowed leaves value j k K on so_far falls locals heap slots may agrees = then' w (widens j k slots heap so_far) (on so_far falls locals heap slots may agrees)
  narrowed leaves value j k K on so_far breaks locals heap slots may agrees =
      then' w (on_some w (break_to k) (λ p. M (one_less j) p slots heap so_far) (λ p. M j p slots heap so_far) (λ p. widens j p slots heap so_far)) (on so_far breaks locals heap slots may agrees)
  narrowed leaves value j k K on so_far continues locals heap slots may agrees =
      then' w (on_some w (continue_to k) (λ p. M (one_less j) p slots heap so_far) (λ p. M j p slots heap so_far) (λ p. widens j p slots heap so_far)) (on so_far continues locals heap slots may agrees)
  narrowed leaves value j k K on so_far (returns v) locals heap slots may agrees = on so_far (returns v) locals heap slots may agrees
  narrowed leaves value j k K on so_far (fails kind site) locals heap slots may agrees = on so_far (fails kind site) locals heap slots may agrees

  -- what is known of each exit is known of those that there are
  few_exits : (leaves : Bool) (value value' : Option ⊤) (j : ℕ) (k : List Item) (K : Exits E) → (value' ≡ Some tt → value ≡ Some tt) → OnExit leaves value j k K → OnExit leaves value' j k K
  few_exits leaves value value' j k K f on so_far falls locals heap slots may agrees = on so_far falls locals heap slots (f may) agrees
  few_exits leaves value value' j k K f on so_far breaks locals heap slots may agrees = on so_far breaks locals heap slots may agrees
  few_exits leaves value value' j k K f on so_far continues locals heap slots may agrees = on so_far continues locals heap slots may agrees
  few_exits leaves value value' j k K f on so_far (returns v) locals heap slots may agrees = on so_far (returns v) locals heap slots may agrees
  few_exits leaves value value' j k K f on so_far (fails kind site) locals heap slots may agrees = on so_far (fails kind site) locals heap slots may agrees

  sequence : (j : ℕ) {A B : Type 0} (x : Lowered A) (f : A → ℕ → Lowered B) (k : List Item) (slots : List Value) (heap : HeapMap) (so_far : List E) {T : Type 0} → ((a : A) → x.next ≤ (f a x.next).next) → (and_then x f).next ≤ N →
      ((k' : List Item) → x.next ≤ N → expression.Next w seen bound types ccalls tcalls ties t ending end (M j) (machine j) N m x f k k' → Meets w (M j (acts (commands_of x.commands) k') slots heap so_far) T) →
      Meets w (M j (acts (commands_of (and_then x f).commands) k) slots heap so_far) T
  sequence j x f k slots heap so_far further room go = expression.sequence w seen bound types ccalls tcalls ties t ending end (M j) (machine j) N m x f k slots heap so_far further room go

  -- an expression of a statement
  takes : (leaves : Bool) (value : Option ⊤) (j : ℕ) (e : Expression) (n : ℕ) → IsWithin m e → m ≤ n → (lowered_expression e n).next ≤ N →
      (locals : Locals) (slots : List Value) (so_far : List E) (heap : HeapMap) (K : Exits E) (on : List E → Value → HeapMap → Type 0) (k k' : List Item) → Agrees N m locals slots → OnExit leaves value j k' K →
      ((a : Operand) → (lowered_expression e n).value ≡ Some a → (so_far : List E) (v : Value) (heap : HeapMap) (slots' : List Value) → Kept N n slots slots' → operand_value slots' a ≡ v → Meets w (M j k slots' heap so_far) (on so_far v heap)) →
      Meets w (M j (acts (commands_of (lowered_expression e n).commands) k) slots heap so_far) (Takes seen types tcalls e locals so_far heap K on)
  takes leaves value j e n l le room locals slots so_far heap K on k k' agrees exit go =
      expression.of_expression w seen bound types ccalls tcalls ties t ending end (M j) (machine j) N m e n l le room locals slots so_far heap (by_outcome (failing seen types tcalls locals K) on) k agrees
      (λ a there so_far' v heap' slots' kept is _. go a there so_far' v heap' slots' kept is)
      (λ so_far' kind site heap'. exit so_far' (fails kind site) locals heap' slots tt agrees)

  -- a copy to a local
  to_local : (leaves : Bool) (j i : ℕ) (a : Operand) (v : Value) (locals : Locals) (slots : List Value) (so_far : List E) (heap : HeapMap) (K : Exits E) (k : List Item) →
      i < m → Agrees N m locals slots → operand_value slots a ≡ v → OnExit leaves (Some tt) j k K →
      Meets w (M j (Act (copy i a) ∷ k) slots heap so_far) (K so_far falls (with_local locals i v) heap)
  to_local leaves j i a v locals slots so_far heap K k l agrees e exit =
      let u = operand_value slots a in
      then' w (machine j (Act (copy i a)) k slots heap so_far)
      (subst (λ v. Meets w (M j k (slice_set slots i u) heap so_far) (K so_far falls (with_local locals i v) heap)) e
      (exit so_far falls (with_local locals i u) heap (slice_set slots i u) refl (agrees_set N m locals slots i u agrees (let q : i < N = omega arith in q))))

  stored : (leaves : Bool) (j : ℕ) (at : Operand) (field : FieldId) (b : TypeId) (from : Operand) (site : Site) (p v : Value) (locals : Locals) (slots : List Value) (so_far : List E) (heap : HeapMap) (K : Exits E) (k : List Item) →
      Agrees N m locals slots → operand_value slots at ≡ p → operand_value slots from ≡ v → OnExit leaves (Some tt) j k K →
      Meets w (M j (Act (store at field b from site) ∷ k) slots heap so_far) (Stores seen types tcalls p field b site v locals so_far heap K)
  stored leaves j at field b from site p v locals slots so_far heap K k agrees ep ev exit =
      let seen' = so_far ++ marking seen Access site in
      let null' = Comes j k slots seen' (fails (error NullDereference) site) heap in
      let freed = Comes j k slots seen' (fails (error UseAfterFree) site) heap in
      let live = λ (v : Value) (i : ℕ) (cells : List Value). M j k slots (with_block heap i (live_block b.0 (slice_set cells field.0 v))) seen' in
      let T = Stores seen types tcalls p field b site v locals so_far heap K in
      then' w (machine j (Act (store at field b from site)) k slots heap so_far)
      (subst (λ u. Meets w (by_pointer heap b.0 u null' freed (live (operand_value slots from))) T) (sym ep)
      (subst (λ u. Meets w (by_pointer heap b.0 p null' freed (live u)) T) (sym ev)
      (on_pointer w heap b.0 p null' (K seen' (fails (error NullDereference) site) locals heap) freed (K seen' (fails (error UseAfterFree) site) locals heap)
      (live v) (λ i cells. K seen' falls locals (with_block heap i (live_block b.0 (slice_set cells field.0 v))))
      (exit seen' (fails (error NullDereference) site) locals heap slots tt agrees) (exit seen' (fails (error UseAfterFree) site) locals heap slots tt agrees)
      (λ i cells. exit seen' falls locals (with_block heap i (live_block b.0 (slice_set cells field.0 v))) slots refl agrees))))

  frees : (leaves : Bool) (j : ℕ) (at : Operand) (b : TypeId) (site : Site) (p : Value) (locals : Locals) (slots : List Value) (so_far : List E) (heap : HeapMap) (K : Exits E) (k : List Item) →
      Agrees N m locals slots → operand_value slots at ≡ p → OnExit leaves (Some tt) j k K →
      Meets w (M j (Act (command.free at b site) ∷ k) slots heap so_far) (Frees seen types tcalls p b site locals so_far heap K)
  frees leaves j at b site p locals slots so_far heap K k agrees ep exit =
      let null' = M j k slots heap (so_far ++ marking seen FreeNull site) in
      let seen' = so_far ++ marking seen Freed site in
      let freed = Comes j k slots seen' (fails (error DoubleFree) site) heap in
      let live = λ (i : ℕ) (cells : List Value). M j k slots (with_block heap i (freed_block b.0)) seen' in
      let T = Frees seen types tcalls p b site locals so_far heap K in
      then' w (machine j (Act (command.free at b site)) k slots heap so_far)
      (subst (λ u. Meets w (by_pointer heap b.0 u null' freed live) T) (sym ep)
      (on_pointer w heap b.0 p null' (K (so_far ++ marking seen FreeNull site) falls locals heap) freed (K seen' (fails (error DoubleFree) site) locals heap)
      live (λ i cells. K seen' falls locals (with_block heap i (freed_block b.0)))
      (exit (so_far ++ marking seen FreeNull site) falls locals heap slots refl agrees) (exit seen' (fails (error DoubleFree) site) locals heap slots tt agrees)
      (λ i cells. exit seen' falls locals (with_block heap i (freed_block b.0)) slots refl agrees)))

  -- ---- simple statements

  -- all exits, where there is a value
  all_exits : (leaves : Bool) (value : Option ⊤) (j : ℕ) (k : List Item) (K : Exits E) → value ≡ Some tt → OnExit leaves value j k K → OnExit leaves (Some tt) j k K
  all_exits leaves value j k K e on = few_exits leaves value (Some tt) j k K (λ _. e) on

  of_declaration : (leaves : Bool) (i : ℕ) (e : Option Expression) (n : ℕ) → i < m → IsWithinIf m e → m ≤ n → (lowered_declaration i e n).next ≤ N → (j : ℕ) →
      Does leaves j (lowered_declaration i e n) (Declares seen types tcalls i e)
  of_declaration leaves i None n l _ le room j locals slots so_far heap K k agrees exit =
      then' w (machine j (Act (unset i)) k slots heap so_far)
      (exit so_far falls (with_local locals i Unwritten) heap (slice_set slots i Unwritten) refl (agrees_set N m locals slots i Unwritten agrees (let q : i < N = omega arith in q)))
  of_declaration leaves i (Some e) n l lv le room j locals slots so_far heap K k agrees exit =
      let x = lowered_expression e n in
      let f = λ (a : Operand) (n : ℕ). doing (copy i a) n in
      let whole = and_then x f in
      let locals1 = with_local locals i Unwritten in
      let slots1 = slice_set slots i Unwritten in
      let agrees1 = agrees_set N m locals slots i Unwritten agrees (let q : i < N = omega arith in q) in
      then' w (machine j (Act (unset i)) (acts (commands_of whole.commands) k) slots heap so_far)
      (sequence j x f k slots1 heap so_far (λ a. le_refl _) room (λ k' room' next.
      takes leaves whole.value j e n lv le room' locals1 slots1 so_far heap K _ k' k agrees1 exit
      (λ a there so_far' v heap' slots' kept is. next a there slots' heap' so_far' _ (λ room'' value.
      to_local leaves j i a v locals1 slots' so_far' heap' K k l (agrees_kept N m n locals1 slots1 slots' le agrees1 kept) is (all_exits leaves whole.value j k K (value tt refl) exit)))))

  of_assignment : (leaves : Bool) (place : Place) (e : Expression) (n : ℕ) → IsPlaceWithin m place → IsWithin m e → m ≤ n → (lowered_assignment place e n).next ≤ N → (j : ℕ) →
      Does leaves j (lowered_assignment place e n) (Assigns seen types tcalls place e)
  of_assignment leaves (local_place i at) e n lp l le room j locals slots so_far heap K k agrees exit =
      let x = lowered_expression e n in
      let whole = lowered_assignment (local_place i at) e n in
      sequence j x _ k slots heap so_far (λ a. le_refl _) room (λ k' room' next.
      takes leaves whole.value j e n l le room' locals slots so_far heap K _ k' k agrees exit
      (λ a there so_far' v heap' slots' kept is. next a there slots' heap' so_far' _ (λ room'' value.
      to_local leaves j i a v locals slots' so_far' heap' K k lp (agrees_kept N m n locals slots slots' le agrees kept) is (all_exits leaves whole.value j k K (value tt refl) exit))))
  of_assignment leaves (cell_place p field b site) e n lp l le room j locals slots so_far heap K k agrees exit =
      let x = lowered_expression p n in
      let y = lowered_expression e x.next in
      let whole = lowered_assignment (cell_place p field b site) e n in
      let gx : n ≤ x.next = grows p n in
      let gy : x.next ≤ y.next = grows e x.next in
      sequence j x _ k slots heap so_far (λ a. grown y _ x.next gy (λ c. le_refl _)) room (λ k1 room1 next1.
      takes leaves whole.value j p n lp le room1 locals slots so_far heap K _ k1 k agrees exit
      (λ a there1 so_far1 u heap1 slots1 kept1 is1. next1 a there1 slots1 heap1 so_far1 _ (λ room2 value1.
      let agrees1 = agrees_kept N m n locals slots slots1 le agrees kept1 in
      sequence j y _ k slots1 heap1 so_far1 (λ c. le_refl _) room2 (λ k2 room3 next2.
      takes leaves whole.value j e x.next l (le_trans le gx) room3 locals slots1 so_far1 heap1 K _ k2 k agrees1 exit
      (λ c there2 so_far2 v heap2 slots2 kept2 is2. next2 c there2 slots2 heap2 so_far2 _ (λ room4 value2.
      stored leaves j a field b c site u v locals slots2 so_far2 heap2 K k (agrees_kept N m x.next locals slots1 slots2 (le_trans le gx) agrees1 kept2)
      (operand_kept N x.next slots1 slots2 a (operand_below m n p lp le a there1) kept2 ∙ is1) is2 (all_exits leaves whole.value j k K (value1 tt (value2 tt refl)) exit)))))))

  of_access : (leaves : Bool) (p : Expression) (parts : Expressions) (field : FieldId) (b : TypeId) (site : Site) (n : ℕ) → IsWithin m p → AreWithin m parts → m ≤ n → (lowered_access p parts field b site n).next ≤ N → (j : ℕ) →
      Does leaves j (lowered_access p parts field b site n) (Accesses seen types tcalls p parts b site)
  of_access leaves p parts field b site n lp l le room j locals slots so_far heap K k agrees exit =
      let x = lowered_expression p n in
      let y = lowered_passed parts x.next in
      let whole = lowered_access p parts field b site n in
      let gx : n ≤ x.next = grows p n in
      let gy : x.next ≤ y.next = grows_passed parts x.next in
      let mx : m ≤ x.next = le_trans le gx in
      let err = λ (so_far' : List E) (kind : Halt) (at : Site) (heap' : HeapMap). exit so_far' (fails kind at) locals heap' slots tt agrees in
      sequence j x _ k slots heap so_far (λ a. grown y (λ _ n. reached a field b site n) x.next gy (λ u. one_more y.next)) room (λ k1 room1 next1.
      takes leaves whole.value j p n lp le room1 locals slots so_far heap K _ k1 k agrees exit
      (λ a there1 so_far1 u heap1 slots1 kept1 is1. next1 a there1 slots1 heap1 so_far1 _ (λ room2 value1.
      let agrees1 = agrees_kept N m n locals slots slots1 le agrees kept1 in
      sequence j y (λ _ n. reached a field b site n) k slots1 heap1 so_far1 (λ u. one_more y.next) room2 (λ k2 room3 next2.
      expression.of_passed w seen bound types ccalls tcalls ties t ending end (M j) (machine j) N m parts x.next l mx room3 locals slots1 so_far1 heap1 (failing seen types tcalls locals K) _ k2 agrees1
      (λ done there2 so_far2 heap2 slots2 kept2. next2 done there2 slots2 heap2 so_far2 _ (λ room4 value2.
      expression.skipped w seen bound types ccalls tcalls ties t ending end (M j) (machine j) N m y.next a field b site x.next slots1 slots2 u so_far2 heap2 (failing seen types tcalls locals K) _ k kept2 gy
      (operand_kept N x.next slots1 slots2 a (operand_below m n p lp le a there1) kept2 ∙ is1)
      (λ so_far3 heap3 slots3 kept3. exit so_far3 falls locals heap3 slots3 (value1 tt (value2 tt refl)) (agrees_kept N m x.next locals slots1 slots3 mx agrees1 kept3))
      err))
      err))))

  of_return : (leaves : Bool) (e : Option Expression) (n : ℕ) → IsWithinIf m e → m ≤ n → (lowered_return e n).next ≤ N → (j : ℕ) →
      Does leaves j (lowered_return e n) (GivesBack seen types tcalls e)
  of_return leaves None n l le room j locals slots so_far heap K k agrees exit =
      then' w (machine j (Act (command.return None)) k slots heap so_far) (exit so_far (returns Unwritten) locals heap slots tt agrees)
  of_return leaves (Some e) n l le room j locals slots so_far heap K k agrees exit =
      let x = lowered_expression e n in
      let whole = lowered_return (Some e) n in
      sequence j x _ k slots heap so_far (λ a. le_refl _) room (λ k' room' next.
      takes leaves whole.value j e n l le room' locals slots so_far heap K _ k' k agrees exit
      (λ a there so_far' v heap' slots' kept is. next a there slots' heap' so_far' _ (λ room'' value.
      then' w (machine j (Act (command.return (Some a))) k slots' heap' so_far')
      (subst (λ u. Meets w ((t ≡ so_far') × (ending ≡ Returned u) × (end ≡ heap')) (K so_far' (returns v) locals heap')) (sym is)
      (exit so_far' (returns v) locals heap' slots' tt (agrees_kept N m n locals slots slots' le agrees kept))))))

  of_update : (leaves : Bool) (op : Arithmetic) (place : Place) (e : Expression) (n : ℕ) → IsPlaceWithin m place → IsWithin m e → m ≤ n → (lowered_update op place e n).next ≤ N → (j : ℕ) →
      Does leaves j (lowered_update op place e n) (Updates seen types tcalls op place e)
  of_update leaves op (local_place i at) e n lp l le room j locals slots so_far heap K k agrees exit =
      let x = lowered_expression e n in
      let f = λ (a : Operand) (n : ℕ). and_then (applied op (operand.Slot i) a n) (λ new n. doing (copy i new) n) in
      let whole = and_then x f in
      let gx : n ≤ x.next = grows e n in
      let to = result_slot op x.next in
      let err = λ (so_far' : List E) (kind : Halt) (site : Site) (heap' : HeapMap). exit so_far' (fails kind site) locals heap' slots tt agrees in
      let set' = by_outcome (failing seen types tcalls locals K) (λ so_far r heap. K so_far falls (with_local locals i r) heap) in
      let on = λ (so_far : List E) (x : Value) (heap : HeapMap). Takes seen types tcalls e locals so_far heap K (λ so_far y heap. Calculates seen types tcalls op x y so_far heap set') in
      expression.used w seen bound types ccalls tcalls ties t ending end (M j) (machine j) N m i at n slots slots (locals i) so_far heap (by_outcome (failing seen types tcalls locals K) on) (acts (commands_of whole.commands) k) (kept_same N n slots agrees.sized) (agrees.agree i lp)
      (λ so_far1 u heap1 slots1 kept1 is1 _.
      let agrees1 = agrees_kept N m n locals slots slots1 le agrees kept1 in
      sequence j x f k slots1 heap1 so_far1 (λ a. result_more op _) room (λ k' room' next.
      takes leaves whole.value j e n l le room' locals slots1 so_far1 heap1 K _ k' k agrees1 exit
      (λ a there so_far2 v heap2 slots2 kept2 is2. next a there slots2 heap2 so_far2 _ (λ room'' value.
      expression.front w seen bound types ccalls tcalls ties t ending end (M j) (machine j) N m (operation op (operand.Slot i) a x.next) (copy i (operand.Slot to) ∷ []) k slots2 heap2 so_far2
      (expression.calculates w seen bound types ccalls tcalls ties t ending end (M j) (machine j) N m op (operand.Slot i) a x.next n slots1 slots2 u v so_far2 heap2 set' (Act (copy i (operand.Slot to)) ∷ k) kept2 gx room''
      (let q : i < x.next = omega arith in q) (operand_below m n e l le a there) (kept2.kept i (let q : i < n = omega arith in q) ∙ is1) is2
      (λ so_far3 r heap3 slots3 kept3 is3 _.
      to_local leaves j i (operand.Slot to) r locals slots3 so_far3 heap3 K k lp (agrees_kept N m n locals slots1 slots3 le agrees1 kept3) is3 (all_exits leaves whole.value j k K (value tt refl) exit))
      err)))))
      err
  of_update leaves op (cell_place p field b site) e n lp l le room j locals slots so_far heap K k agrees exit =
      let x = lowered_expression p n in
      let a = x.next in
      let old = operand.Slot a in
      let y = lowered_expression e (suc a) in
      let whole = lowered_update op (cell_place p field b site) e n in
      let gx : n ≤ a = grows p n in
      let gy : suc a ≤ y.next = grows e (suc a) in
      let to = result_slot op y.next in
      let f = λ (at c : Operand) (n : ℕ). and_then (applied op old c n) (λ new n. doing (store at field b new site) n) in
      let further : (at : Operand) → suc a ≤ (and_then y (f at)).next = λ at. grown y (f at) (suc a) gy (λ c. result_more op _) in
      sequence j x _ k slots heap so_far (λ at. le_trans (one_more a) (further at)) room (λ k1 room1 next1.
      takes leaves whole.value j p n lp le room1 locals slots so_far heap K _ k1 k agrees exit
      (λ at there1 so_far1 place heap1 slots1 kept1 is1. next1 at there1 slots1 heap1 so_far1 _ (λ room2 value1.
      let agrees1 = agrees_kept N m n locals slots slots1 le agrees kept1 in
      let ma : m ≤ a = le_trans le gx in
      let tail = acts (commands_of (and_then y (f at)).commands) k in
      let err = λ (so_far' : List E) (kind : Halt) (at : Site) (heap' : HeapMap). exit so_far' (fails kind at) locals heap' slots1 tt agrees1 in
      let store' = by_outcome (failing seen types tcalls locals K) (λ so_far r heap. Stores seen types tcalls place field b site r locals so_far heap K) in
      let on = λ (so_far : List E) (x : Value) (heap : HeapMap). Takes seen types tcalls e locals so_far heap K (λ so_far y heap. Calculates seen types tcalls op x y so_far heap store') in
      expression.loaded w seen bound types ccalls tcalls ties t ending end (M j) (machine j) N m a at field b site a slots1 slots1 place so_far1 heap1 (by_outcome (failing seen types tcalls locals K) on) tail (kept_same N a slots1 agrees1.sized) (le_refl a) (le_trans (further at) room2) is1
      (λ so_far2 u heap2 slots2 kept2 is2 _.
      let agrees2 = agrees_kept N m a locals slots1 slots2 ma agrees1 kept2 in
      let place2 = operand_kept N a slots1 slots2 at (operand_below m n p lp le at there1) kept2 ∙ is1 in
      sequence j y (f at) k slots2 heap2 so_far2 (λ c. result_more op _) room2 (λ k2 room3 next2.
      takes leaves whole.value j e (suc a) l (le_trans ma (one_more a)) room3 locals slots2 so_far2 heap2 K _ k2 k agrees2 exit
      (λ c there2 so_far3 v heap3 slots3 kept3 is3. next2 c there2 slots3 heap3 so_far3 _ (λ room4 value2.
      expression.front w seen bound types ccalls tcalls ties t ending end (M j) (machine j) N m (operation op old c y.next) (store at field b (operand.Slot to) site ∷ []) k slots3 heap3 so_far3
      (expression.calculates w seen bound types ccalls tcalls ties t ending end (M j) (machine j) N m op old c y.next (suc a) slots2 slots3 u v so_far3 heap3 store' (Act (store at field b (operand.Slot to) site) ∷ k) kept3 gy room4
      (let q : a < y.next = omega arith in q) (operand_below m (suc a) e l (le_trans ma (one_more a)) c there2) (kept3.kept a (let q : a < suc a = omega arith in q) ∙ is2) is3
      (λ so_far4 r heap4 slots4 kept4 is4 _.
      let kept24 = kept_then N a (suc a) slots2 slots2 slots4 (one_more a) (kept_same N a slots2 agrees2.sized) kept4 in
      stored leaves j at field b (operand.Slot to) site place r locals slots4 so_far4 heap4 K k (agrees_kept N m a locals slots2 slots4 ma agrees2 kept24)
      (operand_kept N a slots2 slots4 at (operand_below m n p lp le at there1) kept24 ∙ place2) is4 (all_exits leaves whole.value j k K (value1 tt (value2 tt refl)) exit))
      err)))))
      err)))

  -- ---- loops

  of_head : (c : Option Condition) (n : ℕ) → IsTestWithinIf m c → m ≤ n → (lowered_head c n).next ≤ N → (j : ℕ) (l : Turns) (k : List Item)
      (locals : Locals) (slots : List Value) (so_far : List E) (heap : HeapMap) (K : Verdicts E) → Agrees N m locals slots →
      ((so_far : List E) (heap : HeapMap) (slots' : List Value) → Kept N n slots slots' → Meets w (M j (AfterHead l ∷ k) slots' heap so_far) (K so_far yes heap)) →
      ((so_far : List E) (heap : HeapMap) (slots' : List Value) → Kept N n slots slots' → Meets w (M j k slots' heap (so_far ++ marking seen Done l.site)) (K so_far no heap)) →
      ((so_far : List E) (kind : Halt) (site : Site) (heap : HeapMap) → Meets w (Comes j k slots so_far (fails kind site) heap) (K so_far (fault kind site) heap)) →
      Meets w (M j (acts (commands_of (lowered_head c n).commands) (AfterHead l ∷ k)) slots heap so_far) (TestsIf seen types tcalls c locals so_far heap K)
  of_head None n lc le room j l k locals slots so_far heap K agrees on_yes on_no err = on_yes so_far heap slots (kept_same N n slots agrees.sized)
  of_head (Some c) n lc le room j l k locals slots so_far heap K agrees on_yes on_no err =
      let x = lowered_condition c n in
      let rest = AfterHead l ∷ k in
      let out = a_command leave no_commands in
      sequence j x _ rest slots heap so_far (λ slot. le_refl _) room (λ k' room' next.
      expression.of_condition w seen bound types ccalls tcalls ties t ending end (M j) (machine j) N m c n lc le room' locals slots so_far heap K k' agrees
      (λ slot there so_far' heap' slots' kept is. next slot there slots' heap' so_far' _ (λ room'' value.
      then' w (expression.chosen_first w seen bound types ccalls tcalls ties t ending end (M j) (machine j) N m slot no_commands out rest slots' heap' so_far' is) (on_yes so_far' heap' slots' kept)))
      (λ slot there so_far' heap' slots' kept is. next slot there slots' heap' so_far' _ (λ room'' value.
      then' w (expression.chosen_second w seen bound types ccalls tcalls ties t ending end (M j) (machine j) N m slot no_commands out rest slots' heap' so_far' is)
      (then' w (machine j (Act leave) rest slots' heap' so_far') (on_no so_far' heap' slots' kept))))
      err)

  -- a loop that was begun so often
  abbrev loop_of : Site → List CommandTree → List CommandTree → List CommandTree → ℕ → Turns
  loop_of site head body step made = record { site = site; head = commands_of head; body = commands_of body; step = commands_of step; made = made }

  module _ (site : Site) (c : Option Condition) (n : ℕ) (lc : IsTestWithinIf m c) (le : m ≤ n) (room : (lowered_head c n).next ≤ N)
      (bx sx : Lowered ⊤) (body step' : Locals → List E → HeapMap → Exits E → Type 0)
      (does_body : (j : ℕ) → Enough w j turns → Does true j bx body) (does_step : (j : ℕ) → Enough w j turns → Does false j sx step')
      (leaves : Bool) where
    abbrev hcs : List CommandTree
    hcs = (lowered_head c n).commands

    abbrev bcs : List CommandTree
    bcs = bx.commands

    abbrev scs : List CommandTree
    scs = sx.commands

    of_loop : (g made j : ℕ) → Enough w j g → Enough w j turns → (locals : Locals) (slots : List Value) (so_far : List E) (heap : HeapMap) (K : Exits E) (k : List Item) → Agrees N m locals slots → OnExit leaves (Some tt) j k K →
        Meets w (M j (acts (commands_of hcs) (AfterHead (loop_of site hcs bcs scs made) ∷ k)) slots heap so_far) (Loops seen types tcalls bound g made site c body step' locals so_far heap K)
    of_loop zero made j enough some locals slots so_far heap K k agrees exit = stops j enough _ slots heap so_far
    of_loop (suc g) made j enough some locals slots so_far heap K k agrees exit =
        let l = loop_of site hcs bcs scs made in
        let l' = loop_of site hcs bcs scs (suc made) in
        let j' = one_less j in
        let enough' = enough_less w j g enough in
        let some' = enough_still w j turns some in
        let exit' = narrowed leaves (Some tt) j k K exit in
        let again = λ (so_far : List E) (locals : Locals) (heap : HeapMap). Loops seen types tcalls bound g (suc made) site c body step' locals so_far heap K in
        let on = λ (so_far : List E) (locals : Locals) (heap : HeapMap). step' locals so_far heap (with_fall K again) in
        let after_step : OnExit false sx.value j' (AfterStep l' ∷ k) (with_fall K again) =
        (λ so_far x locals heap slots may agrees. elim x as (λ x. MayExit false sx.value x → Meets w (Comes j' (AfterStep l' ∷ k) slots so_far x heap) (with_fall K again so_far x locals heap)) [
          | falls ↦ (λ _. then' w (machine j' (AfterStep l') k slots heap so_far) (of_loop g (suc made) j' enough' some' locals slots so_far heap K k agrees exit'))
          | breaks ↦ (λ may. let e : false ≡ true = may in cc)
          | continues ↦ (λ may. let e : false ≡ true = may in cc)
          | returns v ↦ (λ _. exit' so_far (returns v) locals heap slots tt agrees)
          | fails kind site ↦ (λ _. exit' so_far (fails kind site) locals heap slots tt agrees)
        ] may) in
        let to_step = λ (so_far : List E) (locals : Locals) (heap : HeapMap) (slots : List Value) (agrees : Agrees N m locals slots).
        then' w (machine j' (AfterBody l') k slots heap so_far) (does_step j' some' locals slots so_far heap (with_fall K again) (AfterStep l' ∷ k) agrees after_step) in
        let behind : OnExit true bx.value j' (AfterBody l' ∷ k) (behind_body seen types tcalls on K) =
        (λ so_far x locals heap slots may agrees. elim x as (λ x. Meets w (Comes j' (AfterBody l' ∷ k) slots so_far x heap) (behind_body seen types tcalls on K so_far x locals heap)) [
          | falls ↦ to_step so_far locals heap slots agrees
          | breaks ↦ exit' so_far falls locals heap slots refl agrees
          | continues ↦ to_step so_far locals heap slots agrees
          | returns v ↦ exit' so_far (returns v) locals heap slots tt agrees
          | fails kind site ↦ exit' so_far (fails kind site) locals heap slots tt agrees
        ]) in
        of_head c n lc le room j l k locals slots so_far heap _ agrees
        (λ so_far' heap' slots' kept.
        then' w (iterates j l k slots' heap' so_far')
        (with' w (Allows bound made) (does_body j' some' locals slots' (so_far' ++ marking seen Iter site) heap' (behind_body seen types tcalls on K) (AfterBody l' ∷ k) (agrees_kept N m n locals slots slots' le agrees kept) behind)))
        (λ so_far' heap' slots' kept. exit (so_far' ++ marking seen Done site) falls locals heap' slots' refl (agrees_kept N m n locals slots slots' le agrees kept))
        (λ so_far' kind at heap'. exit so_far' (fails kind at) locals heap' slots tt agrees)

  -- ---- all statements

  mutual
    pub of_statement : (leaves : Bool) (s : Statement) (n : ℕ) → IsStatementWithin m leaves s → m ≤ n → (lowered_statement s n).next ≤ N → (j : ℕ) → Enough w j turns →
        Does leaves j (lowered_statement s n) (Executes seen types tcalls bound turns s)
    of_statement leaves (block statements) n l le room j enough locals slots so_far heap K k agrees exit = of_statements leaves statements n l le room j enough locals slots so_far heap K k agrees exit
    of_statement leaves (declare i e) n l le room j enough locals slots so_far heap K k agrees exit = of_declaration leaves i e n l.0 l.1 le room j locals slots so_far heap K k agrees exit
    of_statement leaves (tree.assign place e) n l le room j enough locals slots so_far heap K k agrees exit = of_assignment leaves place e n l.0 l.1 le room j locals slots so_far heap K k agrees exit
    of_statement leaves (update op place e) n l le room j enough locals slots so_far heap K k agrees exit = of_update leaves op place e n l.0 l.1 le room j locals slots so_far heap K k agrees exit
    of_statement leaves (run_call proc arguments site) n l le room j enough locals slots so_far heap K k agrees exit =
        let x = lowered_arguments arguments n in
        let whole = lowered_statement (run_call proc arguments site) n in
        let err = λ (so_far' : List E) (kind : Halt) (at : Site) (heap' : HeapMap). exit so_far' (fails kind at) locals heap' slots tt agrees in
        sequence j x _ k slots heap so_far (λ xs. le_refl _) room (λ k' room' next.
        expression.of_arguments w seen bound types ccalls tcalls ties t ending end (M j) (machine j) N m arguments n l le room' locals slots so_far heap (failing seen types tcalls locals K) _ k' agrees
        (λ xs there so_far1 vs heap1 slots1 kept1 are written. next xs there slots1 heap1 so_far1 _ (λ room'' value.
        expression.called w seen bound types ccalls tcalls ties t ending end (M j) (machine j) N m None proc xs site slots1 vs so_far1 heap1 (failing seen types tcalls locals K) _ k are written
        (λ so_far2 v heap2. exit so_far2 falls locals heap2 slots1 (value tt refl) (agrees_kept N m n locals slots slots1 le agrees kept1))
        err))
        err)
    of_statement leaves (free e b site) n l le room j enough locals slots so_far heap K k agrees exit =
        let x = lowered_expression e n in
        let whole = lowered_statement (free e b site) n in
        sequence j x _ k slots heap so_far (λ a. le_refl _) room (λ k' room' next.
        takes leaves whole.value j e n l le room' locals slots so_far heap K _ k' k agrees exit
        (λ a there so_far1 p heap1 slots1 kept1 is1. next a there slots1 heap1 so_far1 _ (λ room'' value.
        frees leaves j a b site p locals slots1 so_far1 heap1 K k (agrees_kept N m n locals slots slots1 le agrees kept1) is1 (all_exits leaves whole.value j k K (value tt refl) exit))))
    of_statement leaves (input site) n l le room j enough locals slots so_far heap K k agrees exit =
        then' w (machine j (Act (command.input n site)) k slots heap so_far)
        (on_input w (λ z. M j k (slice_set slots n (Word z)) heap (so_far ++ seen (reads site z) ∷ [])) (λ z. K (so_far ++ seen (reads site z) ∷ []) falls locals heap)
        (λ z. exit (so_far ++ seen (reads site z) ∷ []) falls locals heap (slice_set slots n (Word z)) refl
        (agrees_kept N m n locals slots (slice_set slots n (Word z)) le agrees (kept_set N n slots slots n (Word z) (kept_same N n slots agrees.sized) (le_refl n)))))
    of_statement leaves (choose c first second) n l le room j enough locals slots so_far heap K k agrees exit =
        let x = lowered_condition c n in
        let y = lowered_statement first x.next in
        let z = lowered_statement second y.next in
        let whole = lowered_statement (choose c first second) n in
        let gx : n ≤ x.next = grows_test c n in
        let gy : x.next ≤ y.next = grows_statement first x.next in
        let gz : y.next ≤ z.next = grows_statement second y.next in
        sequence j x _ k slots heap so_far (λ slot. le_trans gy gz) room (λ k' room' next.
        expression.of_condition w seen bound types ccalls tcalls ties t ending end (M j) (machine j) N m c n l.0 le room' locals slots so_far heap _ k' agrees
        (λ slot there so_far1 heap1 slots1 kept1 is1. next slot there slots1 heap1 so_far1 _ (λ room'' value.
        then' w (expression.chosen_first w seen bound types ccalls tcalls ties t ending end (M j) (machine j) N m slot (commands_of y.commands) (commands_of z.commands) k slots1 heap1 so_far1 is1)
        (of_statement leaves first x.next l.1 (le_trans le gx) (le_trans gz room'') j enough locals slots1 so_far1 heap1 K k (agrees_kept N m n locals slots slots1 le agrees kept1) (few_exits leaves whole.value y.value j k K (λ _. value tt refl) exit))))
        (λ slot there so_far1 heap1 slots1 kept1 is1. next slot there slots1 heap1 so_far1 _ (λ room'' value.
        then' w (expression.chosen_second w seen bound types ccalls tcalls ties t ending end (M j) (machine j) N m slot (commands_of y.commands) (commands_of z.commands) k slots1 heap1 so_far1 is1)
        (of_statement leaves second y.next l.2 (le_trans le (le_trans gx gy)) room'' j enough locals slots1 so_far1 heap1 K k (agrees_kept N m n locals slots slots1 le agrees kept1) (few_exits leaves whole.value z.value j k K (λ _. value tt refl) exit))))
        (λ so_far' kind at heap'. exit so_far' (fails kind at) locals heap' slots tt agrees))
    of_statement leaves (loop site c body step') n l le room j enough locals slots so_far heap K k agrees exit =
        let x = lowered_head c n in
        let y = lowered_statement body x.next in
        let z = lowered_statement step' y.next in
        let gx : n ≤ x.next = grows_head c n in
        let gy : x.next ≤ y.next = grows_statement body x.next in
        let gz : y.next ≤ z.next = grows_statement step' y.next in
        then' w (machine j (Act (command.loop site (commands_of x.commands) (commands_of y.commands) (commands_of z.commands))) k slots heap so_far)
        (of_loop site c n l.0 le (omega arith) y z (Executes seen types tcalls bound turns body) (Executes seen types tcalls bound turns step')
        (λ j enough. of_statement true body x.next l.1 (le_trans le gx) (omega arith) j enough)
        (λ j enough. of_statement false step' y.next l.2 (le_trans le (le_trans gx gy)) room j enough)
        leaves turns 0 j enough enough locals slots so_far heap K k agrees exit)
    of_statement leaves break n l le room j enough locals slots so_far heap K k agrees exit = then' w (machine j (Act command.break) k slots heap so_far) (exit so_far breaks locals heap slots l agrees)
    of_statement leaves continue n l le room j enough locals slots so_far heap K k agrees exit = then' w (machine j (Act command.continue) k slots heap so_far) (exit so_far continues locals heap slots l agrees)
    of_statement leaves (return e) n l le room j enough locals slots so_far heap K k agrees exit = of_return leaves e n l le room j locals slots so_far heap K k agrees exit
    of_statement leaves (evaluate e) n l le room j enough locals slots so_far heap K k agrees exit =
        expression.of_passed w seen bound types ccalls tcalls ties t ending end (M j) (machine j) N m (an_expression e no_expressions) n (l, tt) le room locals slots so_far heap (failing seen types tcalls locals K) _ k agrees
        (λ u there so_far' heap' slots' kept. exit so_far' falls locals heap' slots' there (agrees_kept N m n locals slots slots' le agrees kept))
        (λ so_far' kind at heap'. exit so_far' (fails kind at) locals heap' slots tt agrees)
    of_statement leaves (access p parts field b site) n l le room j enough locals slots so_far heap K k agrees exit = of_access leaves p parts field b site n l.0 l.1 le room j locals slots so_far heap K k agrees exit

    pub of_statements : (leaves : Bool) (ss : Statements) (n : ℕ) → AreStatementsWithin m leaves ss → m ≤ n → (lowered_statements ss n).next ≤ N → (j : ℕ) → Enough w j turns →
        Does leaves j (lowered_statements ss n) (ExecutesAll seen types tcalls bound turns ss)
    of_statements leaves no_statements n l le room j enough locals slots so_far heap K k agrees exit = exit so_far falls locals heap slots refl agrees
    of_statements leaves (a_statement s rest) n l le room j enough locals slots so_far heap K k agrees exit =
        let x = lowered_statement s n in
        let y = lowered_statements rest x.next in
        let whole = lowered_statements (a_statement s rest) n in
        let gx : n ≤ x.next = grows_statement s n in
        let on = λ (so_far : List E) (locals : Locals) (heap : HeapMap). ExecutesAll seen types tcalls bound turns rest locals so_far heap K in
        expression.sequence_of w seen bound types ccalls tcalls ties t ending end (M j) (machine j) N m x (λ _ n. lowered_statements rest n) k slots heap so_far (λ u. grows_statements rest x.next) room (λ ds room' next.
        let k' = acts (commands_of ds) k in
        of_statement leaves s n l.0 le room' j enough locals slots so_far heap (with_fall K on) k' agrees
        (λ so_far x' locals heap slots may agrees. elim x' as (λ x'. MayExit leaves x.value x' → Meets w (Comes j k' slots so_far x' heap) (with_fall K on so_far x' locals heap)) [
          | falls ↦ (λ there. next tt there slots heap so_far _ (λ room'' value.
              of_statements leaves rest x.next l.1 (le_trans le gx) room'' j enough locals slots so_far heap K k agrees (few_exits leaves whole.value y.value j k K (value tt) exit)))
          | breaks ↦ (λ may. subst (λ p. Meets w (IsSomeAnd p (λ p. M j p slots heap so_far)) (K so_far breaks locals heap)) (sym (break_acts (commands_of ds) k)) (exit so_far breaks locals heap slots may agrees))
          | continues ↦ (λ may. subst (λ p. Meets w (IsSomeAnd p (λ p. M j p slots heap so_far)) (K so_far continues locals heap)) (sym (continue_acts (commands_of ds) k)) (exit so_far continues locals heap slots may agrees))
          | returns v ↦ (λ _. exit so_far (returns v) locals heap slots tt agrees)
          | fails kind at ↦ (λ _. exit so_far (fails kind at) locals heap slots tt agrees)
        ] may))
