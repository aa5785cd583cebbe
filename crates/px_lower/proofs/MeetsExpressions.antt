-- Expressions and conditions, with any goal and with what is done after them.
use Rattle.std.proofs.Common.{◌≡◌, ◌⊎◌, ◌∙◌, ℕ, suc, ℤ, pos, neg_ℤ, ◌+ℤ◌, ◌-ℤ◌, ◌*ℤ◌, ◌<◌, ◌≤◌, List, [], ◌∷◌, ◌++◌, Option, None, Some, IsSomeAnd, IfSome, map, slice_set, refl, sym, ap, ap₂, subst, inl, inr, le_refl, le_trans, Bool, true, false, if◌then◌else◌, int_div, arith}
use Rattle.std.specs.Prelude.{⊤}
use Rattle.std.proofs.lemmas.Option.{same_Some}
use Rattle.std.specs.Int.{w32, int_wrap}
use Rattle.std.specs.Ordering.{int_eq}
use Rattle.std.proofs.lemmas.Int.{int_wrap-mul_left, int_wrap-sub_right}
use Rattle.px_base.specs.declared.trace.Site.{Site}
use Rattle.px_base.specs.declared.trace.ProcId.{ProcId}
use Rattle.px_base.specs.declared.trace.FieldId.{FieldId}
use Rattle.px_base.specs.declared.trace.MarkKind.TheVariants.{Then, Else, NoBlock, Access, Enter, Leave}
use Rattle.px_base.specs.declared.trace.Kind.TheVariants.{NullDereference, UseAfterFree, UninitialisedRead, DivisionByZero}
use Rattle.px_core.specs.declared.command.Operand.{Operand}
use Rattle.px_core.specs.declared.command.Operand.TheVariants as operand
use Rattle.px_core.specs.declared.command.Operator.{Operator}
use Rattle.px_core.specs.declared.command.Operator.TheVariants.{Neg, Sub}
use Rattle.px_core.specs.declared.command.Operator.TheVariants as core
use Rattle.px_core.specs.declared.command.Comparison.{Comparison}
use Rattle.px_core.specs.declared.command.Comparison.TheVariants as how
use Rattle.px_core.specs.CommandTree.{CommandTree, CommandTrees, assign, read, load, malloc, input, no_commands, commands_of}
use Rattle.px_core.specs.CommandTree as command
use Rattle.px_syntax.specs.declared.typed_expression.Arithmetic.{Arithmetic}
use Rattle.px_syntax.specs.declared.typed_expression.Arithmetic.TheVariants.{Add, Subtract, Multiply, Divide, Remainder}
use Rattle.px_syntax.specs.declared.typed_expression.Relation.{Relation}
use Rattle.px_syntax.specs.declared.typed_expression.Relation.TheVariants as relation
use Rattle.px_syntax.specs.TypedTree.{Expression, constant, null, local, negated, arithmetic, truth, cell, allocate, get_char, call, stop, Expressions, no_expressions, an_expression, Arguments, no_arguments, an_argument, passed, erased, Condition, compare, word, pointer, both, either, opposite}
use Rattle.px_meaning.specs.Values.{TypeId, BlockType, Value, Word, Null, Block, Unwritten}
use Rattle.px_meaning.specs.Heaps.{HeapMap, with_block}
use Rattle.px_meaning.specs.Calls.{Halt, error, outside, Ending, Returned, Failed}
use Rattle.px_meaning.specs.Execution.{Locals}
use Rattle.px_meaning.specs.Events.{Event, reads, makes}
use Rattle.px_meaning.specs.Operations.{value_at, operand_value, wrapped, of_word, of_words, result_of, Holds, Fails, on_words, quotient}
use Rattle.px_core.specs.Control.{Item, Act, acts}
use Rattle.px_meaning.specs.Steps.{ProcedureCalls, marking, by_pointer, by_written, WasWritten, WereWritten, new_block, keep_result, comes_back, step, divides}
use Rattle.px_meaning.specs.CoreCalls.{Behind}
use Rattle.px_meaning.specs.TreeExecution.{by_outcome, gives, errs, Outcomes, yes, no, fault, Verdicts, RelationHolds, RelationFails, Uses, Loads, Reaches, Returns, CallsProcedure, Branches, Evaluates, EvaluatesAll, PassesAll, Tests, Outcome, division, calculation, Calculates}
use Rattle.px_meaning.proofs.Determined.{after-append}
use Rattle.px_lower.specs.Lowering.{Lowered, made_of, and_then, doing, lowered_expression, lowered_arguments, lowered_passed, lowered_condition, comparison, copy, operation, result_slot}
use Rattle.px_lower.specs.Lowering as lowering
use Rattle.px_lower.specs.Scopes.{IsWithin, AreWithin, AreArgumentsWithin, IsTestWithin}
use Rattle.px_lower.proofs.Ways.{Way, Meets, then', one_of, with', granted, on_such, on_written, on_pointer, on_new, on_input, on_call, ways, same, equal}
use Rattle.px_core.proofs.Acts.{acts_append}
use Rattle.px_core.specs.WellFormed.{IsOperandBelow}
use Rattle.px_lower.proofs.Slots.{Kept, Agrees, set_here, kept_same, kept_set, kept_then, operand_kept, agrees_kept, below_more}
use Rattle.px_lower.proofs.Numbers.{one_more, grows, grows_each, grows_passed, grows_test, grows_right, operand_below, result_more}
use Rattle.px_lower.proofs.Sequences.{grown}

-- 1 - 1 and 1 - 0
one_less_one : int_wrap w32 (pos 1 -ℤ pos 1) ≡ pos 0
unfolding int_wrap
one_less_one = refl

one_less_none : int_wrap w32 (pos 1 -ℤ pos 0) ≡ pos 1
unfolding int_wrap
one_less_none = refl

-- what comes of an operator is a word
word_results : (f : ℤ → ℤ) (x : Value) → IfSome (of_word f x) WasWritten
word_results f (Word x) = tt
word_results f Null = tt
word_results f (Block n) = tt
word_results f Unwritten = tt

words_results : (f : ℤ → ℤ → ℤ) (x y : Value) → IfSome (of_words f x y) WasWritten
words_results f (Word x) (Word y) = tt
words_results f (Word x) Null = tt
words_results f (Word x) (Block n) = tt
words_results f (Word x) Unwritten = tt
words_results f Null y = tt
words_results f (Block n) y = tt
words_results f Unwritten y = tt

-- what the core makes of two words is what the tree makes of them
words_same : (f : ℤ → ℤ → ℤ) (g : ℤ → ℤ → Outcome) → ((x y : ℤ) → gives (wrapped (f x y)) ≡ g x y) → (u v : Value) (P : Outcome → Type 0) → IsSomeAnd (of_words f u v) (λ r. P (gives r)) ≡ IsSomeAnd (on_words g u v) P
words_same f g is (Word x) (Word y) P = λ i. P (is x y i)
words_same f g is (Word x) Null P = refl
words_same f g is (Word x) (Block n) P = refl
words_same f g is (Word x) Unwritten P = refl
words_same f g is Null v P = refl
words_same f g is (Block n) v P = refl
words_same f g is Unwritten v P = refl

-- to wrap quotient and product on the way changes no remainder
remainder_is : (x q y : ℤ) → int_wrap w32 (x -ℤ int_wrap w32 (int_wrap w32 q *ℤ y)) ≡ int_wrap w32 (x -ℤ q *ℤ y)
remainder_is x q y = ap (λ z. int_wrap w32 (x -ℤ z)) (int_wrap-mul_left w32 q y) ∙ int_wrap-sub_right w32 x (q *ℤ y)

module _ {E : Type 0} (w : Way) (seen : Event → E) (bound : Option ℕ) (types : List BlockType) (ccalls tcalls : ProcedureCalls E)
    (ties : (f : ℕ) (arguments : List Value) (heap : HeapMap) (t : List E) (ending : Ending) (end : HeapMap) → Meets w (ccalls f arguments heap t ending end) (tcalls f arguments heap t ending end))
    (t : List E) (ending : Ending) (end : HeapMap)
    (M : List Item → List Value → HeapMap → List E → Type 0)
    (machine : (i : Item) (k : List Item) (slots : List Value) (heap : HeapMap) (so_far : List E) →
    Meets w (M (i ∷ k) slots heap so_far) (step seen bound types ccalls i k slots heap (Behind M so_far t ending end)))
    (N m : ℕ) where
  -- the call fails here
  abbrev pub FailsHere : List E → Halt → Site → HeapMap → Type 0
  FailsHere so_far kind site heap = (t ≡ so_far) × (ending ≡ Failed kind site) × (end ≡ heap)

  -- what is to be known of the goal: where there is a value, and where there is an error
  abbrev pub OnValue : ℕ → List Value → Operand → List Item → (List E → Value → HeapMap → Type 0) → Type 0
  OnValue n before a k G = (so_far : List E) (v : Value) (heap : HeapMap) (slots : List Value) → Kept N n before slots → operand_value slots a ≡ v → WasWritten v → Meets w (M k slots heap so_far) (G so_far v heap)

  abbrev pub OnError : (List E → Halt → Site → HeapMap → Type 0) → Type 0
  OnError G = (so_far : List E) (kind : Halt) (site : Site) (heap : HeapMap) → Meets w (FailsHere so_far kind site heap) (G so_far kind site heap)

  abbrev pub OnOutcome : ℕ → List Value → Operand → List Item → Outcomes E → Type 0
  OnOutcome n before a k K = OnValue n before a k (λ so_far v heap. K so_far (gives v) heap)

  abbrev pub OnFault : Outcomes E → Type 0
  OnFault K = OnError (λ so_far kind site heap. K so_far (errs kind site) heap)

  -- where a condition came out as this word
  abbrev pub OnWord : ℕ → List Value → ℕ → List Item → ℤ → (List E → HeapMap → Type 0) → Type 0
  OnWord n before slot k z G = (so_far : List E) (heap : HeapMap) (slots : List Value) → Kept N n before slots → value_at slots slot ≡ Word z → Meets w (M k slots heap so_far) (G so_far heap)

  pub front : (cs ds : List CommandTree) (k : List Item) (slots : List Value) (heap : HeapMap) (so_far : List E) {T : Type 0} →
      Meets w (M (acts (commands_of cs) (acts (commands_of ds) k)) slots heap so_far) T → Meets w (M (acts (commands_of (cs ++ ds)) k) slots heap so_far) T
  front cs ds k slots heap so_far {T} h = subst (λ i. Meets w (M i slots heap so_far) T) (sym (acts_append cs ds k)) h

  -- ---- single commands

  pub used : (slot : ℕ) (site : Site) (n : ℕ) (before slots : List Value) (v : Value) (so_far : List E) (heap : HeapMap) (K : Outcomes E) (k : List Item) →
      Kept N n before slots → value_at slots slot ≡ v → OnOutcome n before (operand.Slot slot) k K → OnFault K →
      Meets w (M (Act (read slot site) ∷ k) slots heap so_far) (Uses seen types tcalls v site so_far heap K)
  used slot site n before slots v so_far heap K k kept is on err =
      then' w (machine (Act (read slot site)) k slots heap so_far)
      (subst (λ x. Meets w (by_written x (M k slots heap so_far) (FailsHere so_far (error UninitialisedRead) site heap)) (Uses seen types tcalls v site so_far heap K)) (sym is)
      (on_written w v (λ written. on so_far v heap slots kept is written) (err so_far (error UninitialisedRead) site heap)))

  pub assigned : (to : ℕ) (op : Operator) (a b : Operand) (n : ℕ) (before slots : List Value) (x y : Value) (so_far : List E) (heap : HeapMap) (G : Value → Type 0) (k : List Item) →
      Kept N n before slots → n ≤ to → to < N → operand_value slots a ≡ x → operand_value slots b ≡ y → IfSome (result_of op x y) WasWritten →
      ((r : Value) (slots' : List Value) → Kept N n before slots' → value_at slots' to ≡ r → WasWritten r → Meets w (M k slots' heap so_far) (G r)) →
      Meets w (M (Act (assign to op a b) ∷ k) slots heap so_far) (IsSomeAnd (result_of op x y) G)
  assigned to op a b n before slots x y so_far heap G k kept le room ea eb results on =
      let set' = λ (r : Value). M k (slice_set slots to r) heap so_far in
      then' w (machine (Act (assign to op a b)) k slots heap so_far)
      (subst (λ u. Meets w (IsSomeAnd (result_of op u (operand_value slots b)) set') (IsSomeAnd (result_of op x y) G)) (sym ea)
      (subst (λ u. Meets w (IsSomeAnd (result_of op x u) set') (IsSomeAnd (result_of op x y) G)) (sym eb)
      (on_such w (result_of op x y) set' G WasWritten results
      (λ r. on r (slice_set slots to r) (kept_set N n before slots to r kept le) (set_here N slots to r kept.sized room)))))

  -- a word that is known
  worked_out : (to : ℕ) (op : Operator) (a b : Operand) (n : ℕ) (before slots : List Value) (x y v : Value) (so_far : List E) (heap : HeapMap) {T : Type 0} (k : List Item) →
      Kept N n before slots → n ≤ to → to < N → operand_value slots a ≡ x → operand_value slots b ≡ y → result_of op x y ≡ Some v →
      ((slots' : List Value) → Kept N n before slots' → value_at slots' to ≡ v → Meets w (M k slots' heap so_far) T) → Meets w (M (Act (assign to op a b) ∷ k) slots heap so_far) T
  worked_out to op a b n before slots x y v so_far heap {T} k kept le room ea eb is on =
      let set' = λ (r : Value). M k (slice_set slots to r) heap so_far in
      then' w (machine (Act (assign to op a b)) k slots heap so_far)
      (subst (λ u. Meets w (IsSomeAnd (result_of op u (operand_value slots b)) set') T) (sym ea)
      (subst (λ u. Meets w (IsSomeAnd (result_of op x u) set') T) (sym eb)
      (subst (λ o. Meets w (IsSomeAnd o set') T) (sym is)
      (on (slice_set slots to v) (kept_set N n before slots to v kept le) (set_here N slots to v kept.sized room)))))

  pub copies : (to : ℕ) (a : Operand) (n : ℕ) (before slots : List Value) (v : Value) (so_far : List E) (heap : HeapMap) (k : List Item) {T : Type 0} →
      Kept N n before slots → n ≤ to → to < N → operand_value slots a ≡ v →
      ((slots' : List Value) → Kept N n before slots' → value_at slots' to ≡ v → Meets w (M k slots' heap so_far) T) → Meets w (M (Act (copy to a) ∷ k) slots heap so_far) T
  copies to a n before slots v so_far heap k kept le room e on =
      let u = operand_value slots a in
      then' w (machine (Act (copy to a)) k slots heap so_far) (on (slice_set slots to u) (kept_set N n before slots to u kept le) (set_here N slots to u kept.sized room ∙ e))

  -- 1 minus a word
  subtracted : (to slot n : ℕ) (before slots : List Value) (z : ℤ) (so_far : List E) (heap : HeapMap) {T : Type 0} (k : List Item) →
      Kept N n before slots → n ≤ to → to < N → value_at slots slot ≡ Word z →
      ((slots' : List Value) → Kept N n before slots' → value_at slots' to ≡ wrapped (pos 1 -ℤ z) → Meets w (M k slots' heap so_far) T) →
      Meets w (M (Act (assign to Sub (operand.Word (pos 1)) (operand.Slot slot)) ∷ k) slots heap so_far) T
  subtracted to slot n before slots z so_far heap {T} k kept le room e on =
      worked_out to Sub (operand.Word (pos 1)) (operand.Slot slot) n before slots (Word (pos 1)) (Word z) (wrapped (pos 1 -ℤ z)) so_far heap k kept le room refl e refl on

  -- a division, and what comes of it
  abbrev Divides : ℕ → Site → List Item → List Value → List E → HeapMap → Option Value → Type 0
  Divides to site k slots so_far heap q = Behind M so_far t ending end [] (divides to site k slots heap q)

  divided : (to : ℕ) (a b : Operand) (site : Site) (slots : List Value) (x y : Value) (so_far : List E) (heap : HeapMap) (k : List Item) {T : Type 0} → operand_value slots a ≡ x → operand_value slots b ≡ y →
      Meets w (IsSomeAnd (on_words quotient x y) (Divides to site k slots so_far heap)) T → Meets w (M (Act (command.divide to a b site) ∷ k) slots heap so_far) T
  divided to a b site slots x y so_far heap k {T} ea eb h =
      then' w (machine (Act (command.divide to a b site)) k slots heap so_far)
      (subst (λ u. Meets w (IsSomeAnd (on_words quotient u (operand_value slots b)) (Divides to site k slots so_far heap)) T) (sym ea)
      (subst (λ u. Meets w (IsSomeAnd (on_words quotient x u) (Divides to site k slots so_far heap)) T) (sym eb) h))

  -- an operator between operands that lie below the slot of its result
  pub calculates : (op : Arithmetic) (a b : Operand) (to n : ℕ) (before slots : List Value) (x y : Value) (so_far : List E) (heap : HeapMap) (K : Outcomes E) (k : List Item) →
      Kept N n before slots → n ≤ to → suc (result_slot op to) ≤ N → IsOperandBelow to a → IsOperandBelow to b → operand_value slots a ≡ x → operand_value slots b ≡ y →
      OnOutcome n before (operand.Slot (result_slot op to)) k K → OnFault K →
      Meets w (M (acts (commands_of (operation op a b to)) k) slots heap so_far) (Calculates seen types tcalls op x y so_far heap K)
  calculates Add a b to n before slots x y so_far heap K k kept le room la lb ea eb on err =
      then' w (assigned to core.Add a b n before slots x y so_far heap (λ r. K so_far (gives r) heap) k kept le room ea eb (words_results (λ x y. x +ℤ y) x y) (λ r slots'. on so_far r heap slots'))
      (equal w (words_same (λ x y. x +ℤ y) (calculation Add) (λ x y. refl) x y (λ r. K so_far r heap)))
  calculates Subtract a b to n before slots x y so_far heap K k kept le room la lb ea eb on err =
      then' w (assigned to core.Sub a b n before slots x y so_far heap (λ r. K so_far (gives r) heap) k kept le room ea eb (words_results (λ x y. x -ℤ y) x y) (λ r slots'. on so_far r heap slots'))
      (equal w (words_same (λ x y. x -ℤ y) (calculation Subtract) (λ x y. refl) x y (λ r. K so_far r heap)))
  calculates Multiply a b to n before slots x y so_far heap K k kept le room la lb ea eb on err =
      then' w (assigned to core.Mul a b n before slots x y so_far heap (λ r. K so_far (gives r) heap) k kept le room ea eb (words_results (λ x y. x *ℤ y) x y) (λ r slots'. on so_far r heap slots'))
      (equal w (words_same (λ x y. x *ℤ y) (calculation Multiply) (λ x y. refl) x y (λ r. K so_far r heap)))
  calculates (Divide site) a b to n before slots x y so_far heap K k kept le room la lb ea eb on err = divided to a b site slots x y so_far heap k ea eb (words x y)
    where
      by : (z : ℤ) (c : Bool) → Meets w (Divides to site k slots so_far heap (if c then None else Some (wrapped z))) (K so_far (division site (if c then None else Some (wrapped z))) heap)
      by z true = err so_far (error DivisionByZero) site heap
      by z false = on so_far (wrapped z) heap (slice_set slots to (wrapped z)) (kept_set N n before slots to (wrapped z) kept le) (set_here N slots to (wrapped z) kept.sized room) tt

      words : (x y : Value) → Meets w (IsSomeAnd (on_words quotient x y) (Divides to site k slots so_far heap)) (Calculates seen types tcalls (Divide site) x y so_far heap K)
      words (Word p) (Word q) = by (int_div p q) (int_eq q (pos 0))
      words (Word p) Null = same w
      words (Word p) (Block i) = same w
      words (Word p) Unwritten = same w
      words Null y = same w
      words (Block i) y = same w
      words Unwritten y = same w
  calculates (Remainder site) a b to n before slots x y so_far heap K k kept le room la lb ea eb on err = divided to a b site slots x y so_far heap after_quotient ea eb (words x y ea eb)
    where
      after_product : List Item
      after_product = Act (assign (suc (suc to)) core.Sub a (operand.Slot (suc to))) ∷ k

      after_quotient : List Item
      after_quotient = Act (assign (suc to) core.Mul (operand.Slot to) b) ∷ after_product

      behind : (p q : ℤ) → operand_value slots a ≡ Word p → operand_value slots b ≡ Word q →
          Meets w (M after_quotient (slice_set slots to (wrapped (int_div p q))) heap so_far) (K so_far (gives (wrapped (p -ℤ int_div p q *ℤ q))) heap)
      behind p q ea eb =
          let d = wrapped (int_div p q) in
          let product = wrapped (int_wrap w32 (int_div p q) *ℤ q) in
          let slots1 = slice_set slots to d in
          let kept1 = kept_set N to slots slots to d (kept_same N to slots kept.sized) (le_refl to) in
          worked_out (suc to) core.Mul (operand.Slot to) b to slots slots1 d (Word q) product so_far heap after_product kept1 (one_more to) (let r : suc to < N = omega arith in r)
          (set_here N slots to d kept.sized (let r : to < N = omega arith in r)) (operand_kept N to slots slots1 b lb kept1 ∙ eb) refl
          (λ slots2 kept2 is2.
          worked_out (suc (suc to)) core.Sub a (operand.Slot (suc to)) to slots slots2 (Word p) product (wrapped (p -ℤ int_wrap w32 (int_wrap w32 (int_div p q) *ℤ q))) so_far heap k kept2 (let r : to ≤ suc (suc to) = omega arith in r) room
          (operand_kept N to slots slots2 a la kept2 ∙ ea) is2 refl
          (λ slots3 kept3 is3. on so_far (wrapped (p -ℤ int_div p q *ℤ q)) heap slots3 (kept_then N n to before slots slots3 le kept kept3) (is3 ∙ ap (λ z. Word z) (remainder_is p (int_div p q) q)) tt))

      by : (p q : ℤ) → operand_value slots a ≡ Word p → operand_value slots b ≡ Word q → (c : Bool) →
          Meets w (Divides to site after_quotient slots so_far heap (if c then None else Some (wrapped (int_div p q)))) (K so_far (division site (if c then None else Some (wrapped (p -ℤ int_div p q *ℤ q)))) heap)
      by p q ea eb true = err so_far (error DivisionByZero) site heap
      by p q ea eb false = behind p q ea eb

      words : (x y : Value) → operand_value slots a ≡ x → operand_value slots b ≡ y →
          Meets w (IsSomeAnd (on_words quotient x y) (Divides to site after_quotient slots so_far heap)) (Calculates seen types tcalls (Remainder site) x y so_far heap K)
      words (Word p) (Word q) ea eb = by p q ea eb (int_eq q (pos 0))
      words (Word p) Null ea eb = same w
      words (Word p) (Block i) ea eb = same w
      words (Word p) Unwritten ea eb = same w
      words Null y ea eb = same w
      words (Block i) y ea eb = same w
      words Unwritten y ea eb = same w

  pub loaded : (to : ℕ) (at : Operand) (field : FieldId) (block : TypeId) (site : Site) (n : ℕ) (before slots : List Value) (v : Value) (so_far : List E) (heap : HeapMap) (K : Outcomes E) (k : List Item) →
      Kept N n before slots → n ≤ to → to < N → operand_value slots at ≡ v → OnOutcome n before (operand.Slot to) k K → OnFault K →
      Meets w (M (Act (load to at field block site) ∷ Act (read to site) ∷ k) slots heap so_far) (Loads seen types tcalls v field block site so_far heap K)
  loaded to at field block site n before slots v so_far heap K k kept le room e on err =
      let seen' = so_far ++ marking seen Access site in
      let null' = FailsHere seen' (error NullDereference) site heap in
      let freed = FailsHere seen' (error UseAfterFree) site heap in
      let live = λ (i : ℕ) (cells : List Value). M (Act (read to site) ∷ k) (slice_set slots to (value_at cells field.0)) heap seen' in
      then' w (machine (Act (load to at field block site)) (Act (read to site) ∷ k) slots heap so_far)
      (subst (λ u. Meets w (by_pointer heap block.0 u null' freed live) (Loads seen types tcalls v field block site so_far heap K)) (sym e)
      (on_pointer w heap block.0 v null' (K seen' (errs (error NullDereference) site) heap) freed (K seen' (errs (error UseAfterFree) site) heap) live (λ i cells. Uses seen types tcalls (value_at cells field.0) site seen' heap K)
      (err seen' (error NullDereference) site heap) (err seen' (error UseAfterFree) site heap)
      (λ i cells. let x = value_at cells field.0 in
      used to site n before (slice_set slots to x) x seen' heap K k (kept_set N n before slots to x kept le) (set_here N slots to x kept.sized room) on err)))

  returned : (proc : ProcId) (to : Option ℕ) (site : Site) (k : List Item) (slots : List Value) (so_far : List E) (err : List E → Halt → Site → HeapMap → Type 0) (on : List E → Value → HeapMap → Type 0) →
      ((so_far : List E) (v : Value) (heap : HeapMap) → Meets w (M k (keep_result to slots v) heap so_far) (on so_far v heap)) → OnError err →
      (t' : List E) (ending' : Ending) (heap' : HeapMap) →
      Meets w (comes_back seen proc to site k slots t' heap' (Behind M so_far t ending end) ending') (Returns seen types tcalls proc site so_far t' heap' err on ending')
  returned proc to site k slots so_far err on go fail t' (Returned v) heap' =
      let events = marking seen (Enter proc) site ++ (t' ++ marking seen Leave site) in
      subst (λ z. Meets w (M k (keep_result to slots v) heap' z) (on (so_far ++ events) v heap')) (sym (after-append so_far events)) (go (so_far ++ events) v heap')
  returned proc to site k slots so_far err on go fail t' (Failed kind at) heap' =
      let events = marking seen (Enter proc) site ++ t' in
      subst (λ z. Meets w (FailsHere z kind at heap') (err (so_far ++ events) kind at heap')) (sym (after-append so_far events)) (fail (so_far ++ events) kind at heap')

  pub called : (to : Option ℕ) (proc : ProcId) (operands : List Operand) (site : Site) (slots vs : List Value) (so_far : List E) (heap : HeapMap) (err : List E → Halt → Site → HeapMap → Type 0) (on : List E → Value → HeapMap → Type 0) (k : List Item) →
      map (operand_value slots) operands ≡ vs → WereWritten vs →
      ((so_far : List E) (v : Value) (heap : HeapMap) → Meets w (M k (keep_result to slots v) heap so_far) (on so_far v heap)) → OnError err →
      Meets w (M (Act (command.call to proc operands site) ∷ k) slots heap so_far) (CallsProcedure seen types tcalls proc site vs so_far heap err on)
  called to proc operands site slots vs so_far heap err on k e written go fail =
      let back = λ (t' : List E) (ending' : Ending) (heap' : HeapMap). comes_back seen proc to site k slots t' heap' (Behind M so_far t ending end) ending' in
      let on' = λ (t' : List E) (ending' : Ending) (heap' : HeapMap). Returns seen types tcalls proc site so_far t' heap' err on ending' in
      then' w (machine (Act (command.call to proc operands site)) k slots heap so_far)
      (subst (λ us. Meets w (WereWritten us × ((t' : List E) × (ending' : Ending) × (heap' : HeapMap) × ccalls proc.0 us heap t' ending' heap' × back t' ending' heap')) (CallsProcedure seen types tcalls proc site vs so_far heap err on)) (sym e)
      (granted w written (on_call w (λ t' ending' heap'. ccalls proc.0 vs heap t' ending' heap') (λ t' ending' heap'. tcalls proc.0 vs heap t' ending' heap') back on'
      (λ t' ending' heap'. ties proc.0 vs heap t' ending' heap')
      (λ t' ending' heap'. returned proc to site k slots so_far err on go fail t' ending' heap'))))

  pub tested : (to : ℕ) (how : Comparison) (a b : Operand) (site : Site) (n : ℕ) (before slots : List Value) (x y : Value) (so_far : List E) (heap : HeapMap) (K : Verdicts E) (k : List Item) →
      Kept N n before slots → n ≤ to → to < N → operand_value slots a ≡ x → operand_value slots b ≡ y →
      OnWord n before to k (pos 1) (λ so_far heap. K so_far yes heap) → OnWord n before to k (pos 0) (λ so_far heap. K so_far no heap) →
      Meets w (M (Act (command.test to how a b site) ∷ k) slots heap so_far) (Branches seen types tcalls (Holds how x y) (Fails how x y) site so_far heap K)
  tested to how a b site n before slots x y so_far heap K k kept le room ea eb on_yes on_no =
      let one = slice_set slots to (Word (pos 1)) in
      let nil = slice_set slots to (Word (pos 0)) in
      let outcome = λ (u v : Value). (Holds how u v × M k one heap (so_far ++ marking seen Then site)) ⊎ (Fails how u v × M k nil heap (so_far ++ marking seen Else site)) in
      let T = Branches seen types tcalls (Holds how x y) (Fails how x y) site so_far heap K in
      then' w (machine (Act (command.test to how a b site)) k slots heap so_far)
      (subst (λ u. Meets w (outcome u (operand_value slots b)) T) (sym ea)
      (subst (λ u. Meets w (outcome x u) T) (sym eb)
      (one_of w
      (with' w (Holds how x y) (on_yes (so_far ++ marking seen Then site) heap one (kept_set N n before slots to (Word (pos 1)) kept le) (set_here N slots to (Word (pos 1)) kept.sized room)))
      (with' w (Fails how x y) (on_no (so_far ++ marking seen Else site) heap nil (kept_set N n before slots to (Word (pos 0)) kept le) (set_here N slots to (Word (pos 0)) kept.sized room))))))

  compared : (r : Relation) (to : ℕ) (a b : Operand) (site : Site) (n : ℕ) (before slots : List Value) (x y : Value) (so_far : List E) (heap : HeapMap) (K : Verdicts E) (k : List Item) →
      Kept N n before slots → n ≤ to → to < N → operand_value slots a ≡ x → operand_value slots b ≡ y →
      OnWord n before to k (pos 1) (λ so_far heap. K so_far yes heap) → OnWord n before to k (pos 0) (λ so_far heap. K so_far no heap) →
      Meets w (M (Act (comparison r to a b site) ∷ k) slots heap so_far) (Branches seen types tcalls (RelationHolds r x y) (RelationFails r x y) site so_far heap K)
  compared relation.Equal to a b site n before slots x y so_far heap K k kept le room ea eb f g = tested to how.Equal a b site n before slots x y so_far heap K k kept le room ea eb f g
  compared relation.Unequal to a b site n before slots x y so_far heap K k kept le room ea eb f g = tested to how.Unequal a b site n before slots x y so_far heap K k kept le room ea eb f g
  compared relation.Less to a b site n before slots x y so_far heap K k kept le room ea eb f g = tested to how.Less a b site n before slots x y so_far heap K k kept le room ea eb f g
  compared relation.Greater to a b site n before slots x y so_far heap K k kept le room ea eb f g = tested to how.Less b a site n before slots y x so_far heap K k kept le room eb ea f g
  compared relation.AtMost to a b site n before slots x y so_far heap K k kept le room ea eb f g = tested to how.AtMost a b site n before slots x y so_far heap K k kept le room ea eb f g
  compared relation.AtLeast to a b site n before slots x y so_far heap K k kept le room ea eb f g = tested to how.AtMost b a site n before slots y x so_far heap K k kept le room eb ea f g
  compared relation.SamePlace to a b site n before slots x y so_far heap K k kept le room ea eb f g = tested to how.SamePlace a b site n before slots x y so_far heap K k kept le room ea eb f g
  compared relation.OtherPlace to a b site n before slots x y so_far heap K k kept le room ea eb f g = tested to how.OtherPlace a b site n before slots x y so_far heap K k kept le room ea eb f g

  -- of a slot that is 1, the first list, and of one that is 0, the second
  pub chosen_first : (slot : ℕ) (cs ds : CommandTrees) (k : List Item) (slots : List Value) (heap : HeapMap) (so_far : List E) → value_at slots slot ≡ Word (pos 1) →
      Meets w (M (Act (command.choose slot cs ds) ∷ k) slots heap so_far) (M (acts cs k) slots heap so_far)
  chosen_first slot cs ds k slots heap so_far e =
      then' w (machine (Act (command.choose slot cs ds)) k slots heap so_far)
      (ways w (λ h. elim h [ inl h ↦ h.1 | inr h ↦ (let d : Word (pos 1) ≡ Word (pos 0) = sym e ∙ h.0 in cc) ]) (λ h. inl (e, h)))

  pub chosen_second : (slot : ℕ) (cs ds : CommandTrees) (k : List Item) (slots : List Value) (heap : HeapMap) (so_far : List E) → value_at slots slot ≡ Word (pos 0) →
      Meets w (M (Act (command.choose slot cs ds) ∷ k) slots heap so_far) (M (acts ds k) slots heap so_far)
  chosen_second slot cs ds k slots heap so_far e =
      then' w (machine (Act (command.choose slot cs ds)) k slots heap so_far)
      (ways w (λ h. elim h [ inl h ↦ (let d : Word (pos 0) ≡ Word (pos 1) = sym e ∙ h.0 in cc) | inr h ↦ h.1 ]) (λ h. inr (e, h)))

  -- a cell that isn't read
  pub skipped : (to : ℕ) (at : Operand) (field : FieldId) (block : TypeId) (site : Site) (n : ℕ) (before slots : List Value) (v : Value) (so_far : List E) (heap : HeapMap) (err : List E → Halt → Site → HeapMap → Type 0) (on : List E → HeapMap → Type 0) (k : List Item) →
      Kept N n before slots → n ≤ to → operand_value slots at ≡ v → ((so_far : List E) (heap : HeapMap) (slots' : List Value) → Kept N n before slots' → Meets w (M k slots' heap so_far) (on so_far heap)) → OnError err →
      Meets w (M (Act (load to at field block site) ∷ Act (command.unset to) ∷ k) slots heap so_far) (Reaches seen types tcalls v block site so_far heap err on)
  skipped to at field block site n before slots v so_far heap err on k kept le e go fail =
      let seen' = so_far ++ marking seen Access site in
      let null' = FailsHere seen' (error NullDereference) site heap in
      let freed = FailsHere seen' (error UseAfterFree) site heap in
      let set' = λ (cells : List Value). slice_set slots to (value_at cells field.0) in
      let live = λ (i : ℕ) (cells : List Value). M (Act (command.unset to) ∷ k) (set' cells) heap seen' in
      then' w (machine (Act (load to at field block site)) (Act (command.unset to) ∷ k) slots heap so_far)
      (subst (λ u. Meets w (by_pointer heap block.0 u null' freed live) (Reaches seen types tcalls v block site so_far heap err on)) (sym e)
      (on_pointer w heap block.0 v null' (err seen' (error NullDereference) site heap) freed (err seen' (error UseAfterFree) site heap) live (λ i cells. on seen' heap)
      (fail seen' (error NullDereference) site heap) (fail seen' (error UseAfterFree) site heap)
      (λ i cells.
      then' w (machine (Act (command.unset to)) k (set' cells) heap seen')
      (go seen' heap (slice_set (set' cells) to Unwritten) (kept_set N n before (set' cells) to Unwritten (kept_set N n before slots to (value_at cells field.0) kept le) le)))))

  -- ---- commands after others

  -- k' is what is made of the value, in front of k
  abbrev pub Next : {A B : Type 0} → Lowered A → (A → ℕ → Lowered B) → List Item → List Item → Type 1
  Next {A} {B} x f k k' = (a : A) → x.value ≡ Some a → (slots : List Value) (heap : HeapMap) (so_far : List E) (T : Type 0) →
      ((f a x.next).next ≤ N → ((b : B) → (f a x.next).value ≡ Some b → (and_then x f).value ≡ Some b) → Meets w (M (acts (commands_of (f a x.next).commands) k) slots heap so_far) T) →
      Meets w (M k' slots heap so_far) T

  next_of : {A B : Type 0} (x : Lowered A) (f : A → ℕ → Lowered B) (k : List Item) (a : A) → x.value ≡ Some a → (f a x.next).next ≤ N → Next x f k (acts (commands_of (f a x.next).commands) k)
  next_of x f k a e room b is slots heap so_far T h =
      let same = same_Some a b (sym e ∙ is) in
      subst (λ c. Meets w (M (acts (commands_of (f c x.next).commands) k) slots heap so_far) T) (sym same)
      (h (subst (λ c. (f c x.next).next ≤ N) same room) (λ c q. ap (λ o. (made_of x.commands x.next o f).value) is ∙ q))

  -- what stands in front of k then are some commands
  pub sequence_of : {A B : Type 0} (x : Lowered A) (f : A → ℕ → Lowered B) (k : List Item) (slots : List Value) (heap : HeapMap) (so_far : List E) {T : Type 0} → ((a : A) → x.next ≤ (f a x.next).next) → (and_then x f).next ≤ N →
      ((ds : List CommandTree) → x.next ≤ N → Next x f k (acts (commands_of ds) k) → Meets w (M (acts (commands_of x.commands) (acts (commands_of ds) k)) slots heap so_far) T) → Meets w (M (acts (commands_of (and_then x f).commands) k) slots heap so_far) T
  sequence_of {A} {B} x f k slots heap so_far {T} further room go = by x.value refl room
    where
      by : (o : Option A) → x.value ≡ o → (made_of x.commands x.next o f).next ≤ N → Meets w (M (acts (commands_of (made_of x.commands x.next o f).commands) k) slots heap so_far) T
      by None e room = go [] room (λ a is. cc)
      by (Some a) e room = front x.commands (f a x.next).commands k slots heap so_far (go (f a x.next).commands (le_trans (further a) room) (next_of x f k a e room))

  pub sequence : {A B : Type 0} (x : Lowered A) (f : A → ℕ → Lowered B) (k : List Item) (slots : List Value) (heap : HeapMap) (so_far : List E) {T : Type 0} → ((a : A) → x.next ≤ (f a x.next).next) → (and_then x f).next ≤ N →
      ((k' : List Item) → x.next ≤ N → Next x f k k' → Meets w (M (acts (commands_of x.commands) k') slots heap so_far) T) → Meets w (M (acts (commands_of (and_then x f).commands) k) slots heap so_far) T
  sequence x f k slots heap so_far further room go = sequence_of x f k slots heap so_far further room (λ ds. go (acts (commands_of ds) k))

  -- what is known of an expression, of values that aren't read, and of a condition
  abbrev Does : Expression → ℕ → Type 1
  Does e n = (lowered_expression e n).next ≤ N →
      (locals : Locals) (slots : List Value) (so_far : List E) (heap : HeapMap) (K : Outcomes E) (k : List Item) → Agrees N m locals slots →
      ((a : Operand) → (lowered_expression e n).value ≡ Some a → OnOutcome n slots a k K) → OnFault K →
      Meets w (M (acts (commands_of (lowered_expression e n).commands) k) slots heap so_far) (Evaluates seen types tcalls e locals so_far heap K)

  abbrev DoesPassed : Expressions → ℕ → Type 1
  DoesPassed es n = m ≤ n → (lowered_passed es n).next ≤ N →
      (locals : Locals) (slots : List Value) (so_far : List E) (heap : HeapMap) (err : List E → Halt → Site → HeapMap → Type 0) (on : List E → HeapMap → Type 0) (k : List Item) → Agrees N m locals slots →
      ((u : ⊤) → (lowered_passed es n).value ≡ Some u → (so_far : List E) (heap : HeapMap) (slots' : List Value) → Kept N n slots slots' → Meets w (M k slots' heap so_far) (on so_far heap)) →
      OnError err →
      Meets w (M (acts (commands_of (lowered_passed es n).commands) k) slots heap so_far) (PassesAll seen types tcalls es locals so_far heap err on)

  abbrev DoesTest : Condition → ℕ → Type 1
  DoesTest c n = (lowered_condition c n).next ≤ N →
      (locals : Locals) (slots : List Value) (so_far : List E) (heap : HeapMap) (K : Verdicts E) (k : List Item) → Agrees N m locals slots →
      ((slot : ℕ) → (lowered_condition c n).value ≡ Some slot → OnWord n slots slot k (pos 1) (λ so_far heap. K so_far yes heap)) →
      ((slot : ℕ) → (lowered_condition c n).value ≡ Some slot → OnWord n slots slot k (pos 0) (λ so_far heap. K so_far no heap)) →
      OnError (λ so_far kind site heap. K so_far (fault kind site) heap) →
      Meets w (M (acts (commands_of (lowered_condition c n).commands) k) slots heap so_far) (Tests seen types tcalls c locals so_far heap K)

  -- a value that isn't read, and the rest
  value_passed : (e : Expression) (rest : Expressions) (n : ℕ) → m ≤ n → (and_then (lowered_expression e n) (λ _ n. lowered_passed rest n)).next ≤ N →
      (locals : Locals) (slots : List Value) (so_far : List E) (heap : HeapMap) (err : List E → Halt → Site → HeapMap → Type 0) (on : List E → HeapMap → Type 0) (k : List Item) → Agrees N m locals slots →
      ((u : ⊤) → (and_then (lowered_expression e n) (λ _ n. lowered_passed rest n)).value ≡ Some u → (so_far : List E) (heap : HeapMap) (slots' : List Value) → Kept N n slots slots' → Meets w (M k slots' heap so_far) (on so_far heap)) →
      OnError err → Does e n → DoesPassed rest (lowered_expression e n).next →
      Meets w (M (acts (commands_of (and_then (lowered_expression e n) (λ _ n. lowered_passed rest n)).commands) k) slots heap so_far)
      (Evaluates seen types tcalls e locals so_far heap (by_outcome err (λ so_far v heap. PassesAll seen types tcalls rest locals so_far heap err on)))
  value_passed e rest n le room locals slots so_far heap err on k agrees go fail first more =
      let x = lowered_expression e n in
      let gx : n ≤ x.next = grows e n in
      sequence x (λ _ n. lowered_passed rest n) k slots heap so_far (λ a. grows_passed rest x.next) room (λ k' room' next.
      first room' locals slots so_far heap _ k' agrees
      (λ a is so_far' v heap' slots' kept same _. next a is slots' heap' so_far' _ (λ room'' value.
      more (le_trans le gx) room'' locals slots' so_far' heap' err on k (agrees_kept N m n locals slots slots' le agrees kept)
      (λ u is' so_far3 heap3 slots3 kept3. go u (value u is') so_far3 heap3 slots3 (kept_then N n x.next slots slots' slots3 gx kept kept3))
      fail))
      fail)

  -- a right side, whose outcome is copied
  right_side : (d : Condition) (n to : ℕ) → n ≤ to → (lowering.copied to (lowered_condition d (suc to))).next ≤ N →
      (locals : Locals) (before slots : List Value) (so_far : List E) (heap : HeapMap) (K : Verdicts E) (k : List Item) → Agrees N m locals slots → Kept N n before slots →
      OnWord n before to k (pos 1) (λ so_far heap. K so_far yes heap) → OnWord n before to k (pos 0) (λ so_far heap. K so_far no heap) → OnError (λ so_far kind site heap. K so_far (fault kind site) heap) → DoesTest d (suc to) →
      Meets w (M (acts (commands_of (lowering.copied to (lowered_condition d (suc to))).commands) k) slots heap so_far) (Tests seen types tcalls d locals so_far heap K)
  right_side d n to low room locals before slots so_far heap K k agrees kept on_yes on_no err test =
      let y = lowered_condition d (suc to) in
      let further : n ≤ suc to = le_trans low (one_more to) in
      sequence y (λ right n. doing (copy to (operand.Slot right)) n) k slots heap so_far (λ right. le_refl _) room (λ k' room' next.
      let less : to < N = le_trans (grows_test d (suc to)) room' in
      test room' locals slots so_far heap K k' agrees
      (λ right is so_far' heap' slots' kept' same. next right is slots' heap' so_far' _ (λ room'' value.
      copies to (operand.Slot right) n before slots' (Word (pos 1)) so_far' heap' k (kept_then N n (suc to) before slots slots' further kept kept') low less same
      (λ slots3 kept3 is3. on_yes so_far' heap' slots3 kept3 is3)))
      (λ right is so_far' heap' slots' kept' same. next right is slots' heap' so_far' _ (λ room'' value.
      copies to (operand.Slot right) n before slots' (Word (pos 0)) so_far' heap' k (kept_then N n (suc to) before slots slots' further kept kept') low less same
      (λ slots3 kept3 is3. on_no so_far' heap' slots3 kept3 is3)))
      err)

  -- ---- whole trees: in front of k they meet the tree's goal, where k does so after them

  mutual
    pub of_expression : (e : Expression) (n : ℕ) → IsWithin m e → m ≤ n → (lowered_expression e n).next ≤ N →
        (locals : Locals) (slots : List Value) (so_far : List E) (heap : HeapMap) (K : Outcomes E) (k : List Item) → Agrees N m locals slots →
        ((a : Operand) → (lowered_expression e n).value ≡ Some a → OnOutcome n slots a k K) → OnFault K →
        Meets w (M (acts (commands_of (lowered_expression e n).commands) k) slots heap so_far) (Evaluates seen types tcalls e locals so_far heap K)
    of_expression (constant z) n l le room locals slots so_far heap K k agrees on err = on (operand.Word z) refl so_far (Word z) heap slots (kept_same N n slots agrees.sized) refl tt
    of_expression null n l le room locals slots so_far heap K k agrees on err = on operand.Null refl so_far Null heap slots (kept_same N n slots agrees.sized) refl tt
    of_expression (local i site) n l le room locals slots so_far heap K k agrees on err =
        used i site n slots slots (locals i) so_far heap K k (kept_same N n slots agrees.sized) (agrees.agree i l) (on (operand.Slot i) refl) err
    of_expression (negated e) n l le room locals slots so_far heap K k agrees on err =
        let x = lowered_expression e n in
        let to = operand.Slot x.next in
        sequence x _ k slots heap so_far (λ a. one_more _) room (λ k' room' next.
        of_expression e n l le room' locals slots so_far heap _ k' agrees
        (λ a is so_far' v heap' slots' kept same _. next a is slots' heap' so_far' _ (λ room'' value.
        assigned x.next Neg a (operand.Word (pos 0)) n slots slots' v (Word (pos 0)) so_far' heap' (λ r. K so_far' (gives r) heap') k kept (grows e n) room'' same refl (word_results neg_ℤ v)
        (λ r slots'' kept' is' written. on to (value to refl) so_far' r heap' slots'' kept' is' written)))
        err)
    of_expression (arithmetic op a b) n l le room locals slots so_far heap K k agrees on err =
        let x = lowered_expression a n in
        let y = lowered_expression b x.next in
        let gx : n ≤ x.next = grows a n in
        let gy : x.next ≤ y.next = grows b x.next in
        sequence x _ k slots heap so_far (λ u. grown y _ x.next gy (λ v. result_more op _)) room (λ k1 room1 next1.
        of_expression a n l.0 le room1 locals slots so_far heap _ k1 agrees
        (λ u is so_far' xv heap' slots' kept same _. next1 u is slots' heap' so_far' _ (λ room2 value.
        sequence y _ k slots' heap' so_far' (λ v. result_more op _) room2 (λ k2 room3 next2.
        of_expression b x.next l.1 (le_trans le gx) room3 locals slots' so_far' heap' _ k2 (agrees_kept N m n locals slots slots' le agrees kept)
        (λ v is' so_far'' yv heap'' slots'' kept' same' _. next2 v is' slots'' heap'' so_far'' _ (λ room4 value'.
        let to = operand.Slot (result_slot op y.next) in
        calculates op u v y.next n slots slots'' xv yv so_far'' heap'' K k (kept_then N n x.next slots slots' slots'' gx kept kept') (le_trans gx gy) room4
        (below_more x.next y.next u gy (operand_below m n a l.0 le u is)) (operand_below m x.next b l.1 (le_trans le gx) v is')
        (operand_kept N x.next slots' slots'' u (operand_below m n a l.0 le u is) kept' ∙ same) same' (on to (value to (value' to refl))) err))
        err)))
        err)
    of_expression (truth c) n l le room locals slots so_far heap K k agrees on err =
        let x = lowered_condition c n in
        sequence x _ k slots heap so_far (λ slot. le_refl _) room (λ k' room' next.
        of_condition c n l le room' locals slots so_far heap _ k' agrees
        (λ slot is so_far' heap' slots' kept same. next slot is slots' heap' so_far' _ (λ room'' value. on (operand.Slot slot) (value (operand.Slot slot) refl) so_far' (Word (pos 1)) heap' slots' kept same tt))
        (λ slot is so_far' heap' slots' kept same. next slot is slots' heap' so_far' _ (λ room'' value. on (operand.Slot slot) (value (operand.Slot slot) refl) so_far' (Word (pos 0)) heap' slots' kept same tt))
        err)
    of_expression (cell p field block site) n l le room locals slots so_far heap K k agrees on err =
        let x = lowered_expression p n in
        let to = operand.Slot x.next in
        sequence x _ k slots heap so_far (λ a. one_more _) room (λ k' room' next.
        of_expression p n l le room' locals slots so_far heap _ k' agrees
        (λ a is so_far' v heap' slots' kept same _. next a is slots' heap' so_far' _ (λ room'' value.
        loaded x.next a field block site n slots slots' v so_far' heap' K k kept (grows p n) room'' same (on to (value to refl)) err))
        err)
    of_expression (allocate block site) n l le room locals slots so_far heap K k agrees on err =
        let kept = kept_same N n slots agrees.sized in
        let there = on (operand.Slot n) refl in
        then' w (machine (Act (malloc n block site)) k slots heap so_far)
        (on_new w heap
        (λ i. M k (slice_set slots n (Block i)) (with_block heap i (new_block types block.0)) (so_far ++ seen (makes site i) ∷ []))
        (λ i. K (so_far ++ seen (makes site i) ∷ []) (gives (Block i)) (with_block heap i (new_block types block.0)))
        (there (so_far ++ marking seen NoBlock site) Null heap (slice_set slots n Null) (kept_set N n slots slots n Null kept (le_refl n)) (set_here N slots n Null agrees.sized room) tt)
        (λ i. there (so_far ++ seen (makes site i) ∷ []) (Block i) (with_block heap i (new_block types block.0)) (slice_set slots n (Block i)) (kept_set N n slots slots n (Block i) kept (le_refl n)) (set_here N slots n (Block i) agrees.sized room) tt))
    of_expression (get_char site) n l le room locals slots so_far heap K k agrees on err =
        let kept = kept_same N n slots agrees.sized in
        let there = on (operand.Slot n) refl in
        then' w (machine (Act (input n site)) k slots heap so_far)
        (on_input w (λ z. M k (slice_set slots n (Word z)) heap (so_far ++ seen (reads site z) ∷ [])) (λ z. K (so_far ++ seen (reads site z) ∷ []) (gives (Word z)) heap)
        (λ z. there (so_far ++ seen (reads site z) ∷ []) (Word z) heap (slice_set slots n (Word z)) (kept_set N n slots slots n (Word z) kept (le_refl n)) (set_here N slots n (Word z) agrees.sized room) tt))
    of_expression (call proc arguments result site) n l le room locals slots so_far heap K k agrees on err =
        let x = lowered_arguments arguments n in
        let gx : n ≤ x.next = grows_each arguments n in
        let to = operand.Slot x.next in
        sequence x _ k slots heap so_far (λ xs. one_more _) room (λ k' room' next.
        of_arguments arguments n l le room' locals slots so_far heap _ _ k' agrees
        (λ xs is so_far' vs heap' slots' kept are written. next xs is slots' heap' so_far' _ (λ room'' value.
        called (Some x.next) proc xs site slots' vs so_far' heap' _ _ (Act (read x.next site) ∷ k) are written
        (λ so_far'' v heap''.
        used x.next site n slots (slice_set slots' x.next v) v so_far'' heap'' K k (kept_set N n slots slots' x.next v kept gx) (set_here N slots' x.next v kept.sized room'') (on to (value to refl)) err)
        err))
        err)
    of_expression (stop number site parts) n l le room locals slots so_far heap K k agrees on err =
        let x = lowered_passed parts n in
        sequence x _ k slots heap so_far (λ u. le_refl _) room (λ k' room' next.
        of_passed parts n l le room' locals slots so_far heap _ _ k' agrees
        (λ u is so_far' heap' slots' kept. next u is slots' heap' so_far' _ (λ room'' value.
        then' w (machine (Act (command.stop number site)) k slots' heap' so_far') (err so_far' (outside number) site heap')))
        err)

    pub of_arguments : (es : Arguments) (n : ℕ) → AreArgumentsWithin m es → m ≤ n → (lowered_arguments es n).next ≤ N →
        (locals : Locals) (slots : List Value) (so_far : List E) (heap : HeapMap) (err : List E → Halt → Site → HeapMap → Type 0) (on : List E → List Value → HeapMap → Type 0) (k : List Item) → Agrees N m locals slots →
        ((xs : List Operand) → (lowered_arguments es n).value ≡ Some xs → (so_far : List E) (vs : List Value) (heap : HeapMap) (slots' : List Value) → Kept N n slots slots' → map (operand_value slots') xs ≡ vs → WereWritten vs → Meets w (M k slots' heap so_far) (on so_far vs heap)) →
        OnError err →
        Meets w (M (acts (commands_of (lowered_arguments es n).commands) k) slots heap so_far) (EvaluatesAll seen types tcalls es locals so_far heap err on)
    of_arguments no_arguments n l le room locals slots so_far heap err on k agrees go fail = go [] refl so_far [] heap slots (kept_same N n slots agrees.sized) refl tt
    of_arguments (an_argument (passed e) rest) n l le room locals slots so_far heap err on k agrees go fail =
        let x = lowered_expression e n in
        let y = lowered_arguments rest x.next in
        let gx : n ≤ x.next = grows e n in
        let gy : x.next ≤ y.next = grows_each rest x.next in
        sequence x _ k slots heap so_far (λ a. grown y _ x.next gy (λ xs. le_refl _)) room (λ k1 room1 next1.
        of_expression e n l.0 le room1 locals slots so_far heap _ k1 agrees
        (λ a is so_far' u heap' slots' kept same first. next1 a is slots' heap' so_far' _ (λ room2 value.
        sequence y _ k slots' heap' so_far' (λ xs. le_refl _) room2 (λ k2 room3 next2.
        of_arguments rest x.next l.1 (le_trans le gx) room3 locals slots' so_far' heap' err _ k2 (agrees_kept N m n locals slots slots' le agrees kept)
        (λ xs is' so_far'' vs heap'' slots'' kept' are written. next2 xs is' slots'' heap'' so_far'' _ (λ room4 value'.
        go (a ∷ xs) (value (a ∷ xs) (value' (a ∷ xs) refl)) so_far'' (u ∷ vs) heap'' slots'' (kept_then N n x.next slots slots' slots'' gx kept kept')
        (ap₂ (λ p q. p ∷ q) (operand_kept N x.next slots' slots'' a (operand_below m n e l.0 le a is) kept' ∙ same) are)
        (first, written)))
        fail)))
        fail)
    of_arguments (an_argument (erased parts) rest) n l le room locals slots so_far heap err on k agrees go fail =
        let x = lowered_passed parts n in
        let gx : n ≤ x.next = grows_passed parts n in
        sequence x (λ _ n. lowered_arguments rest n) k slots heap so_far (λ u. grows_each rest x.next) room (λ k' room' next.
        of_passed parts n l.0 le room' locals slots so_far heap err _ k' agrees
        (λ u is so_far' heap' slots' kept. next u is slots' heap' so_far' _ (λ room'' value.
        of_arguments rest x.next l.1 (le_trans le gx) room'' locals slots' so_far' heap' err on k (agrees_kept N m n locals slots slots' le agrees kept)
        (λ xs is' so_far'' vs heap'' slots'' kept' are written. go xs (value xs is') so_far'' vs heap'' slots'' (kept_then N n x.next slots slots' slots'' gx kept kept') are written)
        fail))
        fail)

    -- values that aren't read
    pub of_passed : (es : Expressions) (n : ℕ) → AreWithin m es → m ≤ n → (lowered_passed es n).next ≤ N →
        (locals : Locals) (slots : List Value) (so_far : List E) (heap : HeapMap) (err : List E → Halt → Site → HeapMap → Type 0) (on : List E → HeapMap → Type 0) (k : List Item) → Agrees N m locals slots →
        ((u : ⊤) → (lowered_passed es n).value ≡ Some u → (so_far : List E) (heap : HeapMap) (slots' : List Value) → Kept N n slots slots' → Meets w (M k slots' heap so_far) (on so_far heap)) →
        OnError err →
        Meets w (M (acts (commands_of (lowered_passed es n).commands) k) slots heap so_far) (PassesAll seen types tcalls es locals so_far heap err on)
    of_passed no_expressions n l le room locals slots so_far heap err on k agrees go fail = go tt refl so_far heap slots (kept_same N n slots agrees.sized)
    of_passed (an_expression (local i site) rest) n l le room locals slots so_far heap err on k agrees go fail = of_passed rest n l.1 le room locals slots so_far heap err on k agrees go fail
    of_passed (an_expression (cell p field block site) rest) n l le room locals slots so_far heap err on k agrees go fail =
        let x = lowered_expression p n in
        let gx : n ≤ x.next = grows p n in
        let further : n ≤ suc x.next = le_trans gx (one_more x.next) in
        sequence x _ k slots heap so_far (λ a. le_trans (one_more x.next) (grows_passed rest (suc x.next))) room (λ k' room' next.
        of_expression p n l.0 le room' locals slots so_far heap _ k' agrees
        (λ a is so_far' v heap' slots' kept same _. next a is slots' heap' so_far' _ (λ room'' value.
        skipped x.next a field block site n slots slots' v so_far' heap' err _ (acts (commands_of (lowered_passed rest (suc x.next)).commands) k) kept gx same
        (λ so_far'' heap'' slots'' kept'.
        of_passed rest (suc x.next) l.1 (le_trans le further) room'' locals slots'' so_far'' heap'' err on k (agrees_kept N m n locals slots slots'' le agrees kept')
        (λ u is' so_far3 heap3 slots3 kept3. go u (value u is') so_far3 heap3 slots3 (kept_then N n (suc x.next) slots slots'' slots3 further kept' kept3))
        fail)
        fail))
        fail)
    of_passed (an_expression (call proc arguments result site) rest) n l le room locals slots so_far heap err on k agrees go fail =
        let x = lowered_arguments arguments n in
        let gx : n ≤ x.next = grows_each arguments n in
        sequence x _ k slots heap so_far (λ xs. grows_passed rest x.next) room (λ k' room' next.
        of_arguments arguments n l.0 le room' locals slots so_far heap err _ k' agrees
        (λ xs is so_far' vs heap' slots' kept are written. next xs is slots' heap' so_far' _ (λ room'' value.
        called None proc xs site slots' vs so_far' heap' err _ (acts (commands_of (lowered_passed rest x.next).commands) k) are written
        (λ so_far'' v heap''.
        of_passed rest x.next l.1 (le_trans le gx) room'' locals slots' so_far'' heap'' err on k (agrees_kept N m n locals slots slots' le agrees kept)
        (λ u is' so_far3 heap3 slots3 kept3. go u (value u is') so_far3 heap3 slots3 (kept_then N n x.next slots slots' slots3 gx kept kept3))
        fail)
        fail))
        fail)
    of_passed (an_expression (constant z) rest) n l le room locals slots so_far heap err on k agrees go fail =
        value_passed (constant z) rest n le room locals slots so_far heap err on k agrees go fail (of_expression (constant z) n l.0 le) (of_passed rest (lowered_expression (constant z) n).next l.1)
    of_passed (an_expression null rest) n l le room locals slots so_far heap err on k agrees go fail =
        value_passed null rest n le room locals slots so_far heap err on k agrees go fail (of_expression null n l.0 le) (of_passed rest (lowered_expression null n).next l.1)
    of_passed (an_expression (negated e) rest) n l le room locals slots so_far heap err on k agrees go fail =
        value_passed (negated e) rest n le room locals slots so_far heap err on k agrees go fail (of_expression (negated e) n l.0 le) (of_passed rest (lowered_expression (negated e) n).next l.1)
    of_passed (an_expression (arithmetic op a b) rest) n l le room locals slots so_far heap err on k agrees go fail =
        value_passed (arithmetic op a b) rest n le room locals slots so_far heap err on k agrees go fail (of_expression (arithmetic op a b) n l.0 le) (of_passed rest (lowered_expression (arithmetic op a b) n).next l.1)
    of_passed (an_expression (truth c) rest) n l le room locals slots so_far heap err on k agrees go fail =
        value_passed (truth c) rest n le room locals slots so_far heap err on k agrees go fail (of_expression (truth c) n l.0 le) (of_passed rest (lowered_expression (truth c) n).next l.1)
    of_passed (an_expression (allocate block site) rest) n l le room locals slots so_far heap err on k agrees go fail =
        value_passed (allocate block site) rest n le room locals slots so_far heap err on k agrees go fail (of_expression (allocate block site) n l.0 le) (of_passed rest (lowered_expression (allocate block site) n).next l.1)
    of_passed (an_expression (get_char site) rest) n l le room locals slots so_far heap err on k agrees go fail =
        value_passed (get_char site) rest n le room locals slots so_far heap err on k agrees go fail (of_expression (get_char site) n l.0 le) (of_passed rest (lowered_expression (get_char site) n).next l.1)
    of_passed (an_expression (stop number site parts) rest) n l le room locals slots so_far heap err on k agrees go fail =
        value_passed (stop number site parts) rest n le room locals slots so_far heap err on k agrees go fail (of_expression (stop number site parts) n l.0 le) (of_passed rest (lowered_expression (stop number site parts) n).next l.1)

    pub of_condition : (c : Condition) (n : ℕ) → IsTestWithin m c → m ≤ n → (lowered_condition c n).next ≤ N →
        (locals : Locals) (slots : List Value) (so_far : List E) (heap : HeapMap) (K : Verdicts E) (k : List Item) → Agrees N m locals slots →
        ((slot : ℕ) → (lowered_condition c n).value ≡ Some slot → OnWord n slots slot k (pos 1) (λ so_far heap. K so_far yes heap)) →
        ((slot : ℕ) → (lowered_condition c n).value ≡ Some slot → OnWord n slots slot k (pos 0) (λ so_far heap. K so_far no heap)) →
        OnError (λ so_far kind site heap. K so_far (fault kind site) heap) →
        Meets w (M (acts (commands_of (lowered_condition c n).commands) k) slots heap so_far) (Tests seen types tcalls c locals so_far heap K)
    of_condition (compare r a b site) n l le room locals slots so_far heap K k agrees on_yes on_no err =
        let x = lowered_expression a n in
        let y = lowered_expression b x.next in
        let gx : n ≤ x.next = grows a n in
        let gy : x.next ≤ y.next = grows b x.next in
        sequence x _ k slots heap so_far (λ u. grown y _ x.next gy (λ v. one_more _)) room (λ k1 room1 next1.
        of_expression a n l.0 le room1 locals slots so_far heap _ k1 agrees
        (λ u is so_far' xv heap' slots' kept same _. next1 u is slots' heap' so_far' _ (λ room2 value.
        sequence y _ k slots' heap' so_far' (λ v. one_more _) room2 (λ k2 room3 next2.
        of_expression b x.next l.1 (le_trans le gx) room3 locals slots' so_far' heap' _ k2 (agrees_kept N m n locals slots slots' le agrees kept)
        (λ v is' so_far'' yv heap'' slots'' kept' same' _. next2 v is' slots'' heap'' so_far'' _ (λ room4 value'.
        let there = value y.next (value' y.next refl) in
        compared r y.next u v site n slots slots'' xv yv so_far'' heap'' K k (kept_then N n x.next slots slots' slots'' gx kept kept') (le_trans gx gy) room4
        (operand_kept N x.next slots' slots'' u (operand_below m n a l.0 le u is) kept' ∙ same) same' (on_yes y.next there) (on_no y.next there)))
        err)))
        err)
    of_condition (word e site) n l le room locals slots so_far heap K k agrees on_yes on_no err =
        let x = lowered_expression e n in
        sequence x _ k slots heap so_far (λ u. one_more _) room (λ k' room' next.
        of_expression e n l le room' locals slots so_far heap _ k' agrees
        (λ u is so_far' v heap' slots' kept same _. next u is slots' heap' so_far' _ (λ room'' value.
        tested x.next how.Unequal u (operand.Word (pos 0)) site n slots slots' v (Word (pos 0)) so_far' heap' K k kept (grows e n) room'' same refl (on_yes x.next (value x.next refl)) (on_no x.next (value x.next refl))))
        err)
    of_condition (pointer e site) n l le room locals slots so_far heap K k agrees on_yes on_no err =
        let x = lowered_expression e n in
        sequence x _ k slots heap so_far (λ u. one_more _) room (λ k' room' next.
        of_expression e n l le room' locals slots so_far heap _ k' agrees
        (λ u is so_far' v heap' slots' kept same _. next u is slots' heap' so_far' _ (λ room'' value.
        tested x.next how.OtherPlace u operand.Null site n slots slots' v Null so_far' heap' K k kept (grows e n) room'' same refl (on_yes x.next (value x.next refl)) (on_no x.next (value x.next refl))))
        err)
    of_condition (both c d) n l le room locals slots so_far heap K k agrees on_yes on_no err =
        let x = lowered_condition c n in
        let to = x.next in
        let gx : n ≤ to = grows_test c n in
        let right = commands_of (lowering.copied to (lowered_condition d (suc to))).commands in
        let choice = command.choose to right no_commands in
        sequence x _ k slots heap so_far (λ left. le_trans (one_more to) (grows_right d to)) room (λ k1 room1 next1.
        of_condition c n l.0 le room1 locals slots so_far heap _ k1 agrees
        (λ left is so_far' heap' slots' kept same. next1 left is slots' heap' so_far' _ (λ room2 value.
        let there = value to refl in
        copies to (operand.Slot left) n slots slots' (Word (pos 1)) so_far' heap' (Act choice ∷ k) kept gx (le_trans (grows_right d to) room2) same
        (λ slots1 kept1 is1. then' w (chosen_first to right no_commands k slots1 heap' so_far' is1) (right_side d n to gx room2 locals slots slots1 so_far' heap' K k (agrees_kept N m n locals slots slots1 le agrees kept1) kept1 (on_yes to there) (on_no to there) err (of_condition d (suc to) l.1 (le_trans le (le_trans gx (one_more to))))))))
        (λ left is so_far' heap' slots' kept same. next1 left is slots' heap' so_far' _ (λ room2 value.
        let there = value to refl in
        copies to (operand.Slot left) n slots slots' (Word (pos 0)) so_far' heap' (Act choice ∷ k) kept gx (le_trans (grows_right d to) room2) same
        (λ slots1 kept1 is1. then' w (chosen_second to right no_commands k slots1 heap' so_far' is1) (on_no to there so_far' heap' slots1 kept1 is1))))
        err)
    of_condition (either c d) n l le room locals slots so_far heap K k agrees on_yes on_no err =
        let x = lowered_condition c n in
        let to = x.next in
        let gx : n ≤ to = grows_test c n in
        let right = commands_of (lowering.copied to (lowered_condition d (suc to))).commands in
        let choice = command.choose to no_commands right in
        sequence x _ k slots heap so_far (λ left. le_trans (one_more to) (grows_right d to)) room (λ k1 room1 next1.
        of_condition c n l.0 le room1 locals slots so_far heap _ k1 agrees
        (λ left is so_far' heap' slots' kept same. next1 left is slots' heap' so_far' _ (λ room2 value.
        let there = value to refl in
        copies to (operand.Slot left) n slots slots' (Word (pos 1)) so_far' heap' (Act choice ∷ k) kept gx (le_trans (grows_right d to) room2) same
        (λ slots1 kept1 is1. then' w (chosen_first to no_commands right k slots1 heap' so_far' is1) (on_yes to there so_far' heap' slots1 kept1 is1))))
        (λ left is so_far' heap' slots' kept same. next1 left is slots' heap' so_far' _ (λ room2 value.
        let there = value to refl in
        copies to (operand.Slot left) n slots slots' (Word (pos 0)) so_far' heap' (Act choice ∷ k) kept gx (le_trans (grows_right d to) room2) same
        (λ slots1 kept1 is1. then' w (chosen_second to no_commands right k slots1 heap' so_far' is1) (right_side d n to gx room2 locals slots slots1 so_far' heap' K k (agrees_kept N m n locals slots slots1 le agrees kept1) kept1 (on_yes to there) (on_no to there) err (of_condition d (suc to) l.1 (le_trans le (le_trans gx (one_more to))))))))
        err)
    of_condition (opposite c) n l le room locals slots so_far heap K k agrees on_yes on_no err =
        let x = lowered_condition c n in
        let gx : n ≤ x.next = grows_test c n in
        sequence x _ k slots heap so_far (λ slot. one_more _) room (λ k' room' next.
        of_condition c n l le room' locals slots so_far heap _ k' agrees
        (λ slot is so_far' heap' slots' kept same. next slot is slots' heap' so_far' _ (λ room'' value.
        subtracted x.next slot n slots slots' (pos 1) so_far' heap' k kept gx room'' same
        (λ slots1 kept1 is1. on_no x.next (value x.next refl) so_far' heap' slots1 kept1 (is1 ∙ ap Word one_less_one))))
        (λ slot is so_far' heap' slots' kept same. next slot is slots' heap' so_far' _ (λ room'' value.
        subtracted x.next slot n slots slots' (pos 0) so_far' heap' k kept gx room'' same
        (λ slots1 kept1 is1. on_yes x.next (value x.next refl) so_far' heap' slots1 kept1 (is1 ∙ ap Word one_less_none))))
        err)
