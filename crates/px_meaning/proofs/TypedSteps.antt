-- Executions of bodies that keep to types.
use Rattle.std.proofs.Common.{◌≡◌, ℕ, zero, suc, Bool, true, false, if◌then◌else◌, int_div, Option, Some, None, List, [], ◌∷◌, map, slice_set, slice_get, refl, sym, subst, inl, inr, ℤ, pos, negsuc, ◌≤ℤ◌, IsSomeAnd, IfSome, FitsSigned, rules, arith}
use Rattle.std.specs.Prelude.{⊤}
use Rattle.std.specs.Int.{w32}
use Rattle.std.specs.Ordering.{int_eq}
use Rattle.std.proofs.lemmas.Int.{SFits-int_wrap}
use Rattle.px_base.specs.declared.trace.Site.{Site}
use Rattle.px_base.specs.declared.trace.ProcId.{ProcId}
use Rattle.px_base.specs.declared.trace.MarkKind.TheVariants.{Done, Access, «Freed» as FreedMark, FreeNull}
use Rattle.px_base.specs.declared.trace.Kind.TheVariants.{NullDereference, UseAfterFree, DoubleFree, UninitialisedRead}
use Rattle.px_terms.specs.Types.{types_of}
use Rattle.px_core.specs.declared.command.Operand.{Operand}
use Rattle.px_core.specs.declared.command.Operator.{Operator}
use Rattle.px_core.specs.declared.command.Operator.TheVariants.{Copy, Neg, Add, Sub, Mul}
use Rattle.px_core.specs.BodyTree.{BodyTree}
use Rattle.px_core.specs.CommandTree.{CommandTree, CommandTrees, assign, unset, read, test, choose, loop, leave, load, store, malloc, free, input, call, return, break, continue, stop, divide, no_commands, a_command}
use Rattle.px_meaning.specs.Values.{ValueType, Int, Value, Word, Null, Block, Unwritten}
use Rattle.px_meaning.specs.Heaps.{HeapMap, HeapBlock, Live, Freed, with_block, IsCell, AreCells, IsWellTyped}
use Rattle.px_meaning.specs.Calls.{error, Ending, Returned, Failed}
use Rattle.px_meaning.specs.Events.{Event}
use Rattle.px_core.specs.Control.{Item, Act, AfterHead, AfterBody, AfterStep, acts, leave_to, break_to, continue_to}
use Rattle.px_meaning.specs.Operations.{value_at, operand_value, wrapped, on_words, quotient, result_of, of_word, of_words}
use Rattle.px_meaning.specs.Steps.{Next, Goes, Ends, Goal, ProcedureCalls, marking, fails, new_block, live_block, freed_block, keep_result, comes_back, divides, command, step}
use Rattle.px_meaning.specs.CoreCalls.{CoreProgram, Behind, Runs, CallsWithin, SeenCalls, after, first_slots}
use Rattle.px_meaning.specs.CoreTypes.{SlotTypes, IsOperandOf, AreOperandsOf, IsOperationOf, IsTyped, AreTyped, KeepsTypes}
use Rattle.px_meaning.specs.CoreLaws.{Grows, IsResult, EndsTyped}
use Rattle.px_meaning.proofs.Taken.{some_to, pointer_to, written_to}
use Rattle.px_meaning.proofs.Grown.{grows_new, grows_live, runs_grow}
use Rattle.px_meaning.proofs.TypedHeaps.{cells_of, with_cells, freed_of, new_cells, cell_at, cell_put, typed_with, put_type, AreSlots, slots_grow, slots_put, slots_first, operand_cell, operand_cells}

-- ---- control

module _ (P : CoreProgram) (slots : SlotTypes) (result : Option ValueType) where
  abbrev pub IsTypedItem : Item → Type 0
  IsTypedItem (Act c) = IsTyped P slots result c
  IsTypedItem (AfterHead l) = AreTyped P slots result l.head × AreTyped P slots result l.body × AreTyped P slots result l.step
  IsTypedItem (AfterBody l) = AreTyped P slots result l.head × AreTyped P slots result l.body × AreTyped P slots result l.step
  IsTypedItem (AfterStep l) = AreTyped P slots result l.head × AreTyped P slots result l.body × AreTyped P slots result l.step

  abbrev pub AreTypedItems : List Item → Type 0
  AreTypedItems [] = ⊤
  AreTypedItems (i ∷ k) = IsTypedItem i × AreTypedItems k

  pub acts_typed : (cs : CommandTrees) (k : List Item) → AreTyped P slots result cs → AreTypedItems k → AreTypedItems (acts cs k)
  acts_typed no_commands k p q = q
  acts_typed (a_command c rest) k p q = (p.0, acts_typed rest k p.1 q)

  leave_typed : (k : List Item) → AreTypedItems k → IfSome (leave_to k) (λ p. AreTypedItems p.1)
  leave_typed [] q = tt
  leave_typed (Act c ∷ k) q = leave_typed k q.1
  leave_typed (AfterHead l ∷ k) q = q.1
  leave_typed (AfterBody l ∷ k) q = tt
  leave_typed (AfterStep l ∷ k) q = tt

  break_typed : (k : List Item) → AreTypedItems k → IfSome (break_to k) AreTypedItems
  break_typed [] q = tt
  break_typed (Act c ∷ k) q = break_typed k q.1
  break_typed (AfterHead l ∷ k) q = tt
  break_typed (AfterBody l ∷ k) q = q.1
  break_typed (AfterStep l ∷ k) q = q.1

  continue_typed : (k : List Item) → AreTypedItems k → IfSome (continue_to k) AreTypedItems
  continue_typed [] q = tt
  continue_typed (Act c ∷ k) q = continue_typed k q.1
  continue_typed (AfterHead l ∷ k) q = tt
  continue_typed (AfterBody l ∷ k) q = q
  continue_typed (AfterStep l ∷ k) q = tt

-- ---- values

word_cell : (h : HeapMap) (f : ℤ → ℤ) (v : Value) (w : Value) → of_word f v ≡ Some w → IsCell h Int w
word_cell h f (Word x) w e = subst (λ o. IfSome o (IsCell h Int)) e (SFits-int_wrap w32 (f x))
word_cell h f Null w e = let d : None ≡ Some w = e in cc
word_cell h f (Block n) w e = let d : None ≡ Some w = e in cc
word_cell h f Unwritten w e = let d : None ≡ Some w = e in cc

words_cell : (h : HeapMap) (f : ℤ → ℤ → ℤ) (u v : Value) (w : Value) → of_words f u v ≡ Some w → IsCell h Int w
words_cell h f (Word x) (Word y) w e = subst (λ o. IfSome o (IsCell h Int)) e (SFits-int_wrap w32 (f x y))
words_cell h f (Word x) Null w e = let d : None ≡ Some w = e in cc
words_cell h f (Word x) (Block n) w e = let d : None ≡ Some w = e in cc
words_cell h f (Word x) Unwritten w e = let d : None ≡ Some w = e in cc
words_cell h f Null v w e = let d : None ≡ Some w = e in cc
words_cell h f (Block n) v w e = let d : None ≡ Some w = e in cc
words_cell h f Unwritten v w e = let d : None ≡ Some w = e in cc

operation_cell : (h : HeapMap) (types : SlotTypes) (slots : List Value) (t : ValueType) (op : Operator) (a b : Operand) (w : Value) → AreSlots types h slots → IsOperationOf types t op a b →
    result_of op (operand_value slots a) (operand_value slots b) ≡ Some w → IsCell h t w
operation_cell h types slots t Copy a b w s p e = subst (λ o. IfSome o (IsCell h t)) e (operand_cell h types slots t a s p)
operation_cell h types slots t Neg a b w s p e = subst (λ t. IsCell h t w) (sym p.0) (word_cell h _ (operand_value slots a) w e)
operation_cell h types slots t Add a b w s p e = subst (λ t. IsCell h t w) (sym p.0) (words_cell h _ (operand_value slots a) (operand_value slots b) w e)
operation_cell h types slots t Sub a b w s p e = subst (λ t. IsCell h t w) (sym p.0) (words_cell h _ (operand_value slots a) (operand_value slots b) w e)
operation_cell h types slots t Mul a b w s p e = subst (λ t. IsCell h t w) (sym p.0) (words_cell h _ (operand_value slots a) (operand_value slots b) w e)

-- the quotient of two words, where there is one
quotient_cell : (h : HeapMap) (u v : Value) (q : Option Value) → on_words quotient u v ≡ Some q → IfSome q (IsCell h Int)
quotient_cell h (Word x) (Word y) q e = subst (λ o. IfSome o (λ q. IfSome q (IsCell h Int))) e (by (int_eq y (pos 0)))
  where
    by : (zero_divides : Bool) → IfSome (if zero_divides then None else Some (wrapped (int_div x y))) (IsCell h Int)
    by true = tt
    by false = SFits-int_wrap w32 (int_div x y)
quotient_cell h (Word x) Null q e = let d : None ≡ Some q = e in cc
quotient_cell h (Word x) (Block n) q e = let d : None ≡ Some q = e in cc
quotient_cell h (Word x) Unwritten q e = let d : None ≡ Some q = e in cc
quotient_cell h Null v q e = let d : None ≡ Some q = e in cc
quotient_cell h (Block n) v q e = let d : None ≡ Some q = e in cc
quotient_cell h Unwritten v q e = let d : None ≡ Some q = e in cc

returned_typed : (h : HeapMap) (types : SlotTypes) (result : Option ValueType) (slots : List Value) (a : Operand) → AreSlots types h slots →
    IsSomeAnd result (λ t. IsOperandOf types t a) → IsResult h result (operand_value slots a)
returned_typed h types None slots a s p = absurd p
returned_typed h types (Some t) slots a s p = operand_cell h types slots t a s p

pub nothing_returned : (h : HeapMap) (result : Option ValueType) → IsResult h result Unwritten
nothing_returned h None = refl
nothing_returned h (Some t) = tt

result_kept : (h : HeapMap) (types : SlotTypes) (slots : List Value) (to : Option ℕ) (result : Option ValueType) (v : Value) → AreSlots types h slots →
    IfSome to (λ n. result ≡ Some (types n)) → IsResult h result v → AreSlots types h (keep_result to slots v)
result_kept h types slots None result v s p q = s
result_kept h types slots (Some n) result v s p q = slots_put h types slots n v s (subst (λ o. IsResult h o v) p q)

pub one_fits : FitsSigned w32 (pos 1)
one_fits = search rules

pub none_fits : FitsSigned w32 (pos 0)
none_fits = search rules

pub input_fits : (z : ℤ) → negsuc 0 ≤ℤ z → z ≤ℤ pos 255 → FitsSigned w32 z
input_fits z low high = grind arith

-- ---- steps

-- what comes next keeps to types
abbrev IsTypedNext : CoreProgram → SlotTypes → Option ValueType → Next → Type 0
IsTypedNext P types result (Goes k slots heap) = AreTypedItems P types result k × AreSlots types heap slots × IsWellTyped P.types heap
IsTypedNext P types result (Ends ending heap) = IsWellTyped P.types heap × EndsTyped heap result ending

module _ {E : Type 0} (seen : Event → E) (P : CoreProgram) (types : SlotTypes) (result : Option ValueType) (calls : ProcedureCalls E)
    (called : (f : ℕ) (arguments : List Value) (heap : HeapMap) (t : List E) (ending : Ending) (end : HeapMap) → calls f arguments heap t ending end → IsWellTyped P.types heap →
    (b : BodyTree) × (P.bodies f ≡ Some b) × Grows heap end × (AreCells heap b.parameters arguments → IsWellTyped P.types end × EndsTyped end b.result ending))
    (K : Goal E) (R : Type 0) where
  module _ (on : (a : List E) (x : Next) → IsTypedNext P types result x → K a x → R) where
    back_typed : (proc : ProcId) (to : Option ℕ) (site : Site) (k : List Item) (slots : List Value) (t : List E) (heap : HeapMap) (b : BodyTree) (ending : Ending) →
        AreTypedItems P types result k → AreSlots types heap slots → IsWellTyped P.types heap → IfSome to (λ n. b.result ≡ Some (types n)) → EndsTyped heap b.result ending →
        comes_back seen proc to site k slots t heap K ending → R
    back_typed proc to site k slots t heap b (Returned v) ks s w p q h = on _ _ (ks, result_kept heap types slots to b.result v s p q, w) h
    back_typed proc to site k slots t heap b (Failed kind at) ks s w p q h = on _ _ (w, tt) h

    command_typed : (c : CommandTree) (k : List Item) (slots : List Value) (heap : HeapMap) → IsTyped P types result c → AreTypedItems P types result k → AreSlots types heap slots → IsWellTyped P.types heap →
        command seen P.types calls c k slots heap K → R
    command_typed (assign to op a b) k slots heap p ks s w h =
        some_to (result_of op (operand_value slots a) (operand_value slots b)) (λ v. K [] (Goes k (slice_set slots to v) heap)) R
        (λ v e. on _ _ (ks, slots_put heap types slots to v s (operation_cell heap types slots (types to) op a b v s p e), w)) h
    command_typed (unset to) k slots heap p ks s w h = on _ _ (ks, slots_put heap types slots to Unwritten s tt, w) h
    command_typed (read slot site) k slots heap p ks s w h =
        written_to (value_at slots slot) (K [] (Goes k slots heap)) (K [] (fails (error UninitialisedRead) site heap)) R (on _ _ (ks, s, w)) (on _ _ (w, tt)) h
    command_typed (test to how a b site) k slots heap p ks s w (inl h) = on _ _ (ks, slots_put heap types slots to (Word (pos 1)) s (subst (λ u. IsCell heap u (Word (pos 1))) (sym p.0) one_fits), w) h.1
    command_typed (test to how a b site) k slots heap p ks s w (inr h) = on _ _ (ks, slots_put heap types slots to (Word (pos 0)) s (subst (λ u. IsCell heap u (Word (pos 0))) (sym p.0) none_fits), w) h.1
    command_typed (choose slot first second) k slots heap p ks s w (inl h) = on _ _ (acts_typed P types result first k p.1 ks, s, w) h.1
    command_typed (choose slot first second) k slots heap p ks s w (inr h) = on _ _ (acts_typed P types result second k p.2 ks, s, w) h.1
    command_typed (loop site head body after_body) k slots heap p ks s w h = on _ _ (acts_typed P types result head _ p.0 (p, ks), s, w) h
    command_typed leave k slots heap p ks s w h =
        some_to (leave_to k) (λ q. K (marking seen Done q.0.site) (Goes q.1 slots heap)) R
        (λ q e. on _ _ (subst (λ o. IfSome o (λ q. AreTypedItems P types result q.1)) e (leave_typed P types result k ks), s, w)) h
    command_typed (load to at field block site) k slots heap p ks s w h =
        pointer_to heap block.0 (operand_value slots at) (K (marking seen Access site) (fails (error NullDereference) site heap)) (K (marking seen Access site) (fails (error UseAfterFree) site heap))
        (λ n cells. K (marking seen Access site) (Goes k (slice_set slots to (value_at cells field.0)) heap)) R
        (on _ _ (w, tt)) (on _ _ (w, tt))
        (λ n cells e. on _ _ (
          ks,
          slots_put heap types slots to (value_at cells field.0) s
              (cell_at heap (types_of (slice_get P.types block.0)) cells field.0 (types to) (cells_of heap (slice_get P.types block.0) cells (w.typed n (live_block block.0 cells) e)) p.1),
          w,
        )) h
    command_typed (store at field block from site) k slots heap p ks s w h =
        pointer_to heap block.0 (operand_value slots at) (K (marking seen Access site) (fails (error NullDereference) site heap)) (K (marking seen Access site) (fails (error UseAfterFree) site heap))
        (λ n cells. K (marking seen Access site) (Goes k slots (with_block heap n (live_block block.0 (slice_set cells field.0 (operand_value slots from)))))) R
        (on _ _ (w, tt)) (on _ _ (w, tt))
        (λ n cells e.
        let new : HeapBlock = live_block block.0 (slice_set cells field.0 (operand_value slots from)) in
        let g : Grows heap (with_block heap n new) = grows_live heap n block.0 cells new.state e in
        let old = w.typed n (live_block block.0 cells) e in
        on _ _ (
          ks,
          slots_grow g types slots s,
          typed_with P.types heap n new w g
              (with_cells heap (slice_get P.types block.0) cells (slice_set cells field.0 (operand_value slots from)) old
              (cell_put heap (types_of (slice_get P.types block.0)) cells field.0 p.1.0 (operand_value slots from)
              (cells_of heap (slice_get P.types block.0) cells old) p.1.1 (operand_cell heap types slots p.1.0 from s p.1.2))),
        )) h
    command_typed (malloc to block site) k slots heap p ks s w (inl h) = on _ _ (ks, slots_put heap types slots to Null s (subst (λ u. IsCell heap u Null) (sym p.0) tt), w) h
    command_typed (malloc to block site) k slots heap p ks s w (inr (n, out, h)) =
        let new : HeapBlock = new_block P.types block.0 in
        let g : Grows heap (with_block heap n new) = grows_new heap n new out in
        on _ _ (
          ks,
          slots_put (with_block heap n new) types slots to (Block n) (slots_grow g types slots s)
              (subst (λ u. IsCell (with_block heap n new) u (Block n)) (sym p.0) (put_type heap n new)),
          typed_with P.types heap n new w g (new_cells heap (slice_get P.types block.0) p.1),
        ) h
    command_typed (free at block site) k slots heap p ks s w h =
        pointer_to heap block.0 (operand_value slots at) (K (marking seen FreeNull site) (Goes k slots heap)) (K (marking seen FreedMark site) (fails (error DoubleFree) site heap))
        (λ n cells. K (marking seen FreedMark site) (Goes k slots (with_block heap n (freed_block block.0)))) R
        (on _ _ (ks, s, w)) (on _ _ (w, tt))
        (λ n cells e.
        let g : Grows heap (with_block heap n (freed_block block.0)) = grows_live heap n block.0 cells Freed e in
        on _ _ (
          ks,
          slots_grow g types slots s,
          typed_with P.types heap n (freed_block block.0) w g (freed_of heap (slice_get P.types block.0) (Live cells) (w.typed n (live_block block.0 cells) e)),
        )) h
    command_typed (input to site) k slots heap p ks s w (z, low, high, h) =
        on _ _ (ks, slots_put heap types slots to (Word z) s (subst (λ u. IsCell heap u (Word z)) (sym p) (input_fits z low high)), w) h
    command_typed (call to proc arguments site) k slots heap p ks s w (_, (t, ending, heap', c, h)) =
        let (b, e, g, keeps) = called proc.0 (map (operand_value slots) arguments) heap t ending heap' c w in
        let q = subst (λ o. IfSome o (λ b. AreOperandsOf types b.parameters arguments × IfSome to (λ n. b.result ≡ Some (types n)))) e p in
        let (w', ends) = keeps (operand_cells heap types slots b.parameters arguments s q.0) in
        back_typed proc to site k slots t heap' b ending ks (slots_grow g types slots s) w' q.1 ends h
    command_typed (return None) k slots heap p ks s w h = on _ _ (w, nothing_returned heap result) h
    command_typed (return (Some a)) k slots heap p ks s w h = on _ _ (w, returned_typed heap types result slots a s p) h
    command_typed break k slots heap p ks s w h =
        some_to (break_to k) (λ q. K [] (Goes q slots heap)) R (λ q e. on _ _ (subst (λ o. IfSome o (AreTypedItems P types result)) e (break_typed P types result k ks), s, w)) h
    command_typed continue k slots heap p ks s w h =
        some_to (continue_to k) (λ q. K [] (Goes q slots heap)) R (λ q e. on _ _ (subst (λ o. IfSome o (AreTypedItems P types result)) e (continue_typed P types result k ks), s, w)) h
    command_typed (stop word site) k slots heap p ks s w h = on _ _ (w, tt) h
    command_typed (divide to a b site) k slots heap p ks s w h =
        some_to (on_words quotient (operand_value slots a) (operand_value slots b)) (λ q. K [] (divides to site k slots heap q)) R (λ q e. on _ _ (divided q (quotient_cell heap (operand_value slots a) (operand_value slots b) q e))) h
      where
        divided : (q : Option Value) → IfSome q (IsCell heap Int) → IsTypedNext P types result (divides to site k slots heap q)
        divided None c = (w, tt)
        divided (Some v) c = (ks, slots_put heap types slots to v s (subst (λ t. IsCell heap t v) (sym p.0) c), w)

    pub step_typed : (bound : Option ℕ) (i : Item) (k : List Item) (slots : List Value) (heap : HeapMap) → IsTypedItem P types result i → AreTypedItems P types result k →
        AreSlots types heap slots → IsWellTyped P.types heap → step seen bound P.types calls i k slots heap K → R
    step_typed bound (Act c) k slots heap p ks s w h = command_typed c k slots heap p ks s w h
    step_typed bound (AfterHead l) k slots heap p ks s w h = on _ _ (acts_typed P types result l.body _ p.1 (p, ks), s, w) h.1
    step_typed bound (AfterBody l) k slots heap p ks s w h = on _ _ (acts_typed P types result l.step _ p.2 (p, ks), s, w) h
    step_typed bound (AfterStep l) k slots heap p ks s w h = on _ _ (acts_typed P types result l.head _ p.0 (p, ks), s, w) h

-- ---- executions

module _ {E : Type 0} (seen : Event → E) (bound : Option ℕ) (P : CoreProgram) (keeps : KeepsTypes P) where
  abbrev On : ℕ → List E → Ending → HeapMap → List Item → List Value → HeapMap → List E → Type 0
  On n t ending end k slots heap so_far = Runs seen bound P n k slots heap so_far t ending end

  -- the items of a body with these types of slots and of its result
  abbrev Stay : ℕ → Type 0
  Stay n = (types : SlotTypes) (result : Option ValueType) (k : List Item) (slots : List Value) (heap : HeapMap) (so_far t : List E) (ending : Ending) (end : HeapMap) →
      AreTypedItems P types result k → AreSlots types heap slots → IsWellTyped P.types heap → Runs seen bound P n k slots heap so_far t ending end →
      IsWellTyped P.types end × EndsTyped end result ending

  body_stays : (n : ℕ) → Stay n → (f : ℕ) (arguments : List Value) (heap : HeapMap) (t : List E) (ending : Ending) (end : HeapMap) → IsWellTyped P.types heap →
      (b : BodyTree) → P.bodies f ≡ Some b → Runs seen bound P n (acts b.commands []) (first_slots b.slots arguments) heap [] t ending end →
      AreCells heap b.parameters arguments → IsWellTyped P.types end × EndsTyped end b.result ending
  body_stays n stay f arguments heap t ending end w b e h cells =
      let typed = keeps f b e in
      stay typed.slots b.result (acts b.commands []) (first_slots b.slots arguments) heap [] t ending end
      (acts_typed P typed.slots b.result b.commands [] typed.commands tt) (slots_first heap typed.slots b.slots b.parameters arguments cells typed.parameters) w h

  called_stays : (n : ℕ) → Stay n → (f : ℕ) (arguments : List Value) (heap : HeapMap) (t : List E) (ending : Ending) (end : HeapMap) →
      CallsWithin seen bound P n f arguments heap t ending end → IsWellTyped P.types heap →
      (b : BodyTree) × (P.bodies f ≡ Some b) × Grows heap end × (AreCells heap b.parameters arguments → IsWellTyped P.types end × EndsTyped end b.result ending)
  called_stays n stay f arguments heap t ending end c w =
      some_to (P.bodies f) (λ b. Runs seen bound P n (acts b.commands []) (first_slots b.slots arguments) heap [] t ending end)
      ((b : BodyTree) × (P.bodies f ≡ Some b) × Grows heap end × (AreCells heap b.parameters arguments → IsWellTyped P.types end × EndsTyped end b.result ending))
      (λ b e h. (b, e, runs_grow seen bound P n (acts b.commands []) (first_slots b.slots arguments) heap [] t ending end h, body_stays n stay f arguments heap t ending end w b e h)) c

  after_stays : (n : ℕ) → Stay n → (types : SlotTypes) (result : Option ValueType) (so_far t : List E) (ending : Ending) (end : HeapMap) (a : List E) (x : Next) →
      IsTypedNext P types result x →
      Behind (On n t ending end) so_far t ending end a x → IsWellTyped P.types end × EndsTyped end result ending
  after_stays n stay types result so_far t ending end a (Goes k slots heap) q h = stay types result k slots heap (after so_far a) t ending end q.0 q.1 q.2 h
  after_stays n stay types result so_far t ending end a (Ends ending' heap) q h =
      (subst (λ u. IsWellTyped P.types u) (sym h.2) q.0, subst (λ u. EndsTyped u result ending) (sym h.2) (subst (λ u. EndsTyped heap result u) (sym h.1) q.1))

  pub runs_stay : (n : ℕ) → Stay n
  runs_stay zero types result k slots heap so_far t ending end ks s w h = absurd h
  runs_stay (suc n) types result [] slots heap so_far t ending end ks s w h =
      (subst (λ u. IsWellTyped P.types u) (sym h.2) w, subst (λ u. EndsTyped end result u) (sym h.1) (nothing_returned end result))
  runs_stay (suc n) types result (i ∷ k) slots heap so_far t ending end ks s w h =
      step_typed seen P types result (CallsWithin seen bound P n) (called_stays n (runs_stay n)) (Behind (On n t ending end) so_far t ending end)
      (IsWellTyped P.types end × EndsTyped end result ending) (after_stays n (runs_stay n) types result so_far t ending end)
      bound i k slots heap ks.0 ks.1 s w h

  pub calls_stay : (f : ℕ) (b : BodyTree) → P.bodies f ≡ Some b → (arguments : List Value) (heap : HeapMap) → IsWellTyped P.types heap → AreCells heap b.parameters arguments →
      (t : List E) (ending : Ending) (end : HeapMap) → SeenCalls seen bound P f arguments heap t ending end → IsWellTyped P.types end × EndsTyped end b.result ending
  calls_stay f b e arguments heap w cells t ending end (n, c) =
      body_stays n (runs_stay n) f arguments heap t ending end w b e
      (subst (λ o. IsSomeAnd o (λ b. Runs seen bound P n (acts b.commands []) (first_slots b.slots arguments) heap [] t ending end)) e c) cells
