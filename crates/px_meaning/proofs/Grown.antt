-- Heaps only grow.
use Rattle.std.proofs.Common.{◌≡◌, ℕ, zero, suc, Bool, true, false, cond, nat_eq, Option, Some, None, List, [], ◌∷◌, map, slice_set, refl, sym, ap, ◌∙◌, subst, inl, inr, IsSomeAnd}
use Rattle.std.proofs.lemmas.Bool.{eqb-true}
use Rattle.px_base.specs.declared.trace.Site.{Site}
use Rattle.px_base.specs.declared.trace.ProcId.{ProcId}
use Rattle.px_base.specs.declared.trace.MarkKind.TheVariants.{Done, Access, Freed, FreeNull}
use Rattle.px_base.specs.declared.trace.Kind.TheVariants.{NullDereference, UseAfterFree, DoubleFree, UninitialisedRead}
use Rattle.px_core.specs.CommandTree.{CommandTree, assign, unset, read, test, choose, loop, leave, load, store, malloc, free, input, call, return, break, continue, stop, divide}
use Rattle.px_meaning.specs.Values.{Value, BlockType}
use Rattle.px_meaning.specs.Heaps.{HeapMap, HeapBlock, HeapBlockState, with_block}
use Rattle.px_meaning.specs.Heaps as heap
use Rattle.px_meaning.specs.Calls.{error, Ending, Returned, Failed}
use Rattle.px_meaning.specs.Events.{Event}
use Rattle.px_core.specs.Control.{Item, Act, AfterHead, AfterBody, AfterStep, acts, leave_to, break_to, continue_to}
use Rattle.px_meaning.specs.Operations.{value_at, operand_value, on_words, quotient, result_of}
use Rattle.px_meaning.specs.Steps.{Next, Goes, Ends, Goal, ProcedureCalls, marking, fails, new_block, live_block, freed_block, comes_back, divides, command, step}
use Rattle.px_meaning.specs.CoreCalls.{CoreProgram, Behind, Runs, CallsWithin, SeenCalls, after, first_slots}
use Rattle.px_meaning.specs.CoreLaws.{IsStill, Grows}
use Rattle.px_meaning.proofs.Steps.{some_more}
use Rattle.px_meaning.proofs.Taken.{some_to, pointer_to, written_to}

pub grows_refl : (h : HeapMap) → Grows h h
grows_refl h = record { still = λ n b e. subst (λ o. IsSomeAnd o (IsStill b)) (sym e) (refl, λ f. f) }

pub grows_trans : {h i j : HeapMap} → Grows h i → Grows i j → Grows h j
grows_trans {h} {i} {j} g g' = record {
  still = λ n b e.
      some_to (i n) (IsStill b) (IsSomeAnd (j n) (IsStill b))
      (λ c e' s. some_more (j n) (IsStill c) (IsStill b) (λ d s'. (s'.0 ∙ s.0, λ f. s'.1 (s.1 f))) (g'.still n c e')) (g.still n b e);
}

-- a block in the place of none, or of one that is still there in it
pub grows_with : (h : HeapMap) (n : ℕ) (c : HeapBlock) → ((b : HeapBlock) → h n ≡ Some b → IsStill b c) → Grows h (with_block h n c)
grows_with h n c still = record { still = λ m b e. at m b e (nat_eq m n) refl }
  where
    at : (m : ℕ) (b : HeapBlock) → h m ≡ Some b → (q : Bool) → nat_eq m n ≡ q → IsSomeAnd (cond q (Some c) (h m)) (IsStill b)
    at m b e true q = still b (ap h (sym (eqb-true m n q)) ∙ e)
    at m b e false q = subst (λ o. IsSomeAnd o (IsStill b)) (sym e) (refl, λ f. f)

-- a new block
pub grows_new : (h : HeapMap) (n : ℕ) (c : HeapBlock) → h n ≡ None → Grows h (with_block h n c)
grows_new h n c out = grows_with h n c (λ b e. let d : None ≡ Some b = sym out ∙ e in cc)

-- a live block written or freed
pub grows_live : (h : HeapMap) (n t : ℕ) (cells : List Value) (s : HeapBlockState) → h n ≡ Some (live_block t cells) → Grows h (with_block h n (record { block_type = t; state = s }))
grows_live h n t cells s there = grows_with h n (record { block_type = t; state = s })
    (λ b e. let same : Some (live_block t cells) ≡ Some b = sym there ∙ e in
    (ap (λ o. type_of o) same, λ f. let d : heap.Live cells ≡ heap.Freed = ap (λ o. state_of o) same ∙ f in cc))
  where
    type_of : Option HeapBlock → ℕ
    type_of None = t
    type_of (Some b) = b.block_type

    state_of : Option HeapBlock → HeapBlockState
    state_of None = heap.Freed
    state_of (Some b) = b.state

abbrev pub heap_after : Next → HeapMap
heap_after (Goes k slots heap) = heap
heap_after (Ends ending heap) = heap

module _ {E : Type 0} (seen : Event → E) (types : List BlockType) (calls : ProcedureCalls E)
    (grown : (f : ℕ) (arguments : List Value) (heap : HeapMap) (t : List E) (ending : Ending) (end : HeapMap) → calls f arguments heap t ending end → Grows heap end)
    (K : Goal E) (R : Type 0) where
  -- a step leads to where R holds, as the heap grew
  abbrev Leads : HeapMap → Type 0
  Leads heap = (a : List E) (x : Next) → Grows heap (heap_after x) → K a x → R

  back_grows : (proc : ProcId) (to : Option ℕ) (site : Site) (k : List Item) (slots : List Value) (t : List E) (old new : HeapMap) (ending : Ending) → Leads old → Grows old new →
      comes_back seen proc to site k slots t new K ending → R
  back_grows proc to site k slots t old new (Returned v) on g h = on _ _ g h
  back_grows proc to site k slots t old new (Failed kind at) on g h = on _ _ g h

  command_grows : (c : CommandTree) (k : List Item) (slots : List Value) (heap : HeapMap) → Leads heap → command seen types calls c k slots heap K → R
  command_grows (assign to op a b) k slots heap on h =
      some_to (result_of op (operand_value slots a) (operand_value slots b)) (λ v. K [] (Goes k (slice_set slots to v) heap)) R (λ v e. on _ _ (grows_refl heap)) h
  command_grows (unset to) k slots heap on h = on _ _ (grows_refl heap) h
  command_grows (read slot site) k slots heap on h =
      written_to (value_at slots slot) (K [] (Goes k slots heap)) (K [] (fails (error UninitialisedRead) site heap)) R (on _ _ (grows_refl heap)) (on _ _ (grows_refl heap)) h
  command_grows (test to how a b site) k slots heap on (inl h) = on _ _ (grows_refl heap) h.1
  command_grows (test to how a b site) k slots heap on (inr h) = on _ _ (grows_refl heap) h.1
  command_grows (choose slot first second) k slots heap on (inl h) = on _ _ (grows_refl heap) h.1
  command_grows (choose slot first second) k slots heap on (inr h) = on _ _ (grows_refl heap) h.1
  command_grows (loop site head body step) k slots heap on h = on _ _ (grows_refl heap) h
  command_grows leave k slots heap on h = some_to (leave_to k) (λ p. K (marking seen Done p.0.site) (Goes p.1 slots heap)) R (λ p e. on _ _ (grows_refl heap)) h
  command_grows (load to at field block site) k slots heap on h =
      pointer_to heap block.0 (operand_value slots at) (K (marking seen Access site) (fails (error NullDereference) site heap)) (K (marking seen Access site) (fails (error UseAfterFree) site heap))
      (λ n cells. K (marking seen Access site) (Goes k (slice_set slots to (value_at cells field.0)) heap)) R
      (on _ _ (grows_refl heap)) (on _ _ (grows_refl heap)) (λ n cells e. on _ _ (grows_refl heap)) h
  command_grows (store at field block from site) k slots heap on h =
      pointer_to heap block.0 (operand_value slots at) (K (marking seen Access site) (fails (error NullDereference) site heap)) (K (marking seen Access site) (fails (error UseAfterFree) site heap))
      (λ n cells. K (marking seen Access site) (Goes k slots (with_block heap n (live_block block.0 (slice_set cells field.0 (operand_value slots from)))))) R
      (on _ _ (grows_refl heap)) (on _ _ (grows_refl heap)) (λ n cells e. on _ _ (grows_live heap n block.0 cells _ e)) h
  command_grows (malloc to block site) k slots heap on (inl h) = on _ _ (grows_refl heap) h
  command_grows (malloc to block site) k slots heap on (inr (n, out, h)) = on _ _ (grows_new heap n (new_block types block.0) out) h
  command_grows (free at block site) k slots heap on h =
      pointer_to heap block.0 (operand_value slots at) (K (marking seen FreeNull site) (Goes k slots heap)) (K (marking seen Freed site) (fails (error DoubleFree) site heap))
      (λ n cells. K (marking seen Freed site) (Goes k slots (with_block heap n (freed_block block.0)))) R
      (on _ _ (grows_refl heap)) (on _ _ (grows_refl heap)) (λ n cells e. on _ _ (grows_live heap n block.0 cells _ e)) h
  command_grows (input to site) k slots heap on (z, low, high, h) = on _ _ (grows_refl heap) h
  command_grows (call to proc arguments site) k slots heap on (_, (t, ending, heap', c, h)) =
      back_grows proc to site k slots t heap heap' ending on (grown proc.0 (map (operand_value slots) arguments) heap t ending heap' c) h
  command_grows (return from) k slots heap on h = on _ _ (grows_refl heap) h
  command_grows break k slots heap on h = some_to (break_to k) (λ p. K [] (Goes p slots heap)) R (λ p e. on _ _ (grows_refl heap)) h
  command_grows continue k slots heap on h = some_to (continue_to k) (λ p. K [] (Goes p slots heap)) R (λ p e. on _ _ (grows_refl heap)) h
  command_grows (stop word site) k slots heap on h = on _ _ (grows_refl heap) h
  command_grows (divide to a b site) k slots heap on h =
      some_to (on_words quotient (operand_value slots a) (operand_value slots b)) (λ q. K [] (divides to site k slots heap q)) R (λ q e. on _ _ (divided_grows q)) h
    where
      divided_grows : (q : Option Value) → Grows heap (heap_after (divides to site k slots heap q))
      divided_grows None = grows_refl heap
      divided_grows (Some v) = grows_refl heap

  pub step_grows : (bound : Option ℕ) (i : Item) (k : List Item) (slots : List Value) (heap : HeapMap) → Leads heap → step seen bound types calls i k slots heap K → R
  step_grows bound (Act c) k slots heap on h = command_grows c k slots heap on h
  step_grows bound (AfterHead l) k slots heap on h = on _ _ (grows_refl heap) h.1
  step_grows bound (AfterBody l) k slots heap on h = on _ _ (grows_refl heap) h
  step_grows bound (AfterStep l) k slots heap on h = on _ _ (grows_refl heap) h

module _ {E : Type 0} (seen : Event → E) (bound : Option ℕ) (P : CoreProgram) where
  abbrev On : ℕ → List E → Ending → HeapMap → List Item → List Value → HeapMap → List E → Type 0
  On n t ending end k slots heap so_far = Runs seen bound P n k slots heap so_far t ending end

  after_grows : (n : ℕ) (so_far t : List E) (ending : Ending) (end heap : HeapMap) →
      ((k : List Item) (slots : List Value) (heap : HeapMap) (so_far : List E) → Runs seen bound P n k slots heap so_far t ending end → Grows heap end) →
      (a : List E) (x : Next) → Grows heap (heap_after x) → Behind (On n t ending end) so_far t ending end a x → Grows heap end
  after_grows n so_far t ending end heap grow a (Goes k slots heap') g h = grows_trans g (grow k slots heap' (after so_far a) h)
  after_grows n so_far t ending end heap grow a (Ends ending' heap') g h = subst (λ u. Grows heap u) (sym h.2) g

  pub runs_grow : (n : ℕ) (k : List Item) (slots : List Value) (heap : HeapMap) (so_far t : List E) (ending : Ending) (end : HeapMap) →
      Runs seen bound P n k slots heap so_far t ending end → Grows heap end
  runs_grow zero k slots heap so_far t ending end h = absurd h
  runs_grow (suc n) [] slots heap so_far t ending end h = subst (λ u. Grows heap u) (sym h.2) (grows_refl heap)
  runs_grow (suc n) (i ∷ k) slots heap so_far t ending end h =
      step_grows seen P.types (CallsWithin seen bound P n)
      (λ f arguments heap t ending end c. some_to (P.bodies f) (λ b. Runs seen bound P n (acts b.commands []) (first_slots b.slots arguments) heap [] t ending end) (Grows heap end)
      (λ b e. runs_grow n (acts b.commands []) (first_slots b.slots arguments) heap [] t ending end) c)
      (Behind (On n t ending end) so_far t ending end) (Grows heap end) bound i k slots heap
      (after_grows n so_far t ending end heap (λ k slots heap so_far. runs_grow n k slots heap so_far t ending end)) h

  pub calls_grow : (f : ℕ) (arguments : List Value) (heap : HeapMap) (t : List E) (ending : Ending) (end : HeapMap) → SeenCalls seen bound P f arguments heap t ending end → Grows heap end
  calls_grow f arguments heap t ending end (n, c) =
      some_to (P.bodies f) (λ b. Runs seen bound P n (acts b.commands []) (first_slots b.slots arguments) heap [] t ending end) (Grows heap end)
      (λ b e. runs_grow n (acts b.commands []) (first_slots b.slots arguments) heap [] t ending end) c
