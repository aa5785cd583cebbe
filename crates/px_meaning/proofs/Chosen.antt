-- A step to one of many goals is a step to some one of them.
use Rattle.std.proofs.Common.{◌≡◌, ℕ, Option, Some, None, List, [], slice_set, inl, inr, IsSomeAnd}
use Rattle.px_base.specs.declared.trace.Site.{Site}
use Rattle.px_base.specs.declared.trace.ProcId.{ProcId}
use Rattle.px_base.specs.declared.trace.MarkKind.TheVariants.{Done, Access, Freed, FreeNull}
use Rattle.px_base.specs.declared.trace.Kind.TheVariants.{NullDereference, UseAfterFree, DoubleFree, UninitialisedRead}
use Rattle.px_core.specs.CommandTree.{CommandTree, assign, unset, read, test, choose, loop, leave, load, store, malloc, free, input, call, return, break, continue, stop, divide}
use Rattle.px_meaning.specs.Values.{Value, BlockType, Word, Null, Block, Unwritten}
use Rattle.px_meaning.specs.Heaps.{HeapMap, HeapBlock, HeapBlockState, with_block}
use Rattle.px_meaning.specs.Heaps as heap
use Rattle.px_meaning.specs.Calls.{error, Ending, Returned, Failed}
use Rattle.px_meaning.specs.Events.{Event}
use Rattle.px_core.specs.Control.{Item, Act, AfterHead, AfterBody, AfterStep, leave_to, break_to, continue_to}
use Rattle.px_meaning.specs.Operations.{value_at, operand_value, on_words, quotient, result_of}
use Rattle.px_meaning.specs.Steps.{Goes, Goal, ProcedureCalls, marking, fails, by_state, by_pointer, by_written, live_block, freed_block, comes_back, divides, command, step}

module _ (X : Type 0) where
  some_chosen : {A : Type 0} (o : Option A) (P : X → A → Type 0) → IsSomeAnd o (λ a. (w : X) × P w a) → (w : X) × IsSomeAnd o (P w)
  some_chosen None P h = absurd h
  some_chosen (Some a) P h = h

  state_chosen : (s : HeapBlockState) (F : X → Type 0) (G : X → List Value → Type 0) → by_state s ((w : X) × F w) (λ cells. (w : X) × G w cells) → (w : X) × by_state s (F w) (G w)
  state_chosen (heap.Live cells) F G h = h
  state_chosen heap.Freed F G h = h

  pointer_chosen : (heap : HeapMap) (t : ℕ) (v : Value) (N F : X → Type 0) (G : X → ℕ → List Value → Type 0) →
      by_pointer heap t v ((w : X) × N w) ((w : X) × F w) (λ n cells. (w : X) × G w n cells) → (w : X) × by_pointer heap t v (N w) (F w) (G w)
  pointer_chosen heap t (Word z) N F G h = absurd h
  pointer_chosen heap t Null N F G h = h
  pointer_chosen heap t (Block b) N F G h = at (heap b) h
    where
      at : (o : Option HeapBlock) → IsSomeAnd o (λ c. (c.block_type ≡ t) × by_state c.state ((w : X) × F w) (λ cells. (w : X) × G w b cells)) →
          (w : X) × IsSomeAnd o (λ c. (c.block_type ≡ t) × by_state c.state (F w) (G w b))
      at None h = absurd h
      at (Some c) h = let (w, k) = state_chosen c.state F (λ w. G w b) h.1 in (w, (h.0, k))
  pointer_chosen heap t Unwritten N F G h = absurd h

  written_chosen : (v : Value) (F G : X → Type 0) → by_written v ((w : X) × F w) ((w : X) × G w) → (w : X) × by_written v (F w) (G w)
  written_chosen (Word z) F G h = h
  written_chosen Null F G h = h
  written_chosen (Block n) F G h = h
  written_chosen Unwritten F G h = h

module _ {E : Type 0} (seen : Event → E) (types : List BlockType) (calls : ProcedureCalls E) (X : Type 0) (K : X → Goal E) where
  abbrev Any : Goal E
  Any a x = (w : X) × K w a x

  back_chosen : (proc : ProcId) (to : Option ℕ) (site : Site) (k : List Item) (slots : List Value) (t : List E) (heap : HeapMap) (ending : Ending) →
      comes_back seen proc to site k slots t heap Any ending → (w : X) × comes_back seen proc to site k slots t heap (K w) ending
  back_chosen proc to site k slots t heap (Returned v) h = h
  back_chosen proc to site k slots t heap (Failed kind at) h = h

  command_chosen : (c : CommandTree) (k : List Item) (slots : List Value) (heap : HeapMap) → command seen types calls c k slots heap Any → (w : X) × command seen types calls c k slots heap (K w)
  command_chosen (assign to op a b) k slots heap h = some_chosen X (result_of op (operand_value slots a) (operand_value slots b)) (λ w v. K w [] (Goes k (slice_set slots to v) heap)) h
  command_chosen (unset to) k slots heap h = h
  command_chosen (read slot site) k slots heap h = written_chosen X (value_at slots slot) (λ w. K w [] (Goes k slots heap)) (λ w. K w [] (fails (error UninitialisedRead) site heap)) h
  command_chosen (test to how a b site) k slots heap (inl (t, (w, h))) = (w, inl (t, h))
  command_chosen (test to how a b site) k slots heap (inr (t, (w, h))) = (w, inr (t, h))
  command_chosen (choose slot first second) k slots heap (inl (t, (w, h))) = (w, inl (t, h))
  command_chosen (choose slot first second) k slots heap (inr (t, (w, h))) = (w, inr (t, h))
  command_chosen (loop site head body step) k slots heap h = h
  command_chosen leave k slots heap h = some_chosen X (leave_to k) (λ w p. K w (marking seen Done p.0.site) (Goes p.1 slots heap)) h
  command_chosen (load to at field block site) k slots heap h =
      pointer_chosen X heap block.0 (operand_value slots at) (λ w. K w (marking seen Access site) (fails (error NullDereference) site heap)) (λ w. K w (marking seen Access site) (fails (error UseAfterFree) site heap))
      (λ w n cells. K w (marking seen Access site) (Goes k (slice_set slots to (value_at cells field.0)) heap)) h
  command_chosen (store at field block from site) k slots heap h =
      pointer_chosen X heap block.0 (operand_value slots at) (λ w. K w (marking seen Access site) (fails (error NullDereference) site heap)) (λ w. K w (marking seen Access site) (fails (error UseAfterFree) site heap))
      (λ w n cells. K w (marking seen Access site) (Goes k slots (with_block heap n (live_block block.0 (slice_set cells field.0 (operand_value slots from)))))) h
  command_chosen (malloc to block site) k slots heap (inl (w, h)) = (w, inl h)
  command_chosen (malloc to block site) k slots heap (inr (n, out, (w, h))) = (w, inr (n, out, h))
  command_chosen (free at block site) k slots heap h =
      pointer_chosen X heap block.0 (operand_value slots at) (λ w. K w (marking seen FreeNull site) (Goes k slots heap)) (λ w. K w (marking seen Freed site) (fails (error DoubleFree) site heap))
      (λ w n cells. K w (marking seen Freed site) (Goes k slots (with_block heap n (freed_block block.0)))) h
  command_chosen (input to site) k slots heap (z, low, high, (w, h)) = (w, (z, low, high, h))
  command_chosen (call to proc arguments site) k slots heap (written, (t, ending, heap', c, h)) =
      let (w, h') = back_chosen proc to site k slots t heap' ending h in (w, (written, (t, ending, heap', c, h')))
  command_chosen (return from) k slots heap h = h
  command_chosen break k slots heap h = some_chosen X (break_to k) (λ w p. K w [] (Goes p slots heap)) h
  command_chosen continue k slots heap h = some_chosen X (continue_to k) (λ w p. K w [] (Goes p slots heap)) h
  command_chosen (stop word site) k slots heap h = h
  command_chosen (divide to a b site) k slots heap h = some_chosen X (on_words quotient (operand_value slots a) (operand_value slots b)) (λ w q. K w [] (divides to site k slots heap q)) h

  pub step_chosen : (bound : Option ℕ) (i : Item) (k : List Item) (slots : List Value) (heap : HeapMap) → step seen bound types calls i k slots heap Any → (w : X) × step seen bound types calls i k slots heap (K w)
  step_chosen bound (Act c) k slots heap h = command_chosen c k slots heap h
  step_chosen bound (AfterHead l) k slots heap (allowed, (w, h)) = (w, (allowed, h))
  step_chosen bound (AfterBody l) k slots heap h = h
  step_chosen bound (AfterStep l) k slots heap h = h
