-- What holds wherever a step leads, holds where there is a step.
use Rattle.std.proofs.Common.{◌≡◌, ℕ, Option, Some, None, List, [], slice_set, refl, ap₂, ◌∙◌, inl, inr, IsSomeAnd}
use Rattle.px_base.specs.declared.trace.Site.{Site}
use Rattle.px_base.specs.declared.trace.ProcId.{ProcId}
use Rattle.px_base.specs.declared.trace.MarkKind.TheVariants.{Done, Access, Freed, FreeNull}
use Rattle.px_base.specs.declared.trace.Kind.TheVariants.{NullDereference, UseAfterFree, DoubleFree, UninitialisedRead}
use Rattle.px_core.specs.CommandTree.{CommandTree, assign, unset, read, test, choose, loop, leave, load, store, malloc, free, input, call, return, break, continue, stop, divide}
use Rattle.px_meaning.specs.Values.{Value, BlockType, Word, Null, Block, Unwritten}
use Rattle.px_meaning.specs.Heaps.{HeapMap, HeapBlockState, with_block}
use Rattle.px_meaning.specs.Heaps as heap
use Rattle.px_meaning.specs.Calls.{error, Ending, Returned, Failed}
use Rattle.px_meaning.specs.Events.{Event}
use Rattle.px_core.specs.Control.{Item, Act, AfterHead, AfterBody, AfterStep, leave_to, break_to, continue_to}
use Rattle.px_meaning.specs.Operations.{value_at, operand_value, on_words, quotient, result_of}
use Rattle.px_meaning.specs.Steps.{Next, Goes, Goal, ProcedureCalls, marking, fails, by_state, by_pointer, by_written, live_block, freed_block, comes_back, divides, command, step}

pub some_to : {A : Type 0} (o : Option A) (P : A → Type 0) (R : Type 0) → ((a : A) → o ≡ Some a → P a → R) → IsSomeAnd o P → R
some_to {A} o P R f h = go o (λ a e. f a e) h
  where
    go : (p : Option A) → ((a : A) → p ≡ Some a → P a → R) → IsSomeAnd p P → R
    go None f h = absurd h
    go (Some a) f h = f a refl h

pub state_to : (s : HeapBlockState) (F : Type 0) (G : List Value → Type 0) (R : Type 0) → (F → R) → ((cells : List Value) → s ≡ heap.Live cells → G cells → R) → by_state s F G → R
state_to (heap.Live cells) F G R f g h = g cells refl h
state_to heap.Freed F G R f g h = f h

-- through a pointer: null, a freed block, or a live one, which the heap has
pub pointer_to : (heap : HeapMap) (t : ℕ) (v : Value) (N F : Type 0) (G : ℕ → List Value → Type 0) (R : Type 0) →
    (N → R) → (F → R) → ((n : ℕ) (cells : List Value) → heap n ≡ Some (live_block t cells) → G n cells → R) → by_pointer heap t v N F G → R
pointer_to heap t (Word z) N F G R n f g h = absurd h
pointer_to heap t Null N F G R n f g h = n h
pointer_to heap t (Block b) N F G R n f g h =
    some_to (heap b) (λ c. (c.block_type ≡ t) × by_state c.state F (G b)) R
    (λ c e h. state_to c.state F (G b) R f (λ cells s k. g b cells (e ∙ ap₂ (λ u s. Some (record { block_type = u; state = s })) h.0 s) k) h.1) h
pointer_to heap t Unwritten N F G R n f g h = absurd h

pub written_to : (v : Value) (X Y R : Type 0) → (X → R) → (Y → R) → by_written v X Y → R
written_to (Word z) X Y R f g h = f h
written_to Null X Y R f g h = f h
written_to (Block n) X Y R f g h = f h
written_to Unwritten X Y R f g h = g h

module _ {E : Type 0} (seen : Event → E) (types : List BlockType) (calls : ProcedureCalls E) (K : Goal E) (R : Type 0) (to : (a : List E) (x : Next) → K a x → R) where
  back_to : (proc : ProcId) (slot : Option ℕ) (site : Site) (k : List Item) (slots : List Value) (t : List E) (heap : HeapMap) (ending : Ending) →
      comes_back seen proc slot site k slots t heap K ending → R
  back_to proc slot site k slots t heap (Returned v) h = to _ _ h
  back_to proc slot site k slots t heap (Failed kind at) h = to _ _ h

  command_to : (c : CommandTree) (k : List Item) (slots : List Value) (heap : HeapMap) → command seen types calls c k slots heap K → R
  command_to (assign slot op a b) k slots heap h = some_to (result_of op (operand_value slots a) (operand_value slots b)) (λ v. K [] (Goes k (slice_set slots slot v) heap)) R (λ v e. to _ _) h
  command_to (unset slot) k slots heap h = to _ _ h
  command_to (read slot site) k slots heap h = written_to (value_at slots slot) (K [] (Goes k slots heap)) (K [] (fails (error UninitialisedRead) site heap)) R (to _ _) (to _ _) h
  command_to (test slot how a b site) k slots heap (inl h) = to _ _ h.1
  command_to (test slot how a b site) k slots heap (inr h) = to _ _ h.1
  command_to (choose slot first second) k slots heap (inl h) = to _ _ h.1
  command_to (choose slot first second) k slots heap (inr h) = to _ _ h.1
  command_to (loop site head body step) k slots heap h = to _ _ h
  command_to leave k slots heap h = some_to (leave_to k) (λ p. K (marking seen Done p.0.site) (Goes p.1 slots heap)) R (λ p e. to _ _) h
  command_to (load slot at field block site) k slots heap h =
      pointer_to heap block.0 (operand_value slots at) (K (marking seen Access site) (fails (error NullDereference) site heap)) (K (marking seen Access site) (fails (error UseAfterFree) site heap))
      (λ n cells. K (marking seen Access site) (Goes k (slice_set slots slot (value_at cells field.0)) heap)) R (to _ _) (to _ _) (λ n cells e. to _ _) h
  command_to (store at field block from site) k slots heap h =
      pointer_to heap block.0 (operand_value slots at) (K (marking seen Access site) (fails (error NullDereference) site heap)) (K (marking seen Access site) (fails (error UseAfterFree) site heap))
      (λ n cells. K (marking seen Access site) (Goes k slots (with_block heap n (live_block block.0 (slice_set cells field.0 (operand_value slots from)))))) R (to _ _) (to _ _) (λ n cells e. to _ _) h
  command_to (malloc slot block site) k slots heap (inl h) = to _ _ h
  command_to (malloc slot block site) k slots heap (inr (n, out, h)) = to _ _ h
  command_to (free at block site) k slots heap h =
      pointer_to heap block.0 (operand_value slots at) (K (marking seen FreeNull site) (Goes k slots heap)) (K (marking seen Freed site) (fails (error DoubleFree) site heap))
      (λ n cells. K (marking seen Freed site) (Goes k slots (with_block heap n (freed_block block.0)))) R (to _ _) (to _ _) (λ n cells e. to _ _) h
  command_to (input slot site) k slots heap (z, low, high, h) = to _ _ h
  command_to (call slot proc arguments site) k slots heap (_, (t, ending, heap', c, h)) = back_to proc slot site k slots t heap' ending h
  command_to (return from) k slots heap h = to _ _ h
  command_to break k slots heap h = some_to (break_to k) (λ p. K [] (Goes p slots heap)) R (λ p e. to _ _) h
  command_to continue k slots heap h = some_to (continue_to k) (λ p. K [] (Goes p slots heap)) R (λ p e. to _ _) h
  command_to (stop word site) k slots heap h = to _ _ h
  command_to (divide slot a b site) k slots heap h = some_to (on_words quotient (operand_value slots a) (operand_value slots b)) (λ q. K [] (divides slot site k slots heap q)) R (λ q e. to _ _) h

  pub step_to : (bound : Option ℕ) (i : Item) (k : List Item) (slots : List Value) (heap : HeapMap) → step seen bound types calls i k slots heap K → R
  step_to bound (Act c) k slots heap h = command_to c k slots heap h
  step_to bound (AfterHead l) k slots heap h = to _ _ h.1
  step_to bound (AfterBody l) k slots heap h = to _ _ h
  step_to bound (AfterStep l) k slots heap h = to _ _ h
