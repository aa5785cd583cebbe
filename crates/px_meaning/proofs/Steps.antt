-- From a step to one goal, a step to another.
use Rattle.std.proofs.Common.{◌≡◌, ℕ, Option, Some, None, List, [], ◌∷◌, ◌++◌, map, slice_set, inl, inr, IsSomeAnd}
use Rattle.px_base.specs.declared.trace.Site.{Site}
use Rattle.px_base.specs.declared.trace.ProcId.{ProcId}
use Rattle.px_base.specs.declared.trace.MarkKind.{MarkKind}
use Rattle.px_base.specs.declared.trace.MarkKind.TheVariants.{Then, Else, Iter, Done, NoBlock, Access, Freed, FreeNull, Enter, Leave}
use Rattle.px_base.specs.declared.trace.Kind.TheVariants.{NullDereference, UseAfterFree, DoubleFree, UninitialisedRead}
use Rattle.px_core.specs.CommandTree.{CommandTree, assign, unset, read, test, choose, loop, leave, load, store, malloc, free, input, call, return, break, continue, stop, divide}
use Rattle.px_meaning.specs.Values.{Value, BlockType, Word, Null, Block, Unwritten}
use Rattle.px_meaning.specs.Heaps.{HeapMap, HeapBlockState, with_block}
use Rattle.px_meaning.specs.Heaps as heap
use Rattle.px_meaning.specs.Calls.{error, Ending, Returned, Failed}
use Rattle.px_meaning.specs.Events.{Event, marks, reads, makes, mark}
use Rattle.px_core.specs.Control.{Item, Act, AfterHead, AfterBody, AfterStep, leave_to, break_to, continue_to}
use Rattle.px_meaning.specs.Operations.{value_at, operand_value, on_words, quotient, result_of}
use Rattle.px_meaning.specs.Steps.{Next, Goes, Goal, ProcedureCalls, marking, fails, by_state, by_pointer, by_written, live_block, freed_block, comes_back, divides, command, Allows, step}

pub some_more : {A : Type 0} (o : Option A) (P Q : A → Type 0) → ((a : A) → P a → Q a) → IsSomeAnd o P → IsSomeAnd o Q
some_more None P Q f h = h
some_more (Some a) P Q f h = f a h

pub state_more : (s : HeapBlockState) (F F' : Type 0) (L L' : List Value → Type 0) → (F → F') → ((cells : List Value) → L cells → L' cells) →
    by_state s F L → by_state s F' L'
state_more (heap.Live cells) F F' L L' f l h = l cells h
state_more heap.Freed F F' L L' f l h = f h

pub pointer_more : (heap : HeapMap) (t : ℕ) (v : Value) (N N' F F' : Type 0) (L L' : ℕ → List Value → Type 0) →
    (N → N') → (F → F') → ((n : ℕ) (cells : List Value) → L n cells → L' n cells) → by_pointer heap t v N F L → by_pointer heap t v N' F' L'
pointer_more heap t (Word z) N N' F F' L L' n f l h = h
pointer_more heap t Null N N' F F' L L' n f l h = n h
pointer_more heap t (Block b) N N' F F' L L' n f l h =
    some_more (heap b) (λ c. (c.block_type ≡ t) × by_state c.state F (L b)) (λ c. (c.block_type ≡ t) × by_state c.state F' (L' b))
    (λ c h. (h.0, state_more c.state F F' (L b) (L' b) f (l b) h.1)) h
pointer_more heap t Unwritten N N' F F' L L' n f l h = h

pub written_more : (v : Value) (X X' Y Y' : Type 0) → (X → X') → (Y → Y') → by_written v X Y → by_written v X' Y'
written_more (Word z) X X' Y Y' f g h = f h
written_more Null X X' Y Y' f g h = f h
written_more (Block n) X X' Y Y' f g h = f h
written_more Unwritten X X' Y Y' f g h = g h

-- What is seen in one way, and in another.
pub record Across {E E' : Type 0} (seen : Event → E) (seen' : Event → E') (Same : List E → List E' → Type 0) : Type 0 where
  pub none : Same [] []
  pub one : (e : Event) → Same (seen e ∷ []) (seen' e ∷ [])
  pub join : (a b : List E) (a' b' : List E') → Same a a' → Same b b' → Same (a ++ b) (a' ++ b')

module _ {E E' : Type 0} (seen : Event → E) (seen' : Event → E') (Same : List E → List E' → Type 0) (across : Across seen seen' Same)
    (types : List BlockType) (calls : ProcedureCalls E) (calls' : ProcedureCalls E')
    (goes : (f : ℕ) (arguments : List Value) (heap : HeapMap) (t : List E) (ending : Ending) (end : HeapMap) →
    calls f arguments heap t ending end → (t' : List E') × Same t t' × calls' f arguments heap t' ending end)
    (K : Goal E) (K' : Goal E') (on : (a : List E) (a' : List E') (next : Next) → Same a a' → K a next → K' a' next) where
  still : (next : Next) → K [] next → K' [] next
  still next h = on [] [] next across.none h

  marked : (kind : MarkKind) (site : Site) (next : Next) → K (marking seen kind site) next → K' (marking seen' kind site) next
  marked kind site next h = on _ _ next (across.one (marks (mark kind site))) h

  back_across : (proc : ProcId) (to : Option ℕ) (site : Site) (k : List Item) (slots : List Value) (t : List E) (t' : List E') (heap : HeapMap) (ending : Ending) → Same t t' →
      comes_back seen proc to site k slots t heap K ending → comes_back seen' proc to site k slots t' heap K' ending
  back_across proc to site k slots t t' heap (Returned v) same h =
      on _ _ _ (across.join _ _ _ _ (across.one (marks (mark (Enter proc) site))) (across.join _ _ _ _ same (across.one (marks (mark Leave site))))) h
  back_across proc to site k slots t t' heap (Failed kind at) same h =
      on _ _ _ (across.join _ _ _ _ (across.one (marks (mark (Enter proc) site))) same) h

  command_across : (c : CommandTree) (k : List Item) (slots : List Value) (heap : HeapMap) → command seen types calls c k slots heap K → command seen' types calls' c k slots heap K'
  command_across (assign to op a b) k slots heap h =
      some_more (result_of op (operand_value slots a) (operand_value slots b)) (λ v. K [] (Goes k (slice_set slots to v) heap)) (λ v. K' [] (Goes k (slice_set slots to v) heap)) (λ v. still _) h
  command_across (unset to) k slots heap h = still _ h
  command_across (read slot site) k slots heap h =
      written_more (value_at slots slot) (K [] (Goes k slots heap)) (K' [] (Goes k slots heap)) (K [] (fails (error UninitialisedRead) site heap)) (K' [] (fails (error UninitialisedRead) site heap)) (still _) (still _) h
  command_across (test to how a b site) k slots heap (inl h) = inl (h.0, marked Then site _ h.1)
  command_across (test to how a b site) k slots heap (inr h) = inr (h.0, marked Else site _ h.1)
  command_across (choose slot first second) k slots heap (inl h) = inl (h.0, still _ h.1)
  command_across (choose slot first second) k slots heap (inr h) = inr (h.0, still _ h.1)
  command_across (loop site head body step) k slots heap h = still _ h
  command_across leave k slots heap h =
      some_more (leave_to k) (λ p. K (marking seen Done p.0.site) (Goes p.1 slots heap)) (λ p. K' (marking seen' Done p.0.site) (Goes p.1 slots heap)) (λ p. marked Done p.0.site _) h
  command_across (load to at field block site) k slots heap h =
      pointer_more heap block.0 (operand_value slots at)
      (K (marking seen Access site) (fails (error NullDereference) site heap)) (K' (marking seen' Access site) (fails (error NullDereference) site heap))
      (K (marking seen Access site) (fails (error UseAfterFree) site heap)) (K' (marking seen' Access site) (fails (error UseAfterFree) site heap))
      (λ n cells. K (marking seen Access site) (Goes k (slice_set slots to (value_at cells field.0)) heap))
      (λ n cells. K' (marking seen' Access site) (Goes k (slice_set slots to (value_at cells field.0)) heap))
      (marked Access site _) (marked Access site _) (λ n cells. marked Access site _) h
  command_across (store at field block from site) k slots heap h =
      pointer_more heap block.0 (operand_value slots at)
      (K (marking seen Access site) (fails (error NullDereference) site heap)) (K' (marking seen' Access site) (fails (error NullDereference) site heap))
      (K (marking seen Access site) (fails (error UseAfterFree) site heap)) (K' (marking seen' Access site) (fails (error UseAfterFree) site heap))
      (λ n cells. K (marking seen Access site) (Goes k slots (with_block heap n (live_block block.0 (slice_set cells field.0 (operand_value slots from))))))
      (λ n cells. K' (marking seen' Access site) (Goes k slots (with_block heap n (live_block block.0 (slice_set cells field.0 (operand_value slots from))))))
      (marked Access site _) (marked Access site _) (λ n cells. marked Access site _) h
  command_across (malloc to block site) k slots heap (inl h) = inl (marked NoBlock site _ h)
  command_across (malloc to block site) k slots heap (inr (n, out, h)) = inr (n, out, on _ _ _ (across.one (makes site n)) h)
  command_across (free at block site) k slots heap h =
      pointer_more heap block.0 (operand_value slots at)
      (K (marking seen FreeNull site) (Goes k slots heap)) (K' (marking seen' FreeNull site) (Goes k slots heap))
      (K (marking seen Freed site) (fails (error DoubleFree) site heap)) (K' (marking seen' Freed site) (fails (error DoubleFree) site heap))
      (λ n cells. K (marking seen Freed site) (Goes k slots (with_block heap n (freed_block block.0))))
      (λ n cells. K' (marking seen' Freed site) (Goes k slots (with_block heap n (freed_block block.0))))
      (marked FreeNull site _) (marked Freed site _) (λ n cells. marked Freed site _) h
  command_across (input to site) k slots heap (z, low, high, h) = (z, low, high, on _ _ _ (across.one (reads site z)) h)
  command_across (call to proc arguments site) k slots heap (w, (t, ending, heap', c, h)) =
      let (t', same, c') = goes proc.0 (map (operand_value slots) arguments) heap t ending heap' c in
      (w, (t', ending, heap', c', back_across proc to site k slots t t' heap' ending same h))
  command_across (return from) k slots heap h = still _ h
  command_across break k slots heap h =
      some_more (break_to k) (λ p. K [] (Goes p slots heap)) (λ p. K' [] (Goes p slots heap)) (λ p. still _) h
  command_across continue k slots heap h =
      some_more (continue_to k) (λ p. K [] (Goes p slots heap)) (λ p. K' [] (Goes p slots heap)) (λ p. still _) h
  command_across (stop word site) k slots heap h = still _ h
  command_across (divide to a b site) k slots heap h =
      some_more (on_words quotient (operand_value slots a) (operand_value slots b)) (λ q. K [] (divides to site k slots heap q)) (λ q. K' [] (divides to site k slots heap q)) (λ q. still _) h

  pub step_across : (bound bound' : Option ℕ) → ((made : ℕ) → Allows bound made → Allows bound' made) → (i : Item) (k : List Item) (slots : List Value) (heap : HeapMap) →
      step seen bound types calls i k slots heap K → step seen' bound' types calls' i k slots heap K'
  step_across bound bound' allow (Act c) k slots heap h = command_across c k slots heap h
  step_across bound bound' allow (AfterHead l) k slots heap h = (allow l.made h.0, marked Iter l.site _ h.1)
  step_across bound bound' allow (AfterBody l) k slots heap h = still _ h
  step_across bound bound' allow (AfterStep l) k slots heap h = still _ h
