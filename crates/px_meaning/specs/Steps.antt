-- What one item does, one case for each command.
--
-- A step is given as what it takes to come to a goal: some step of the machine is seen as these events,
-- and what comes next is such that the goal holds of both.
use Rattle.std.specs.Prelude.{◌≡◌, ◌⊎◌, ℕ, ℤ, pos, negsuc, ◌<◌, ◌≤ℤ◌, List, [], ◌∷◌, ◌++◌, map, Option, Some, None, IsSomeAnd, slice_get, slice_set, ⊤}
use Rattle.px_base.specs.declared.trace.Site.{Site}
use Rattle.px_base.specs.declared.trace.ProcId.{ProcId}
use Rattle.px_base.specs.declared.trace.MarkKind.{MarkKind}
use Rattle.px_base.specs.declared.trace.MarkKind.TheVariants.{Then, Else, Iter, Done, NoBlock, Access, Freed, FreeNull, Enter, Leave}
use Rattle.px_base.specs.declared.trace.Kind.TheVariants.{NullDereference, UseAfterFree, DoubleFree, UninitialisedRead, DivisionByZero}
use Rattle.px_terms.specs.Types.{types_of}
use Rattle.px_core.specs.declared.command.Operand.{Operand}
use Rattle.px_core.specs.CommandTree.{CommandTree, assign, unset, read, test, choose, loop, leave, load, store, malloc, free, input, call, return, break, continue, stop, divide}
use Rattle.px_meaning.specs.Values.{Value, BlockType, Word, Null, Block, Unwritten}
use Rattle.px_meaning.specs.Heaps.{HeapMap, HeapBlock, HeapBlockState, with_block}
use Rattle.px_meaning.specs.Heaps as heap
use Rattle.px_meaning.specs.Calls.{Halt, error, outside, Ending, Returned, Failed}
use Rattle.px_meaning.specs.Events.{Event, marks, reads, makes, mark}
use Rattle.px_core.specs.Control.{Item, Act, AfterHead, AfterBody, AfterStep, acts, no_turns, one_turn_more, leave_to, break_to, continue_to}
use Rattle.px_meaning.specs.Operations.{value_at, operand_value, on_words, quotient, result_of, Holds, Fails}

-- what comes after a step: the body goes on, with these items to do, slots and heap, or the call ends
pub data Next : Type 0 where
  Goes : List Item → List Value → HeapMap → Next
  Ends : Ending → HeapMap → Next

-- what may hold of the events of a step and of what comes next
abbrev pub Goal : Type 0 → Type 1
Goal E = List E → Next → Type 0

-- the calls of procedures by their numbers: arguments, heap before, events, ending, heap after
abbrev pub ProcedureCalls : Type 0 → Type 1
ProcedureCalls E = ℕ → List Value → HeapMap → List E → Ending → HeapMap → Type 0

-- one mark
abbrev pub marking : {E : Type 0} → (Event → E) → MarkKind → Site → List E
marking seen kind site = seen (marks (mark kind site)) ∷ []

-- the call ends before it returns
abbrev pub fails : Halt → Site → HeapMap → Next
fails halt site heap = Ends (Failed halt site) heap

-- a live block goes on with its cells, a freed one otherwise
abbrev pub by_state : HeapBlockState → Type 0 → (List Value → Type 0) → Type 0
by_state (heap.Live cells) freed live = live cells
by_state heap.Freed freed live = freed

-- what a pointer to blocks of this type leads to: null, a freed block, or a live one with its number
-- and cells; nothing else is such a pointer
abbrev pub by_pointer : HeapMap → ℕ → Value → Type 0 → Type 0 → (ℕ → List Value → Type 0) → Type 0
by_pointer heap block_type (Word z) null freed live = ⊥
by_pointer heap block_type Null null freed live = null
by_pointer heap block_type (Block n) null freed live = IsSomeAnd (heap n) (λ b. (b.block_type ≡ block_type) × by_state b.state freed (live n))
by_pointer heap block_type Unwritten null freed live = ⊥

-- a written value goes on one way, and an unwritten one the other
abbrev pub by_written : Value → Type 0 → Type 0 → Type 0
by_written (Word z) written unwritten = written
by_written Null written unwritten = written
by_written (Block n) written unwritten = written
by_written Unwritten written unwritten = unwritten

-- something was written there
abbrev pub WasWritten : Value → Type 0
WasWritten v = by_written v ⊤ ⊥

-- each of these values was written
abbrev pub WereWritten : List Value → Type 0
WereWritten [] = ⊤
WereWritten (v ∷ vs) = WasWritten v × WereWritten vs

-- a new block of this type: all its cells are unwritten (C17 7.22.3.4)
abbrev pub new_block : List BlockType → ℕ → HeapBlock
new_block types t = record { block_type = t; state = heap.Live (map (λ _. Unwritten) (types_of (slice_get types t))) }

abbrev pub live_block : ℕ → List Value → HeapBlock
live_block t cells = record { block_type = t; state = heap.Live cells }

abbrev pub freed_block : ℕ → HeapBlock
freed_block t = record { block_type = t; state = heap.Freed }

-- the slots in which the result of a call is kept, where it is kept
abbrev pub keep_result : Option ℕ → List Value → Value → List Value
keep_result None slots v = slots
keep_result (Some to) slots v = slice_set slots to v

-- the value that is returned, which is unwritten where there is none
abbrev pub returned_value : List Value → Option Operand → Value
returned_value slots None = Unwritten
returned_value slots (Some a) = operand_value slots a

-- a call is seen as its entry, what is seen of the callee, and its return, unless the callee failed
abbrev pub comes_back : {E : Type 0} → (Event → E) → ProcId → Option ℕ → Site → List Item → List Value → List E → HeapMap → Goal E → Ending → Type 0
comes_back seen proc to site k slots t heap K (Returned v) = K (marking seen (Enter proc) site ++ (t ++ marking seen Leave site)) (Goes k (keep_result to slots v) heap)
comes_back seen proc to site k slots t heap K (Failed halt at) = K (marking seen (Enter proc) site ++ t) (fails halt at heap)

-- on with a quotient in a slot; where there is none, a division by zero is an error
abbrev pub divides : ℕ → Site → List Item → List Value → HeapMap → Option Value → Next
divides to site k slots heap None = fails (error DivisionByZero) site heap
divides to site k slots heap (Some v) = Goes k (slice_set slots to v) heap

-- one command, with what is still to be done after it
abbrev pub command : {E : Type 0} → (Event → E) → List BlockType → ProcedureCalls E → CommandTree → List Item → List Value → HeapMap → Goal E → Type 0
command seen types calls (assign to op a b) k slots heap K =
    IsSomeAnd (result_of op (operand_value slots a) (operand_value slots b)) (λ v. K [] (Goes k (slice_set slots to v) heap))
command seen types calls (unset to) k slots heap K = K [] (Goes k (slice_set slots to Unwritten) heap)
command seen types calls (read slot site) k slots heap K =
    by_written (value_at slots slot) (K [] (Goes k slots heap)) (K [] (fails (error UninitialisedRead) site heap))
command seen types calls (test to how a b site) k slots heap K =
    (Holds how (operand_value slots a) (operand_value slots b) × K (marking seen Then site) (Goes k (slice_set slots to (Word (pos 1))) heap))
    ⊎ (Fails how (operand_value slots a) (operand_value slots b) × K (marking seen Else site) (Goes k (slice_set slots to (Word (pos 0))) heap))
command seen types calls (choose slot first second) k slots heap K =
    ((value_at slots slot ≡ Word (pos 1)) × K [] (Goes (acts first k) slots heap))
    ⊎ ((value_at slots slot ≡ Word (pos 0)) × K [] (Goes (acts second k) slots heap))
command seen types calls (loop site head body step) k slots heap K =
    K [] (Goes (acts head (AfterHead (no_turns site head body step) ∷ k)) slots heap)
command seen types calls leave k slots heap K =
    IsSomeAnd (leave_to k) (λ place. K (marking seen Done place.0.site) (Goes place.1 slots heap))
command seen types calls (load to at field block site) k slots heap K =
    by_pointer heap block.0 (operand_value slots at)
    (K (marking seen Access site) (fails (error NullDereference) site heap))
    (K (marking seen Access site) (fails (error UseAfterFree) site heap))
    (λ n cells. K (marking seen Access site) (Goes k (slice_set slots to (value_at cells field.0)) heap))
command seen types calls (store at field block from site) k slots heap K =
    by_pointer heap block.0 (operand_value slots at)
    (K (marking seen Access site) (fails (error NullDereference) site heap))
    (K (marking seen Access site) (fails (error UseAfterFree) site heap))
    (λ n cells. K (marking seen Access site) (Goes k slots (with_block heap n (live_block block.0 (slice_set cells field.0 (operand_value slots from))))))
command seen types calls (malloc to block site) k slots heap K =
    K (marking seen NoBlock site) (Goes k (slice_set slots to Null) heap)
    ⊎ ((n : ℕ) × (heap n ≡ None) × K (seen (makes site n) ∷ []) (Goes k (slice_set slots to (Block n)) (with_block heap n (new_block types block.0))))
command seen types calls (free at block site) k slots heap K =
    by_pointer heap block.0 (operand_value slots at)
    (K (marking seen FreeNull site) (Goes k slots heap))
    (K (marking seen Freed site) (fails (error DoubleFree) site heap))
    (λ n cells. K (marking seen Freed site) (Goes k slots (with_block heap n (freed_block block.0))))
command seen types calls (input to site) k slots heap K =
    (z : ℤ) × (negsuc 0 ≤ℤ z) × (z ≤ℤ pos 255) × K (seen (reads site z) ∷ []) (Goes k (slice_set slots to (Word z)) heap)
command seen types calls (call to proc arguments site) k slots heap K =
    WereWritten (map (operand_value slots) arguments)
    × ((t : List _) × (ending : Ending) × (heap' : HeapMap)
    × calls proc.0 (map (operand_value slots) arguments) heap t ending heap'
    × comes_back seen proc to site k slots t heap' K ending)
command seen types calls (return from) k slots heap K = K [] (Ends (Returned (returned_value slots from)) heap)
command seen types calls break k slots heap K = IsSomeAnd (break_to k) (λ place. K [] (Goes place slots heap))
command seen types calls continue k slots heap K = IsSomeAnd (continue_to k) (λ place. K [] (Goes place slots heap))
command seen types calls (stop word site) k slots heap K = K [] (fails (outside word) site heap)
command seen types calls (divide to a b site) k slots heap K =
    IsSomeAnd (on_words quotient (operand_value slots a) (operand_value slots b)) (λ q. K [] (divides to site k slots heap q))

-- a loop may begin its body once more, where it was begun so often since the loop was entered
abbrev pub Allows : Option ℕ → ℕ → Type 0
Allows None made = ⊤
Allows (Some bound) made = made < bound

-- one item, with what is still to be done after it; with a bound, each loop begins its body at most so
-- often each time that it is entered
abbrev pub step : {E : Type 0} → (Event → E) → Option ℕ → List BlockType → ProcedureCalls E → Item → List Item → List Value → HeapMap → Goal E → Type 0
step seen bound types calls (Act c) k slots heap K = command seen types calls c k slots heap K
step seen bound types calls (AfterHead l) k slots heap K =
    Allows bound l.made × K (marking seen Iter l.site) (Goes (acts l.body (AfterBody (one_turn_more l) ∷ k)) slots heap)
step seen bound types calls (AfterBody l) k slots heap K = K [] (Goes (acts l.step (AfterStep l ∷ k)) slots heap)
step seen bound types calls (AfterStep l) k slots heap K = K [] (Goes (acts l.head (AfterHead l ∷ k)) slots heap)
