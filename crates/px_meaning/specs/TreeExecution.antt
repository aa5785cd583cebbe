-- What expressions, conditions and statements do, one case for each kind.
--
-- As for the core, it is given as what it takes to come to a goal: what was seen so far is handed on, and
-- the goal is asked of all that was seen, the outcome and the heap.
use Rattle.std.specs.Prelude.{◌≡◌, ◌⊎◌, ℕ, zero, suc, ℤ, pos, negsuc, ◌+ℤ◌, ◌-ℤ◌, ◌*ℤ◌, ◌≤ℤ◌, List, [], ◌∷◌, ◌++◌, Option, Some, None, IsSomeAnd, slice_set}
use Rattle.px_base.specs.declared.trace.Site.{Site}
use Rattle.px_base.specs.declared.trace.ProcId.{ProcId}
use Rattle.px_base.specs.declared.trace.FieldId.{FieldId}
use Rattle.px_base.specs.declared.trace.MarkKind.TheVariants.{Then, Else, Iter, Done, NoBlock, Access, Freed, FreeNull, Enter, Leave}
use Rattle.px_base.specs.declared.trace.Kind.TheVariants.{NullDereference, UseAfterFree, DoubleFree, UninitialisedRead, DivisionByZero}
use Rattle.px_core.specs.declared.command.Operator.TheVariants.{Neg}
use Rattle.px_core.specs.declared.command.Comparison.TheVariants.{Equal, Unequal, Less, AtMost, SamePlace, OtherPlace}
use Rattle.px_meaning.specs.Values.{TypeId, BlockType, Value, Word, Null, Block, Unwritten}
use Rattle.px_meaning.specs.Heaps.{HeapMap, with_block}
use Rattle.px_meaning.specs.Calls.{Halt, error, outside, Ending, Returned, Failed}
use Rattle.px_meaning.specs.Execution.{Locals, with_local}
use Rattle.px_meaning.specs.Events.{Event, reads, makes}
use Rattle.px_meaning.specs.Operations.{value_at, wrapped, on_words, quotient, remainder, result_of, Holds, Fails}
use Rattle.px_meaning.specs.Steps.{ProcedureCalls, marking, by_pointer, by_written, new_block, live_block, freed_block, Allows}
use Rattle.px_syntax.specs.declared.typed_expression.Arithmetic.{Arithmetic}
use Rattle.px_syntax.specs.declared.typed_expression.Arithmetic.TheVariants.{Add, Subtract, Multiply, Divide, Remainder}
use Rattle.px_syntax.specs.declared.typed_expression.Relation.{Relation}
use Rattle.px_syntax.specs.declared.typed_expression.Relation.TheVariants as relation
use Rattle.px_syntax.specs.TypedTree.{Expression, constant, null, local, negated, arithmetic, truth, cell, allocate, get_char, call, stop, Expressions, no_expressions, an_expression, Arguments, no_arguments, an_argument, passed, erased, Condition, compare, word, pointer, both, either, opposite, Place, local_place, cell_place, Statement, block, declare, assign, update, run_call, free, input, choose, loop, break, continue, return, evaluate, access, Statements, no_statements, a_statement}

-- ---- outcomes and exits

-- an expression gives a value, or ends all: in a memory error, or where it comes to what isn't understood
pub data Outcome : Type 0 where
  gives : Value → Outcome
  errs : Halt → Site → Outcome

abbrev pub Outcomes : Type 0 → Type 1
Outcomes E = List E → Outcome → HeapMap → Type 0

-- on with a value; a halt is the end
abbrev pub with_value : {E : Type 0} → Outcomes E → (List E → Value → HeapMap → Type 0) → Outcomes E
with_value K on so_far (gives v) heap = on so_far v heap
with_value K on so_far (errs halt site) heap = K so_far (errs halt site) heap

-- the same where a halt goes elsewhere
abbrev pub by_outcome : {E : Type 0} → (List E → Halt → Site → HeapMap → Type 0) → (List E → Value → HeapMap → Type 0) → Outcomes E
by_outcome err on so_far (gives v) heap = on so_far v heap
by_outcome err on so_far (errs halt site) heap = err so_far halt site heap

-- a condition is true or false, or ends all
pub data Verdict : Type 0 where
  yes no : Verdict
  fault : Halt → Site → Verdict

abbrev pub Verdicts : Type 0 → Type 1
Verdicts E = List E → Verdict → HeapMap → Type 0

abbrev pub with_verdict : {E : Type 0} → (List E → Halt → Site → HeapMap → Type 0) → (List E → HeapMap → Type 0) → (List E → HeapMap → Type 0) → Verdicts E
with_verdict err on_yes on_no so_far yes heap = on_yes so_far heap
with_verdict err on_yes on_no so_far no heap = on_no so_far heap
with_verdict err on_yes on_no so_far (fault halt site) heap = err so_far halt site heap

-- how a statement ends (C17 6.8.6)
pub data Exit : Type 0 where
  falls breaks continues : Exit
  returns : Value → Exit
  fails : Halt → Site → Exit

abbrev pub Exits : Type 0 → Type 1
Exits E = List E → Exit → Locals → HeapMap → Type 0

-- on after a statement that falls through
abbrev pub with_fall : {E : Type 0} → Exits E → (List E → Locals → HeapMap → Type 0) → Exits E
with_fall K on so_far falls locals heap = on so_far locals heap
with_fall K on so_far breaks locals heap = K so_far breaks locals heap
with_fall K on so_far continues locals heap = K so_far continues locals heap
with_fall K on so_far (returns v) locals heap = K so_far (returns v) locals heap
with_fall K on so_far (fails halt site) locals heap = K so_far (fails halt site) locals heap

-- where a division has no value, it is an error at the operator
abbrev pub division : Site → Option Value → Outcome
division site None = errs (error DivisionByZero) site
division site (Some v) = gives v

-- what an operator makes of two words (C17 6.5.5, 6.5.6)
abbrev pub calculation : Arithmetic → ℤ → ℤ → Outcome
calculation Add x y = gives (wrapped (x +ℤ y))
calculation Subtract x y = gives (wrapped (x -ℤ y))
calculation Multiply x y = gives (wrapped (x *ℤ y))
calculation (Divide site) x y = division site (quotient x y)
calculation (Remainder site) x y = division site (remainder x y)

-- a comparison is true of two values, or false
abbrev pub RelationHolds : Relation → Value → Value → Type 0
RelationHolds relation.Equal x y = Holds Equal x y
RelationHolds relation.Unequal x y = Holds Unequal x y
RelationHolds relation.Less x y = Holds Less x y
RelationHolds relation.Greater x y = Holds Less y x
RelationHolds relation.AtMost x y = Holds AtMost x y
RelationHolds relation.AtLeast x y = Holds AtMost y x
RelationHolds relation.SamePlace x y = Holds SamePlace x y
RelationHolds relation.OtherPlace x y = Holds OtherPlace x y

abbrev pub RelationFails : Relation → Value → Value → Type 0
RelationFails relation.Equal x y = Fails Equal x y
RelationFails relation.Unequal x y = Fails Unequal x y
RelationFails relation.Less x y = Fails Less x y
RelationFails relation.Greater x y = Fails Less y x
RelationFails relation.AtMost x y = Fails AtMost x y
RelationFails relation.AtLeast x y = Fails AtMost y x
RelationFails relation.SamePlace x y = Fails SamePlace x y
RelationFails relation.OtherPlace x y = Fails OtherPlace x y

module _ {E : Type 0} (seen : Event → E) (types : List BlockType) (calls : ProcedureCalls E) where
  -- ---- acts that expressions and statements share

  -- a value is used: an unwritten one is an error
  abbrev pub Uses : Value → Site → List E → HeapMap → Outcomes E → Type 0
  Uses v site so_far heap K = by_written v (K so_far (gives v) heap) (K so_far (errs (error UninitialisedRead) site) heap)

  -- a cell is read through a pointer
  abbrev pub Loads : Value → FieldId → TypeId → Site → List E → HeapMap → Outcomes E → Type 0
  Loads p field t site so_far heap K = by_pointer heap t.0 p
      (K (so_far ++ marking seen Access site) (errs (error NullDereference) site) heap)
      (K (so_far ++ marking seen Access site) (errs (error UseAfterFree) site) heap)
      (λ n cells. Uses (value_at cells field.0) site (so_far ++ marking seen Access site) heap K)

  -- an operator is applied to two values
  abbrev pub Calculates : Arithmetic → Value → Value → List E → HeapMap → Outcomes E → Type 0
  Calculates op x y so_far heap K = IsSomeAnd (on_words (calculation op) x y) (λ r. K so_far r heap)

  -- a cell is reached through a pointer, and isn't read
  abbrev pub Reaches : Value → TypeId → Site → List E → HeapMap → (List E → Halt → Site → HeapMap → Type 0) → (List E → HeapMap → Type 0) → Type 0
  Reaches p t site so_far heap err on = by_pointer heap t.0 p
      (err (so_far ++ marking seen Access site) (error NullDereference) site heap)
      (err (so_far ++ marking seen Access site) (error UseAfterFree) site heap)
      (λ n cells. on (so_far ++ marking seen Access site) heap)

  -- a cell is written through a pointer
  abbrev pub Stores : Value → FieldId → TypeId → Site → Value → Locals → List E → HeapMap → Exits E → Type 0
  Stores p field t site v locals so_far heap K = by_pointer heap t.0 p
      (K (so_far ++ marking seen Access site) (fails (error NullDereference) site) locals heap)
      (K (so_far ++ marking seen Access site) (fails (error UseAfterFree) site) locals heap)
      (λ n cells. K (so_far ++ marking seen Access site) falls locals (with_block heap n (live_block t.0 (slice_set cells field.0 v))))

  -- what a call comes back with; `on` has the value that is returned
  abbrev pub Returns : ProcId → Site → List E → List E → HeapMap → (List E → Halt → Site → HeapMap → Type 0) → (List E → Value → HeapMap → Type 0) → Ending → Type 0
  Returns proc site so_far t heap err on (Returned v) = on (so_far ++ (marking seen (Enter proc) site ++ (t ++ marking seen Leave site))) v heap
  Returns proc site so_far t heap err on (Failed halt at) = err (so_far ++ (marking seen (Enter proc) site ++ t)) halt at heap

  abbrev pub CallsProcedure : ProcId → Site → List Value → List E → HeapMap → (List E → Halt → Site → HeapMap → Type 0) → (List E → Value → HeapMap → Type 0) → Type 0
  CallsProcedure proc site arguments so_far heap err on =
      (t : List E) × (ending : Ending) × (heap' : HeapMap) × calls proc.0 arguments heap t ending heap' × Returns proc site so_far t heap' err on ending

  -- the two outcomes of a test, each with its mark
  abbrev pub Branches : Type 0 → Type 0 → Site → List E → HeapMap → Verdicts E → Type 0
  Branches Yes No site so_far heap K =
      (Yes × K (so_far ++ marking seen Then site) yes heap) ⊎ (No × K (so_far ++ marking seen Else site) no heap)

  -- ---- expressions and conditions (C17 6.5), operands from left to right

  abbrev mutual
    pub Evaluates : Expression → Locals → List E → HeapMap → Outcomes E → Type 0
    Evaluates (constant z) locals so_far heap K = K so_far (gives (Word z)) heap
    Evaluates null locals so_far heap K = K so_far (gives Null) heap
    Evaluates (local n site) locals so_far heap K = Uses (locals n) site so_far heap K
    Evaluates (negated e) locals so_far heap K =
        Evaluates e locals so_far heap (with_value K (λ so_far x heap. IsSomeAnd (result_of Neg x (Word (pos 0))) (λ v. K so_far (gives v) heap)))
    Evaluates (arithmetic op a b) locals so_far heap K =
        Evaluates a locals so_far heap (with_value K (λ so_far x heap.
        Evaluates b locals so_far heap (with_value K (λ so_far y heap. Calculates op x y so_far heap K))))
    Evaluates (truth c) locals so_far heap K =
        Tests c locals so_far heap (with_verdict (λ so_far halt site heap. K so_far (errs halt site) heap)
        (λ so_far heap. K so_far (gives (Word (pos 1))) heap) (λ so_far heap. K so_far (gives (Word (pos 0))) heap))
    Evaluates (cell p field t site) locals so_far heap K =
        Evaluates p locals so_far heap (with_value K (λ so_far x heap. Loads x field t site so_far heap K))
    Evaluates (allocate t site) locals so_far heap K =
        K (so_far ++ marking seen NoBlock site) (gives Null) heap
        ⊎ ((n : ℕ) × (heap n ≡ None) × K (so_far ++ seen (makes site n) ∷ []) (gives (Block n)) (with_block heap n (new_block types t.0)))
    Evaluates (get_char site) locals so_far heap K =
        (z : ℤ) × (negsuc 0 ≤ℤ z) × (z ≤ℤ pos 255) × K (so_far ++ seen (reads site z) ∷ []) (gives (Word z)) heap
    Evaluates (call proc arguments result site) locals so_far heap K =
        EvaluatesAll arguments locals so_far heap (λ so_far halt at heap. K so_far (errs halt at) heap)
        (λ so_far vs heap. CallsProcedure proc site vs so_far heap (λ so_far halt at heap. K so_far (errs halt at) heap) (λ so_far v heap. Uses v site so_far heap K))
    Evaluates (stop number site parts) locals so_far heap K =
        PassesAll parts locals so_far heap (λ so_far halt at heap. K so_far (errs halt at) heap) (λ so_far heap. K so_far (errs (outside number) site) heap)

    -- each in order; `on` has the values that are passed
    pub EvaluatesAll : Arguments → Locals → List E → HeapMap → (List E → Halt → Site → HeapMap → Type 0) → (List E → List Value → HeapMap → Type 0) → Type 0
    EvaluatesAll no_arguments locals so_far heap err on = on so_far [] heap
    EvaluatesAll (an_argument (passed e) rest) locals so_far heap err on =
        Evaluates e locals so_far heap (by_outcome err (λ so_far v heap. EvaluatesAll rest locals so_far heap err (λ so_far vs heap. on so_far (v ∷ vs) heap)))
    EvaluatesAll (an_argument (erased parts) rest) locals so_far heap err on =
        PassesAll parts locals so_far heap err (λ so_far heap. EvaluatesAll rest locals so_far heap err on)

    -- each in order, for its effects: its value isn't read, those below it are
    pub PassesAll : Expressions → Locals → List E → HeapMap → (List E → Halt → Site → HeapMap → Type 0) → (List E → HeapMap → Type 0) → Type 0
    PassesAll no_expressions locals so_far heap err on = on so_far heap
    PassesAll (an_expression (local n site) rest) locals so_far heap err on = PassesAll rest locals so_far heap err on
    PassesAll (an_expression (cell p field t site) rest) locals so_far heap err on =
        Evaluates p locals so_far heap (by_outcome err (λ so_far x heap. Reaches x t site so_far heap err (λ so_far heap. PassesAll rest locals so_far heap err on)))
    PassesAll (an_expression (call proc arguments result site) rest) locals so_far heap err on =
        EvaluatesAll arguments locals so_far heap err
        (λ so_far vs heap. CallsProcedure proc site vs so_far heap err (λ so_far v heap. PassesAll rest locals so_far heap err on))
    PassesAll (an_expression e rest) locals so_far heap err on =
        Evaluates e locals so_far heap (by_outcome err (λ so_far v heap. PassesAll rest locals so_far heap err on))

    -- a condition marks where it is basic; `&&` and `||` stop early (C17 6.5.13, 6.5.14)
    pub Tests : Condition → Locals → List E → HeapMap → Verdicts E → Type 0
    Tests (compare r a b site) locals so_far heap K =
        Evaluates a locals so_far heap (by_outcome (λ so_far halt at heap. K so_far (fault halt at) heap) (λ so_far x heap.
        Evaluates b locals so_far heap (by_outcome (λ so_far halt at heap. K so_far (fault halt at) heap) (λ so_far y heap.
        Branches (RelationHolds r x y) (RelationFails r x y) site so_far heap K))))
    Tests (word e site) locals so_far heap K =
        Evaluates e locals so_far heap (by_outcome (λ so_far halt at heap. K so_far (fault halt at) heap) (λ so_far x heap.
        Branches (Holds Unequal x (Word (pos 0))) (Fails Unequal x (Word (pos 0))) site so_far heap K))
    Tests (pointer e site) locals so_far heap K =
        Evaluates e locals so_far heap (by_outcome (λ so_far halt at heap. K so_far (fault halt at) heap) (λ so_far x heap.
        Branches (Holds OtherPlace x Null) (Fails OtherPlace x Null) site so_far heap K))
    Tests (both c d) locals so_far heap K =
        Tests c locals so_far heap (with_verdict (λ so_far halt at heap. K so_far (fault halt at) heap)
        (λ so_far heap. Tests d locals so_far heap K) (λ so_far heap. K so_far no heap))
    Tests (either c d) locals so_far heap K =
        Tests c locals so_far heap (with_verdict (λ so_far halt at heap. K so_far (fault halt at) heap)
        (λ so_far heap. K so_far yes heap) (λ so_far heap. Tests d locals so_far heap K))
    Tests (opposite c) locals so_far heap K =
        Tests c locals so_far heap (with_verdict (λ so_far halt at heap. K so_far (fault halt at) heap)
        (λ so_far heap. K so_far no heap) (λ so_far heap. K so_far yes heap))

  -- ---- statements (C17 6.8)

  -- a statement ends where an expression halts
  abbrev pub failing : Locals → Exits E → List E → Halt → Site → HeapMap → Type 0
  failing locals K so_far halt site heap = K so_far (fails halt site) locals heap

  -- one value of an expression, and on
  abbrev pub Takes : Expression → Locals → List E → HeapMap → Exits E → (List E → Value → HeapMap → Type 0) → Type 0
  Takes e locals so_far heap K on = Evaluates e locals so_far heap (by_outcome (failing locals K) on)

  abbrev pub Declares : ℕ → Option Expression → Locals → List E → HeapMap → Exits E → Type 0
  Declares n None locals so_far heap K = K so_far falls (with_local locals n Unwritten) heap
  Declares n (Some e) locals so_far heap K =
      Takes e (with_local locals n Unwritten) so_far heap K (λ so_far v heap. K so_far falls (with_local (with_local locals n Unwritten) n v) heap)

  -- the pointer of a place comes first, and the store last (C17 6.5.16)
  abbrev pub Assigns : Place → Expression → Locals → List E → HeapMap → Exits E → Type 0
  Assigns (local_place n at) e locals so_far heap K = Takes e locals so_far heap K (λ so_far v heap. K so_far falls (with_local locals n v) heap)
  Assigns (cell_place p field t site) e locals so_far heap K =
      Takes p locals so_far heap K (λ so_far x heap.
      Takes e locals so_far heap K (λ so_far v heap. Stores x field t site v locals so_far heap K))

  -- pointer, read, right side, write (C17 6.5.16.2)
  abbrev pub Updates : Arithmetic → Place → Expression → Locals → List E → HeapMap → Exits E → Type 0
  Updates op (local_place n at) e locals so_far heap K =
      Uses (locals n) at so_far heap (by_outcome (failing locals K) (λ so_far x heap.
      Takes e locals so_far heap K (λ so_far y heap.
      Calculates op x y so_far heap (by_outcome (failing locals K) (λ so_far v heap. K so_far falls (with_local locals n v) heap)))))
  Updates op (cell_place p field t site) e locals so_far heap K =
      Takes p locals so_far heap K (λ so_far place heap.
      Loads place field t site so_far heap (by_outcome (failing locals K) (λ so_far x heap.
      Takes e locals so_far heap K (λ so_far y heap.
      Calculates op x y so_far heap (by_outcome (failing locals K) (λ so_far v heap. Stores place field t site v locals so_far heap K))))))

  -- pointer, the parts of what would be written, access (C17 6.5.16): nothing is written
  abbrev pub Accesses : Expression → Expressions → TypeId → Site → Locals → List E → HeapMap → Exits E → Type 0
  Accesses p parts t site locals so_far heap K =
      Takes p locals so_far heap K (λ so_far x heap.
      PassesAll parts locals so_far heap (failing locals K) (λ so_far heap.
      Reaches x t site so_far heap (failing locals K) (λ so_far heap. K so_far falls locals heap)))

  abbrev pub Frees : Value → TypeId → Site → Locals → List E → HeapMap → Exits E → Type 0
  Frees p t site locals so_far heap K = by_pointer heap t.0 p
      (K (so_far ++ marking seen FreeNull site) falls locals heap)
      (K (so_far ++ marking seen Freed site) (fails (error DoubleFree) site) locals heap)
      (λ n cells. K (so_far ++ marking seen Freed site) falls locals (with_block heap n (freed_block t.0)))

  -- a missing condition is true, and marks nothing (C17 6.8.5.3)
  abbrev pub TestsIf : Option Condition → Locals → List E → HeapMap → Verdicts E → Type 0
  TestsIf None locals so_far heap K = K so_far yes heap
  TestsIf (Some c) locals so_far heap K = Tests c locals so_far heap K

  -- after the body: the step follows where it falls through or continues, the loop ends where it breaks
  abbrev pub behind_body : (List E → Locals → HeapMap → Type 0) → Exits E → Exits E
  behind_body on K so_far falls locals heap = on so_far locals heap
  behind_body on K so_far continues locals heap = on so_far locals heap
  behind_body on K so_far breaks locals heap = K so_far falls locals heap
  behind_body on K so_far (returns v) locals heap = K so_far (returns v) locals heap
  behind_body on K so_far (fails halt site) locals heap = K so_far (fails halt site) locals heap

  -- a loop that makes fewer than n turns more, of which `made` were made
  abbrev pub Loops : Option ℕ → ℕ → ℕ → Site → Option Condition → (Locals → List E → HeapMap → Exits E → Type 0) → (Locals → List E → HeapMap → Exits E → Type 0) → Locals → List E → HeapMap → Exits E → Type 0
  Loops bound zero made site c body after_body locals so_far heap K = ⊥
  Loops bound (suc n) made site c body after_body locals so_far heap K =
      TestsIf c locals so_far heap (with_verdict (failing locals K)
      (λ so_far heap. Allows bound made × body locals (so_far ++ marking seen Iter site) heap
      (behind_body (λ so_far locals heap. after_body locals so_far heap
      (with_fall K (λ so_far locals heap. Loops bound n (suc made) site c body after_body locals so_far heap K))) K))
      (λ so_far heap. K (so_far ++ marking seen Done site) falls locals heap))

  abbrev pub GivesBack : Option Expression → Locals → List E → HeapMap → Exits E → Type 0
  GivesBack None locals so_far heap K = K so_far (returns Unwritten) locals heap
  GivesBack (Some e) locals so_far heap K = Takes e locals so_far heap K (λ so_far v heap. K so_far (returns v) locals heap)

  abbrev mutual
    -- a statement in which each loop makes fewer than n turns
    pub Executes : Option ℕ → ℕ → Statement → Locals → List E → HeapMap → Exits E → Type 0
    Executes bound n (block statements) locals so_far heap K = ExecutesAll bound n statements locals so_far heap K
    Executes bound n (declare i e) locals so_far heap K = Declares i e locals so_far heap K
    Executes bound n (assign place e) locals so_far heap K = Assigns place e locals so_far heap K
    Executes bound n (update op place e) locals so_far heap K = Updates op place e locals so_far heap K
    Executes bound n (run_call proc arguments site) locals so_far heap K =
        EvaluatesAll arguments locals so_far heap (failing locals K)
        (λ so_far vs heap. CallsProcedure proc site vs so_far heap (failing locals K) (λ so_far v heap. K so_far falls locals heap))
    Executes bound n (free e t site) locals so_far heap K = Takes e locals so_far heap K (λ so_far p heap. Frees p t site locals so_far heap K)
    Executes bound n (input site) locals so_far heap K = Takes (get_char site) locals so_far heap K (λ so_far v heap. K so_far falls locals heap)
    Executes bound n (choose c first second) locals so_far heap K =
        Tests c locals so_far heap (with_verdict (failing locals K)
        (λ so_far heap. Executes bound n first locals so_far heap K) (λ so_far heap. Executes bound n second locals so_far heap K))
    Executes bound n (loop site c body after_body) locals so_far heap K =
        Loops bound n 0 site c (Executes bound n body) (Executes bound n after_body) locals so_far heap K
    Executes bound n break locals so_far heap K = K so_far breaks locals heap
    Executes bound n continue locals so_far heap K = K so_far continues locals heap
    Executes bound n (return e) locals so_far heap K = GivesBack e locals so_far heap K
    Executes bound n (evaluate e) locals so_far heap K =
        PassesAll (an_expression e no_expressions) locals so_far heap (failing locals K) (λ so_far heap. K so_far falls locals heap)
    Executes bound n (access p parts field t site) locals so_far heap K = Accesses p parts t site locals so_far heap K

    pub ExecutesAll : Option ℕ → ℕ → Statements → Locals → List E → HeapMap → Exits E → Type 0
    ExecutesAll bound n no_statements locals so_far heap K = K so_far falls locals heap
    ExecutesAll bound n (a_statement s rest) locals so_far heap K =
        Executes bound n s locals so_far heap (with_fall K (λ so_far locals heap. ExecutesAll bound n rest locals so_far heap K))
