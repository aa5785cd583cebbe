-- Executions of typed trees that are under way.
--
-- An execution can be cut at its start and after each of its marks. What was seen up to there is a beginning,
-- whether the execution would ever end or not. All that lies before the cut is a whole execution of a part of
-- the tree, as px_meaning has it, so that only the parts in which the cut lies have cases here.
use Rattle.std.specs.Prelude.{◌≡◌, ◌⊎◌, ℕ, zero, suc, List, [], ◌++◌, Option, Some, None, IsSomeAnd}
use Rattle.px_base.specs.declared.trace.Site.{Site}
use Rattle.px_base.specs.declared.trace.ProcId.{ProcId}
use Rattle.px_base.specs.declared.trace.MarkKind.TheVariants.{Iter, Enter}
use Rattle.px_meaning.specs.Values.{BlockType, Value, Unwritten}
use Rattle.px_meaning.specs.Heaps.{HeapMap}
use Rattle.px_meaning.specs.Calls.{Halt}
use Rattle.px_meaning.specs.Execution.{Locals, with_local}
use Rattle.px_meaning.specs.Events.{Event}
use Rattle.px_meaning.specs.Steps.{ProcedureCalls, marking}
use Rattle.px_meaning.specs.TypedProgram.{TypedProgram}
use Rattle.px_syntax.specs.TypedTree.{Expression, constant, null, local, negated, arithmetic, truth, cell, allocate, get_char, call, stop, Expressions, no_expressions, an_expression, Arguments, no_arguments, an_argument, passed, erased, Condition, compare, word, pointer, both, either, opposite, Place, local_place, cell_place, Statement, block, declare, assign, update, run_call, free, input, choose, loop, break, continue, return, evaluate, access, Statements, no_statements, a_statement}
use Rattle.px_meaning.specs.TreeExecution.{Outcome, by_outcome, with_verdict, Verdict, Exits, with_fall, behind_body, Uses, Loads, Reaches, CallsProcedure, Evaluates, EvaluatesAll, PassesAll, Tests, TestsIf, Executes}
use Rattle.px_meaning.specs.TreeCalls.{first_locals, TreeCallsWithin}

-- events are seen as they are
abbrev pub see : Event → Event
see e = e

-- what is seen of calls that are under way: procedure, arguments, heap before, events so far
abbrev pub CallBeginnings : Type 1
CallBeginnings = ℕ → List Value → HeapMap → List Event → Type 0

-- ways on that are none, since the cut lies after a part that ends otherwise
abbrev pub no_error : List Event → Halt → Site → HeapMap → Type 0
no_error so_far halt site heap = ⊥

abbrev pub no_exit : Exits Event
no_exit so_far exit locals heap = ⊥

abbrev pub no_branch : List Event → HeapMap → Type 0
no_branch so_far heap = ⊥

-- `Cut` is asked of what was seen up to the cut
module _ (types : List BlockType) (calls : ProcedureCalls Event) (begun : CallBeginnings) (Cut : List Event → Type 0) where
  -- a cut right after a part of each kind
  abbrev pub after_value : List Event → Outcome → HeapMap → Type 0
  after_value so_far outcome heap = Cut so_far

  abbrev pub after_halt : List Event → Halt → Site → HeapMap → Type 0
  after_halt so_far halt site heap = Cut so_far

  abbrev pub after_test : List Event → Verdict → HeapMap → Type 0
  after_test so_far verdict heap = Cut so_far

  abbrev pub after_statement : Exits Event
  after_statement so_far exit locals heap = Cut so_far

  -- the cut is after a call's entry, whether the procedure is kept or not, or in what the callee does
  abbrev pub IsCutInCall : ProcId → Site → List Event → List Value → HeapMap → Type 0
  IsCutInCall proc site so_far vs heap =
      Cut (so_far ++ marking see (Enter proc) site)
      ⊎ ((t : List Event) × begun proc.0 vs heap t × Cut (so_far ++ (marking see (Enter proc) site ++ t)))

  abbrev mutual
    -- an execution of the expression is cut so after a mark of its own
    pub IsCutIn : Expression → Locals → List Event → HeapMap → Type 0
    IsCutIn (constant z) locals so_far heap = ⊥
    IsCutIn null locals so_far heap = ⊥
    IsCutIn (local n site) locals so_far heap = ⊥
    IsCutIn (negated e) locals so_far heap = IsCutIn e locals so_far heap
    IsCutIn (arithmetic op a b) locals so_far heap =
        IsCutIn a locals so_far heap
        ⊎ Evaluates see types calls a locals so_far heap (by_outcome no_error (λ so_far x heap. IsCutIn b locals so_far heap))
    IsCutIn (truth c) locals so_far heap = IsCutInTest c locals so_far heap
    IsCutIn (cell p field t site) locals so_far heap =
        IsCutIn p locals so_far heap ⊎ Evaluates see types calls (cell p field t site) locals so_far heap after_value
    IsCutIn (allocate t site) locals so_far heap = Evaluates see types calls (allocate t site) locals so_far heap after_value
    IsCutIn (get_char site) locals so_far heap = Evaluates see types calls (get_char site) locals so_far heap after_value
    IsCutIn (call proc es result site) locals so_far heap =
        IsCutInAll es locals so_far heap
        ⊎ (EvaluatesAll see types calls es locals so_far heap no_error (IsCutInCall proc site)
        ⊎ Evaluates see types calls (call proc es result site) locals so_far heap after_value)
    IsCutIn (stop number site parts) locals so_far heap = IsCutInPassed parts locals so_far heap

    pub IsCutInAll : Arguments → Locals → List Event → HeapMap → Type 0
    IsCutInAll no_arguments locals so_far heap = ⊥
    IsCutInAll (an_argument (passed e) rest) locals so_far heap =
        IsCutIn e locals so_far heap
        ⊎ Evaluates see types calls e locals so_far heap (by_outcome no_error (λ so_far x heap. IsCutInAll rest locals so_far heap))
    IsCutInAll (an_argument (erased parts) rest) locals so_far heap =
        IsCutInPassed parts locals so_far heap
        ⊎ PassesAll see types calls parts locals so_far heap no_error (λ so_far heap. IsCutInAll rest locals so_far heap)

    -- the same of values that aren't read
    pub IsCutInPassed : Expressions → Locals → List Event → HeapMap → Type 0
    IsCutInPassed no_expressions locals so_far heap = ⊥
    IsCutInPassed (an_expression (local n site) rest) locals so_far heap = IsCutInPassed rest locals so_far heap
    IsCutInPassed (an_expression (cell p field t site) rest) locals so_far heap =
        IsCutIn p locals so_far heap
        ⊎ Evaluates see types calls p locals so_far heap (by_outcome no_error (λ so_far x heap.
        Reaches see types calls x t site so_far heap after_halt (λ so_far heap. Cut so_far ⊎ IsCutInPassed rest locals so_far heap)))
    IsCutInPassed (an_expression (call proc es result site) rest) locals so_far heap =
        IsCutInAll es locals so_far heap
        ⊎ (EvaluatesAll see types calls es locals so_far heap no_error (IsCutInCall proc site)
        ⊎ EvaluatesAll see types calls es locals so_far heap no_error (λ so_far vs heap.
        CallsProcedure see types calls proc site vs so_far heap after_halt (λ so_far v heap. Cut so_far ⊎ IsCutInPassed rest locals so_far heap)))
    IsCutInPassed (an_expression e rest) locals so_far heap =
        IsCutIn e locals so_far heap
        ⊎ Evaluates see types calls e locals so_far heap (by_outcome no_error (λ so_far x heap. IsCutInPassed rest locals so_far heap))

    pub IsCutInTest : Condition → Locals → List Event → HeapMap → Type 0
    IsCutInTest (compare r a b site) locals so_far heap =
        IsCutIn a locals so_far heap
        ⊎ (Evaluates see types calls a locals so_far heap (by_outcome no_error (λ so_far x heap. IsCutIn b locals so_far heap))
        ⊎ Tests see types calls (compare r a b site) locals so_far heap after_test)
    IsCutInTest (word e site) locals so_far heap =
        IsCutIn e locals so_far heap ⊎ Tests see types calls (word e site) locals so_far heap after_test
    IsCutInTest (pointer e site) locals so_far heap =
        IsCutIn e locals so_far heap ⊎ Tests see types calls (pointer e site) locals so_far heap after_test
    IsCutInTest (both c d) locals so_far heap =
        IsCutInTest c locals so_far heap
        ⊎ Tests see types calls c locals so_far heap (with_verdict no_error (λ so_far heap. IsCutInTest d locals so_far heap) no_branch)
    IsCutInTest (either c d) locals so_far heap =
        IsCutInTest c locals so_far heap
        ⊎ Tests see types calls c locals so_far heap (with_verdict no_error no_branch (λ so_far heap. IsCutInTest d locals so_far heap))
    IsCutInTest (opposite c) locals so_far heap = IsCutInTest c locals so_far heap

  abbrev pub IsCutInValue : Option Expression → Locals → List Event → HeapMap → Type 0
  IsCutInValue None locals so_far heap = ⊥
  IsCutInValue (Some e) locals so_far heap = IsCutIn e locals so_far heap

  abbrev pub IsCutInTestIf : Option Condition → Locals → List Event → HeapMap → Type 0
  IsCutInTestIf None locals so_far heap = ⊥
  IsCutInTestIf (Some c) locals so_far heap = IsCutInTest c locals so_far heap

  -- before the store of an assignment
  abbrev pub IsCutInAssignment : Place → Expression → Locals → List Event → HeapMap → Type 0
  IsCutInAssignment (local_place n at) e locals so_far heap = IsCutIn e locals so_far heap
  IsCutInAssignment (cell_place p field t site) e locals so_far heap =
      IsCutIn p locals so_far heap
      ⊎ Evaluates see types calls p locals so_far heap (by_outcome no_error (λ so_far x heap. IsCutIn e locals so_far heap))

  -- before the store of an update: after the read of its cell, or on one of its sides
  abbrev pub IsCutInUpdate : Place → Expression → Locals → List Event → HeapMap → Type 0
  IsCutInUpdate (local_place n at) e locals so_far heap =
      Uses see types calls (locals n) at so_far heap (by_outcome no_error (λ so_far x heap. IsCutIn e locals so_far heap))
  IsCutInUpdate (cell_place p field t site) e locals so_far heap =
      IsCutIn p locals so_far heap
      ⊎ Evaluates see types calls p locals so_far heap (by_outcome no_error (λ so_far place heap.
      Loads see types calls place field t site so_far heap after_value
      ⊎ Loads see types calls place field t site so_far heap (by_outcome no_error (λ so_far x heap. IsCutIn e locals so_far heap))))

  -- before the access to a member that isn't known
  abbrev pub IsCutInAccess : Expression → Expressions → Locals → List Event → HeapMap → Type 0
  IsCutInAccess p parts locals so_far heap =
      IsCutIn p locals so_far heap
      ⊎ Evaluates see types calls p locals so_far heap (by_outcome no_error (λ so_far x heap. IsCutInPassed parts locals so_far heap))

  -- In a loop that makes fewer than n turns more: `body` and `after_body` execute its parts, and `in_body` and
  -- `in_step` say that the cut lies in them.
  abbrev pub IsCutInLoop : ℕ → Site → Option Condition → (body after_body : Locals → List Event → HeapMap → Exits Event → Type 0) → (in_body in_step : Locals → List Event → HeapMap → Type 0) → Locals → List Event → HeapMap → Type 0
  IsCutInLoop zero site c body after_body in_body in_step locals so_far heap = ⊥
  IsCutInLoop (suc n) site c body after_body in_body in_step locals so_far heap =
      IsCutInTestIf c locals so_far heap
      ⊎ TestsIf see types calls c locals so_far heap (with_verdict no_error
      (λ so_far heap. Cut (so_far ++ marking see Iter site)
      ⊎ (in_body locals (so_far ++ marking see Iter site) heap
      ⊎ body locals (so_far ++ marking see Iter site) heap (behind_body see types calls (λ so_far locals heap.
      in_step locals so_far heap
      ⊎ after_body locals so_far heap (with_fall no_exit (λ so_far locals heap. IsCutInLoop n site c body after_body in_body in_step locals so_far heap))) no_exit)))
      no_branch)

  abbrev mutual
    -- an execution of the statement, in which loops make fewer than n turns, is cut so after a mark of its own
    pub IsCutInStatement : ℕ → Statement → Locals → List Event → HeapMap → Type 0
    IsCutInStatement n (block statements) locals so_far heap = IsCutInStatements n statements locals so_far heap
    IsCutInStatement n (declare i e) locals so_far heap = IsCutInValue e (with_local locals i Unwritten) so_far heap
    IsCutInStatement n (assign place e) locals so_far heap =
        IsCutInAssignment place e locals so_far heap ⊎ Executes see types calls None n (assign place e) locals so_far heap after_statement
    IsCutInStatement n (update op place e) locals so_far heap =
        IsCutInUpdate place e locals so_far heap ⊎ Executes see types calls None n (update op place e) locals so_far heap after_statement
    IsCutInStatement n (run_call proc es site) locals so_far heap =
        IsCutInAll es locals so_far heap
        ⊎ (EvaluatesAll see types calls es locals so_far heap no_error (IsCutInCall proc site)
        ⊎ Executes see types calls None n (run_call proc es site) locals so_far heap after_statement)
    IsCutInStatement n (free e t site) locals so_far heap =
        IsCutIn e locals so_far heap ⊎ Executes see types calls None n (free e t site) locals so_far heap after_statement
    IsCutInStatement n (input site) locals so_far heap = Executes see types calls None n (input site) locals so_far heap after_statement
    IsCutInStatement n (choose c first second) locals so_far heap =
        IsCutInTest c locals so_far heap
        ⊎ Tests see types calls c locals so_far heap (with_verdict no_error
        (λ so_far heap. IsCutInStatement n first locals so_far heap) (λ so_far heap. IsCutInStatement n second locals so_far heap))
    IsCutInStatement n (loop site c body after_body) locals so_far heap =
        IsCutInLoop n site c (Executes see types calls None n body) (Executes see types calls None n after_body)
        (IsCutInStatement n body) (IsCutInStatement n after_body) locals so_far heap
        ⊎ Executes see types calls None n (loop site c body after_body) locals so_far heap after_statement
    IsCutInStatement n break locals so_far heap = ⊥
    IsCutInStatement n continue locals so_far heap = ⊥
    IsCutInStatement n (return e) locals so_far heap = IsCutInValue e locals so_far heap
    IsCutInStatement n (evaluate e) locals so_far heap = IsCutInPassed (an_expression e no_expressions) locals so_far heap
    IsCutInStatement n (access p parts field t site) locals so_far heap =
        IsCutInAccess p parts locals so_far heap ⊎ Executes see types calls None n (access p parts field t site) locals so_far heap after_statement

    pub IsCutInStatements : ℕ → Statements → Locals → List Event → HeapMap → Type 0
    IsCutInStatements n no_statements locals so_far heap = ⊥
    IsCutInStatements n (a_statement s rest) locals so_far heap =
        IsCutInStatement n s locals so_far heap
        ⊎ Executes see types calls None n s locals so_far heap (with_fall no_exit (λ so_far locals heap. IsCutInStatements n rest locals so_far heap))

-- what is seen of the calls of kept procedures in which calls nest fewer than n deep and each loop makes fewer
-- than n turns, up to a cut after a mark
abbrev pub CutWithin : TypedProgram → ℕ → CallBeginnings
CutWithin P zero f arguments heap t = ⊥
CutWithin P (suc n) f arguments heap t =
    IsSomeAnd (P.procedures f) (λ p. IsCutInStatement P.types (TreeCallsWithin see None P n) (CutWithin P n) (λ so_far. t ≡ so_far) n p.body (first_locals arguments) [] heap)

-- the beginnings of a procedure's calls: nothing, or what is seen up to a cut after a mark
abbrev pub TreeBeginnings : TypedProgram → CallBeginnings
TreeBeginnings P f arguments heap t = (t ≡ []) ⊎ ((n : ℕ) × CutWithin P n f arguments heap t)
