-- What the replay of expressions, conditions and statements does, one case for each kind, in the shape of their
-- executions. What isn't understood isn't followed: a replay that comes there departs.
use Rattle.std.specs.Prelude.{ℕ, zero, suc, pos, Bool, true, false, List, [], ◌∷◌, Option, Some, None, Result, Ok, Err, slice_set, ⊤}
use Rattle.px_base.specs.declared.trace.Site.{Site}
use Rattle.px_base.specs.declared.trace.ProcId.{ProcId}
use Rattle.px_base.specs.declared.trace.FieldId.{FieldId}
use Rattle.px_base.specs.declared.trace.MarkKind.TheVariants.{Then, Else, Iter, Done, Access, Freed, FreeNull, Enter, Leave}
use Rattle.px_base.specs.declared.trace.Kind.TheVariants.{NullDereference, UseAfterFree, DoubleFree}
use Rattle.px_core.specs.declared.command.Operator.TheVariants.{Neg}
use Rattle.px_meaning.specs.Values.{TypeId, BlockType, Value, Word, Null, Unwritten}
use Rattle.px_meaning.specs.Heaps.{with_block}
use Rattle.px_meaning.specs.Execution.{Locals, with_local}
use Rattle.px_meaning.specs.Operations.{value_at, result_of}
use Rattle.px_meaning.specs.Steps.{live_block, freed_block}
use Rattle.px_meaning.specs.TypedProgram.{TypedProgram}
use Rattle.px_meaning.specs.TreeCalls.{first_locals}
use Rattle.px_syntax.specs.ProgramTree.{ProcedureTree}
use Rattle.px_syntax.specs.declared.typed_expression.Relation.{Relation}
use Rattle.px_syntax.specs.declared.typed_expression.Relation.TheVariants as relation
use Rattle.px_syntax.specs.TypedTree.{Expression, constant, null, local, negated, arithmetic, truth, cell, allocate, get_char, call, stop, Expressions, no_expressions, an_expression, Arguments, no_arguments, an_argument, passed, erased, Condition, compare, word, pointer, both, either, opposite, Place, local_place, cell_place, Statement, block, declare, assign, update, run_call, free, input, choose, loop, break, continue, return, evaluate, access, Statements, no_statements, a_statement}
use Rattle.px_syntax.specs.declared.typed_expression.Arithmetic.{Arithmetic}
use Rattle.px_replay.specs.declared.stop.Stop.{Stop}
use Rattle.px_replay.specs.declared.stop.Stop.TheVariants as halt
use Rattle.px_replay.specs.declared.flow.Flow.{Flow}
use Rattle.px_replay.specs.declared.flow.Flow.TheVariants.{Falls, Breaks, Continues, Returns}
use Rattle.px_replay.specs.Operations.{or_departs, used_value, IsOutcome, calculates}
use Rattle.px_replay.specs.Script.{Act, answers, and_then, either_act, marked, takes_input, allocates, at_pointer, with_heap}

-- calls of procedures: what follows their entry, up to what they return
abbrev pub CallReplays : Type 1
CallReplays = ℕ → List Value → Act Value

-- how a statement ends, with its locals
abbrev pub Ended : Type 0
Ended = Flow × Locals

abbrev pub StatementReplays : Type 1
StatementReplays = Locals → Act Ended

-- ---- acts that expressions and statements share

-- a cell is read through a pointer
abbrev pub loads : Value → FieldId → TypeId → Site → Act Value
loads p field t site = at_pointer t.0 p
    (marked Access site (answers (Err (halt.Failed NullDereference site))))
    (marked Access site (answers (Err (halt.Failed UseAfterFree site))))
    (λ n cells. marked Access site (answers (used_value (value_at cells field.0) site)))

-- a cell is reached through a pointer, and isn't read
abbrev pub reaches : Value → TypeId → Site → Act ⊤
reaches p t site = at_pointer t.0 p
    (marked Access site (answers (Err (halt.Failed NullDereference site))))
    (marked Access site (answers (Err (halt.Failed UseAfterFree site))))
    (λ n cells. marked Access site (answers (Ok tt)))

-- a cell is written through a pointer
abbrev pub stores : Value → FieldId → TypeId → Site → Value → Locals → Act Ended
stores p field t site v locals s = at_pointer t.0 p
    (marked Access site (answers (Err (halt.Failed NullDereference site))))
    (marked Access site (answers (Err (halt.Failed UseAfterFree site))))
    (λ n cells. marked Access site (with_heap (with_block s.heap n (live_block t.0 (slice_set cells field.0 v))) (answers (Ok (Falls, locals))))) s

abbrev pub frees : Value → TypeId → Site → Locals → Act Ended
frees p t site locals s = at_pointer t.0 p
    (marked FreeNull site (answers (Ok (Falls, locals))))
    (marked Freed site (answers (Err (halt.Failed DoubleFree site))))
    (λ n cells. marked Freed site (with_heap (with_block s.heap n (freed_block t.0)) (answers (Ok (Falls, locals))))) s

-- the mark of a branch, by the outcome of a comparison
abbrev pub branches : Site → Result Bool Stop → Act Bool
branches site (Ok true) = marked Then site (answers (Ok true))
branches site (Ok false) = marked Else site (answers (Ok false))
branches site (Err e) = answers (Err e)

-- two values are compared
abbrev pub compares : Relation → Value → Value → Site → Act Bool
compares r x y site s a s' = (o : Result Bool Stop) × IsOutcome r x y o × branches site o s a s'

module _ (types : List BlockType) (calls : CallReplays) where
  -- a call: its entry, what it does, and its return, unless it fails
  abbrev pub calls_procedure : ProcId → Site → List Value → Act Value
  calls_procedure proc site vs = marked (Enter proc) site (and_then (calls proc.0 vs) (λ v. marked Leave site (answers (Ok v))))

  -- ---- expressions and conditions (C17 6.5), operands from left to right

  abbrev mutual
    pub Replays : Expression → Locals → Act Value
    Replays (constant z) locals s r s' = answers (Ok (Word z)) s r s'
    Replays null locals s r s' = answers (Ok Null) s r s'
    Replays (local n site) locals s r s' = answers (used_value (locals n) site) s r s'
    Replays (negated e) locals s r s' = and_then (Replays e locals) (λ x. answers (or_departs (result_of Neg x (Word (pos 0))))) s r s'
    Replays (arithmetic op a b) locals s r s' =
        and_then (Replays a locals) (λ x. and_then (Replays b locals) (λ y. answers (calculates op x y))) s r s'
    Replays (truth c) locals s r s' = and_then (Checks c locals) (λ holds. either_act holds (answers (Ok (Word (pos 1)))) (answers (Ok (Word (pos 0))))) s r s'
    Replays (cell p field t site) locals s r s' = and_then (Replays p locals) (λ x. loads x field t site) s r s'
    Replays (allocate t site) locals s r s' = allocates types t site s r s'
    Replays (get_char site) locals s r s' = takes_input site s r s'
    Replays (call proc arguments result site) locals s r s' =
        and_then (ReplaysAll arguments locals) (λ vs. and_then (calls_procedure proc site vs) (λ v. answers (used_value v site))) s r s'
    Replays (stop number site parts) locals s r s' = and_then (PassesAll parts locals) (λ _. answers (Err halt.Departs)) s r s'

    -- each in order, for the values that are passed
    pub ReplaysAll : Arguments → Locals → Act (List Value)
    ReplaysAll no_arguments locals s r s' = answers (Ok []) s r s'
    ReplaysAll (an_argument (passed e) rest) locals s r s' =
        and_then (Replays e locals) (λ v. and_then (ReplaysAll rest locals) (λ vs. answers (Ok (v ∷ vs)))) s r s'
    ReplaysAll (an_argument (erased parts) rest) locals s r s' = and_then (PassesAll parts locals) (λ _. ReplaysAll rest locals) s r s'

    -- each in order, for its effects: its value isn't read, those below it are
    pub PassesAll : Expressions → Locals → Act ⊤
    PassesAll no_expressions locals s r s' = answers (Ok tt) s r s'
    PassesAll (an_expression (local n site) rest) locals s r s' = PassesAll rest locals s r s'
    PassesAll (an_expression (cell p field t site) rest) locals s r s' =
        and_then (Replays p locals) (λ x. and_then (reaches x t site) (λ _. PassesAll rest locals)) s r s'
    PassesAll (an_expression (call proc arguments result site) rest) locals s r s' =
        and_then (ReplaysAll arguments locals) (λ vs. and_then (calls_procedure proc site vs) (λ v. PassesAll rest locals)) s r s'
    PassesAll (an_expression e rest) locals s r s' = and_then (Replays e locals) (λ v. PassesAll rest locals) s r s'

    -- a condition marks where it is basic; `&&` and `||` stop early (C17 6.5.13, 6.5.14)
    pub Checks : Condition → Locals → Act Bool
    Checks (compare r a b site) locals s o s' = and_then (Replays a locals) (λ x. and_then (Replays b locals) (λ y. compares r x y site)) s o s'
    Checks (word e site) locals s o s' = and_then (Replays e locals) (λ x. compares relation.Unequal x (Word (pos 0)) site) s o s'
    Checks (pointer e site) locals s o s' = and_then (Replays e locals) (λ x. compares relation.OtherPlace x Null site) s o s'
    Checks (both c d) locals s o s' = and_then (Checks c locals) (λ holds. either_act holds (Checks d locals) (answers (Ok false))) s o s'
    Checks (either c d) locals s o s' = and_then (Checks c locals) (λ holds. either_act holds (answers (Ok true)) (Checks d locals)) s o s'
    Checks (opposite c) locals s o s' = and_then (Checks c locals) (λ holds. either_act holds (answers (Ok false)) (answers (Ok true))) s o s'

  -- ---- statements (C17 6.8)

  abbrev pub declares : ℕ → Option Expression → StatementReplays
  declares n None locals = answers (Ok (Falls, with_local locals n Unwritten))
  declares n (Some e) locals = and_then (Replays e (with_local locals n Unwritten)) (λ v. answers (Ok (Falls, with_local (with_local locals n Unwritten) n v)))

  -- the pointer of a place comes first, and the store last (C17 6.5.16)
  abbrev pub assigns : Place → Expression → StatementReplays
  assigns (local_place n at) e locals = and_then (Replays e locals) (λ v. answers (Ok (Falls, with_local locals n v)))
  assigns (cell_place p field t site) e locals = and_then (Replays p locals) (λ x. and_then (Replays e locals) (λ v. stores x field t site v locals))

  -- pointer, read, right side, write (C17 6.5.16.2)
  abbrev pub updates : Arithmetic → Place → Expression → StatementReplays
  updates op (local_place n at) e locals =
      and_then (answers (used_value (locals n) at)) (λ x. and_then (Replays e locals) (λ y. and_then (answers (calculates op x y))
      (λ v. answers (Ok (Falls, with_local locals n v)))))
  updates op (cell_place p field t site) e locals =
      and_then (Replays p locals) (λ place. and_then (loads place field t site) (λ x. and_then (Replays e locals) (λ y. and_then (answers (calculates op x y))
      (λ v. stores place field t site v locals))))

  -- pointer, the parts of what would be written, access (C17 6.5.16): nothing is written
  abbrev pub accesses : Expression → Expressions → TypeId → Site → StatementReplays
  accesses p parts t site locals =
      and_then (Replays p locals) (λ x. and_then (PassesAll parts locals) (λ _. and_then (reaches x t site) (λ _. answers (Ok (Falls, locals)))))

  abbrev pub gives_back : Option Expression → StatementReplays
  gives_back None locals = answers (Ok (Returns Unwritten, locals))
  gives_back (Some e) locals = and_then (Replays e locals) (λ v. answers (Ok (Returns v, locals)))

  -- a missing condition is true, and marks nothing (C17 6.8.5.3)
  abbrev pub checks_if : Option Condition → Locals → Act Bool
  checks_if None locals = answers (Ok true)
  checks_if (Some c) locals = Checks c locals

  -- on after a statement that falls through
  abbrev pub on_fall : StatementReplays → Ended → Act Ended
  on_fall on (Falls, locals) = on locals
  on_fall on (Breaks, locals) = answers (Ok (Breaks, locals))
  on_fall on (Continues, locals) = answers (Ok (Continues, locals))
  on_fall on (Returns v, locals) = answers (Ok (Returns v, locals))

  -- after the body: the step follows where it falls through or continues, the loop ends where it breaks
  abbrev pub on_turn : StatementReplays → Ended → Act Ended
  on_turn on (Falls, locals) = on locals
  on_turn on (Continues, locals) = on locals
  on_turn on (Breaks, locals) = answers (Ok (Falls, locals))
  on_turn on (Returns v, locals) = answers (Ok (Returns v, locals))

  -- a loop that makes fewer than n turns more
  abbrev pub loops : ℕ → Site → Option Condition → (body after_body : StatementReplays) → StatementReplays
  loops zero site c body after_body locals s r s' = ⊥
  loops (suc n) site c body after_body locals s r s' =
      and_then (checks_if c locals) (λ holds. either_act holds
      (marked Iter site (and_then (body locals) (on_turn (λ locals. and_then (after_body locals) (on_fall (loops n site c body after_body))))))
      (marked Done site (answers (Ok (Falls, locals))))) s r s'

  abbrev mutual
    -- a statement in which each loop makes fewer than n turns
    pub ReplaysStatement : ℕ → Statement → StatementReplays
    ReplaysStatement n (block statements) locals s r s' = ReplaysStatements n statements locals s r s'
    ReplaysStatement n (declare i e) locals s r s' = declares i e locals s r s'
    ReplaysStatement n (assign place e) locals s r s' = assigns place e locals s r s'
    ReplaysStatement n (update op place e) locals s r s' = updates op place e locals s r s'
    ReplaysStatement n (run_call proc arguments site) locals s r s' =
        and_then (ReplaysAll arguments locals) (λ vs. and_then (calls_procedure proc site vs) (λ v. answers (Ok (Falls, locals)))) s r s'
    ReplaysStatement n (free e t site) locals s r s' = and_then (Replays e locals) (λ p. frees p t site locals) s r s'
    ReplaysStatement n (input site) locals s r s' = and_then (takes_input site) (λ v. answers (Ok (Falls, locals))) s r s'
    ReplaysStatement n (choose c first second) locals s r s' =
        and_then (Checks c locals) (λ holds. either_act holds (ReplaysStatement n first locals) (ReplaysStatement n second locals)) s r s'
    ReplaysStatement n (loop site c body after_body) locals s r s' =
        loops n site c (ReplaysStatement n body) (ReplaysStatement n after_body) locals s r s'
    ReplaysStatement n break locals s r s' = answers (Ok (Breaks, locals)) s r s'
    ReplaysStatement n continue locals s r s' = answers (Ok (Continues, locals)) s r s'
    ReplaysStatement n (return e) locals s r s' = gives_back e locals s r s'
    ReplaysStatement n (evaluate e) locals s r s' = and_then (PassesAll (an_expression e no_expressions) locals) (λ _. answers (Ok (Falls, locals))) s r s'
    ReplaysStatement n (access p parts field t site) locals s r s' = accesses p parts t site locals s r s'

    pub ReplaysStatements : ℕ → Statements → StatementReplays
    ReplaysStatements n no_statements locals s r s' = answers (Ok (Falls, locals)) s r s'
    ReplaysStatements n (a_statement st rest) locals s r s' =
        and_then (ReplaysStatement n st locals) (on_fall (ReplaysStatements n rest)) s r s'

-- ---- calls

-- what a call returns, by the exit of its body: no body breaks or continues
abbrev pub returned : Ended → Act Value
returned (Falls, locals) = answers (Ok Unwritten)
returned (Returns v, locals) = answers (Ok v)
returned (Breaks, locals) = answers (Err halt.Departs)
returned (Continues, locals) = answers (Err halt.Departs)

-- a procedure's body from its arguments, where it is kept
abbrev pub replays_body : (ProcedureTree → Act Value) → Option ProcedureTree → Act Value
replays_body body (Some p) = body p
replays_body body None = answers (Err halt.Departs)

-- the calls of procedures in which calls nest fewer than n deep and each loop makes fewer than n turns
abbrev pub CallsReplay : TypedProgram → ℕ → CallReplays
CallsReplay P zero f arguments s r s' = ⊥
CallsReplay P (suc n) f arguments s r s' =
    replays_body (λ p. and_then (ReplaysStatement P.types (CallsReplay P n) n p.body (first_locals arguments)) returned) (P.procedures f) s r s'
