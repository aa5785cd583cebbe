-- Expressions, conditions and statements are confined, one case for each kind.
use Rattle.std.specs.Prelude.{⊤}
use Rattle.std.proofs.Common.{◌≡◌, ◌⊎◌, ℕ, zero, suc, pos, Bool, true, false, List, [], ◌∷◌, inl, inr, Option, Some, None}
use Rattle.px_base.specs.declared.trace.Site.{Site}
use Rattle.px_base.specs.declared.trace.MarkKind.TheVariants.{Iter, Done}
use Rattle.px_core.specs.declared.command.Operator.TheVariants.{Neg}
use Rattle.px_meaning.specs.Values.{TypeId, BlockType, Value, Word, Null, Unwritten}
use Rattle.px_meaning.specs.Heaps.{HeapMap}
use Rattle.px_meaning.specs.Events.{Event}
use Rattle.px_meaning.specs.Execution.{Locals, with_local}
use Rattle.px_meaning.specs.Operations.{result_of}
use Rattle.px_meaning.specs.Steps.{ProcedureCalls}
use Rattle.px_meaning.specs.TreeExecution.{errs, by_outcome, Outcomes, fault, Verdicts, Exits, CallsProcedure, Evaluates, EvaluatesAll, PassesAll, Tests, failing, Declares, Assigns, Updates, Accesses, TestsIf, Loops, GivesBack, Executes, ExecutesAll, Calculates}
use Rattle.px_syntax.specs.declared.typed_expression.Relation.TheVariants as relation
use Rattle.px_syntax.specs.TypedTree.{Expression, constant, null, local, negated, arithmetic, truth, cell, allocate, get_char, call, stop, Expressions, no_expressions, an_expression, Arguments, no_arguments, an_argument, passed, erased, Condition, compare, word, pointer, both, either, opposite, Place, local_place, cell_place, Statement, block, declare, assign, update, run_call, free, input, choose, loop, break, continue, return, evaluate, access, Statements, no_statements, a_statement}
use Rattle.px_syntax.specs.declared.typed_expression.Arithmetic.{Arithmetic}
use Rattle.px_replay.specs.declared.flow.Flow.TheVariants.{Falls, Breaks, Continues, Returns}
use Rattle.px_replay.specs.Beginnings.{CallBeginnings, see, no_error, after_halt, IsCutInCall, IsCutIn, IsCutInAll, IsCutInPassed, IsCutInTest, IsCutInValue, IsCutInTestIf, IsCutInAssignment, IsCutInUpdate, IsCutInAccess, IsCutInLoop, IsCutInStatement, IsCutInStatements}
use Rattle.px_replay.specs.Operations.{calculates}
use Rattle.px_replay.specs.Script.{Act, answers, and_then}
use Rattle.px_replay.specs.TreeReplay.{CallReplays, Ended, StatementReplays, calls_procedure, Replays, ReplaysAll, PassesAll as Passes, Checks, declares, assigns, updates, accesses, gives_back, checks_if, loops, ReplaysStatement, ReplaysStatements}
use Rattle.px_replay.proofs.Confine.{Errors, Goals, Confines, no_cut, fewer, fewer_cuts, or_after, at_once, stops, both_cuts, marked_part}
use Rattle.px_replay.proofs.ConfineForms.{outcomes, ways, verdicts, exits, Part, Cuts, PassesErrors, through_value, through_outcome, through_ways, through_ways_after, through_verdict, maybe, through_fall, through_body}
use Rattle.px_replay.proofs.ConfineActs.{uses_part, loads_part, reaches_part, stores_part, frees_part, calculated_part}
use Rattle.px_replay.proofs.ConfineTests.{compares_part, input_part, allocate_part}
use Rattle.px_replay.proofs.ConfineCalls.{CallsConfined, call_part}

module _ (t : List Event) (size : ℕ) (types : List BlockType) (C : ProcedureCalls Event) (B : CallBeginnings) (R : CallReplays) (callee : CallsConfined R C B) where
  abbrev ValueConfined : Expression → Locals → Type 1
  ValueConfined e l = Confines t size outcomes (Replays types R e l) (λ K so_far heap. Evaluates see types C e l so_far heap K) (λ so_far heap. IsCutIn types C B (λ a. t ≡ a) e l so_far heap)

  abbrev AllConfined : Arguments → Locals → Type 1
  AllConfined es l = Confines t size (ways (List Value)) (ReplaysAll types R es l) (λ K so_far heap. EvaluatesAll see types C es l so_far heap K.0 K.1) (λ so_far heap. IsCutInAll types C B (λ a. t ≡ a) es l so_far heap)

  abbrev PassedConfined : Expressions → Locals → Type 1
  PassedConfined es l =
      Confines t size (ways ⊤) (Passes types R es l) (λ K so_far heap. PassesAll see types C es l so_far heap K.0 (λ so_far heap. K.1 so_far tt heap)) (λ so_far heap. IsCutInPassed types C B (λ a. t ≡ a) es l so_far heap)

  abbrev TestConfined : Condition → Locals → Type 1
  TestConfined c l = Confines t size verdicts (Checks types R c l) (λ K so_far heap. Tests see types C c l so_far heap K) (λ so_far heap. IsCutInTest types C B (λ a. t ≡ a) c l so_far heap)

  -- an error of a part is one of the whole
  abbrev errs_all : Outcomes Event → Errors
  errs_all K so_far halt at heap = K so_far (errs halt at) heap

  abbrev faults : Verdicts Event → Errors
  faults K so_far halt at heap = K so_far (fault halt at) heap

  -- the cut is in the first part
  first_alone : {A : Type 0} {G : Goals A} {act : Act A} {does : Part G} {cut cut' : Cuts} → Confines t size G act does (λ so_far heap. cut so_far heap ⊎ cut' so_far heap) → Confines t size G act does cut
  first_alone p = fewer_cuts t size (λ so_far heap c. inl c) p

  -- the cut may also be right after
  value_after : {act : Act Value} {does : Part outcomes} {cut : Cuts} → Confines t size outcomes act does cut → Confines t size outcomes act does (λ so_far heap. cut so_far heap ⊎ does (λ a x h. t ≡ a) so_far heap)
  value_after p = or_after t size (λ a x h. t ≡ a) (λ a halt site h k. k) (λ a v h k. k) p

  test_after : {act : Act Bool} {does : Part verdicts} {cut : Cuts} → Confines t size verdicts act does cut → Confines t size verdicts act does (λ so_far heap. cut so_far heap ⊎ does (λ a x h. t ≡ a) so_far heap)
  test_after p = or_after t size (λ a x h. t ≡ a) (λ a halt site h k. k) (λ a v h k. k) p

  -- the cut is in the first part, or in the second, or right after
  in_three : {A : Type 0} {G : Goals A} {act : Act A} {does : Part G} {cut cut' cut'' : Cuts} →
      Confines t size G act does (λ so_far heap. (cut so_far heap ⊎ cut' so_far heap) ⊎ cut'' so_far heap) → Confines t size G act does (λ so_far heap. cut so_far heap ⊎ (cut' so_far heap ⊎ cut'' so_far heap))
  in_three p = fewer_cuts t size (λ so_far heap c. elim c [ inl c ↦ inl (inl c) | inr c ↦ elim c [ inl c ↦ inl (inr c) | inr c ↦ inr c ] ]) p

  mutual
    pub value_confined : (e : Expression) (l : Locals) → ValueConfined e l
    value_confined (constant z) l = at_once t size outcomes (Word z)
    value_confined null l = at_once t size outcomes Null
    value_confined (local n site) l = uses_part t size types C (l n) site
    value_confined (negated e) l = first_alone (through_value t size (value_confined e l) (λ x. maybe t size outcomes (result_of Neg x (Word (pos 0)))))
    value_confined (arithmetic op a b) l =
        through_value t size (value_confined a l) (λ x. first_alone (through_value t size (value_confined b l) (λ y. calculated_part t size types C op x y)))
    value_confined (truth c) l =
        first_alone (through_verdict t size outcomes errs_all (λ K a halt at h k. k) (test_confined c l) (at_once t size outcomes (Word (pos 1))) (at_once t size outcomes (Word (pos 0))))
    value_confined (cell p field b site) l = value_after (first_alone (through_value t size (value_confined p l) (λ x. loads_part t size types C x field b site)))
    value_confined (allocate b site) l = fewer_cuts t size (λ so_far heap c. inr c) (value_after (allocate_part t size types C b site l))
    value_confined (get_char site) l = fewer_cuts t size (λ so_far heap c. inr c) (value_after (input_part t size types C site l))
    value_confined (call proc es result site) l =
        in_three (value_after (through_ways t size outcomes errs_all (λ K a halt at h k. k) (all_confined es l)
        (λ vs. first_alone (through_ways t size outcomes errs_all (λ K a halt at h k. k) (call_part t size types C B R callee proc site vs) (λ v. uses_part t size types C v site)))))
    value_confined (stop number site parts) l =
        first_alone (through_ways t size outcomes errs_all (λ K a halt at h k. k) (passed_confined parts l) (λ _. stops t size outcomes number site))

    all_confined : (es : Arguments) (l : Locals) → AllConfined es l
    all_confined no_arguments l = at_once t size (ways (List Value)) []
    all_confined (an_argument (passed e) rest) l =
        through_outcome t size (ways (List Value)) (λ K. K.0) (λ K a halt at h k. k) (value_confined e l)
        (λ v. first_alone (through_ways t size (ways (List Value)) (λ K. K.0) (λ K a halt at h k. k) (all_confined rest l) (λ vs. at_once t size (ways (List Value)) (v ∷ vs))))
    all_confined (an_argument (erased parts) rest) l =
        through_ways t size (ways (List Value)) (λ K. K.0) (λ K a halt at h k. k) (passed_confined parts l) (λ _. all_confined rest l)

    passed_confined : (es : Expressions) (l : Locals) → PassedConfined es l
    passed_confined no_expressions l = at_once t size (ways ⊤) tt
    passed_confined (an_expression (local n site) rest) l = passed_confined rest l
    passed_confined (an_expression (cell p field b site) rest) l =
        through_outcome t size (ways ⊤) (λ K. K.0) (λ K a halt at h k. k) (value_confined p l)
        (λ x. fewer_cuts t size (λ so_far heap c. inr c) (through_ways_after t size (ways ⊤) (λ K. K.0) (λ K a halt at h k. k) (reaches_part t size types C x b site) (λ _. passed_confined rest l)))
    passed_confined (an_expression (call proc es result site) rest) l =
        let called : (vs : List Value) → Confines t size (ways ⊤) (and_then (calls_procedure types R proc site vs) (λ v. Passes types R rest l))
        (λ K so_far heap. CallsProcedure see types C proc site vs so_far heap K.0 (λ so_far v heap. PassesAll see types C rest l so_far heap K.0 (λ so_far heap. K.1 so_far tt heap)))
        (λ so_far heap. IsCutInCall types C B (λ a. t ≡ a) proc site so_far vs heap
        ⊎ CallsProcedure see types C proc site vs so_far heap (after_halt types C B (λ a. t ≡ a)) (λ so_far v heap. (t ≡ so_far) ⊎ IsCutInPassed types C B (λ a. t ≡ a) rest l so_far heap))
        = λ vs. through_ways_after t size (ways ⊤) (λ K. K.0) (λ K a halt at h k. k) (call_part t size types C B R callee proc site vs) (λ v. passed_confined rest l) in
        fewer_cuts t size (λ so_far heap c. elim c [ inl c ↦ inl (inl c) | inr c ↦ elim c [ inl c ↦ inl (inr c) | inr c ↦ inr (inr c) ] ])
        (both_cuts t size
        (through_ways t size (ways ⊤) (λ K. K.0) (λ K a halt at h k. k) (all_confined es l) (λ vs. fewer_cuts t size (λ so_far heap c. inl c) (called vs)))
        (through_ways t size (ways ⊤) (λ K. K.0) (λ K a halt at h k. k) (all_confined es l) (λ vs. fewer_cuts t size (λ so_far heap c. inr c) (called vs))))
    passed_confined (an_expression (constant z) rest) l =
        through_outcome t size (ways ⊤) (λ K. K.0) (λ K a halt at h k. k) (value_confined (constant z) l) (λ v. passed_confined rest l)
    passed_confined (an_expression null rest) l =
        through_outcome t size (ways ⊤) (λ K. K.0) (λ K a halt at h k. k) (value_confined null l) (λ v. passed_confined rest l)
    passed_confined (an_expression (negated e) rest) l =
        through_outcome t size (ways ⊤) (λ K. K.0) (λ K a halt at h k. k) (value_confined (negated e) l) (λ v. passed_confined rest l)
    passed_confined (an_expression (arithmetic op a b) rest) l =
        through_outcome t size (ways ⊤) (λ K. K.0) (λ K a halt at h k. k) (value_confined (arithmetic op a b) l) (λ v. passed_confined rest l)
    passed_confined (an_expression (truth c) rest) l =
        through_outcome t size (ways ⊤) (λ K. K.0) (λ K a halt at h k. k) (value_confined (truth c) l) (λ v. passed_confined rest l)
    passed_confined (an_expression (allocate b site) rest) l =
        through_outcome t size (ways ⊤) (λ K. K.0) (λ K a halt at h k. k) (value_confined (allocate b site) l) (λ v. passed_confined rest l)
    passed_confined (an_expression (get_char site) rest) l =
        through_outcome t size (ways ⊤) (λ K. K.0) (λ K a halt at h k. k) (value_confined (get_char site) l) (λ v. passed_confined rest l)
    passed_confined (an_expression (stop number site parts) rest) l =
        through_outcome t size (ways ⊤) (λ K. K.0) (λ K a halt at h k. k) (value_confined (stop number site parts) l) (λ v. passed_confined rest l)

    test_confined : (c : Condition) (l : Locals) → TestConfined c l
    test_confined (compare r a b site) l =
        in_three (test_after (through_outcome t size verdicts faults (λ K a halt at h k. k) (value_confined a l)
        (λ x. first_alone (through_outcome t size verdicts faults (λ K a halt at h k. k) (value_confined b l) (λ y. compares_part t size types C r x y site)))))
    test_confined (word e site) l =
        test_after (first_alone (through_outcome t size verdicts faults (λ K a halt at h k. k) (value_confined e l) (λ x. compares_part t size types C relation.Unequal x (Word (pos 0)) site)))
    test_confined (pointer e site) l =
        test_after (first_alone (through_outcome t size verdicts faults (λ K a halt at h k. k) (value_confined e l) (λ x. compares_part t size types C relation.OtherPlace x Null site)))
    test_confined (both c d) l = through_verdict t size verdicts faults (λ K a halt at h k. k) (test_confined c l) (test_confined d l) (at_once t size verdicts false)
    test_confined (either c d) l = through_verdict t size verdicts faults (λ K a halt at h k. k) (test_confined c l) (at_once t size verdicts true) (test_confined d l)
    test_confined (opposite c) l = first_alone (through_verdict t size verdicts faults (λ K a halt at h k. k) (test_confined c l) (at_once t size verdicts false) (at_once t size verdicts true))

  -- ---- statements

  -- what a part of a statement does
  abbrev StatementConfined : ℕ → ℕ → Statement → Locals → Type 1
  StatementConfined n m w l =
      Confines t size exits (ReplaysStatement types R n w l) (λ K so_far heap. Executes see types C None m w l so_far heap K) (λ so_far heap. IsCutInStatement types C B (λ a. t ≡ a) m w l so_far heap)

  abbrev StatementsConfined : ℕ → ℕ → Statements → Locals → Type 1
  StatementsConfined n m ws l =
      Confines t size exits (ReplaysStatements types R n ws l) (λ K so_far heap. ExecutesAll see types C None m ws l so_far heap K) (λ so_far heap. IsCutInStatements types C B (λ a. t ≡ a) m ws l so_far heap)

  failing_so : (l : Locals) → PassesErrors exits (failing see types C l)
  failing_so l K a halt site h k = (l, k)

  -- an expression, and on with its value
  takes : (l : Locals) {act : Act Value} {does : Part outcomes} {cut : Cuts} {on : Value → Act Ended} {does' : Value → Part exits} {cut' : Value → Cuts} →
      Confines t size outcomes act does cut → ((v : Value) → Confines t size exits (on v) (does' v) (cut' v)) →
      Confines t size exits (and_then act on) (λ K. does (by_outcome (failing see types C l K) (λ so_far x heap. does' x K so_far heap)))
      (λ so_far heap. cut so_far heap ⊎ does (by_outcome no_error (λ so_far x heap. cut' x so_far heap)) so_far heap)
  takes l p q = through_outcome t size exits (failing see types C l) (failing_so l) p q

  -- an operator between two values, and on with what it gives
  takes_calculated : (op : Arithmetic) (x y : Value) (l : Locals) {on : Value → Act Ended} {does : Value → Part exits} {cut : Value → Cuts} → ((v : Value) → Confines t size exits (on v) (does v) (cut v)) →
      Confines t size exits (and_then (answers (calculates op x y)) on) (λ K so_far heap. Calculates see types C op x y so_far heap (by_outcome (failing see types C l K) (λ so_far v heap. does v K so_far heap))) no_cut
  takes_calculated op x y l p = fewer_cuts t size (λ so_far heap c. inl c) (takes l (calculated_part t size types C op x y) p)

  statement_after : {act : Act Ended} {does : Part exits} {cut : Cuts} → Confines t size exits act does cut → Confines t size exits act does (λ so_far heap. cut so_far heap ⊎ does (λ a x l h. t ≡ a) so_far heap)
  statement_after p = or_after t size (λ a x l h. t ≡ a) (λ a halt site h k. k.1) by_exit p
    where
      by_exit : (a : List Event) (e : Ended) (h : HeapMap) → exits.on_answer (λ a x l h. t ≡ a) a e h → t ≡ a
      by_exit a (Falls, l) h k = k
      by_exit a (Breaks, l) h k = k
      by_exit a (Continues, l) h k = k
      by_exit a (Returns v, l) h k = k

  declares_confined : (n : ℕ) (e : Option Expression) (l : Locals) →
      Confines t size exits (declares types R n e l) (λ K so_far heap. Declares see types C n e l so_far heap K) (λ so_far heap. IsCutInValue types C B (λ a. t ≡ a) e (with_local l n Unwritten) so_far heap)
  declares_confined n None l = at_once t size exits (Falls, with_local l n Unwritten)
  declares_confined n (Some e) l =
      first_alone (takes (with_local l n Unwritten) (value_confined e (with_local l n Unwritten)) (λ v. at_once t size exits (Falls, with_local (with_local l n Unwritten) n v)))

  assigns_confined : (place : Place) (e : Expression) (l : Locals) →
      Confines t size exits (assigns types R place e l) (λ K so_far heap. Assigns see types C place e l so_far heap K) (λ so_far heap. IsCutInAssignment types C B (λ a. t ≡ a) place e l so_far heap)
  assigns_confined (local_place n at) e l = first_alone (takes l (value_confined e l) (λ v. at_once t size exits (Falls, with_local l n v)))
  assigns_confined (cell_place p field b site) e l =
      takes l (value_confined p l) (λ x. first_alone (takes l (value_confined e l) (λ v. stores_part t size types C x field b site v l)))

  updates_confined : (op : Arithmetic) (place : Place) (e : Expression) (l : Locals) →
      Confines t size exits (updates types R op place e l) (λ K so_far heap. Updates see types C op place e l so_far heap K) (λ so_far heap. IsCutInUpdate types C B (λ a. t ≡ a) place e l so_far heap)
  updates_confined op (local_place n at) e l =
      fewer_cuts t size (λ so_far heap c. inr c) (takes l (uses_part t size types C (l n) at)
      (λ x. first_alone (takes l (value_confined e l) (λ y. takes_calculated op x y l (λ v. at_once t size exits (Falls, with_local l n v))))))
  updates_confined op (cell_place p field b site) e l =
      takes l (value_confined p l) (λ place. takes l (fewer_cuts t size (λ so_far heap c. inr c) (value_after (loads_part t size types C place field b site)))
      (λ x. first_alone (takes l (value_confined e l) (λ y. takes_calculated op x y l (λ v. stores_part t size types C place field b site v l)))))

  accesses_confined : (p : Expression) (parts : Expressions) (b : TypeId) (site : Site) (l : Locals) →
      Confines t size exits (accesses types R p parts b site l) (λ K so_far heap. Accesses see types C p parts b site l so_far heap K) (λ so_far heap. IsCutInAccess types C B (λ a. t ≡ a) p parts l so_far heap)
  accesses_confined p parts b site l =
      takes l (value_confined p l) (λ x. first_alone (through_ways t size exits (failing see types C l) (failing_so l) (passed_confined parts l)
      (λ _. first_alone (through_ways t size exits (failing see types C l) (failing_so l) (reaches_part t size types C x b site) (λ _. at_once t size exits (Falls, l))))))

  gives_confined : (e : Option Expression) (l : Locals) →
      Confines t size exits (gives_back types R e l) (λ K so_far heap. GivesBack see types C e l so_far heap K) (λ so_far heap. IsCutInValue types C B (λ a. t ≡ a) e l so_far heap)
  gives_confined None l = at_once t size exits (Returns Unwritten, l)
  gives_confined (Some e) l = first_alone (takes l (value_confined e l) (λ v. at_once t size exits (Returns v, l)))

  checks_confined : (c : Option Condition) (l : Locals) →
      Confines t size verdicts (checks_if types R c l) (λ K so_far heap. TestsIf see types C c l so_far heap K) (λ so_far heap. IsCutInTestIf types C B (λ a. t ≡ a) c l so_far heap)
  checks_confined None l = at_once t size verdicts true
  checks_confined (Some c) l = test_confined c l

  -- ---- loops

  abbrev Does : Type 1
  Does = Locals → List Event → HeapMap → Exits Event → Type 0

  module _ (site : Site) (c : Option Condition) (body after_body : StatementReplays) (run_body run_after : Does) (in_body in_step : Locals → Cuts)
      (body_confined : (l : Locals) → Confines t size exits (body l) (λ K so_far heap. run_body l so_far heap K) (in_body l))
      (step_confined : (l : Locals) → Confines t size exits (after_body l) (λ K so_far heap. run_after l so_far heap K) (in_step l)) where
    abbrev LoopConfined : ℕ → ℕ → ℕ → Locals → Type 1
    LoopConfined n m made l =
        Confines t size exits (loops types R n site c body after_body l) (λ K so_far heap. Loops see types C None m made site c run_body run_after l so_far heap K)
        (λ so_far heap. IsCutInLoop types C B (λ a. t ≡ a) m site c run_body run_after in_body in_step l so_far heap)

    a_turn : (n m made : ℕ) → ((l : Locals) → LoopConfined n m (suc made) l) → (l : Locals) → LoopConfined (suc n) (suc m) made l
    a_turn n m made again l =
        through_verdict t size exits (failing see types C l) (failing_so l) (checks_confined c l)
        (fewer t size (λ K so_far heap d. d.1) (λ so_far heap c. c)
        (marked_part t size Iter site (through_body t size types C R (body_confined l) (λ l. through_fall t size types R (step_confined l) again))))
        (fewer_cuts t size (λ so_far heap c. absurd c) (marked_part t size Done site (at_once t size exits (Falls, l))))

    -- Where the one makes no turn, what is said of the other is what it is with one.
    loops_confined : (n m made : ℕ) (l : Locals) → LoopConfined n m made l
    loops_confined zero zero made l = record {
      shrinks = λ s r s' h. absurd h;
      begins = λ K a heap oe oa d. absurd d;
      only = λ K a s r s' oe oa h at d. absurd h;
      cut_begins = λ a heap c. absurd c;
      no_further = λ a s r s' h at c. absurd h;
    }
    loops_confined zero (suc m) made l =
        let p = a_turn zero m made (loops_confined zero m (suc made)) l in
        record {
          shrinks = λ s r s' h. absurd h;
          begins = p.begins;
          only = λ K a s r s' oe oa h at d. absurd h;
          cut_begins = p.cut_begins;
          no_further = λ a s r s' h at c. absurd h;
        }
    loops_confined (suc n) zero made l =
        let p = a_turn n zero made (loops_confined n zero (suc made)) l in
        record {
          shrinks = p.shrinks;
          begins = λ K a heap oe oa d. absurd d;
          only = λ K a s r s' oe oa h at d. absurd d;
          cut_begins = λ a heap c. absurd c;
          no_further = λ a s r s' h at c. absurd c;
        }
    loops_confined (suc n) (suc m) made l = a_turn n m made (loops_confined n m (suc made)) l

  mutual
    pub statement_confined : (n m : ℕ) (w : Statement) (l : Locals) → StatementConfined n m w l
    statement_confined n m (block ws) l = statements_confined n m ws l
    statement_confined n m (declare i e) l = declares_confined i e l
    statement_confined n m (assign place e) l = statement_after (assigns_confined place e l)
    statement_confined n m (update op place e) l = statement_after (updates_confined op place e l)
    statement_confined n m (run_call proc es site) l =
        in_three (statement_after (through_ways t size exits (failing see types C l) (failing_so l) (all_confined es l)
        (λ vs. first_alone (through_ways t size exits (failing see types C l) (failing_so l) (call_part t size types C B R callee proc site vs) (λ v. at_once t size exits (Falls, l))))))
    statement_confined n m (free e b site) l = statement_after (first_alone (takes l (value_confined e l) (λ p. frees_part t size types C p b site l)))
    statement_confined n m (input site) l = fewer_cuts t size (λ so_far heap c. inr c) (statement_after (takes l (input_part t size types C site l) (λ v. at_once t size exits (Falls, l))))
    statement_confined n m (choose c first second) l =
        through_verdict t size exits (failing see types C l) (failing_so l) (test_confined c l) (statement_confined n m first l) (statement_confined n m second l)
    statement_confined n m (loop site c body after_body) l =
        statement_after (loops_confined site c (ReplaysStatement types R n body) (ReplaysStatement types R n after_body) (Executes see types C None m body) (Executes see types C None m after_body)
        (IsCutInStatement types C B (λ a. t ≡ a) m body) (IsCutInStatement types C B (λ a. t ≡ a) m after_body) (statement_confined n m body) (statement_confined n m after_body) n m 0 l)
    statement_confined n m break l = at_once t size exits (Breaks, l)
    statement_confined n m continue l = at_once t size exits (Continues, l)
    statement_confined n m (return e) l = gives_confined e l
    statement_confined n m (evaluate e) l =
        first_alone (through_ways t size exits (failing see types C l) (failing_so l) (passed_confined (an_expression e no_expressions) l) (λ _. at_once t size exits (Falls, l)))
    statement_confined n m (access p parts field b site) l = statement_after (accesses_confined p parts b site l)

    statements_confined : (n m : ℕ) (ws : Statements) (l : Locals) → StatementsConfined n m ws l
    statements_confined n m no_statements l = at_once t size exits (Falls, l)
    statements_confined n m (a_statement w rest) l = through_fall t size types R (statement_confined n m w l) (λ l. statements_confined n m rest l)
