-- What the replay of statements takes of a script is reached by their executions.
use Rattle.std.proofs.Common.{ℕ, zero, suc, Bool, true, List, ◌++◌, slice_set, Option, Some, None, Result, Ok, Err, ◌⊎◌, inl, inr}
use Rattle.std.specs.Bool.{⊤}
use Rattle.px_base.specs.declared.trace.Site.{Site}
use Rattle.px_base.specs.declared.trace.FieldId.{FieldId}
use Rattle.px_base.specs.declared.trace.Kind.TheVariants.{NullDereference, UseAfterFree, DoubleFree}
use Rattle.px_base.specs.declared.trace.MarkKind.TheVariants.{Iter, Done, Access, Freed, FreeNull}
use Rattle.px_meaning.specs.Values.{TypeId, BlockType, Value, Unwritten}
use Rattle.px_meaning.specs.Heaps.{HeapMap, with_block}
use Rattle.px_meaning.specs.Execution.{Locals, with_local}
use Rattle.px_meaning.specs.Events.{Event}
use Rattle.px_meaning.specs.Steps.{ProcedureCalls, marking, live_block, freed_block}
use Rattle.px_meaning.specs.TreeExecution.{Outcomes, by_outcome, Verdicts, with_verdict, falls, returns, fails, Exits, with_fall, behind_body, Loads, Reaches as Gets, Stores, CallsProcedure, PassesAll, failing, Takes, Declares, Assigns, Updates, Accesses, Frees, TestsIf, Loops, GivesBack, Executes, ExecutesAll, Calculates}
use Rattle.px_syntax.specs.TypedTree.{Expression, Expressions, no_expressions, an_expression, Condition, Place, local_place, cell_place, Statement, block, declare, assign, update, run_call, free, input, choose, loop, break, continue, return, evaluate, access, Statements, no_statements, a_statement}
use Rattle.px_syntax.specs.declared.typed_expression.Arithmetic.{Arithmetic}
use Rattle.px_replay.specs.declared.stop.Stop.{Stop}
use Rattle.px_replay.specs.declared.stop.Stop.TheVariants as stop
use Rattle.px_replay.specs.declared.flow.Flow.TheVariants.{Falls, Breaks, Continues, Returns}
use Rattle.px_replay.specs.Beginnings.{see, CallBeginnings, no_error, no_exit, no_branch, after_value, after_statement, IsCutInCall, IsCutIn, IsCutInPassed, IsCutInValue, IsCutInTestIf, IsCutInAssignment, IsCutInUpdate, IsCutInAccess, IsCutInLoop, IsCutInStatement, IsCutInStatements}
use Rattle.px_replay.specs.Operations.{calculates}
use Rattle.px_replay.specs.Script.{PlainScript, Act, behind, answers, and_then, marked, with_heap}
use Rattle.px_replay.specs.TreeReplay.{CallReplays, Ended, StatementReplays, Replays, stores, frees, declares, assigns, updates, accesses, gives_back, checks_if, on_fall, on_turn, loops, ReplaysStatement, ReplaysStatements}
use Rattle.px_replay.proofs.Confine.{Goals}
use Rattle.px_replay.proofs.ConfineForms.{verdicts, at_exit}
use Rattle.px_replay.proofs.TakenBlocks.{same_taken}
use Rattle.px_replay.proofs.ReachActs.{IsDone, never, Does, Cuts, no_cuts, Reaches, answers_reached, departs_reached, mark_reached, write_reached, marked_reached, close, more_cuts, then_cut, then_last, then_done, leads_to}
use Rattle.px_replay.proofs.ReachTrees.{CallReached, uses_reached, loads_reached, gets_reached, input_reached, call_reached, either_reached, eval_reached, all_reached, passed_reached, test_reached, calculated_reached}

-- the goals of a statement; an error comes to them with all locals, since a replay doesn't tell them
abbrev pub exits : Goals Ended
exits = record { Goal = Exits Event; on_error = λ K a halt site h. (l : Locals) → K a (fails halt site) l h; on_answer = at_exit }

-- what a statement does after something, and where it can be cut there
abbrev Behind : Type 1
Behind = Exits Event → List Event → Locals → HeapMap → Type 0

abbrev CutsAfter : Type 1
CutsAfter = (List Event → Type 0) → List Event → Locals → HeapMap → Type 0

module _ (types : List BlockType) (C : CallReplays) (calls : ProcedureCalls Event) (begun : CallBeginnings)
    (reached : (f : ℕ) (arguments : List Value) (s : PlainScript) (r : Result Value Stop) (s' : PlainScript) → C f arguments s r s' → CallReached calls begun f arguments s r s') where
  -- ---- through pointers

  stores_reached : {s : PlainScript} {r : Result Ended Stop} {s' : PlainScript} → (p : Value) (field : FieldId) (t : TypeId) (site : Site) (v : Value) (l : Locals) → stores p field t site v l s r s' →
      Reaches exits IsDone (Stores see types calls p field t site v l) no_cuts s r s'
  stores_reached {s = s} {r = r} {s' = s'} p field t site v l (inl h) =
      leads_to (Reaches exits IsDone (Stores see types calls p field t site v l) no_cuts s r s') s.heap t.0 p
      (marked Access site (answers (Err (stop.Failed NullDereference site))) s r s') (marked Access site (answers (Err (stop.Failed UseAfterFree site))) s r s')
      (λ n cells. marked Access site (with_heap (with_block s.heap n (live_block t.0 (slice_set cells field.0 v))) (answers (Ok (Falls, l)))) s r s')
      (λ h to. mark_reached Access site (Err (stop.Failed NullDereference site)) _ _ (λ so_far K k. to _ _ _ (k l)) h)
      (λ h to. mark_reached Access site (Err (stop.Failed UseAfterFree site)) _ _ (λ so_far K k. to _ _ _ (k l)) h)
      (λ n cells taken h to. write_reached Access site (with_block s.heap n (live_block t.0 (slice_set cells field.0 v))) (Ok (Falls, l)) _
      (same_taken s.heap n (live_block t.0 (slice_set cells field.0 v)) taken) _ (λ so_far K k. to _ _ _ k) h) h
  stores_reached p field t site v l (inr (o, h)) = departs_reached h

  frees_reached : {s : PlainScript} {r : Result Ended Stop} {s' : PlainScript} → (p : Value) (t : TypeId) (site : Site) (l : Locals) → frees p t site l s r s' → Reaches exits IsDone (Frees see types calls p t site l) no_cuts s r s'
  frees_reached {s = s} {r = r} {s' = s'} p t site l (inl h) =
      leads_to (Reaches exits IsDone (Frees see types calls p t site l) no_cuts s r s') s.heap t.0 p
      (marked FreeNull site (answers (Ok (Falls, l))) s r s') (marked Freed site (answers (Err (stop.Failed DoubleFree site))) s r s')
      (λ n cells. marked Freed site (with_heap (with_block s.heap n (freed_block t.0)) (answers (Ok (Falls, l)))) s r s')
      (λ h to. mark_reached FreeNull site (Ok (Falls, l)) _ _ (λ so_far K k. to _ _ _ k) h)
      (λ h to. mark_reached Freed site (Err (stop.Failed DoubleFree site)) _ _ (λ so_far K k. to _ _ _ (k l)) h)
      (λ n cells taken h to. write_reached Freed site (with_block s.heap n (freed_block t.0)) (Ok (Falls, l)) _ (same_taken s.heap n (freed_block t.0) taken) _ (λ so_far K k. to _ _ _ k) h) h
  frees_reached p t site l (inr (o, h)) = departs_reached h

  -- ---- expressions in statements

  -- the goal of an expression in a statement, and where what is after it can be cut
  abbrev taking : Locals → (Exits Event → List Event → Value → HeapMap → Type 0) → Exits Event → Outcomes Event
  taking l on K = by_outcome (failing see types calls l K) (on K)

  abbrev in_value : Expression → Locals → (List Event → Type 0) → Outcomes Event
  in_value e l Cut = by_outcome no_error (λ so_far x heap. IsCutIn types calls begun Cut e l so_far heap)

  -- an expression, and after it an act that isn't cut inside
  takes_reached : {Last : Result Ended Stop → Type 0} {s : PlainScript} {r : Result Ended Stop} {s' : PlainScript} → (e : Expression) (l : Locals) (act : Value → Act Ended) (on : Exits Event → List Event → Value → HeapMap → Type 0) →
      ((v : Value) (s1 : PlainScript) → act v s1 r s' → Reaches exits Last (λ t h K. on K t v h) no_cuts s1 r s') → and_then (Replays types C e l) act s r s' →
      Reaches exits Last (λ so_far heap K. Takes see types calls e l so_far heap K (on K)) (λ Cut so_far heap. IsCutIn types calls begun Cut e l so_far heap) s r s'
  takes_reached e l act on f (r1, s1, a, h) = then_last act (taking l on) (λ K t halt site h k. k l) (eval_reached types C calls begun reached e l a) (λ v k. f v s1 k) h

  falls_reached : {Last : Result Ended Stop → Type 0} {does : Does exits} {cuts : Cuts} {s : PlainScript} {r : Result Ended Stop} {s' : PlainScript} → (l : Locals) → ((so_far : List Event) (K : Exits Event) → K so_far falls l s.heap → does so_far s.heap K) →
      answers (Ok (Falls, l)) s r s' → Reaches exits Last does cuts s r s'
  falls_reached l to h = answers_reached (Ok (Falls, l)) to h

  declares_reached : {s : PlainScript} {r : Result Ended Stop} {s' : PlainScript} → (n : ℕ) (e : Option Expression) (l : Locals) → declares types C n e l s r s' →
      Reaches exits never (Declares see types calls n e l) (λ Cut so_far heap. IsCutInValue types calls begun Cut e (with_local l n Unwritten) so_far heap) s r s'
  declares_reached n None l h = falls_reached (with_local l n Unwritten) (λ so_far K k. k) h
  declares_reached n (Some e) l h =
      takes_reached e (with_local l n Unwritten) _ (λ K so_far v heap. K so_far falls (with_local (with_local l n Unwritten) n v) heap) (λ v s k. falls_reached (with_local (with_local l n Unwritten) n v) (λ so_far K k. k) k) h

  gives_reached : {s : PlainScript} {r : Result Ended Stop} {s' : PlainScript} → (e : Option Expression) (l : Locals) → gives_back types C e l s r s' →
      Reaches exits never (GivesBack see types calls e l) (λ Cut so_far heap. IsCutInValue types calls begun Cut e l so_far heap) s r s'
  gives_reached None l h = answers_reached (Ok (Returns Unwritten, l)) (λ so_far K k. k) h
  gives_reached (Some e) l h = takes_reached e l _ (λ K so_far v heap. K so_far (returns v) l heap) (λ v s k. answers_reached (Ok (Returns v, l)) (λ so_far K k. k) k) h

  -- ---- assignments

  assigns_reached : {s : PlainScript} {r : Result Ended Stop} {s' : PlainScript} → (place : Place) (e : Expression) (l : Locals) → assigns types C place e l s r s' →
      Reaches exits IsDone (Assigns see types calls place e l) (λ Cut so_far heap. IsCutInAssignment types calls begun Cut place e l so_far heap) s r s'
  assigns_reached (local_place n at) e l h = takes_reached e l _ (λ K so_far v heap. K so_far falls (with_local l n v) heap) (λ v s k. falls_reached (with_local l n v) (λ so_far K k. k) k) h
  assigns_reached (cell_place p field t site) e l (r1, s1, a, h) =
      then_cut _ (taking l (λ K so_far x heap. Takes see types calls e l so_far heap K (λ so_far v heap. Stores see types calls x field t site v l so_far heap K))) (in_value e l) (λ K t halt site h k. k l)
      (eval_reached types C calls begun reached p l a)
      (λ x k. takes_reached e l _ (λ K so_far v heap. Stores see types calls x field t site v l so_far heap K) (λ v s k. stores_reached x field t site v l k) k) h

  -- the right side of an update, its result, and the write
  right_reached : {s : PlainScript} {r : Result Ended Stop} {s' : PlainScript} → (op : Arithmetic) (x : Value) (e : Expression) (l : Locals) (act : Value → Act Ended) (on : Exits Event → List Event → Value → HeapMap → Type 0) →
      ((v : Value) (s1 : PlainScript) → act v s1 r s' → Reaches exits IsDone (λ t h K. on K t v h) no_cuts s1 r s') → and_then (Replays types C e l) (λ y. and_then (answers (calculates op x y)) act) s r s' →
      Reaches exits IsDone (λ so_far heap K. Takes see types calls e l so_far heap K (λ so_far y heap. Calculates see types calls op x y so_far heap (taking l on K))) (λ Cut so_far heap. IsCutIn types calls begun Cut e l so_far heap) s r s'
  right_reached op x e l act on f h =
      takes_reached e l _ (λ K so_far y heap. Calculates see types calls op x y so_far heap (taking l on K))
      (λ y s (r1, s1, a, h). then_last act (taking l on) (λ K t halt site h k. k l) (calculated_reached op x y a) (λ v k. f v s1 k) h) h

  updates_reached : {s : PlainScript} {r : Result Ended Stop} {s' : PlainScript} → (op : Arithmetic) (place : Place) (e : Expression) (l : Locals) → updates types C op place e l s r s' →
      Reaches exits IsDone (Updates see types calls op place e l) (λ Cut so_far heap. IsCutInUpdate types calls begun Cut place e l so_far heap) s r s'
  updates_reached op (local_place n at) e l (r1, s1, a, h) =
      more_cuts (λ Cut so_far c. elim c [ inl c ↦ absurd c | inr c ↦ c ])
      (then_cut _ (taking l (λ K so_far x heap. Takes see types calls e l so_far heap K (λ so_far y heap. Calculates see types calls op x y so_far heap (taking l (λ K so_far v heap. K so_far falls (with_local l n v) heap) K)))) (in_value e l) (λ K t halt site h k. k l)
      (uses_reached types C calls begun reached (l n) at a)
      (λ x k. right_reached op x e l _ (λ K so_far v heap. K so_far falls (with_local l n v) heap) (λ v s k. falls_reached (with_local l n v) (λ so_far K k. k) k) k) h)
  updates_reached op (cell_place p field t site) e l (r1, s1, a, h) =
      let on : Value → Exits Event → List Event → Value → HeapMap → Type 0 = λ place K so_far x heap. Takes see types calls e l so_far heap K (λ so_far y heap. Calculates see types calls op x y so_far heap (taking l (λ K so_far v heap. Stores see types calls place field t site v l so_far heap K) K)) in
      then_cut _ (taking l (λ K so_far place heap. Loads see types calls place field t site so_far heap (taking l (on place) K)))
      (λ Cut. by_outcome no_error (λ so_far place heap. Loads see types calls place field t site so_far heap (after_value types calls begun Cut) ⊎ Loads see types calls place field t site so_far heap (in_value e l Cut))) (λ K t halt site h k. k l)
      (eval_reached types C calls begun reached p l a)
      (λ place (r2, s2, b, h). then_cut _ (taking l (on place)) (in_value e l) (λ K t halt site h k. k l)
      (close (λ Cut. after_value types calls begun Cut) (λ Cut t x h c. c) (λ Cut t kind site h c. c) (λ Cut so_far c. absurd c) (λ Cut so_far c. c) (loads_reached types C calls begun reached place field t site b))
      (λ x k. right_reached op x e l _ (λ K so_far v heap. Stores see types calls place field t site v l so_far heap K) (λ v s k. stores_reached place field t site v l k) k) h) h

  accesses_reached : {s : PlainScript} {r : Result Ended Stop} {s' : PlainScript} → (p : Expression) (parts : Expressions) (t : TypeId) (site : Site) (l : Locals) → accesses types C p parts t site l s r s' →
      Reaches exits IsDone (Accesses see types calls p parts t site l) (λ Cut so_far heap. IsCutInAccess types calls begun Cut p parts l so_far heap) s r s'
  accesses_reached p parts t site l (r1, s1, a, h) =
      let on : Value → Exits Event → List Event → HeapMap → Type 0 = λ x K so_far heap. Gets see types calls x t site so_far heap (failing see types calls l K) (λ so_far heap. K so_far falls l heap) in
      then_cut _ (taking l (λ K so_far x heap. PassesAll see types calls parts l so_far heap (failing see types calls l K) (on x K)))
      (λ Cut. by_outcome no_error (λ so_far x heap. IsCutInPassed types calls begun Cut parts l so_far heap)) (λ K t halt site h k. k l)
      (eval_reached types C calls begun reached p l a)
      (λ x (r2, s2, b, h). then_last _ (λ K. (failing see types calls l K, λ so_far u heap. on x K so_far heap)) (λ K t halt site h k. k l)
      (passed_reached types C calls begun reached parts l b)
      (λ u (r3, s3, d, h). then_done (λ v. Ok (Falls, l)) (λ K. (failing see types calls l K, λ so_far u heap. K so_far falls l heap)) (λ K t halt site h k. k l)
      (λ v. _) (λ v so_far K k. k) (gets_reached types C calls begun reached x t site d) h) h) h

  -- ---- after statements

  fall_reached : {Last : Result Ended Stop → Type 0} {s : PlainScript} {r : Result Ended Stop} {s' : PlainScript} → (act : StatementReplays) (on : Behind) (cuts : CutsAfter) (x : Ended) →
      ((l : Locals) → act l s r s' → Reaches exits Last (λ so_far heap K. on K so_far l heap) (λ Cut so_far heap. cuts Cut so_far l heap) s r s') →
      on_fall types C act x s r s' → Reaches exits Last (λ so_far heap K. at_exit (with_fall K (on K)) so_far x heap) (λ Cut so_far heap. at_exit (with_fall no_exit (cuts Cut)) so_far x heap) s r s'
  fall_reached act on cuts (Falls, l) f h = f l h
  fall_reached act on cuts (Breaks, l) f h = answers_reached (Ok (Breaks, l)) (λ so_far K k. k) h
  fall_reached act on cuts (Continues, l) f h = answers_reached (Ok (Continues, l)) (λ so_far K k. k) h
  fall_reached act on cuts (Returns v, l) f h = answers_reached (Ok (Returns v, l)) (λ so_far K k. k) h

  turn_reached : {Last : Result Ended Stop → Type 0} {s : PlainScript} {r : Result Ended Stop} {s' : PlainScript} → (act : StatementReplays) (on : Behind) (cuts : CutsAfter) (x : Ended) →
      ((l : Locals) → act l s r s' → Reaches exits Last (λ so_far heap K. on K so_far l heap) (λ Cut so_far heap. cuts Cut so_far l heap) s r s') →
      on_turn types C act x s r s' → Reaches exits Last (λ so_far heap K. at_exit (behind_body see types calls (on K) K) so_far x heap) (λ Cut so_far heap. at_exit (behind_body see types calls (cuts Cut) no_exit) so_far x heap) s r s'
  turn_reached act on cuts (Falls, l) f h = f l h
  turn_reached act on cuts (Continues, l) f h = f l h
  turn_reached act on cuts (Breaks, l) f h = falls_reached l (λ so_far K k. k) h
  turn_reached act on cuts (Returns v, l) f h = answers_reached (Ok (Returns v, l)) (λ so_far K k. k) h

  tests_if_reached : {s : PlainScript} {r : Result Bool Stop} {s' : PlainScript} → (c : Option Condition) (l : Locals) → checks_if types C c l s r s' →
      Reaches verdicts never (TestsIf see types calls c l) (λ Cut so_far heap. IsCutInTestIf types calls begun Cut c l so_far heap) s r s'
  tests_if_reached None l h = answers_reached (Ok true) (λ so_far K k. k) h
  tests_if_reached (Some c) l h = test_reached types C calls begun reached c l h

  -- ---- loops, by their turns

  -- what is done from locals on, and where it can be cut
  abbrev Executions : Type 1
  Executions = Locals → List Event → HeapMap → Exits Event → Type 0

  abbrev CutsIn : Type 1
  CutsIn = (List Event → Type 0) → Locals → List Event → HeapMap → Type 0

  -- a statement's act reaches what its executions do
  abbrev AreReached : StatementReplays → (Result Ended Stop → Type 0) → Executions → CutsIn → Type 1
  AreReached act Last does cuts = (l : Locals) (s : PlainScript) (r : Result Ended Stop) (s' : PlainScript) → act l s r s' → Reaches exits Last (does l) (λ Cut so_far heap. cuts Cut l so_far heap) s r s'

  module _ (site : Site) (c : Option Condition) (body after_body : StatementReplays) (do_body do_step : Executions) (in_body in_step : CutsIn)
      (body_reached : AreReached body never do_body in_body) (step_reached : AreReached after_body never do_step in_step) where
    abbrev looping : ℕ → ℕ → Executions
    looping n made = Loops see types calls None n made site c do_body do_step

    abbrev in_loop : ℕ → CutsIn
    in_loop n Cut = IsCutInLoop types calls begun Cut n site c do_body do_step (in_body Cut) (in_step Cut)

    -- after the step: the other turns
    abbrev on_turns : ℕ → ℕ → Behind
    on_turns n made K so_far l heap = looping n made l so_far heap K

    abbrev in_turns : ℕ → CutsAfter
    in_turns n Cut so_far l heap = in_loop n Cut l so_far heap

    -- after the body: the step, and the other turns
    abbrev on_step : ℕ → ℕ → Behind
    on_step n made K so_far l heap = do_step l so_far heap (with_fall K (on_turns n made K))

    abbrev in_steps : ℕ → CutsAfter
    in_steps n Cut so_far l heap = in_step Cut l so_far heap ⊎ do_step l so_far heap (with_fall no_exit (in_turns n Cut))

    -- a turn, and those after it
    abbrev turns : ℕ → StatementReplays
    turns n l = and_then (body l) (on_turn types C (λ l. and_then (after_body l) (on_fall types C (loops types C n site c body after_body))))

    abbrev turning : ℕ → ℕ → Executions
    turning n made l so_far heap K = do_body l so_far heap (behind_body see types calls (on_step n made K) K)

    abbrev in_turn : ℕ → CutsIn
    in_turn n Cut l so_far heap = in_body Cut l so_far heap ⊎ do_body l so_far heap (behind_body see types calls (in_steps n Cut) no_exit)

    turns_reached : (n made : ℕ) → AreReached (loops types C n site c body after_body) IsDone (looping n made) (in_loop n) →
        AreReached (turns n) IsDone (turning n made) (in_turn n)
    turns_reached n made later l s r s' (r1, s1, a, h) =
        then_cut _ (λ K. behind_body see types calls (on_step n made K) K) (λ Cut. behind_body see types calls (in_steps n Cut) no_exit) (λ K t halt site h k. k) (body_reached l s r1 s1 a)
        (λ x k. turn_reached _ (on_step n made) (in_steps n) x
        (λ l (r2, s2, b, h). then_cut _ (λ K. with_fall K (on_turns n made K)) (λ Cut. with_fall no_exit (in_turns n Cut)) (λ K t halt site h k. k) (step_reached l s1 r2 s2 b)
        (λ x k. fall_reached _ (on_turns n made) (in_turns n) x (λ l k. later l s2 r s' k) k) h) k) h

    pub loops_reached : (n made : ℕ) → AreReached (loops types C n site c body after_body) IsDone (looping n made) (in_loop n)
    loops_reached zero made l s r s' h = absurd h
    loops_reached (suc n) made l s r s' (r1, s1, a, h) =
        let next : Exits Event → Verdicts Event = λ K. with_verdict (failing see types calls l K) (λ so_far heap. ⊤ × turning n (suc made) l (so_far ++ marking see Iter site) heap K) (λ so_far heap. K (so_far ++ marking see Done site) falls l heap) in
        let cutting : (List Event → Type 0) → Verdicts Event = λ Cut. with_verdict no_error (λ so_far heap. Cut (so_far ++ marking see Iter site) ⊎ in_turn n Cut l (so_far ++ marking see Iter site) heap) no_branch in
        then_cut _ next cutting (λ K t halt site h k. k l) (tests_if_reached c l a)
        (λ holds k. either_reached types C calls begun reached next cutting holds _ _
        (λ k. marked_reached Iter site (turns n l) (turning n (suc made) l) (λ Cut so_far heap. in_turn n Cut l so_far heap) _ (λ so_far K k. (_, k)) (λ rest k. turns_reached n (suc made) (loops_reached n (suc made)) l (behind s1 rest s1.heap) r s' k) k)
        (λ k. mark_reached Done site (Ok (Falls, l)) _ _ (λ so_far K k. k) k) k) h

  -- ---- statements

  abbrev pub Run : ℕ → Statement → Locals → PlainScript → Result Ended Stop → PlainScript → Type 1
  Run n st l = Reaches exits never (Executes see types calls None n st l) (λ Cut so_far heap. IsCutInStatement types calls begun Cut n st l so_far heap)

  abbrev pub RunAll : ℕ → Statements → Locals → PlainScript → Result Ended Stop → PlainScript → Type 1
  RunAll n sts l = Reaches exits never (ExecutesAll see types calls None n sts l) (λ Cut so_far heap. IsCutInStatements types calls begun Cut n sts l so_far heap)

  -- the cut may be after the whole
  after_exit : (Cut : List Event → Type 0) (t : List Event) (x : Ended) (h : HeapMap) → Cut t → at_exit (after_statement types calls begun Cut) t x h
  after_exit Cut t (Falls, l) h c = c
  after_exit Cut t (Breaks, l) h c = c
  after_exit Cut t (Continues, l) h c = c
  after_exit Cut t (Returns v, l) h c = c

  close_statement : {cuts : Cuts} {s : PlainScript} {r : Result Ended Stop} {s' : PlainScript} → (n : ℕ) (st : Statement) (l : Locals) →
      ((Cut : List Event → Type 0) (so_far : List Event) → cuts Cut so_far s.heap → IsCutInStatement types calls begun Cut n st l so_far s.heap) →
      ((Cut : List Event → Type 0) (so_far : List Event) → Executes see types calls None n st l so_far s.heap (after_statement types calls begun Cut) → IsCutInStatement types calls begun Cut n st l so_far s.heap) →
      Reaches exits IsDone (Executes see types calls None n st l) cuts s r s' → Run n st l s r s'
  close_statement n st l inside last p = close (λ Cut. after_statement types calls begun Cut) after_exit (λ Cut t halt site h c l. c) inside last p

  mutual
    pub run_reached : {s : PlainScript} {r : Result Ended Stop} {s' : PlainScript} → (n : ℕ) (st : Statement) (l : Locals) → ReplaysStatement types C n st l s r s' → Run n st l s r s'
    run_reached n (block sts) l h = runs_reached n sts l h
    run_reached n (declare i e) l h = declares_reached i e l h
    run_reached n (assign place e) l h = close_statement n (assign place e) l (λ Cut so_far c. inl c) (λ Cut so_far c. inr c) (assigns_reached place e l h)
    run_reached n (update op place e) l h = close_statement n (update op place e) l (λ Cut so_far c. inl c) (λ Cut so_far c. inr c) (updates_reached op place e l h)
    run_reached n (run_call proc es site) l (r1, s1, a, h) =
        close_statement n (run_call proc es site) l (λ Cut so_far c. elim c [ inl c ↦ inl c | inr c ↦ inr (inl c) ]) (λ Cut so_far c. inr (inr c))
        (then_cut _ (λ K. (failing see types calls l K, λ so_far vs heap. CallsProcedure see types calls proc site vs so_far heap (failing see types calls l K) (λ so_far v heap. K so_far falls l heap)))
        (λ Cut. (no_error, IsCutInCall types calls begun Cut proc site)) (λ K t halt site h k. k l) (all_reached types C calls begun reached es l a)
        (λ vs (r2, s2, b, h). then_done (λ v. Ok (Falls, l)) (λ K. (failing see types calls l K, λ so_far v heap. K so_far falls l heap)) (λ K t halt site h k. k l)
        (λ v. _) (λ v so_far K k. k) (call_reached types C calls begun reached proc site vs b) h) h)
    run_reached n (free e t site) l h =
        close_statement n (free e t site) l (λ Cut so_far c. inl c) (λ Cut so_far c. inr c)
        (takes_reached e l _ (λ K so_far p heap. Frees see types calls p t site l so_far heap K) (λ p s k. frees_reached p t site l k) h)
    run_reached n (input site) l (r1, s1, a, h) =
        close_statement n (input site) l (λ Cut so_far c. absurd c) (λ Cut so_far c. c)
        (then_done (λ v. Ok (Falls, l)) (taking l (λ K so_far v heap. K so_far falls l heap)) (λ K t halt site h k. k l) (λ v. _) (λ v so_far K k. k) (input_reached types C calls begun reached site l a) h)
    run_reached n (choose c first second) l (r1, s1, a, h) =
        let next : Exits Event → Verdicts Event = λ K. with_verdict (failing see types calls l K) (λ so_far heap. Executes see types calls None n first l so_far heap K) (λ so_far heap. Executes see types calls None n second l so_far heap K) in
        let cutting : (List Event → Type 0) → Verdicts Event = λ Cut.
        with_verdict no_error (λ so_far heap. IsCutInStatement types calls begun Cut n first l so_far heap) (λ so_far heap. IsCutInStatement types calls begun Cut n second l so_far heap) in
        then_cut _ next cutting (λ K t halt site h k. k l) (test_reached types C calls begun reached c l a)
        (λ holds k. either_reached types C calls begun reached next cutting holds _ _ (λ k. run_reached n first l k) (λ k. run_reached n second l k) k) h
    run_reached {s = s} {r = r} {s' = s'} n (loop site c body after_body) l h =
        close_statement n (loop site c body after_body) l (λ Cut so_far c. inl c) (λ Cut so_far c. inr c)
        (loops_reached site c (ReplaysStatement types C n body) (ReplaysStatement types C n after_body) (Executes see types calls None n body) (Executes see types calls None n after_body)
        (λ Cut. IsCutInStatement types calls begun Cut n body) (λ Cut. IsCutInStatement types calls begun Cut n after_body) (λ l s r s' h. run_reached n body l h) (λ l s r s' h. run_reached n after_body l h) n 0 l s r s' h)
    run_reached n break l h = answers_reached (Ok (Breaks, l)) (λ so_far K k. k) h
    run_reached n continue l h = answers_reached (Ok (Continues, l)) (λ so_far K k. k) h
    run_reached n (return e) l h = gives_reached e l h
    run_reached n (evaluate e) l (r1, s1, a, h) =
        then_last _ (λ K. (failing see types calls l K, λ so_far v heap. K so_far falls l heap)) (λ K t halt site h k. k l) (passed_reached types C calls begun reached (an_expression e no_expressions) l a)
        (λ v k. falls_reached l (λ so_far K k. k) k) h
    run_reached n (access p parts field t site) l h = close_statement n (access p parts field t site) l (λ Cut so_far c. inl c) (λ Cut so_far c. inr c) (accesses_reached p parts t site l h)

    pub runs_reached : {s : PlainScript} {r : Result Ended Stop} {s' : PlainScript} → (n : ℕ) (sts : Statements) (l : Locals) → ReplaysStatements types C n sts l s r s' → RunAll n sts l s r s'
    runs_reached n no_statements l h = falls_reached l (λ so_far K k. k) h
    runs_reached n (a_statement st rest) l (r1, s1, a, h) =
        let on : Behind = λ K so_far l heap. ExecutesAll see types calls None n rest l so_far heap K in
        let cuts : CutsAfter = λ Cut so_far l heap. IsCutInStatements types calls begun Cut n rest l so_far heap in
        then_cut _ (λ K. with_fall K (on K)) (λ Cut. with_fall no_exit (cuts Cut)) (λ K t halt site h k. k) (run_reached n st l a) (λ x k. fall_reached _ on cuts x (λ l k. runs_reached n rest l k) k) h
