-- What the replay of expressions and conditions takes of a script is reached by their executions.
use Rattle.std.specs.Bool.{⊤}
use Rattle.std.proofs.Common.{◌≡◌, ℕ, Bool, true, false, List, [], ◌∷◌, ◌++◌, Option, Some, None, Result, Ok, Err, IsSomeAnd, ◌⊎◌, inl, inr, refl, subst, pos}
use Rattle.px_base.specs.declared.trace.Site.{Site}
use Rattle.px_base.specs.declared.trace.Mark.{Mark}
use Rattle.px_base.specs.declared.trace.ProcId.{ProcId}
use Rattle.px_base.specs.declared.trace.FieldId.{FieldId}
use Rattle.px_base.specs.declared.trace.Kind.TheVariants.{NullDereference, UseAfterFree, UninitialisedRead}
use Rattle.px_base.specs.declared.trace.MarkKind.TheVariants.{Then, Else, NoBlock, Access, Enter, Leave}
use Rattle.px_core.specs.declared.command.Operator.TheVariants.{Neg}
use Rattle.px_core.specs.declared.command.Comparison.TheVariants.{Unequal, OtherPlace}
use Rattle.px_meaning.specs.Values.{TypeId, BlockType, Value, Word, Null, Block, Unwritten}
use Rattle.px_meaning.specs.Heaps.{HeapMap, HeapBlock}
use Rattle.px_meaning.specs.Calls.{Halt, error, outside, Ending, Returned, Failed}
use Rattle.px_meaning.specs.Execution.{Locals}
use Rattle.px_meaning.specs.Events.{Event, marks, reads, makes, mark}
use Rattle.px_meaning.specs.Operations.{value_at, result_of, Holds, Fails, on_words}
use Rattle.px_meaning.specs.Steps.{ProcedureCalls, marking, by_written, new_block}
use Rattle.px_meaning.specs.TreeExecution.{gives, errs, Outcomes, with_value, by_outcome, yes, no, fault, Verdicts, with_verdict, RelationHolds, RelationFails, Uses, Loads, Reaches as Gets, Returns, CallsProcedure, Branches, Evaluates, EvaluatesAll, PassesAll, Tests, Outcome, calculation}
use Rattle.px_syntax.specs.declared.typed_expression.Relation.{Relation}
use Rattle.px_syntax.specs.declared.typed_expression.Relation.TheVariants as relation
use Rattle.px_syntax.specs.TypedTree.{Expression, constant, null, local, negated, arithmetic, truth, cell, allocate, get_char, call, stop, Expressions, no_expressions, an_expression, Arguments, no_arguments, an_argument, passed, erased, Condition, compare, word, pointer, both, either, opposite}
use Rattle.px_syntax.specs.declared.typed_expression.Arithmetic.{Arithmetic}
use Rattle.px_replay.specs.declared.stop.Stop.{Stop}
use Rattle.px_replay.specs.declared.stop.Stop.TheVariants as stop
use Rattle.px_replay.specs.Beginnings.{see, CallBeginnings, no_error, no_branch, after_value, after_halt, after_test, IsCutInCall, IsCutIn, IsCutInAll, IsCutInPassed, IsCutInTest}
use Rattle.px_replay.specs.Following.{IsTaken}
use Rattle.px_replay.specs.Laws.{EndsSo}
use Rattle.px_replay.specs.Operations.{or_departs, used_value, IsOutcome, or_stops, calculates}
use Rattle.px_replay.specs.Script.{PlainScript, Act, behind, answers, goes_on, and_then, either_act, marked, takes_input, allocates}
use Rattle.px_replay.specs.TreeReplay.{CallReplays, loads, reaches, branches, calls_procedure, Replays, ReplaysAll, PassesAll as Passes, Checks}
use Rattle.px_replay.proofs.Confine.{Errors, Answers, Goals, Reached}
use Rattle.px_replay.proofs.ConfineForms.{outcomes, ways, verdict_of, verdicts}
use Rattle.px_replay.proofs.Consumed.{Consumes, consumes_mark, consumes_input, consumes_block, consumes_append}
use Rattle.px_meaning.proofs.Steps.{pointer_more}
use Rattle.px_replay.proofs.ReachActs.{IsDone, never, Cuts, no_cuts, Reaches, moved, answers_reached, departs_reached, mark_reached, close, more_cuts, then_reached, then_cut, then_last, then_done, leads_to}

-- ---- answers

-- a value where there is one
pub some_reached : {Last : Result Value Stop → Type 0} {s : PlainScript} {r : Result Value Stop} {s' : PlainScript} → (o : Option Value) → answers (or_departs o) s r s' → Reaches outcomes Last (λ so_far heap K. IsSomeAnd o (λ v. K so_far (gives v) heap)) no_cuts s r s'
some_reached (Some v) h = answers_reached (Ok v) (λ so_far K k. k) h
some_reached None h = departs_reached h

-- what an operator makes of two values
calculated_leads : (o : Outcome) (so_far : List Event) (K : Outcomes Event) (heap : HeapMap) → Reached (outcomes.on_error K) (outcomes.on_answer K) so_far (or_stops (Some o)) heap → K so_far o heap
calculated_leads (gives v) so_far K heap h = h
calculated_leads (errs (error kind) site) so_far K heap h = h
calculated_leads (errs (outside n) site) so_far K heap h = absurd h

pub calculated_reached : {Last : Result Value Stop → Type 0} {s : PlainScript} {r : Result Value Stop} {s' : PlainScript} → (op : Arithmetic) (x y : Value) → answers (calculates op x y) s r s' →
    Reaches outcomes Last (λ so_far heap K. IsSomeAnd (on_words (calculation op) x y) (λ o. K so_far o heap)) no_cuts s r s'
calculated_reached {Last} {s} {r} {s'} op x y h = by (on_words (calculation op) x y) h
  where
    by : (o : Option Outcome) → answers (or_stops o) s r s' → Reaches outcomes Last (λ so_far heap K. IsSomeAnd o (λ o. K so_far o heap)) no_cuts s r s'
    by (Some o) h = answers_reached (or_stops (Some o)) (λ so_far K k. calculated_leads o so_far K s.heap k) h
    by None h = departs_reached h

-- a value that is used
pub used_done : (v : Value) (site : Site) → IsDone (used_value v site)
used_done (Word z) site = _
used_done Null site = _
used_done (Block n) site = _
used_done Unwritten site = _

pub used_leads : (v : Value) (site : Site) (so_far : List Event) (K : Outcomes Event) (heap : HeapMap) → Reached (outcomes.on_error K) (outcomes.on_answer K) so_far (used_value v site) heap →
    by_written v (K so_far (gives v) heap) (K so_far (errs (error UninitialisedRead) site) heap)
used_leads (Word z) site so_far K heap h = h
used_leads Null site so_far K heap h = h
used_leads (Block n) site so_far K heap h = h
used_leads Unwritten site so_far K heap h = h

not_taken : (heap : HeapMap) (n : ℕ) → (IsTaken heap n → ⊥) → heap n ≡ None
not_taken heap n h = at (heap n) refl
  where
    at : (o : Option HeapBlock) → heap n ≡ o → heap n ≡ None
    at None e = e
    at (Some b) e = absurd (h (b, e))

-- a call took some events of the script; it ends by them as its answer says, and it can be cut after them
pub record CallReached (calls : ProcedureCalls Event) (begun : CallBeginnings) (f : ℕ) (arguments : List Value) (s : PlainScript) (r : Result Value Stop) (s' : PlainScript) : Type 0 where
  pub events : List Event
  pub takes : Consumes s s' events
  pub ends : (ending : Ending) → EndsSo r ending → calls f arguments s.heap events ending s'.heap
  pub cut : (events ≡ []) ⊎ begun f arguments s.heap events

module _ (types : List BlockType) (C : CallReplays) (calls : ProcedureCalls Event) (begun : CallBeginnings)
    (reached : (f : ℕ) (arguments : List Value) (s : PlainScript) (r : Result Value Stop) (s' : PlainScript) → C f arguments s r s' → CallReached calls begun f arguments s r s') where
  -- ---- acts that expressions and statements share

  pub uses_reached : {Last : Result Value Stop → Type 0} {s : PlainScript} {r : Result Value Stop} {s' : PlainScript} → (v : Value) (site : Site) → answers (used_value v site) s r s' →
      Reaches outcomes Last (λ so_far heap K. Uses see types calls v site so_far heap K) no_cuts s r s'
  uses_reached {s = s} v site h = answers_reached (used_value v site) (λ so_far K k. used_leads v site so_far K s.heap k) h

  pub loads_reached : {s : PlainScript} {r : Result Value Stop} {s' : PlainScript} → (p : Value) (field : FieldId) (t : TypeId) (site : Site) → loads p field t site s r s' → Reaches outcomes IsDone (Loads see types calls p field t site) no_cuts s r s'
  loads_reached {s = s} {r = r} {s' = s'} p field t site (inl h) =
      leads_to (Reaches outcomes IsDone (Loads see types calls p field t site) no_cuts s r s') s.heap t.0 p
      (marked Access site (answers (Err (stop.Failed NullDereference site))) s r s') (marked Access site (answers (Err (stop.Failed UseAfterFree site))) s r s')
      (λ n cells. marked Access site (answers (used_value (value_at cells field.0) site)) s r s')
      (λ h to. mark_reached Access site (Err (stop.Failed NullDereference site)) _ _ (λ so_far K k. to _ _ _ k) h)
      (λ h to. mark_reached Access site (Err (stop.Failed UseAfterFree site)) _ _ (λ so_far K k. to _ _ _ k) h)
      (λ n cells taken h to. mark_reached Access site (used_value (value_at cells field.0) site) _ (used_done (value_at cells field.0) site)
      (λ so_far K k. to _ _ _ (used_leads (value_at cells field.0) site (so_far ++ marking see Access site) K s.heap k)) h) h
  loads_reached p field t site (inr (o, h)) = departs_reached h

  -- a cell that is reached and not read
  pub gets_reached : {s : PlainScript} {r : Result ⊤ Stop} {s' : PlainScript} → (p : Value) (t : TypeId) (site : Site) → reaches p t site s r s' →
      Reaches (ways ⊤) IsDone (λ so_far heap K. Gets see types calls p t site so_far heap K.0 (λ so_far heap. K.1 so_far tt heap)) no_cuts s r s'
  gets_reached {s = s} {r = r} {s' = s'} p t site (inl h) =
      leads_to (Reaches (ways ⊤) IsDone (λ so_far heap K. Gets see types calls p t site so_far heap K.0 (λ so_far heap. K.1 so_far tt heap)) no_cuts s r s') s.heap t.0 p
      (marked Access site (answers (Err (stop.Failed NullDereference site))) s r s') (marked Access site (answers (Err (stop.Failed UseAfterFree site))) s r s')
      (λ n cells. marked Access site (answers (Ok tt)) s r s')
      (λ h to. mark_reached Access site (Err (stop.Failed NullDereference site)) _ _ (λ so_far K k. to _ _ _ k) h)
      (λ h to. mark_reached Access site (Err (stop.Failed UseAfterFree site)) _ _ (λ so_far K k. to _ _ _ k) h)
      (λ n cells taken h to. mark_reached Access site (Ok tt) _ _ (λ so_far K k. to _ _ _ k) h) h
  gets_reached p t site (inr (o, h)) = departs_reached h

  -- the same, which can be cut right after it
  gets_cut : {s : PlainScript} {r : Result ⊤ Stop} {s' : PlainScript} → (p : Value) (t : TypeId) (site : Site) → reaches p t site s r s' →
      Reaches (ways ⊤) never (λ so_far heap K. Gets see types calls p t site so_far heap K.0 (λ so_far heap. K.1 so_far tt heap))
      (λ Cut so_far heap. Gets see types calls p t site so_far heap (after_halt types calls begun Cut) (λ so_far heap. Cut so_far)) s r s'
  gets_cut p t site h =
      close (λ Cut. (after_halt types calls begun Cut, λ so_far v heap. Cut so_far)) (λ Cut t v h c. c) (λ Cut t halt at h c. c) (λ Cut so_far c. absurd c) (λ Cut so_far c. c) (gets_reached p t site h)

  -- where more is asked of what comes of it
  gets_more : (heap : HeapMap) (t : TypeId) (p : Value) (so_far : List Event) (site : Site) (err err' : Errors) (on on' : List Event → HeapMap → Type 0) → ((a : List Event) (halt : Halt) (at : Site) (h : HeapMap) → err a halt at h → err' a halt at h) →
      ((a : List Event) (h : HeapMap) → on a h → on' a h) → Gets see types calls p t site so_far heap err on → Gets see types calls p t site so_far heap err' on'
  gets_more heap t p so_far site err err' on on' e f k =
      let a = so_far ++ marking see Access site in
      pointer_more heap t.0 p (err a (error NullDereference) site heap) (err' a (error NullDereference) site heap) (err a (error UseAfterFree) site heap) (err' a (error UseAfterFree) site heap) (λ n cells. on a heap) (λ n cells. on' a heap)
      (λ k. e a (error NullDereference) site heap k) (λ k. e a (error UseAfterFree) site heap k) (λ n cells k. f a heap k) k

  -- the same of a call
  calls_more : (proc : ProcId) (site : Site) (vs : List Value) (so_far : List Event) (heap : HeapMap) (err err' : Errors) (on on' : Answers Value) → ((a : List Event) (halt : Halt) (at : Site) (h : HeapMap) → err a halt at h → err' a halt at h) →
      ((a : List Event) (v : Value) (h : HeapMap) → on a v h → on' a v h) → CallsProcedure see types calls proc site vs so_far heap err on → CallsProcedure see types calls proc site vs so_far heap err' on'
  calls_more proc site vs so_far heap err err' on on' e f (t, ending, heap', c, k) = (t, ending, heap', c, by ending k)
    where
      by : (ending : Ending) → Returns see types calls proc site so_far t heap' err on ending → Returns see types calls proc site so_far t heap' err' on' ending
      by (Returned v) k = f (so_far ++ (marking see (Enter proc) site ++ (t ++ marking see Leave site))) v heap' k
      by (Failed halt at) k = e (so_far ++ (marking see (Enter proc) site ++ t)) halt at heap' k

  branches_reached : {s : PlainScript} {r : Result Bool Stop} {s' : PlainScript} → (q : Relation) (x y : Value) (site : Site) (o : Result Bool Stop) → IsOutcome q x y o → branches site o s r s' →
      Reaches verdicts IsDone (Branches see types calls (RelationHolds q x y) (RelationFails q x y) site) no_cuts s r s'
  branches_reached q x y site (Ok true) holds h = mark_reached Then site (Ok true) _ _ (λ so_far K k. inl (holds, k)) h
  branches_reached q x y site (Ok false) not h = mark_reached Else site (Ok false) _ _ (λ so_far K k. inr (not, k)) h
  branches_reached q x y site (Err stop.Departs) neither h = departs_reached h
  branches_reached q x y site (Err (stop.Failed kind at)) none h = absurd none
  branches_reached q x y site (Err stop.NoMemory) none h = absurd none

  allocates_reached : {s : PlainScript} {r : Result Value Stop} {s' : PlainScript} → (t : TypeId) (site : Site) (l : Locals) → allocates types t site s r s' → Reaches outcomes IsDone (Evaluates see types calls (allocate t site) l) no_cuts s r s'
  allocates_reached {s = s} t site l (inl (rest, e, (f, g))) = moved f g (record {
    events = marks (mark NoBlock site) ∷ [];
    takes = consumes_mark s rest NoBlock site _ e;
    leads = λ so_far K h. inl h;
    begun = λ so_far Cut c. inr (inr _);
  })
  allocates_reached {s = s} t site l (inr (inl (rest, n, e, least, (f, g)))) = moved f g (record {
    events = makes site n ∷ [];
    takes = consumes_block s rest site n (new_block types t.0) e least;
    leads = λ so_far K h. inr (n, not_taken s.heap n least.0, h);
    begun = λ so_far Cut c. inr (inr _);
  })
  allocates_reached t site l (inr (inr (o, o', h))) = departs_reached h

  pub input_reached : {s : PlainScript} {r : Result Value Stop} {s' : PlainScript} → (site : Site) (l : Locals) → takes_input site s r s' → Reaches outcomes IsDone (Evaluates see types calls (get_char site) l) no_cuts s r s'
  input_reached {s = s} {s' = s'} site l (inl (z, has, e)) = moved e refl (record {
    events = reads site z ∷ [];
    takes = consumes_input site s s' z has;
    leads = λ so_far K h. (z, has.3, has.4, subst (λ heap. K (so_far ++ reads site z ∷ []) (gives (Word z)) heap) has.2 h);
    begun = λ so_far Cut c. inr (inr _);
  })
  input_reached site l (inr (o, h)) = departs_reached h

  -- ---- calls

  -- a call that took a part of its script, and can be cut in its callee
  abbrev Call : ProcId → Site → List Value → PlainScript → Result Value Stop → PlainScript → Type 1
  Call proc site vs = Reaches (ways Value) IsDone (λ so_far heap K. CallsProcedure see types calls proc site vs so_far heap K.0 K.1) (λ Cut so_far heap. IsCutInCall types calls begun Cut proc site so_far vs heap)

  -- a callee that fails ends the call
  failed_call : (proc : ProcId) (site : Site) (vs : List Value) (so_far t : List Event) (heap heap' : HeapMap) (err : Errors) (on : Answers Value) (e : Stop) → ((ending : Ending) → EndsSo (Err e) ending → calls proc.0 vs heap t ending heap') →
      Reached err on (so_far ++ (marking see (Enter proc) site ++ t)) (Err e) heap' → CallsProcedure see types calls proc site vs so_far heap err on
  failed_call proc site vs so_far t heap heap' err on (stop.Failed kind at) ends h = (t, Failed (error kind) at, heap', ends (Failed (error kind) at) refl, h)
  failed_call proc site vs so_far t heap heap' err on stop.Departs ends h = absurd h
  failed_call proc site vs so_far t heap heap' err on stop.NoMemory ends h = absurd h

  -- the entry and what the callee did, with no return after it
  entered : {r1 r : Result Value Stop} {s1 s' : PlainScript} → (proc : ProcId) (site : Site) (vs : List Value) (s : PlainScript) (rest : List Mark) (e : Stop) → s.marks ≡ mark (Enter proc) site ∷ rest → (q : CallReached calls begun proc.0 vs (behind s rest s.heap) r1 s1) →
      ((so_far : List Event) (K : Errors × Answers Value) → Reached K.0 K.1 (so_far ++ (marking see (Enter proc) site ++ q.events)) (Err e) s1.heap → CallsProcedure see types calls proc site vs so_far s.heap K.0 K.1) →
      answers (Err e) s1 r s' → Call proc site vs s r s'
  entered {s1 = s1} proc site vs s rest e m q to (f, g) = moved f g (record {
    events = marks (mark (Enter proc) site) ∷ q.events;
    takes = consumes_append s (behind s rest s.heap) s1 (marks (mark (Enter proc) site) ∷ []) q.events (consumes_mark s rest (Enter proc) site _ m) q.takes;
    leads = to;
    begun = λ so_far Cut c. elim q.cut [
      | inl none ↦ inr (inl (inl (subst (λ t. Cut (so_far ++ (marks (mark (Enter proc) site) ∷ t))) none c)))
      | inr b ↦ inr (inl (inr (q.events, b, c)))
    ];
  })

  comes_back : {r : Result Value Stop} {s' : PlainScript} → (proc : ProcId) (site : Site) (vs : List Value) (s : PlainScript) (rest : List Mark) (r1 : Result Value Stop) (s1 : PlainScript) → s.marks ≡ mark (Enter proc) site ∷ rest →
      CallReached calls begun proc.0 vs (behind s rest s.heap) r1 s1 → goes_on (λ v. marked Leave site (answers (Ok v))) r1 s1 r s' → Call proc site vs s r s'
  comes_back proc site vs s rest (Ok v) s1 m q (inl (rest', n, (f, g))) = moved f g (record {
    events = marks (mark (Enter proc) site) ∷ (q.events ++ marks (mark Leave site) ∷ []);
    takes =
        consumes_append s (behind s rest s.heap) (behind s1 rest' s1.heap) (marks (mark (Enter proc) site) ∷ []) (q.events ++ marks (mark Leave site) ∷ []) (consumes_mark s rest (Enter proc) site _ m)
        (consumes_append (behind s rest s.heap) s1 (behind s1 rest' s1.heap) q.events (marks (mark Leave site) ∷ []) q.takes (consumes_mark s1 rest' Leave site _ n));
    leads = λ so_far K h. (q.events, Returned v, s1.heap, q.ends (Returned v) refl, h);
    begun = λ so_far Cut c. inr (inr _);
  })
  comes_back proc site vs s rest (Ok v) s1 m q (inr (o, h)) = entered proc site vs s rest stop.Departs m q (λ so_far K k. absurd k) h
  comes_back proc site vs s rest (Err e) s1 m q h = entered proc site vs s rest e m q (λ so_far K k. failed_call proc site vs so_far q.events s.heap s1.heap K.0 K.1 e q.ends k) h

  pub call_reached : {s : PlainScript} {r : Result Value Stop} {s' : PlainScript} → (proc : ProcId) (site : Site) (vs : List Value) → calls_procedure types C proc site vs s r s' → Call proc site vs s r s'
  call_reached {s = s} proc site vs (inl (rest, m, (r1, s1, c, k))) = comes_back proc site vs s rest r1 s1 m (reached proc.0 vs (behind s rest s.heap) r1 s1 c) k
  call_reached proc site vs (inr (o, h)) = departs_reached h

  -- a call that can be cut right after it
  calls_cut : {s : PlainScript} {r : Result Value Stop} {s' : PlainScript} → (proc : ProcId) (site : Site) (vs : List Value) → calls_procedure types C proc site vs s r s' →
      Reaches (ways Value) never (λ so_far heap K. CallsProcedure see types calls proc site vs so_far heap K.0 K.1)
      (λ Cut so_far heap. IsCutInCall types calls begun Cut proc site so_far vs heap ⊎ CallsProcedure see types calls proc site vs so_far heap (after_halt types calls begun Cut) (λ so_far v heap. Cut so_far)) s r s'
  calls_cut proc site vs h =
      close (λ Cut. (after_halt types calls begun Cut, λ so_far v heap. Cut so_far)) (λ Cut t v h c. c) (λ Cut t halt at h c. c) (λ Cut so_far c. inl c) (λ Cut so_far c. inr c) (call_reached proc site vs h)

  -- ---- expressions and conditions

  abbrev pub Eval : Expression → Locals → PlainScript → Result Value Stop → PlainScript → Type 1
  Eval e l = Reaches outcomes never (Evaluates see types calls e l) (λ Cut so_far heap. IsCutIn types calls begun Cut e l so_far heap)

  abbrev pub EvalAll : Arguments → Locals → PlainScript → Result (List Value) Stop → PlainScript → Type 1
  EvalAll es l = Reaches (ways (List Value)) never (λ so_far heap K. EvaluatesAll see types calls es l so_far heap K.0 K.1) (λ Cut so_far heap. IsCutInAll types calls begun Cut es l so_far heap)

  abbrev pub PassAll : Expressions → Locals → PlainScript → Result ⊤ Stop → PlainScript → Type 1
  PassAll es l = Reaches (ways ⊤) never (λ so_far heap K. PassesAll see types calls es l so_far heap K.0 (λ so_far heap. K.1 so_far tt heap)) (λ Cut so_far heap. IsCutInPassed types calls begun Cut es l so_far heap)

  abbrev pub Test : Condition → Locals → PlainScript → Result Bool Stop → PlainScript → Type 1
  Test c l = Reaches verdicts never (Tests see types calls c l) (λ Cut so_far heap. IsCutInTest types calls begun Cut c l so_far heap)

  -- the cut may be after the whole
  close_value : {cuts : Cuts} {s : PlainScript} {r : Result Value Stop} {s' : PlainScript} → (e : Expression) (l : Locals) → ((Cut : List Event → Type 0) (so_far : List Event) → cuts Cut so_far s.heap → IsCutIn types calls begun Cut e l so_far s.heap) →
      ((Cut : List Event → Type 0) (so_far : List Event) → Evaluates see types calls e l so_far s.heap (after_value types calls begun Cut) → IsCutIn types calls begun Cut e l so_far s.heap) →
      Reaches outcomes IsDone (Evaluates see types calls e l) cuts s r s' → Eval e l s r s'
  close_value e l inside last p = close (λ Cut. after_value types calls begun Cut) (λ Cut t x h c. c) (λ Cut t halt at h c. c) inside last p

  close_test : {cuts : Cuts} {s : PlainScript} {r : Result Bool Stop} {s' : PlainScript} → (c : Condition) (l : Locals) → ((Cut : List Event → Type 0) (so_far : List Event) → cuts Cut so_far s.heap → IsCutInTest types calls begun Cut c l so_far s.heap) →
      ((Cut : List Event → Type 0) (so_far : List Event) → Tests see types calls c l so_far s.heap (after_test types calls begun Cut) → IsCutInTest types calls begun Cut c l so_far s.heap) →
      Reaches verdicts IsDone (Tests see types calls c l) cuts s r s' → Test c l s r s'
  close_test c l inside last p = close (λ Cut. after_test types calls begun Cut) (λ Cut t holds h c. c) (λ Cut t halt at h c. c) inside last p

  -- a goal of conditions that nothing comes to
  abbrev nowhere : Verdicts Event
  nowhere so_far verdict heap = ⊥

  -- one act or the other, by a condition
  pub either_reached : {B : Type 0} {H : Goals B} {Last : Result B Stop → Type 0} {s : PlainScript} {r : Result B Stop} {s' : PlainScript} → (next : H.Goal → Verdicts Event) (cutting : (List Event → Type 0) → Verdicts Event) (holds : Bool) (first second : Act B) →
      (first s r s' → Reaches H Last (λ so_far heap K. next K so_far yes heap) (λ Cut so_far heap. cutting Cut so_far yes heap) s r s') →
      (second s r s' → Reaches H Last (λ so_far heap K. next K so_far no heap) (λ Cut so_far heap. cutting Cut so_far no heap) s r s') → either_act holds first second s r s' →
      Reaches H Last (λ so_far heap K. next K so_far (verdict_of holds) heap) (λ Cut so_far heap. cutting Cut so_far (verdict_of holds) heap) s r s'
  either_reached next cutting true first second f g h = f h
  either_reached next cutting false first second f g h = g h

  mutual
    pub eval_reached : {s : PlainScript} {r : Result Value Stop} {s' : PlainScript} → (e : Expression) (l : Locals) → Replays types C e l s r s' → Eval e l s r s'
    eval_reached (constant z) l h = answers_reached (Ok (Word z)) (λ so_far K k. k) h
    eval_reached null l h = answers_reached (Ok Null) (λ so_far K k. k) h
    eval_reached (local n site) l h = uses_reached (l n) site h
    eval_reached (negated e) l (r1, s1, a, h) =
        then_last _ (λ K. with_value K (λ so_far x heap. IsSomeAnd (result_of Neg x (Word (pos 0))) (λ v. K so_far (gives v) heap))) (λ K t halt at h k. k) (eval_reached e l a) (λ x k. some_reached (result_of Neg x (Word (pos 0))) k) h
    eval_reached (arithmetic op d e) l (r1, s1, a, h) =
        then_cut _ (λ K. with_value K (λ so_far x heap. Evaluates see types calls e l so_far heap (with_value K (λ so_far y heap. IsSomeAnd (on_words (calculation op) x y) (λ o. K so_far o heap)))))
        (λ Cut. by_outcome no_error (λ so_far x heap. IsCutIn types calls begun Cut e l so_far heap)) (λ K t halt at h k. k) (eval_reached d l a)
        (λ x (r2, s2, b, h). then_last _ (λ K. with_value K (λ so_far y heap. IsSomeAnd (on_words (calculation op) x y) (λ o. K so_far o heap))) (λ K t halt at h k. k) (eval_reached e l b)
        (λ y k. calculated_reached op x y k) h) h
    eval_reached (truth c) l (r1, s1, a, h) =
        let next : Outcomes Event → Verdicts Event = λ K. with_verdict (λ so_far halt at heap. K so_far (errs halt at) heap) (λ so_far heap. K so_far (gives (Word (pos 1))) heap) (λ so_far heap. K so_far (gives (Word (pos 0))) heap) in
        then_last _ next (λ K t halt at h k. k) (test_reached c l a)
        (λ holds k. either_reached next (λ Cut. nowhere) holds _ _ (λ k. answers_reached (Ok (Word (pos 1))) (λ so_far K k. k) k) (λ k. answers_reached (Ok (Word (pos 0))) (λ so_far K k. k) k) k) h
    eval_reached (cell p field t site) l (r1, s1, a, h) =
        close_value (cell p field t site) l (λ Cut so_far c. inl c) (λ Cut so_far c. inr c)
        (then_last _ (λ K. with_value K (λ so_far x heap. Loads see types calls x field t site so_far heap K)) (λ K t halt at h k. k) (eval_reached p l a) (λ x k. loads_reached x field t site k) h)
    eval_reached (allocate t site) l h = close_value (allocate t site) l (λ Cut so_far c. absurd c) (λ Cut so_far c. c) (allocates_reached t site l h)
    eval_reached (get_char site) l h = close_value (get_char site) l (λ Cut so_far c. absurd c) (λ Cut so_far c. c) (input_reached site l h)
    eval_reached (call proc es result site) l (r1, s1, a, h) =
        close_value (call proc es result site) l (λ Cut so_far c. elim c [ inl c ↦ inl c | inr c ↦ inr (inl c) ]) (λ Cut so_far c. inr (inr c))
        (then_cut _ (λ K. (
          λ so_far halt at heap. K so_far (errs halt at) heap,
          λ so_far vs heap. CallsProcedure see types calls proc site vs so_far heap (λ so_far halt at heap. K so_far (errs halt at) heap) (λ so_far v heap. Uses see types calls v site so_far heap K),
        ))
        (λ Cut. (no_error, IsCutInCall types calls begun Cut proc site)) (λ K t halt at h k. k) (all_reached es l a)
        (λ vs (r2, s2, b, h). then_done (λ v. used_value v site) (λ K. (λ so_far halt at heap. K so_far (errs halt at) heap, λ so_far v heap. Uses see types calls v site so_far heap K)) (λ K t halt at h k. k)
        (λ v. used_done v site) (λ v so_far K k. used_leads v site so_far K s2.heap k) (call_reached proc site vs b) h) h)
    eval_reached (stop number site parts) l (r1, s1, a, h) =
        then_last _ (λ K. (λ so_far halt at heap. K so_far (errs halt at) heap, λ so_far v heap. K so_far (errs (outside number) site) heap)) (λ K t halt at h k. k) (passed_reached parts l a) (λ v k. departs_reached k) h

    pub passed_reached : {s : PlainScript} {r : Result ⊤ Stop} {s' : PlainScript} → (es : Expressions) (l : Locals) → Passes types C es l s r s' → PassAll es l s r s'
    passed_reached no_expressions l h = answers_reached (Ok tt) (λ so_far K k. k) h
    passed_reached (an_expression (local n site) rest) l h = passed_reached rest l h
    passed_reached (an_expression (cell p field t site) rest) l (r1, s1, a, h) =
        then_cut _ (λ K. by_outcome K.0 (λ so_far x heap. Gets see types calls x t site so_far heap K.0 (λ so_far heap. PassesAll see types calls rest l so_far heap K.0 (λ so_far heap. K.1 so_far tt heap))))
        (λ Cut. by_outcome no_error (λ so_far x heap. Gets see types calls x t site so_far heap (after_halt types calls begun Cut) (λ so_far heap. Cut so_far ⊎ IsCutInPassed types calls begun Cut rest l so_far heap)))
        (λ K t halt at h k. k) (eval_reached p l a)
        (λ x (r2, s2, b, h). more_cuts
        (λ Cut so_far c. elim c [
          | inl c ↦ gets_more s1.heap t x so_far site (after_halt types calls begun Cut) (after_halt types calls begun Cut) (λ so_far heap. Cut so_far) (λ so_far heap. Cut so_far ⊎ IsCutInPassed types calls begun Cut rest l so_far heap) (λ a halt at h k. k) (λ a h k. inl k) c
          | inr c ↦
              gets_more s1.heap t x so_far site no_error (after_halt types calls begun Cut) (λ so_far heap. IsCutInPassed types calls begun Cut rest l so_far heap) (λ so_far heap. Cut so_far ⊎ IsCutInPassed types calls begun Cut rest l so_far heap)
              (λ a halt at h k. absurd k) (λ a h k. inr k) c
        ])
        (then_cut _ (λ K. (K.0, λ so_far v heap. PassesAll see types calls rest l so_far heap K.0 (λ so_far heap. K.1 so_far tt heap))) (λ Cut. (no_error, λ so_far v heap. IsCutInPassed types calls begun Cut rest l so_far heap)) (λ K t halt at h k. k)
        (gets_cut x t site b) (λ v k. passed_reached rest l k) h)) h
    passed_reached {s = s} {r = r} {s' = s'} (an_expression (call proc es result site) rest) l (r1, s1, a, h) =
        let next : Errors × Answers ⊤ → Errors × Answers (List Value) = λ K. (K.0, λ so_far vs heap. CallsProcedure see types calls proc site vs so_far heap K.0 (λ so_far v heap. PassesAll see types calls rest l so_far heap K.0 (λ so_far heap. K.1 so_far tt heap))) in
        let beyond_call : (List Event → Type 0) → List Event → List Value → HeapMap → Type 0 = λ Cut so_far vs heap.
        CallsProcedure see types calls proc site vs so_far heap (after_halt types calls begun Cut) (λ so_far v heap. Cut so_far ⊎ IsCutInPassed types calls begun Cut rest l so_far heap) in
        then_reached (ways (List Value)) (ways ⊤) next (λ K t halt at h k. k) never never (λ so_far heap K. EvaluatesAll see types calls es l so_far heap K.0 K.1) (λ Cut so_far heap. IsCutInAll types calls begun Cut es l so_far heap)
        (λ Cut so_far heap. IsCutInPassed types calls begun Cut (an_expression (call proc es result site) rest) l so_far heap)
        (λ vs Cut so_far heap. IsCutInCall types calls begun Cut proc site so_far vs heap ⊎ beyond_call Cut so_far vs heap) (λ vs. and_then (calls_procedure types C proc site vs) (λ v. Passes types C rest l)) s s1 s' r
        (λ Cut so_far c. inl c)
        (λ vs Cut so_far t to c. elim c [ inl c ↦ inr (inl (to (no_error, IsCutInCall types calls begun Cut proc site) c)) | inr c ↦ inr (inr (to (no_error, beyond_call Cut) c)) ])
        (λ vs a l. absurd l) (λ e l. absurd l)
        (λ vs (r2, s2, b, h). more_cuts
        (λ Cut so_far c. elim c [
          | inl (inl c) ↦ inl c
          | inl (inr c) ↦
              inr (calls_more proc site vs so_far s1.heap (after_halt types calls begun Cut) (after_halt types calls begun Cut) (λ so_far v heap. Cut so_far) (λ so_far v heap. Cut so_far ⊎ IsCutInPassed types calls begun Cut rest l so_far heap) (λ a halt at h k. k)
              (λ a v h k. inl k) c)
          | inr c ↦
              inr (calls_more proc site vs so_far s1.heap no_error (after_halt types calls begun Cut) (λ so_far v heap. IsCutInPassed types calls begun Cut rest l so_far heap) (λ so_far v heap. Cut so_far ⊎ IsCutInPassed types calls begun Cut rest l so_far heap)
              (λ a halt at h k. absurd k) (λ a v h k. inr k) c)
        ])
        (then_cut _ (λ K. (K.0, λ so_far v heap. PassesAll see types calls rest l so_far heap K.0 (λ so_far heap. K.1 so_far tt heap))) (λ Cut. (no_error, λ so_far v heap. IsCutInPassed types calls begun Cut rest l so_far heap)) (λ K t halt at h k. k)
        (calls_cut proc site vs b) (λ v k. passed_reached rest l k) h)) r1 (all_reached es l a) h
    passed_reached (an_expression (constant z) rest) l (r1, s1, a, h) =
        then_cut _ (λ K. by_outcome K.0 (λ so_far v heap. PassesAll see types calls rest l so_far heap K.0 (λ so_far heap. K.1 so_far tt heap)))
        (λ Cut. by_outcome no_error (λ so_far x heap. IsCutInPassed types calls begun Cut rest l so_far heap)) (λ K t halt at h k. k) (eval_reached (constant z) l a) (λ v k. passed_reached rest l k) h
    passed_reached (an_expression null rest) l (r1, s1, a, h) =
        then_cut _ (λ K. by_outcome K.0 (λ so_far v heap. PassesAll see types calls rest l so_far heap K.0 (λ so_far heap. K.1 so_far tt heap)))
        (λ Cut. by_outcome no_error (λ so_far x heap. IsCutInPassed types calls begun Cut rest l so_far heap)) (λ K t halt at h k. k) (eval_reached null l a) (λ v k. passed_reached rest l k) h
    passed_reached (an_expression (negated e) rest) l (r1, s1, a, h) =
        then_cut _ (λ K. by_outcome K.0 (λ so_far v heap. PassesAll see types calls rest l so_far heap K.0 (λ so_far heap. K.1 so_far tt heap)))
        (λ Cut. by_outcome no_error (λ so_far x heap. IsCutInPassed types calls begun Cut rest l so_far heap)) (λ K t halt at h k. k) (eval_reached (negated e) l a) (λ v k. passed_reached rest l k) h
    passed_reached (an_expression (arithmetic op x y) rest) l (r1, s1, a, h) =
        then_cut _ (λ K. by_outcome K.0 (λ so_far v heap. PassesAll see types calls rest l so_far heap K.0 (λ so_far heap. K.1 so_far tt heap)))
        (λ Cut. by_outcome no_error (λ so_far x heap. IsCutInPassed types calls begun Cut rest l so_far heap)) (λ K t halt at h k. k) (eval_reached (arithmetic op x y) l a) (λ v k. passed_reached rest l k) h
    passed_reached (an_expression (truth c) rest) l (r1, s1, a, h) =
        then_cut _ (λ K. by_outcome K.0 (λ so_far v heap. PassesAll see types calls rest l so_far heap K.0 (λ so_far heap. K.1 so_far tt heap)))
        (λ Cut. by_outcome no_error (λ so_far x heap. IsCutInPassed types calls begun Cut rest l so_far heap)) (λ K t halt at h k. k) (eval_reached (truth c) l a) (λ v k. passed_reached rest l k) h
    passed_reached (an_expression (allocate t site) rest) l (r1, s1, a, h) =
        then_cut _ (λ K. by_outcome K.0 (λ so_far v heap. PassesAll see types calls rest l so_far heap K.0 (λ so_far heap. K.1 so_far tt heap)))
        (λ Cut. by_outcome no_error (λ so_far x heap. IsCutInPassed types calls begun Cut rest l so_far heap)) (λ K t halt at h k. k) (eval_reached (allocate t site) l a) (λ v k. passed_reached rest l k) h
    passed_reached (an_expression (get_char site) rest) l (r1, s1, a, h) =
        then_cut _ (λ K. by_outcome K.0 (λ so_far v heap. PassesAll see types calls rest l so_far heap K.0 (λ so_far heap. K.1 so_far tt heap)))
        (λ Cut. by_outcome no_error (λ so_far x heap. IsCutInPassed types calls begun Cut rest l so_far heap)) (λ K t halt at h k. k) (eval_reached (get_char site) l a) (λ v k. passed_reached rest l k) h
    passed_reached (an_expression (stop number site parts) rest) l (r1, s1, a, h) =
        then_cut _ (λ K. by_outcome K.0 (λ so_far v heap. PassesAll see types calls rest l so_far heap K.0 (λ so_far heap. K.1 so_far tt heap)))
        (λ Cut. by_outcome no_error (λ so_far x heap. IsCutInPassed types calls begun Cut rest l so_far heap)) (λ K t halt at h k. k) (eval_reached (stop number site parts) l a) (λ v k. passed_reached rest l k) h

    pub all_reached : {s : PlainScript} {r : Result (List Value) Stop} {s' : PlainScript} → (es : Arguments) (l : Locals) → ReplaysAll types C es l s r s' → EvalAll es l s r s'
    all_reached no_arguments l h = answers_reached (Ok []) (λ so_far K k. k) h
    all_reached (an_argument (passed e) rest) l (r1, s1, a, h) =
        then_cut _ (λ K. by_outcome K.0 (λ so_far v heap. EvaluatesAll see types calls rest l so_far heap K.0 (λ so_far vs heap. K.1 so_far (v ∷ vs) heap)))
        (λ Cut. by_outcome no_error (λ so_far v heap. IsCutInAll types calls begun Cut rest l so_far heap)) (λ K t halt at h k. k) (eval_reached e l a)
        (λ v (r2, s2, b, h). then_last _ (λ K. (K.0, λ so_far vs heap. K.1 so_far (v ∷ vs) heap)) (λ K t halt at h k. k) (all_reached rest l b) (λ vs k. answers_reached (Ok (v ∷ vs)) (λ so_far K k. k) k) h) h
    all_reached (an_argument (erased parts) rest) l (r1, s1, a, h) =
        then_cut _ (λ K. (K.0, λ so_far v heap. EvaluatesAll see types calls rest l so_far heap K.0 K.1)) (λ Cut. (no_error, λ so_far v heap. IsCutInAll types calls begun Cut rest l so_far heap)) (λ K t halt at h k. k)
        (passed_reached parts l a) (λ v k. all_reached rest l k) h

    pub test_reached : {s : PlainScript} {r : Result Bool Stop} {s' : PlainScript} → (c : Condition) (l : Locals) → Checks types C c l s r s' → Test c l s r s'
    test_reached (compare q d e site) l (r1, s1, a, h) =
        close_test (compare q d e site) l (λ Cut so_far c. elim c [ inl c ↦ inl c | inr c ↦ inr (inl c) ]) (λ Cut so_far c. inr (inr c))
        (then_cut _ (λ K. by_outcome (λ so_far halt at heap. K so_far (fault halt at) heap) (λ so_far x heap.
        Evaluates see types calls e l so_far heap (by_outcome (λ so_far halt at heap. K so_far (fault halt at) heap) (λ so_far y heap. Branches see types calls (RelationHolds q x y) (RelationFails q x y) site so_far heap K))))
        (λ Cut. by_outcome no_error (λ so_far x heap. IsCutIn types calls begun Cut e l so_far heap)) (λ K t halt at h k. k) (eval_reached d l a)
        (λ x (r2, s2, b, h). then_last _ (λ K. by_outcome (λ so_far halt at heap. K so_far (fault halt at) heap) (λ so_far y heap. Branches see types calls (RelationHolds q x y) (RelationFails q x y) site so_far heap K)) (λ K t halt at h k. k)
        (eval_reached e l b) (λ y (o, is, k). branches_reached q x y site o is k) h) h)
    test_reached (word e site) l (r1, s1, a, h) =
        close_test (word e site) l (λ Cut so_far c. inl c) (λ Cut so_far c. inr c)
        (then_last _ (λ K. by_outcome (λ so_far halt at heap. K so_far (fault halt at) heap) (λ so_far x heap. Branches see types calls (Holds Unequal x (Word (pos 0))) (Fails Unequal x (Word (pos 0))) site so_far heap K)) (λ K t halt at h k. k)
        (eval_reached e l a) (λ x (o, is, k). branches_reached relation.Unequal x (Word (pos 0)) site o is k) h)
    test_reached (pointer e site) l (r1, s1, a, h) =
        close_test (pointer e site) l (λ Cut so_far c. inl c) (λ Cut so_far c. inr c)
        (then_last _ (λ K. by_outcome (λ so_far halt at heap. K so_far (fault halt at) heap) (λ so_far x heap. Branches see types calls (Holds OtherPlace x Null) (Fails OtherPlace x Null) site so_far heap K)) (λ K t halt at h k. k)
        (eval_reached e l a) (λ x (o, is, k). branches_reached relation.OtherPlace x Null site o is k) h)
    test_reached (both c d) l (r1, s1, a, h) =
        let next : Verdicts Event → Verdicts Event = λ K. with_verdict (λ so_far halt at heap. K so_far (fault halt at) heap) (λ so_far heap. Tests see types calls d l so_far heap K) (λ so_far heap. K so_far no heap) in
        let cutting : (List Event → Type 0) → Verdicts Event = λ Cut. with_verdict no_error (λ so_far heap. IsCutInTest types calls begun Cut d l so_far heap) no_branch in
        then_cut _ next cutting (λ K t halt at h k. k) (test_reached c l a)
        (λ holds k. either_reached next cutting holds _ _ (λ k. test_reached d l k) (λ k. answers_reached (Ok false) (λ so_far K k. k) k) k) h
    test_reached (either c d) l (r1, s1, a, h) =
        let next : Verdicts Event → Verdicts Event = λ K. with_verdict (λ so_far halt at heap. K so_far (fault halt at) heap) (λ so_far heap. K so_far yes heap) (λ so_far heap. Tests see types calls d l so_far heap K) in
        let cutting : (List Event → Type 0) → Verdicts Event = λ Cut. with_verdict no_error no_branch (λ so_far heap. IsCutInTest types calls begun Cut d l so_far heap) in
        then_cut _ next cutting (λ K t halt at h k. k) (test_reached c l a)
        (λ holds k. either_reached next cutting holds _ _ (λ k. answers_reached (Ok true) (λ so_far K k. k) k) (λ k. test_reached d l k) k) h
    test_reached (opposite c) l (r1, s1, a, h) =
        let next : Verdicts Event → Verdicts Event = λ K. with_verdict (λ so_far halt at heap. K so_far (fault halt at) heap) (λ so_far heap. K so_far no heap) (λ so_far heap. K so_far yes heap) in
        then_last _ next (λ K t halt at h k. k) (test_reached c l a)
        (λ holds k. either_reached next (λ Cut. nowhere) holds _ _ (λ k. answers_reached (Ok false) (λ so_far K k. k) k) (λ k. answers_reached (Ok true) (λ so_far K k. k) k) k) h
