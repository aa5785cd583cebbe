-- What was seen so far is the beginning of all that is seen, in the execution of a tree.
use Rattle.std.proofs.Common.{◌≡◌, ℕ, zero, suc, Option, Some, None, List, ◌++◌, slice_set, ◌∙◌, inl, inr, pos, append_assoc}
use Rattle.px_base.specs.declared.trace.Site.{Site}
use Rattle.px_base.specs.declared.trace.Kind.TheVariants.{NullDereference, UseAfterFree, DoubleFree, UninitialisedRead}
use Rattle.px_base.specs.declared.trace.MarkKind.TheVariants.{Access, Freed, FreeNull}
use Rattle.px_base.specs.declared.trace.ProcId.{ProcId}
use Rattle.px_base.specs.declared.trace.FieldId.{FieldId}
use Rattle.px_core.specs.declared.command.Operator.TheVariants.{Neg}
use Rattle.px_meaning.specs.Values.{TypeId, BlockType, Value, Word, Unwritten}
use Rattle.px_meaning.specs.Heaps.{HeapMap, with_block}
use Rattle.px_meaning.specs.Calls.{Halt, error, outside, Ending, Returned, Failed}
use Rattle.px_meaning.specs.Execution.{Locals, with_local}
use Rattle.px_meaning.specs.Events.{Event}
use Rattle.px_meaning.specs.Operations.{value_at, result_of, on_words}
use Rattle.px_meaning.specs.Steps.{ProcedureCalls, marking, live_block, freed_block}
use Rattle.px_syntax.specs.TypedTree.{Expression, constant, null, local, negated, arithmetic, truth, cell, allocate, get_char, call, stop, Expressions, no_expressions, an_expression, Arguments, no_arguments, an_argument, passed, erased, Condition, compare, word, pointer, both, either, opposite, Place, local_place, cell_place, Statement, block, declare, assign, update, run_call, free, input, choose, loop, break, continue, return, evaluate, access, Statements, no_statements, a_statement}
use Rattle.px_syntax.specs.declared.typed_expression.Arithmetic.{Arithmetic}
use Rattle.px_meaning.specs.TreeExecution.{gives, errs, Outcomes, with_value, by_outcome, yes, no, fault, Verdicts, with_verdict, Exit, falls, breaks, continues, returns, fails, Exits, with_fall, behind_body, Uses, Loads, calculation, Calculates, Reaches, Stores, Returns, CallsProcedure, Branches, Evaluates, EvaluatesAll, PassesAll, Tests, failing, Takes, Declares, Assigns, Updates, Frees, TestsIf, Loops, GivesBack, Executes, ExecutesAll}
use Rattle.px_meaning.proofs.Taken.{some_to, pointer_to, written_to}

abbrev pub Begins : {E : Type 0} → List E → List E → Type 0
Begins {E} t a = (r : List E) × (t ≡ a ++ r)

-- whatever is reached is a beginning of t
abbrev pub Opens : {E X : Type 0} → List E → (List E → X → HeapMap → Type 0) → Type 0
Opens {E} {X} t G = (a : List E) (x : X) (h : HeapMap) → G a x h → Begins t a

abbrev pub OpensErr : {E : Type 0} → List E → (List E → Halt → Site → HeapMap → Type 0) → Type 0
OpensErr {E} t G = (a : List E) (kind : Halt) (site : Site) (h : HeapMap) → G a kind site h → Begins t a

abbrev pub OpensOn : {E : Type 0} → List E → (List E → HeapMap → Type 0) → Type 0
OpensOn {E} t G = (a : List E) (h : HeapMap) → G a h → Begins t a

abbrev pub OpensExits : {E : Type 0} → List E → Exits E → Type 0
OpensExits {E} t G = (a : List E) (x : Exit) (l : Locals) (h : HeapMap) → G a x l h → Begins t a

pub shorter : {E : Type 0} (t so_far m : List E) → Begins t (so_far ++ m) → Begins t so_far
shorter t so_far m (r, e) = (m ++ r, e ∙ append_assoc so_far m r)

module _ {E : Type 0} (t : List E) where
  pub value_opens : (K : Outcomes E) (f : List E → Value → HeapMap → Type 0) → Opens t K → Opens t f → Opens t (with_value K f)
  value_opens K f o g a (gives v) h k = g a v h k
  value_opens K f o g a (errs kind site) h k = o a (errs kind site) h k

  pub outcome_opens : (err : List E → Halt → Site → HeapMap → Type 0) (f : List E → Value → HeapMap → Type 0) → OpensErr t err → Opens t f → Opens t (by_outcome err f)
  outcome_opens err f o g a (gives v) h k = g a v h k
  outcome_opens err f o g a (errs kind site) h k = o a kind site h k

  pub verdict_opens : (err : List E → Halt → Site → HeapMap → Type 0) (f g : List E → HeapMap → Type 0) → OpensErr t err → OpensOn t f → OpensOn t g → Opens t (with_verdict err f g)
  verdict_opens err f g o of og a yes h k = of a h k
  verdict_opens err f g o of og a no h k = og a h k
  verdict_opens err f g o of og a (fault kind site) h k = o a kind site h k

  pub fall_opens : (K : Exits E) (f : List E → Locals → HeapMap → Type 0) → OpensExits t K → ((a : List E) (l : Locals) (h : HeapMap) → f a l h → Begins t a) → OpensExits t (with_fall K f)
  fall_opens K f o g a falls l h k = g a l h k
  fall_opens K f o g a breaks l h k = o a breaks l h k
  fall_opens K f o g a continues l h k = o a continues l h k
  fall_opens K f o g a (returns v) l h k = o a (returns v) l h k
  fall_opens K f o g a (fails kind site) l h k = o a (fails kind site) l h k

module _ {E : Type 0} (seen : Event → E) (types : List BlockType) (C : ProcedureCalls E) (t : List E) where
  pub body_opens : (K : Exits E) (f : List E → Locals → HeapMap → Type 0) → OpensExits t K → ((a : List E) (l : Locals) (h : HeapMap) → f a l h → Begins t a) → OpensExits t (behind_body seen types C f K)
  body_opens K f o g a falls l h k = g a l h k
  body_opens K f o g a continues l h k = g a l h k
  body_opens K f o g a breaks l h k = o a falls l h k
  body_opens K f o g a (returns v) l h k = o a (returns v) l h k
  body_opens K f o g a (fails kind site) l h k = o a (fails kind site) l h k

  pub uses_begin : (v : Value) (site : Site) (so_far : List E) (heap : HeapMap) (K : Outcomes E) → Opens t K → Uses seen types C v site so_far heap K → Begins t so_far
  uses_begin v site so_far heap K o h = written_to v (K so_far (gives v) heap) (K so_far (errs (error UninitialisedRead) site) heap) (Begins t so_far) (o so_far (gives v) heap) (o so_far (errs (error UninitialisedRead) site) heap) h

  pub calculates_begin : (op : Arithmetic) (x y : Value) (so_far : List E) (heap : HeapMap) (K : Outcomes E) → Opens t K → Calculates seen types C op x y so_far heap K → Begins t so_far
  calculates_begin op x y so_far heap K o h = some_to (on_words (calculation op) x y) (λ r. K so_far r heap) (Begins t so_far) (λ r e. o so_far r heap) h

  pub loads_begin : (p : Value) (field : FieldId) (b : TypeId) (site : Site) (so_far : List E) (heap : HeapMap) (K : Outcomes E) → Opens t K → Loads seen types C p field b site so_far heap K → Begins t so_far
  loads_begin p field b site so_far heap K o h =
      pointer_to heap b.0 p (K (so_far ++ marking seen Access site) (errs (error NullDereference) site) heap) (K (so_far ++ marking seen Access site) (errs (error UseAfterFree) site) heap)
      (λ n cells. Uses seen types C (value_at cells field.0) site (so_far ++ marking seen Access site) heap K) (Begins t so_far)
      (λ h. shorter t so_far _ (o _ _ _ h)) (λ h. shorter t so_far _ (o _ _ _ h))
      (λ n cells e h. shorter t so_far _ (uses_begin (value_at cells field.0) site (so_far ++ marking seen Access site) heap K o h)) h

  pub reaches_begin : (p : Value) (b : TypeId) (site : Site) (so_far : List E) (heap : HeapMap) (err : List E → Halt → Site → HeapMap → Type 0) (on : List E → HeapMap → Type 0) →
      OpensErr t err → OpensOn t on → Reaches seen types C p b site so_far heap err on → Begins t so_far
  reaches_begin p b site so_far heap err on o g h =
      pointer_to heap b.0 p (err (so_far ++ marking seen Access site) (error NullDereference) site heap) (err (so_far ++ marking seen Access site) (error UseAfterFree) site heap)
      (λ n cells. on (so_far ++ marking seen Access site) heap) (Begins t so_far)
      (λ h. shorter t so_far _ (o _ _ _ _ h)) (λ h. shorter t so_far _ (o _ _ _ _ h)) (λ n cells e h. shorter t so_far _ (g _ _ h)) h

  pub stores_begin : (p : Value) (field : FieldId) (b : TypeId) (site : Site) (v : Value) (l : Locals) (so_far : List E) (heap : HeapMap) (K : Exits E) → OpensExits t K →
      Stores seen types C p field b site v l so_far heap K → Begins t so_far
  stores_begin p field b site v l so_far heap K o h =
      pointer_to heap b.0 p (K (so_far ++ marking seen Access site) (fails (error NullDereference) site) l heap) (K (so_far ++ marking seen Access site) (fails (error UseAfterFree) site) l heap)
      (λ n cells. K (so_far ++ marking seen Access site) falls l (with_block heap n (live_block b.0 (slice_set cells field.0 v)))) (Begins t so_far)
      (λ h. shorter t so_far _ (o _ _ _ _ h)) (λ h. shorter t so_far _ (o _ _ _ _ h)) (λ n cells e h. shorter t so_far _ (o _ _ _ _ h)) h

  pub frees_begin : (p : Value) (b : TypeId) (site : Site) (l : Locals) (so_far : List E) (heap : HeapMap) (K : Exits E) → OpensExits t K → Frees seen types C p b site l so_far heap K → Begins t so_far
  frees_begin p b site l so_far heap K o h =
      pointer_to heap b.0 p (K (so_far ++ marking seen FreeNull site) falls l heap) (K (so_far ++ marking seen Freed site) (fails (error DoubleFree) site) l heap)
      (λ n cells. K (so_far ++ marking seen Freed site) falls l (with_block heap n (freed_block b.0))) (Begins t so_far)
      (λ h. shorter t so_far _ (o _ _ _ _ h)) (λ h. shorter t so_far _ (o _ _ _ _ h)) (λ n cells e h. shorter t so_far _ (o _ _ _ _ h)) h

  pub returns_begin : (proc : ProcId) (site : Site) (so_far u : List E) (heap : HeapMap) (err : List E → Halt → Site → HeapMap → Type 0) (on : List E → Value → HeapMap → Type 0) (ending : Ending) →
      OpensErr t err → Opens t on → Returns seen types C proc site so_far u heap err on ending → Begins t so_far
  returns_begin proc site so_far u heap err on (Returned v) o g h = shorter t so_far _ (g _ v heap h)
  returns_begin proc site so_far u heap err on (Failed kind at) o g h = shorter t so_far _ (o _ kind at heap h)

  pub call_begins : (proc : ProcId) (site : Site) (vs : List Value) (so_far : List E) (heap : HeapMap) (err : List E → Halt → Site → HeapMap → Type 0) (on : List E → Value → HeapMap → Type 0) →
      OpensErr t err → Opens t on → CallsProcedure seen types C proc site vs so_far heap err on → Begins t so_far
  call_begins proc site vs so_far heap err on o g (u, ending, heap', c, h) = returns_begin proc site so_far u heap' err on ending o g h

  pub branches_begin : (Yes No : Type 0) (site : Site) (so_far : List E) (heap : HeapMap) (K : Verdicts E) → Opens t K → Branches seen types C Yes No site so_far heap K → Begins t so_far
  branches_begin Yes No site so_far heap K o (inl h) = shorter t so_far _ (o _ _ _ h.1)
  branches_begin Yes No site so_far heap K o (inr h) = shorter t so_far _ (o _ _ _ h.1)

  mutual
    pub eval_begins : (e : Expression) (l : Locals) (so_far : List E) (heap : HeapMap) (K : Outcomes E) → Opens t K → Evaluates seen types C e l so_far heap K → Begins t so_far
    eval_begins (constant z) l so_far heap K o h = o _ _ _ h
    eval_begins null l so_far heap K o h = o _ _ _ h
    eval_begins (local n site) l so_far heap K o h = uses_begin (l n) site so_far heap K o h
    eval_begins (negated e) l so_far heap K o h =
        eval_begins e l so_far heap _ (value_opens t K _ o (λ a x h k. some_to (result_of Neg x (Word (pos 0))) (λ v. K a (gives v) h) (Begins t a) (λ v e. o a (gives v) h) k)) h
    eval_begins (arithmetic op c d) l so_far heap K o h =
        eval_begins c l so_far heap _ (value_opens t K _ o (λ a x h k.
        eval_begins d l a h _ (value_opens t K _ o (λ a y h k. calculates_begin op x y a h K o k)) k)) h
    eval_begins (truth c) l so_far heap K o h = test_begins c l so_far heap _ (verdict_opens t _ _ _ (λ a kind site h. o a _ h) (λ a h. o a _ h) (λ a h. o a _ h)) h
    eval_begins (cell p field b site) l so_far heap K o h = eval_begins p l so_far heap _ (value_opens t K _ o (λ a x h. loads_begin x field b site a h K o)) h
    eval_begins (allocate b site) l so_far heap K o (inl h) = shorter t so_far _ (o _ _ _ h)
    eval_begins (allocate b site) l so_far heap K o (inr (n, out, h)) = shorter t so_far _ (o _ _ _ h)
    eval_begins (get_char site) l so_far heap K o (z, low, high, h) = shorter t so_far _ (o _ _ _ h)
    eval_begins (call proc es result site) l so_far heap K o h =
        all_begin es l so_far heap _ _ (λ a kind at h. o a (errs kind at) h) (λ a vs h. call_begins proc site vs a h _ _ (λ a kind at h. o a (errs kind at) h) (λ a v h. uses_begin v site a h K o)) h
    eval_begins (stop number site es) l so_far heap K o h =
        passes_begin es l so_far heap _ _ (λ a kind at h. o a (errs kind at) h) (λ a h. o a (errs (outside number) site) h) h

    pub all_begin : (es : Arguments) (l : Locals) (so_far : List E) (heap : HeapMap) (err : List E → Halt → Site → HeapMap → Type 0) (on : List E → List Value → HeapMap → Type 0) →
        OpensErr t err → Opens t on → EvaluatesAll seen types C es l so_far heap err on → Begins t so_far
    all_begin no_arguments l so_far heap err on o g h = g _ _ _ h
    all_begin (an_argument (passed e) rest) l so_far heap err on o g h =
        eval_begins e l so_far heap _ (outcome_opens t err _ o (λ a v h. all_begin rest l a h err _ o (λ a vs h. g a _ h))) h
    all_begin (an_argument (erased parts) rest) l so_far heap err on o g h =
        passes_begin parts l so_far heap err _ o (λ a h. all_begin rest l a h err on o g) h

    pub passes_begin : (es : Expressions) (l : Locals) (so_far : List E) (heap : HeapMap) (err : List E → Halt → Site → HeapMap → Type 0) (on : List E → HeapMap → Type 0) →
        OpensErr t err → OpensOn t on → PassesAll seen types C es l so_far heap err on → Begins t so_far
    passes_begin no_expressions l so_far heap err on o g h = g _ _ h
    passes_begin (an_expression (local n site) rest) l so_far heap err on o g h = passes_begin rest l so_far heap err on o g h
    passes_begin (an_expression (cell p field b site) rest) l so_far heap err on o g h =
        eval_begins p l so_far heap _ (outcome_opens t err _ o (λ a x h. reaches_begin x b site a h err _ o (λ a h. passes_begin rest l a h err on o g))) h
    passes_begin (an_expression (call proc es result site) rest) l so_far heap err on o g h =
        all_begin es l so_far heap err _ o (λ a vs h. call_begins proc site vs a h err _ o (λ a v h. passes_begin rest l a h err on o g)) h
    passes_begin (an_expression e rest) l so_far heap err on o g h =
        eval_begins e l so_far heap _ (outcome_opens t err _ o (λ a v h. passes_begin rest l a h err on o g)) h

    pub test_begins : (c : Condition) (l : Locals) (so_far : List E) (heap : HeapMap) (K : Verdicts E) → Opens t K → Tests seen types C c l so_far heap K → Begins t so_far
    test_begins (compare r c d site) l so_far heap K o h =
        eval_begins c l so_far heap _ (outcome_opens t _ _ (λ a kind at h. o a _ h) (λ a x h.
        eval_begins d l a h _ (outcome_opens t _ _ (λ a kind at h. o a _ h) (λ a y h. branches_begin _ _ site a h K o)))) h
    test_begins (word e site) l so_far heap K o h = eval_begins e l so_far heap _ (outcome_opens t _ _ (λ a kind at h. o a _ h) (λ a x h. branches_begin _ _ site a h K o)) h
    test_begins (pointer e site) l so_far heap K o h = eval_begins e l so_far heap _ (outcome_opens t _ _ (λ a kind at h. o a _ h) (λ a x h. branches_begin _ _ site a h K o)) h
    test_begins (both c d) l so_far heap K o h = test_begins c l so_far heap _ (verdict_opens t _ _ _ (λ a kind at h. o a _ h) (λ a h. test_begins d l a h K o) (λ a h. o a _ h)) h
    test_begins (either c d) l so_far heap K o h = test_begins c l so_far heap _ (verdict_opens t _ _ _ (λ a kind at h. o a _ h) (λ a h. o a _ h) (λ a h. test_begins d l a h K o)) h
    test_begins (opposite c) l so_far heap K o h = test_begins c l so_far heap _ (verdict_opens t _ _ _ (λ a kind at h. o a _ h) (λ a h. o a _ h) (λ a h. o a _ h)) h

  pub failing_opens : (l : Locals) (K : Exits E) → OpensExits t K → OpensErr t (failing seen types C l K)
  failing_opens l K o a kind site h k = o a (fails kind site) l h k

  pub takes_begin : (e : Expression) (l : Locals) (so_far : List E) (heap : HeapMap) (K : Exits E) (on : List E → Value → HeapMap → Type 0) → OpensExits t K → Opens t on →
      Takes seen types C e l so_far heap K on → Begins t so_far
  takes_begin e l so_far heap K on o g h = eval_begins e l so_far heap _ (outcome_opens t (failing seen types C l K) on (failing_opens l K o) g) h

  pub declares_begin : (n : ℕ) (e : Option Expression) (l : Locals) (so_far : List E) (heap : HeapMap) (K : Exits E) → OpensExits t K → Declares seen types C n e l so_far heap K → Begins t so_far
  declares_begin n None l so_far heap K o h = o _ _ _ _ h
  declares_begin n (Some e) l so_far heap K o h = takes_begin e (with_local l n Unwritten) so_far heap K _ o (λ a v h. o a falls (with_local (with_local l n Unwritten) n v) h) h

  pub assigns_begin : (p : Place) (e : Expression) (l : Locals) (so_far : List E) (heap : HeapMap) (K : Exits E) → OpensExits t K → Assigns seen types C p e l so_far heap K → Begins t so_far
  assigns_begin (local_place n at) e l so_far heap K o h = takes_begin e l so_far heap K _ o (λ a v h. o a falls (with_local l n v) h) h
  assigns_begin (cell_place p field b site) e l so_far heap K o h =
      takes_begin p l so_far heap K _ o (λ a x h. takes_begin e l a h K _ o (λ a v h. stores_begin x field b site v l a h K o)) h

  pub updates_begin : (op : Arithmetic) (p : Place) (e : Expression) (l : Locals) (so_far : List E) (heap : HeapMap) (K : Exits E) → OpensExits t K → Updates seen types C op p e l so_far heap K → Begins t so_far
  updates_begin op (local_place n at) e l so_far heap K o h =
      uses_begin (l n) at so_far heap _ (outcome_opens t (failing seen types C l K) _ (failing_opens l K o) (λ a x h.
      takes_begin e l a h K _ o (λ a y h.
      calculates_begin op x y a h _ (outcome_opens t (failing seen types C l K) _ (failing_opens l K o) (λ a v h. o a falls (with_local l n v) h))))) h
  updates_begin op (cell_place p field b site) e l so_far heap K o h =
      takes_begin p l so_far heap K _ o (λ a place h. loads_begin place field b site a h _ (outcome_opens t (failing seen types C l K) _ (failing_opens l K o) (λ a x h.
      takes_begin e l a h K _ o (λ a y h.
      calculates_begin op x y a h _ (outcome_opens t (failing seen types C l K) _ (failing_opens l K o) (λ a v h. stores_begin place field b site v l a h K o)))))) h

  pub tests_if_begin : (c : Option Condition) (l : Locals) (so_far : List E) (heap : HeapMap) (K : Verdicts E) → Opens t K → TestsIf seen types C c l so_far heap K → Begins t so_far
  tests_if_begin None l so_far heap K o h = o _ _ _ h
  tests_if_begin (Some c) l so_far heap K o h = test_begins c l so_far heap K o h

  -- what is done begins so
  abbrev pub BeginsAll : (Locals → List E → HeapMap → Exits E → Type 0) → Type 1
  BeginsAll X = (l : Locals) (so_far : List E) (heap : HeapMap) (K : Exits E) → OpensExits t K → X l so_far heap K → Begins t so_far

  pub loops_begin : (bound : Option ℕ) (n made : ℕ) (site : Site) (c : Option Condition) (body after_body : Locals → List E → HeapMap → Exits E → Type 0) → BeginsAll body → BeginsAll after_body →
      (l : Locals) (so_far : List E) (heap : HeapMap) (K : Exits E) → OpensExits t K → Loops seen types C bound n made site c body after_body l so_far heap K → Begins t so_far
  loops_begin bound zero made site c body after_body bb ab l so_far heap K o h = absurd h
  loops_begin bound (suc n) made site c body after_body bb ab l so_far heap K o h =
      tests_if_begin c l so_far heap _ (verdict_opens t (failing seen types C l K) _ _ (failing_opens l K o)
      (λ a h k. shorter t a _ (bb l (a ++ marking seen _ site) h _ (body_opens K _ o (λ a l h. ab l a h _ (fall_opens t K _ o (λ a l h. loops_begin bound n (suc made) site c body after_body bb ab l a h K o)))) k.1))
      (λ a h k. shorter t a _ (o (a ++ marking seen _ site) falls l h k))) h

  pub gives_begin : (e : Option Expression) (l : Locals) (so_far : List E) (heap : HeapMap) (K : Exits E) → OpensExits t K → GivesBack seen types C e l so_far heap K → Begins t so_far
  gives_begin None l so_far heap K o h = o _ _ _ _ h
  gives_begin (Some e) l so_far heap K o h = takes_begin e l so_far heap K _ o (λ a v h. o a (returns v) l h) h

  mutual
    pub runs_begin : (bound : Option ℕ) (n : ℕ) (s : Statement) (l : Locals) (so_far : List E) (heap : HeapMap) (K : Exits E) → OpensExits t K → Executes seen types C bound n s l so_far heap K → Begins t so_far
    runs_begin bound n (block ss) l so_far heap K o h = all_runs_begin bound n ss l so_far heap K o h
    runs_begin bound n (declare i e) l so_far heap K o h = declares_begin i e l so_far heap K o h
    runs_begin bound n (assign p e) l so_far heap K o h = assigns_begin p e l so_far heap K o h
    runs_begin bound n (update op p e) l so_far heap K o h = updates_begin op p e l so_far heap K o h
    runs_begin bound n (run_call proc es site) l so_far heap K o h =
        all_begin es l so_far heap (failing seen types C l K) _ (failing_opens l K o) (λ a vs h. call_begins proc site vs a h (failing seen types C l K) (λ a v h. K a falls l h) (failing_opens l K o) (λ a v h. o a falls l h)) h
    runs_begin bound n (free e b site) l so_far heap K o h = takes_begin e l so_far heap K _ o (λ a p h. frees_begin p b site l a h K o) h
    runs_begin bound n (input site) l so_far heap K o h = takes_begin (get_char site) l so_far heap K _ o (λ a v h. o a falls l h) h
    runs_begin bound n (choose c first second) l so_far heap K o h =
        test_begins c l so_far heap _ (verdict_opens t (failing seen types C l K) _ _ (failing_opens l K o) (λ a h. runs_begin bound n first l a h K o) (λ a h. runs_begin bound n second l a h K o)) h
    runs_begin bound n (loop site c body after_body) l so_far heap K o h =
        loops_begin bound n 0 site c (Executes seen types C bound n body) (Executes seen types C bound n after_body) (runs_begin bound n body) (runs_begin bound n after_body) l so_far heap K o h
    runs_begin bound n break l so_far heap K o h = o _ _ _ _ h
    runs_begin bound n continue l so_far heap K o h = o _ _ _ _ h
    runs_begin bound n (return e) l so_far heap K o h = gives_begin e l so_far heap K o h
    runs_begin bound n (evaluate e) l so_far heap K o h =
        passes_begin (an_expression e no_expressions) l so_far heap (failing seen types C l K) _ (failing_opens l K o) (λ a h. o a falls l h) h
    runs_begin bound n (access e parts field b site) l so_far heap K o h =
        takes_begin e l so_far heap K _ o (λ a x h. passes_begin parts l a h (failing seen types C l K) _ (failing_opens l K o) (λ a h.
        reaches_begin x b site a h (failing seen types C l K) (λ a h. K a falls l h) (failing_opens l K o) (λ a h. o a falls l h))) h

    pub all_runs_begin : (bound : Option ℕ) (n : ℕ) (ss : Statements) (l : Locals) (so_far : List E) (heap : HeapMap) (K : Exits E) → OpensExits t K → ExecutesAll seen types C bound n ss l so_far heap K → Begins t so_far
    all_runs_begin bound n no_statements l so_far heap K o h = o _ _ _ _ h
    all_runs_begin bound n (a_statement s rest) l so_far heap K o h =
        runs_begin bound n s l so_far heap _ (fall_opens t K _ o (λ a l h. all_runs_begin bound n rest l a h K o)) h
