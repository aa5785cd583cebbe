-- More turns, deeper calls and wider bounds allow the same executions of trees.
use Rattle.std.proofs.Common.{ℕ, zero, suc, ◌≤◌, Option, Some, None, List, [], ◌∷◌, ◌++◌, slice_set, inl, inr, pos, arith}
use Rattle.px_base.specs.declared.trace.Site.{Site}
use Rattle.px_base.specs.declared.trace.Kind.TheVariants.{NullDereference, UseAfterFree, DoubleFree, UninitialisedRead}
use Rattle.px_base.specs.declared.trace.MarkKind.TheVariants.{Iter, Done, Access, Freed, FreeNull}
use Rattle.px_base.specs.declared.trace.ProcId.{ProcId}
use Rattle.px_base.specs.declared.trace.FieldId.{FieldId}
use Rattle.px_core.specs.declared.command.Operator.TheVariants.{Neg}
use Rattle.px_meaning.specs.Values.{TypeId, BlockType, Value, Word, Unwritten}
use Rattle.px_meaning.specs.Heaps.{HeapMap, with_block}
use Rattle.px_meaning.specs.Calls.{Halt, error, outside, Ending, Returned, Failed}
use Rattle.px_meaning.specs.Execution.{Locals, with_local}
use Rattle.px_meaning.specs.Events.{Event}
use Rattle.px_meaning.specs.Operations.{value_at, result_of, on_words}
use Rattle.px_meaning.specs.Steps.{ProcedureCalls, marking, live_block, freed_block, Allows}
use Rattle.px_meaning.specs.TypedProgram.{TypedProgram}
use Rattle.px_syntax.specs.TypedTree.{Expression, constant, null, local, negated, arithmetic, truth, cell, allocate, get_char, call, stop, Expressions, no_expressions, an_expression, Arguments, no_arguments, an_argument, passed, erased, Condition, compare, word, pointer, both, either, opposite, Place, local_place, cell_place, Statement, block, declare, assign, update, run_call, free, input, choose, loop, break, continue, return, evaluate, access, Statements, no_statements, a_statement}
use Rattle.px_syntax.specs.declared.typed_expression.Arithmetic.{Arithmetic}
use Rattle.px_meaning.specs.TreeExecution.{gives, errs, Outcomes, with_value, by_outcome, yes, no, fault, Verdicts, with_verdict, Exit, falls, breaks, continues, returns, fails, Exits, with_fall, behind_body, Uses, Loads, calculation, Calculates, Reaches, Stores, Returns, CallsProcedure, Branches, Evaluates, EvaluatesAll, PassesAll, Tests, failing, Takes, Declares, Assigns, Updates, Frees, TestsIf, Loops, GivesBack, Executes, ExecutesAll}
use Rattle.px_meaning.specs.TreeCalls.{first_locals, closes, TreeCallsWithin, SeenTreeCalls}
use Rattle.px_meaning.proofs.Steps.{some_more, pointer_more, written_more}

abbrev More : {E X : Type 0} → (List E → X → HeapMap → Type 0) → (List E → X → HeapMap → Type 0) → Type 0
More {E} {X} G H = (a : List E) (x : X) (h : HeapMap) → G a x h → H a x h

abbrev MoreErr : {E : Type 0} → (List E → Halt → Site → HeapMap → Type 0) → (List E → Halt → Site → HeapMap → Type 0) → Type 0
MoreErr {E} G H = (a : List E) (kind : Halt) (site : Site) (h : HeapMap) → G a kind site h → H a kind site h

abbrev MoreExits : {E : Type 0} → Exits E → Exits E → Type 0
MoreExits {E} G H = (a : List E) (x : Exit) (l : Locals) (h : HeapMap) → G a x l h → H a x l h

value_more : {E : Type 0} (K L : Outcomes E) (f g : List E → Value → HeapMap → Type 0) → More K L → More f g → More (with_value K f) (with_value L g)
value_more K L f g o m a (gives v) h k = m a v h k
value_more K L f g o m a (errs kind site) h k = o a (errs kind site) h k

outcome_more : {E : Type 0} (err err' : List E → Halt → Site → HeapMap → Type 0) (f g : List E → Value → HeapMap → Type 0) → MoreErr err err' → More f g → More (by_outcome err f) (by_outcome err' g)
outcome_more err err' f g o m a (gives v) h k = m a v h k
outcome_more err err' f g o m a (errs kind site) h k = o a kind site h k

verdict_more : {E : Type 0} (err err' : List E → Halt → Site → HeapMap → Type 0) (f f' g g' : List E → HeapMap → Type 0) → MoreErr err err' → ((a : List E) (h : HeapMap) → f a h → f' a h) → ((a : List E) (h : HeapMap) → g a h → g' a h) →
    More (with_verdict err f g) (with_verdict err' f' g')
verdict_more err err' f f' g g' o mf mg a yes h k = mf a h k
verdict_more err err' f f' g g' o mf mg a no h k = mg a h k
verdict_more err err' f f' g g' o mf mg a (fault kind site) h k = o a kind site h k

fall_more : {E : Type 0} (K L : Exits E) (f g : List E → Locals → HeapMap → Type 0) → MoreExits K L → ((a : List E) (l : Locals) (h : HeapMap) → f a l h → g a l h) → MoreExits (with_fall K f) (with_fall L g)
fall_more K L f g o m a falls l h k = m a l h k
fall_more K L f g o m a breaks l h k = o a breaks l h k
fall_more K L f g o m a continues l h k = o a continues l h k
fall_more K L f g o m a (returns v) l h k = o a (returns v) l h k
fall_more K L f g o m a (fails kind site) l h k = o a (fails kind site) l h k

module _ {E : Type 0} (seen : Event → E) (types : List BlockType) (C D : ProcedureCalls E)
    (more : (f : ℕ) (arguments : List Value) (heap : HeapMap) (t : List E) (ending : Ending) (end : HeapMap) → C f arguments heap t ending end → D f arguments heap t ending end) where
  body_more : (K L : Exits E) (f g : List E → Locals → HeapMap → Type 0) → MoreExits K L → ((a : List E) (l : Locals) (h : HeapMap) → f a l h → g a l h) →
      MoreExits (behind_body seen types C f K) (behind_body seen types D g L)
  body_more K L f g o m a falls l h k = m a l h k
  body_more K L f g o m a continues l h k = m a l h k
  body_more K L f g o m a breaks l h k = o a falls l h k
  body_more K L f g o m a (returns v) l h k = o a (returns v) l h k
  body_more K L f g o m a (fails kind site) l h k = o a (fails kind site) l h k

  uses_more : (v : Value) (site : Site) (so_far : List E) (heap : HeapMap) (K L : Outcomes E) → More K L → Uses seen types C v site so_far heap K → Uses seen types D v site so_far heap L
  uses_more v site so_far heap K L o h =
      written_more v (K so_far (gives v) heap) (L so_far (gives v) heap) (K so_far (errs (error UninitialisedRead) site) heap) (L so_far (errs (error UninitialisedRead) site) heap) (o _ _ _) (o _ _ _) h

  calculates_more : (op : Arithmetic) (x y : Value) (so_far : List E) (heap : HeapMap) (K L : Outcomes E) → More K L → Calculates seen types C op x y so_far heap K → Calculates seen types D op x y so_far heap L
  calculates_more op x y so_far heap K L o h = some_more (on_words (calculation op) x y) (λ r. K so_far r heap) (λ r. L so_far r heap) (λ r. o so_far r heap) h

  loads_more : (v : Value) (field : FieldId) (b : TypeId) (site : Site) (so_far : List E) (heap : HeapMap) (K L : Outcomes E) → More K L → Loads seen types C v field b site so_far heap K → Loads seen types D v field b site so_far heap L
  loads_more v field b site so_far heap K L o h =
      pointer_more heap b.0 v (K (so_far ++ marking seen Access site) (errs (error NullDereference) site) heap) (L (so_far ++ marking seen Access site) (errs (error NullDereference) site) heap)
      (K (so_far ++ marking seen Access site) (errs (error UseAfterFree) site) heap) (L (so_far ++ marking seen Access site) (errs (error UseAfterFree) site) heap)
      (λ n cells. Uses seen types C (value_at cells field.0) site (so_far ++ marking seen Access site) heap K) (λ n cells. Uses seen types D (value_at cells field.0) site (so_far ++ marking seen Access site) heap L)
      (o _ _ _) (o _ _ _) (λ n cells. uses_more (value_at cells field.0) site (so_far ++ marking seen Access site) heap K L o) h

  reaches_more : (v : Value) (b : TypeId) (site : Site) (so_far : List E) (heap : HeapMap) (err err' : List E → Halt → Site → HeapMap → Type 0) (f g : List E → HeapMap → Type 0) → MoreErr err err' → ((a : List E) (h : HeapMap) → f a h → g a h) →
      Reaches seen types C v b site so_far heap err f → Reaches seen types D v b site so_far heap err' g
  reaches_more v b site so_far heap err err' f g oe o h =
      pointer_more heap b.0 v (err (so_far ++ marking seen Access site) (error NullDereference) site heap) (err' (so_far ++ marking seen Access site) (error NullDereference) site heap)
      (err (so_far ++ marking seen Access site) (error UseAfterFree) site heap) (err' (so_far ++ marking seen Access site) (error UseAfterFree) site heap)
      (λ n cells. f (so_far ++ marking seen Access site) heap) (λ n cells. g (so_far ++ marking seen Access site) heap)
      (oe _ _ _ _) (oe _ _ _ _) (λ n cells. o _ _) h

  stores_more : (v : Value) (field : FieldId) (b : TypeId) (site : Site) (w : Value) (l : Locals) (so_far : List E) (heap : HeapMap) (K L : Exits E) → MoreExits K L →
      Stores seen types C v field b site w l so_far heap K → Stores seen types D v field b site w l so_far heap L
  stores_more v field b site w l so_far heap K L o h =
      pointer_more heap b.0 v (K (so_far ++ marking seen Access site) (fails (error NullDereference) site) l heap) (L (so_far ++ marking seen Access site) (fails (error NullDereference) site) l heap)
      (K (so_far ++ marking seen Access site) (fails (error UseAfterFree) site) l heap) (L (so_far ++ marking seen Access site) (fails (error UseAfterFree) site) l heap)
      (λ n cells. K (so_far ++ marking seen Access site) falls l (with_block heap n (live_block b.0 (slice_set cells field.0 w))))
      (λ n cells. L (so_far ++ marking seen Access site) falls l (with_block heap n (live_block b.0 (slice_set cells field.0 w))))
      (o _ _ _ _) (o _ _ _ _) (λ n cells. o _ _ _ _) h

  frees_more : (v : Value) (b : TypeId) (site : Site) (l : Locals) (so_far : List E) (heap : HeapMap) (K L : Exits E) → MoreExits K L → Frees seen types C v b site l so_far heap K → Frees seen types D v b site l so_far heap L
  frees_more v b site l so_far heap K L o h =
      pointer_more heap b.0 v (K (so_far ++ marking seen FreeNull site) falls l heap) (L (so_far ++ marking seen FreeNull site) falls l heap)
      (K (so_far ++ marking seen Freed site) (fails (error DoubleFree) site) l heap) (L (so_far ++ marking seen Freed site) (fails (error DoubleFree) site) l heap)
      (λ n cells. K (so_far ++ marking seen Freed site) falls l (with_block heap n (freed_block b.0))) (λ n cells. L (so_far ++ marking seen Freed site) falls l (with_block heap n (freed_block b.0)))
      (o _ _ _ _) (o _ _ _ _) (λ n cells. o _ _ _ _) h

  returns_more : (proc : ProcId) (site : Site) (so_far t : List E) (heap : HeapMap) (err err' : List E → Halt → Site → HeapMap → Type 0) (f g : List E → Value → HeapMap → Type 0) (ending : Ending) → MoreErr err err' → More f g →
      Returns seen types C proc site so_far t heap err f ending → Returns seen types D proc site so_far t heap err' g ending
  returns_more proc site so_far t heap err err' f g (Returned v) oe o h = o _ _ _ h
  returns_more proc site so_far t heap err err' f g (Failed kind at) oe o h = oe _ _ _ _ h

  call_more : (proc : ProcId) (site : Site) (vs : List Value) (so_far : List E) (heap : HeapMap) (err err' : List E → Halt → Site → HeapMap → Type 0) (f g : List E → Value → HeapMap → Type 0) → MoreErr err err' → More f g →
      CallsProcedure seen types C proc site vs so_far heap err f → CallsProcedure seen types D proc site vs so_far heap err' g
  call_more proc site vs so_far heap err err' f g oe o (t, ending, heap', c, h) =
      (t, ending, heap', more proc.0 vs heap t ending heap' c, returns_more proc site so_far t heap' err err' f g ending oe o h)

  branches_more : (Yes No : Type 0) (site : Site) (so_far : List E) (heap : HeapMap) (K L : Verdicts E) → More K L → Branches seen types C Yes No site so_far heap K → Branches seen types D Yes No site so_far heap L
  branches_more Yes No site so_far heap K L o (inl h) = inl (h.0, o _ _ _ h.1)
  branches_more Yes No site so_far heap K L o (inr h) = inr (h.0, o _ _ _ h.1)

  mutual
    eval_more : (e : Expression) (l : Locals) (so_far : List E) (heap : HeapMap) (K L : Outcomes E) → More K L → Evaluates seen types C e l so_far heap K → Evaluates seen types D e l so_far heap L
    eval_more (constant z) l so_far heap K L o h = o _ _ _ h
    eval_more null l so_far heap K L o h = o _ _ _ h
    eval_more (local n site) l so_far heap K L o h = uses_more (l n) site so_far heap K L o h
    eval_more (negated e) l so_far heap K L o h =
        eval_more e l so_far heap _ _ (value_more K L _ _ o (λ a x h. some_more (result_of Neg x (Word (pos 0))) (λ v. K a (gives v) h) (λ v. L a (gives v) h) (λ v. o a (gives v) h))) h
    eval_more (arithmetic op c d) l so_far heap K L o h =
        eval_more c l so_far heap _ _ (value_more K L _ _ o (λ a x h. eval_more d l a h _ _ (value_more K L _ _ o (λ a y h. calculates_more op x y a h K L o)))) h
    eval_more (truth c) l so_far heap K L o h =
        test_more c l so_far heap _ _ (verdict_more _ _ _ _ _ _ (λ a kind at h. o a (errs kind at) h) (λ a h. o a (gives (Word (pos 1))) h) (λ a h. o a (gives (Word (pos 0))) h)) h
    eval_more (cell e field b site) l so_far heap K L o h = eval_more e l so_far heap _ _ (value_more K L _ _ o (λ a x h. loads_more x field b site a h K L o)) h
    eval_more (allocate b site) l so_far heap K L o (inl h) = inl (o _ _ _ h)
    eval_more (allocate b site) l so_far heap K L o (inr (n, out, h)) = inr (n, out, o _ _ _ h)
    eval_more (get_char site) l so_far heap K L o (z, low, high, h) = (z, low, high, o _ _ _ h)
    eval_more (call proc es result site) l so_far heap K L o h =
        all_more es l so_far heap _ _ _ _ (λ a kind at h. o a (errs kind at) h) (λ a vs h. call_more proc site vs a h _ _ _ _ (λ a kind at h. o a (errs kind at) h) (λ a v h. uses_more v site a h K L o)) h
    eval_more (stop number site es) l so_far heap K L o h =
        passes_more es l so_far heap _ _ _ _ (λ a kind at h. o a (errs kind at) h) (λ a h. o a (errs (outside number) site) h) h

    all_more : (es : Arguments) (l : Locals) (so_far : List E) (heap : HeapMap) (err err' : List E → Halt → Site → HeapMap → Type 0) (f g : List E → List Value → HeapMap → Type 0) → MoreErr err err' → More f g →
        EvaluatesAll seen types C es l so_far heap err f → EvaluatesAll seen types D es l so_far heap err' g
    all_more no_arguments l so_far heap err err' f g oe o h = o _ _ _ h
    all_more (an_argument (passed e) rest) l so_far heap err err' f g oe o h =
        eval_more e l so_far heap _ _ (outcome_more err err' _ _ oe (λ a v h. all_more rest l a h err err' _ _ oe (λ a vs h. o a (v ∷ vs) h))) h
    all_more (an_argument (erased parts) rest) l so_far heap err err' f g oe o h =
        passes_more parts l so_far heap err err' _ _ oe (λ a h. all_more rest l a h err err' f g oe o) h

    passes_more : (es : Expressions) (l : Locals) (so_far : List E) (heap : HeapMap) (err err' : List E → Halt → Site → HeapMap → Type 0) (f g : List E → HeapMap → Type 0) → MoreErr err err' → ((a : List E) (h : HeapMap) → f a h → g a h) →
        PassesAll seen types C es l so_far heap err f → PassesAll seen types D es l so_far heap err' g
    passes_more no_expressions l so_far heap err err' f g oe o h = o _ _ h
    passes_more (an_expression (local n site) rest) l so_far heap err err' f g oe o h = passes_more rest l so_far heap err err' f g oe o h
    passes_more (an_expression (cell e field b site) rest) l so_far heap err err' f g oe o h =
        eval_more e l so_far heap _ _ (outcome_more err err' _ _ oe (λ a x h. reaches_more x b site a h err err' _ _ oe (λ a h. passes_more rest l a h err err' f g oe o))) h
    passes_more (an_expression (call proc es result site) rest) l so_far heap err err' f g oe o h =
        all_more es l so_far heap err err' _ _ oe (λ a vs h. call_more proc site vs a h err err' _ _ oe (λ a v h. passes_more rest l a h err err' f g oe o)) h
    passes_more (an_expression e rest) l so_far heap err err' f g oe o h =
        eval_more e l so_far heap _ _ (outcome_more err err' _ _ oe (λ a v h. passes_more rest l a h err err' f g oe o)) h

    test_more : (c : Condition) (l : Locals) (so_far : List E) (heap : HeapMap) (K L : Verdicts E) → More K L → Tests seen types C c l so_far heap K → Tests seen types D c l so_far heap L
    test_more (compare r c d site) l so_far heap K L o h =
        eval_more c l so_far heap _ _ (outcome_more _ _ _ _ (λ a kind at h. o a (fault kind at) h) (λ a x h.
        eval_more d l a h _ _ (outcome_more _ _ _ _ (λ a kind at h. o a (fault kind at) h) (λ a y h. branches_more _ _ site a h K L o)))) h
    test_more (word e site) l so_far heap K L o h = eval_more e l so_far heap _ _ (outcome_more _ _ _ _ (λ a kind at h. o a (fault kind at) h) (λ a y h. branches_more _ _ site a h K L o)) h
    test_more (pointer e site) l so_far heap K L o h = eval_more e l so_far heap _ _ (outcome_more _ _ _ _ (λ a kind at h. o a (fault kind at) h) (λ a y h. branches_more _ _ site a h K L o)) h
    test_more (both c d) l so_far heap K L o h = test_more c l so_far heap _ _ (verdict_more _ _ _ _ _ _ (λ a kind at h. o a (fault kind at) h) (λ a h. test_more d l a h K L o) (λ a h. o a no h)) h
    test_more (either c d) l so_far heap K L o h = test_more c l so_far heap _ _ (verdict_more _ _ _ _ _ _ (λ a kind at h. o a (fault kind at) h) (λ a h. o a yes h) (λ a h. test_more d l a h K L o)) h
    test_more (opposite c) l so_far heap K L o h = test_more c l so_far heap _ _ (verdict_more _ _ _ _ _ _ (λ a kind at h. o a (fault kind at) h) (λ a h. o a no h) (λ a h. o a yes h)) h

  takes_more : (e : Expression) (l : Locals) (so_far : List E) (heap : HeapMap) (K L : Exits E) (f g : List E → Value → HeapMap → Type 0) → MoreExits K L → More f g → Takes seen types C e l so_far heap K f → Takes seen types D e l so_far heap L g
  takes_more e l so_far heap K L f g o m h = eval_more e l so_far heap _ _ (outcome_more (failing seen types C l K) (failing seen types D l L) f g (λ a kind site h. o a (fails kind site) l h) m) h

  declares_more : (n : ℕ) (e : Option Expression) (l : Locals) (so_far : List E) (heap : HeapMap) (K L : Exits E) → MoreExits K L → Declares seen types C n e l so_far heap K → Declares seen types D n e l so_far heap L
  declares_more n None l so_far heap K L o h = o _ _ _ _ h
  declares_more n (Some e) l so_far heap K L o h = takes_more e (with_local l n Unwritten) so_far heap K L _ _ o (λ a v h. o a falls (with_local (with_local l n Unwritten) n v) h) h

  assigns_more : (w : Place) (e : Expression) (l : Locals) (so_far : List E) (heap : HeapMap) (K L : Exits E) → MoreExits K L → Assigns seen types C w e l so_far heap K → Assigns seen types D w e l so_far heap L
  assigns_more (local_place n at) e l so_far heap K L o h = takes_more e l so_far heap K L _ _ o (λ a v h. o a falls (with_local l n v) h) h
  assigns_more (cell_place w field b site) e l so_far heap K L o h =
      takes_more w l so_far heap K L _ _ o (λ a x h. takes_more e l a h K L _ _ o (λ a v h. stores_more x field b site v l a h K L o)) h

  updates_more : (op : Arithmetic) (w : Place) (e : Expression) (l : Locals) (so_far : List E) (heap : HeapMap) (K L : Exits E) → MoreExits K L → Updates seen types C op w e l so_far heap K → Updates seen types D op w e l so_far heap L
  updates_more op (local_place n at) e l so_far heap K L o h =
      uses_more (l n) at so_far heap _ _ (outcome_more (failing seen types C l K) (failing seen types D l L) _ _ (λ a kind site h. o a (fails kind site) l h) (λ a x h.
      takes_more e l a h K L _ _ o (λ a y h.
      calculates_more op x y a h _ _ (outcome_more (failing seen types C l K) (failing seen types D l L) _ _ (λ a kind site h. o a (fails kind site) l h) (λ a v h. o a falls (with_local l n v) h))))) h
  updates_more op (cell_place w field b site) e l so_far heap K L o h =
      takes_more w l so_far heap K L _ _ o (λ a place h. loads_more place field b site a h _ _ (outcome_more (failing seen types C l K) (failing seen types D l L) _ _ (λ a kind site h. o a (fails kind site) l h) (λ a x h.
      takes_more e l a h K L _ _ o (λ a y h.
      calculates_more op x y a h _ _ (outcome_more (failing seen types C l K) (failing seen types D l L) _ _ (λ a kind site h. o a (fails kind site) l h) (λ a v h. stores_more place field b site v l a h K L o)))))) h

  tests_if_more : (c : Option Condition) (l : Locals) (so_far : List E) (heap : HeapMap) (K L : Verdicts E) → More K L → TestsIf seen types C c l so_far heap K → TestsIf seen types D c l so_far heap L
  tests_if_more None l so_far heap K L o h = o _ _ _ h
  tests_if_more (Some c) l so_far heap K L o h = test_more c l so_far heap K L o h

  gives_more : (e : Option Expression) (l : Locals) (so_far : List E) (heap : HeapMap) (K L : Exits E) → MoreExits K L → GivesBack seen types C e l so_far heap K → GivesBack seen types D e l so_far heap L
  gives_more None l so_far heap K L o h = o _ _ _ _ h
  gives_more (Some e) l so_far heap K L o h = takes_more e l so_far heap K L _ _ o (λ a v h. o a (returns v) l h) h

  module _ (bound bound' : Option ℕ) (wider : (made : ℕ) → Allows bound made → Allows bound' made) where
    abbrev MoreAll : (Locals → List E → HeapMap → Exits E → Type 0) → (Locals → List E → HeapMap → Exits E → Type 0) → Type 1
    MoreAll X Y = (l : Locals) (so_far : List E) (heap : HeapMap) (K L : Exits E) → MoreExits K L → X l so_far heap K → Y l so_far heap L

    loops_more : (n m made : ℕ) → n ≤ m → (site : Site) (c : Option Condition) (body body' after_body after_body' : Locals → List E → HeapMap → Exits E → Type 0) → MoreAll body body' → MoreAll after_body after_body' →
        MoreAll (Loops seen types C bound n made site c body after_body) (Loops seen types D bound' m made site c body' after_body')
    loops_more zero m made le site c body body' after_body after_body' b f l so_far heap K L o h = absurd h
    loops_more (suc n) zero made le site c body body' after_body after_body' b f l so_far heap K L o h = absurd (omega arith)
    loops_more (suc n) (suc m) made le site c body body' after_body after_body' b f l so_far heap K L o h =
        tests_if_more c l so_far heap _ _ (verdict_more (failing seen types C l K) (failing seen types D l L) _ _ _ _ (λ a kind site h. o a (fails kind site) l h)
        (λ a h k. (
          wider made k.0,
          b l (a ++ marking seen Iter site) h _ _ (body_more K L _ _ o (λ a l h. f l a h _ _ (fall_more K L _ _ o
              (λ a l h. loops_more n m (suc made) (omega arith) site c body body' after_body after_body' b f l a h K L o)))) k.1,
        ))
        (λ a h. o (a ++ marking seen Done site) falls l h)) h

    mutual
      pub runs_more : (n m : ℕ) → n ≤ m → (w : Statement) → MoreAll (Executes seen types C bound n w) (Executes seen types D bound' m w)
      runs_more n m le (block ss) l so_far heap K L o h = all_runs_more n m le ss l so_far heap K L o h
      runs_more n m le (declare i e) l so_far heap K L o h = declares_more i e l so_far heap K L o h
      runs_more n m le (assign w e) l so_far heap K L o h = assigns_more w e l so_far heap K L o h
      runs_more n m le (update op w e) l so_far heap K L o h = updates_more op w e l so_far heap K L o h
      runs_more n m le (run_call proc es site) l so_far heap K L o h =
          all_more es l so_far heap (failing seen types C l K) (failing seen types D l L) _ _ (λ a kind site h. o a (fails kind site) l h)
          (λ a vs h. call_more proc site vs a h (failing seen types C l K) (failing seen types D l L) (λ a v h. K a falls l h) (λ a v h. L a falls l h) (λ a kind site h. o a (fails kind site) l h) (λ a v h. o a falls l h)) h
      runs_more n m le (free e b site) l so_far heap K L o h = takes_more e l so_far heap K L _ _ o (λ a v h. frees_more v b site l a h K L o) h
      runs_more n m le (input site) l so_far heap K L o h = takes_more (get_char site) l so_far heap K L _ _ o (λ a v h. o a falls l h) h
      runs_more n m le (choose c first second) l so_far heap K L o h =
          test_more c l so_far heap _ _ (verdict_more (failing seen types C l K) (failing seen types D l L) _ _ _ _ (λ a kind site h. o a (fails kind site) l h)
          (λ a h. runs_more n m le first l a h K L o) (λ a h. runs_more n m le second l a h K L o)) h
      runs_more n m le (loop site c body after_body) l so_far heap K L o h =
          loops_more n m 0 le site c (Executes seen types C bound n body) (Executes seen types D bound' m body) (Executes seen types C bound n after_body) (Executes seen types D bound' m after_body)
          (runs_more n m le body) (runs_more n m le after_body) l so_far heap K L o h
      runs_more n m le break l so_far heap K L o h = o _ _ _ _ h
      runs_more n m le continue l so_far heap K L o h = o _ _ _ _ h
      runs_more n m le (return e) l so_far heap K L o h = gives_more e l so_far heap K L o h
      runs_more n m le (evaluate e) l so_far heap K L o h =
          passes_more (an_expression e no_expressions) l so_far heap (failing seen types C l K) (failing seen types D l L) _ _ (λ a kind site h. o a (fails kind site) l h) (λ a h. o a falls l h) h
      runs_more n m le (access e parts field b site) l so_far heap K L o h =
          takes_more e l so_far heap K L _ _ o (λ a x h.
          passes_more parts l a h (failing seen types C l K) (failing seen types D l L) _ _ (λ a kind site h. o a (fails kind site) l h) (λ a h.
          reaches_more x b site a h (failing seen types C l K) (failing seen types D l L) (λ a h. K a falls l h) (λ a h. L a falls l h) (λ a kind site h. o a (fails kind site) l h) (λ a h. o a falls l h))) h

      pub all_runs_more : (n m : ℕ) → n ≤ m → (ss : Statements) → MoreAll (ExecutesAll seen types C bound n ss) (ExecutesAll seen types D bound' m ss)
      all_runs_more n m le no_statements l so_far heap K L o h = o _ _ _ _ h
      all_runs_more n m le (a_statement w rest) l so_far heap K L o h =
          runs_more n m le w l so_far heap _ _ (fall_more K L _ _ o (λ a l h. all_runs_more n m le rest l a h K L o)) h

module _ {E : Type 0} (seen : Event → E) (P : TypedProgram) (bound bound' : Option ℕ) (wider : (made : ℕ) → Allows bound made → Allows bound' made) where
  pub tree_calls_up : (n m : ℕ) → n ≤ m → (f : ℕ) (arguments : List Value) (heap : HeapMap) (t : List E) (ending : Ending) (end : HeapMap) →
      TreeCallsWithin seen bound P n f arguments heap t ending end → TreeCallsWithin seen bound' P m f arguments heap t ending end
  tree_calls_up zero m le f arguments heap t ending end c = absurd c
  tree_calls_up (suc n) zero le f arguments heap t ending end c = absurd (omega arith)
  tree_calls_up (suc n) (suc m) le f arguments heap t ending end c =
      some_more (P.procedures f)
      (λ x. Executes seen P.types (TreeCallsWithin seen bound P n) bound n x.body (first_locals arguments) [] heap (closes t ending end))
      (λ x. Executes seen P.types (TreeCallsWithin seen bound' P m) bound' m x.body (first_locals arguments) [] heap (closes t ending end))
      (λ x. runs_more seen P.types (TreeCallsWithin seen bound P n) (TreeCallsWithin seen bound' P m) (tree_calls_up n m (omega arith)) bound bound' wider n m (omega arith) x.body (first_locals arguments) [] heap
      (closes t ending end) (closes t ending end) (λ a x l h k. k)) c

  pub tree_calls_wider : (f : ℕ) (arguments : List Value) (heap : HeapMap) (t : List E) (ending : Ending) (end : HeapMap) →
      SeenTreeCalls seen bound P f arguments heap t ending end → SeenTreeCalls seen bound' P f arguments heap t ending end
  tree_calls_wider f arguments heap t ending end (n, c) = (n, tree_calls_up n n (omega arith) f arguments heap t ending end c)
