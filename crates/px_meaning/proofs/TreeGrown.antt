-- Heaps only grow, in the execution of a tree.
use Rattle.std.proofs.Common.{ℕ, zero, suc, Option, Some, None, List, [], ◌∷◌, ◌++◌, slice_set, sym, subst, inl, inr, pos}
use Rattle.px_base.specs.declared.trace.Site.{Site}
use Rattle.px_base.specs.declared.trace.Kind.TheVariants.{NullDereference, UseAfterFree, DoubleFree, UninitialisedRead}
use Rattle.px_base.specs.declared.trace.MarkKind.TheVariants.{Iter, Done, Access, Freed, FreeNull}
use Rattle.px_base.specs.declared.trace.ProcId.{ProcId}
use Rattle.px_base.specs.declared.trace.FieldId.{FieldId}
use Rattle.px_core.specs.declared.command.Operator.TheVariants.{Neg}
use Rattle.px_meaning.specs.Values.{TypeId, BlockType, Value, Word, Unwritten}
use Rattle.px_meaning.specs.Heaps.{HeapMap, with_block}
use Rattle.px_meaning.specs.Calls.{Halt, error, outside, Ending, Returned, Failed}
use Rattle.px_meaning.specs.Execution.{Locals, with_local}
use Rattle.px_meaning.specs.Events.{Event}
use Rattle.px_meaning.specs.Operations.{value_at, result_of, on_words}
use Rattle.px_meaning.specs.Steps.{ProcedureCalls, marking, new_block, live_block, freed_block}
use Rattle.px_meaning.specs.TypedProgram.{TypedProgram}
use Rattle.px_syntax.specs.TypedTree.{Expression, constant, null, local, negated, arithmetic, truth, cell, allocate, get_char, call, stop, Expressions, no_expressions, an_expression, Arguments, no_arguments, an_argument, passed, erased, Condition, compare, word, pointer, both, either, opposite, Place, local_place, cell_place, Statement, block, declare, assign, update, run_call, free, input, choose, loop, break, continue, return, evaluate, access, Statements, no_statements, a_statement}
use Rattle.px_syntax.specs.declared.typed_expression.Arithmetic.{Arithmetic}
use Rattle.px_meaning.specs.TreeExecution.{gives, errs, Outcomes, with_value, by_outcome, yes, no, fault, Verdicts, with_verdict, Exit, falls, breaks, continues, returns, fails, Exits, with_fall, behind_body, Uses, Loads, calculation, Calculates, Reaches, Stores, Returns, CallsProcedure, Branches, Evaluates, EvaluatesAll, PassesAll, Tests, failing, Takes, Declares, Assigns, Updates, Frees, TestsIf, Loops, GivesBack, Executes, ExecutesAll}
use Rattle.px_meaning.specs.TreeCalls.{first_locals, closes, TreeCallsWithin, SeenTreeCalls}
use Rattle.px_meaning.specs.CoreLaws.{Grows}
use Rattle.px_meaning.proofs.Taken.{some_to, pointer_to, written_to}
use Rattle.px_meaning.proofs.Grown.{grows_refl, grows_trans, grows_new, grows_live}

module _ {E : Type 0} (seen : Event → E) (types : List BlockType) (calls : ProcedureCalls E)
    (grown : (f : ℕ) (arguments : List Value) (heap : HeapMap) (t : List E) (ending : Ending) (end : HeapMap) → calls f arguments heap t ending end → Grows heap end)
    (Z : Type 0) where
  -- wherever the goal is reached, as the heap grew, Z holds
  abbrev Leads : {X : Type 0} → HeapMap → (List E → X → HeapMap → Type 0) → Type 0
  Leads {X} heap G = (a : List E) (x : X) (h : HeapMap) → Grows heap h → G a x h → Z

  abbrev LeadsErr : HeapMap → (List E → Halt → Site → HeapMap → Type 0) → Type 0
  LeadsErr heap G = (a : List E) (kind : Halt) (site : Site) (h : HeapMap) → Grows heap h → G a kind site h → Z

  abbrev LeadsOn : HeapMap → (List E → HeapMap → Type 0) → Type 0
  LeadsOn heap G = (a : List E) (h : HeapMap) → Grows heap h → G a h → Z

  abbrev LeadsExits : HeapMap → Exits E → Type 0
  LeadsExits heap G = (a : List E) (x : Exit) (l : Locals) (h : HeapMap) → Grows heap h → G a x l h → Z

  abbrev LeadsAfter : HeapMap → (List E → Locals → HeapMap → Type 0) → Type 0
  LeadsAfter heap G = (a : List E) (l : Locals) (h : HeapMap) → Grows heap h → G a l h → Z

  value_leads : (heap : HeapMap) (K : Outcomes E) (f : List E → Value → HeapMap → Type 0) → Leads heap K → Leads heap f → Leads heap (with_value K f)
  value_leads heap K f o g a (gives v) h w k = g a v h w k
  value_leads heap K f o g a (errs kind site) h w k = o a (errs kind site) h w k

  outcome_leads : (heap : HeapMap) (err : List E → Halt → Site → HeapMap → Type 0) (f : List E → Value → HeapMap → Type 0) → LeadsErr heap err → Leads heap f → Leads heap (by_outcome err f)
  outcome_leads heap err f o g a (gives v) h w k = g a v h w k
  outcome_leads heap err f o g a (errs kind site) h w k = o a kind site h w k

  verdict_leads : (heap : HeapMap) (err : List E → Halt → Site → HeapMap → Type 0) (f g : List E → HeapMap → Type 0) → LeadsErr heap err → LeadsOn heap f → LeadsOn heap g → Leads heap (with_verdict err f g)
  verdict_leads heap err f g o of og a yes h w k = of a h w k
  verdict_leads heap err f g o of og a no h w k = og a h w k
  verdict_leads heap err f g o of og a (fault kind site) h w k = o a kind site h w k

  fall_leads : (heap : HeapMap) (K : Exits E) (f : List E → Locals → HeapMap → Type 0) → LeadsExits heap K → LeadsAfter heap f → LeadsExits heap (with_fall K f)
  fall_leads heap K f o g a falls l h w k = g a l h w k
  fall_leads heap K f o g a breaks l h w k = o a breaks l h w k
  fall_leads heap K f o g a continues l h w k = o a continues l h w k
  fall_leads heap K f o g a (returns v) l h w k = o a (returns v) l h w k
  fall_leads heap K f o g a (fails kind site) l h w k = o a (fails kind site) l h w k

  body_leads : (heap : HeapMap) (K : Exits E) (f : List E → Locals → HeapMap → Type 0) → LeadsExits heap K → LeadsAfter heap f → LeadsExits heap (behind_body seen types calls f K)
  body_leads heap K f o g a falls l h w k = g a l h w k
  body_leads heap K f o g a continues l h w k = g a l h w k
  body_leads heap K f o g a breaks l h w k = o a falls l h w k
  body_leads heap K f o g a (returns v) l h w k = o a (returns v) l h w k
  body_leads heap K f o g a (fails kind site) l h w k = o a (fails kind site) l h w k

  uses_lead : (v : Value) (site : Site) (a : List E) (heap : HeapMap) (K : Outcomes E) → Leads heap K → Uses seen types calls v site a heap K → Z
  uses_lead v site a heap K o h = written_to v (K a (gives v) heap) (K a (errs (error UninitialisedRead) site) heap) Z (o _ _ _ (grows_refl heap)) (o _ _ _ (grows_refl heap)) h

  calculates_lead : (op : Arithmetic) (x y : Value) (a : List E) (heap : HeapMap) (K : Outcomes E) → Leads heap K → Calculates seen types calls op x y a heap K → Z
  calculates_lead op x y a heap K o h = some_to (on_words (calculation op) x y) (λ r. K a r heap) Z (λ r e. o a r heap (grows_refl heap)) h

  loads_lead : (p : Value) (field : FieldId) (b : TypeId) (site : Site) (a : List E) (heap : HeapMap) (K : Outcomes E) → Leads heap K → Loads seen types calls p field b site a heap K → Z
  loads_lead p field b site a heap K o h =
      pointer_to heap b.0 p (K (a ++ marking seen Access site) (errs (error NullDereference) site) heap) (K (a ++ marking seen Access site) (errs (error UseAfterFree) site) heap)
      (λ n cells. Uses seen types calls (value_at cells field.0) site (a ++ marking seen Access site) heap K) Z
      (o _ _ _ (grows_refl heap)) (o _ _ _ (grows_refl heap)) (λ n cells e h. uses_lead (value_at cells field.0) site (a ++ marking seen Access site) heap K o h) h

  reaches_lead : (p : Value) (b : TypeId) (site : Site) (a : List E) (heap : HeapMap) (err : List E → Halt → Site → HeapMap → Type 0) (on : List E → HeapMap → Type 0) → LeadsErr heap err → LeadsOn heap on → Reaches seen types calls p b site a heap err on → Z
  reaches_lead p b site a heap err on oe o h =
      pointer_to heap b.0 p (err (a ++ marking seen Access site) (error NullDereference) site heap) (err (a ++ marking seen Access site) (error UseAfterFree) site heap)
      (λ n cells. on (a ++ marking seen Access site) heap) Z
      (oe _ _ _ _ (grows_refl heap)) (oe _ _ _ _ (grows_refl heap)) (λ n cells e. o _ _ (grows_refl heap)) h

  stores_lead : (p : Value) (field : FieldId) (b : TypeId) (site : Site) (v : Value) (l : Locals) (a : List E) (heap : HeapMap) (K : Exits E) → LeadsExits heap K → Stores seen types calls p field b site v l a heap K → Z
  stores_lead p field b site v l a heap K o h =
      pointer_to heap b.0 p (K (a ++ marking seen Access site) (fails (error NullDereference) site) l heap) (K (a ++ marking seen Access site) (fails (error UseAfterFree) site) l heap)
      (λ n cells. K (a ++ marking seen Access site) falls l (with_block heap n (live_block b.0 (slice_set cells field.0 v)))) Z
      (o _ _ _ _ (grows_refl heap)) (o _ _ _ _ (grows_refl heap)) (λ n cells e. o _ _ _ _ (grows_live heap n b.0 cells _ e)) h

  frees_lead : (p : Value) (b : TypeId) (site : Site) (l : Locals) (a : List E) (heap : HeapMap) (K : Exits E) → LeadsExits heap K → Frees seen types calls p b site l a heap K → Z
  frees_lead p b site l a heap K o h =
      pointer_to heap b.0 p (K (a ++ marking seen FreeNull site) falls l heap) (K (a ++ marking seen Freed site) (fails (error DoubleFree) site) l heap)
      (λ n cells. K (a ++ marking seen Freed site) falls l (with_block heap n (freed_block b.0))) Z
      (o _ _ _ _ (grows_refl heap)) (o _ _ _ _ (grows_refl heap)) (λ n cells e. o _ _ _ _ (grows_live heap n b.0 cells _ e)) h

  returns_lead : (proc : ProcId) (site : Site) (a t : List E) (old new : HeapMap) (err : List E → Halt → Site → HeapMap → Type 0) (on : List E → Value → HeapMap → Type 0) (ending : Ending) → Grows old new → LeadsErr old err → Leads old on →
      Returns seen types calls proc site a t new err on ending → Z
  returns_lead proc site a t old new err on (Returned v) w o g h = g _ v new w h
  returns_lead proc site a t old new err on (Failed kind at) w o g h = o _ kind at new w h

  call_leads : (proc : ProcId) (site : Site) (vs : List Value) (a : List E) (heap : HeapMap) (err : List E → Halt → Site → HeapMap → Type 0) (on : List E → Value → HeapMap → Type 0) → LeadsErr heap err → Leads heap on →
      CallsProcedure seen types calls proc site vs a heap err on → Z
  call_leads proc site vs a heap err on o g (t, ending, heap', c, h) = returns_lead proc site a t heap heap' err on ending (grown proc.0 vs heap t ending heap' c) o g h

  branches_lead : (Yes No : Type 0) (site : Site) (a : List E) (heap : HeapMap) (K : Verdicts E) → Leads heap K → Branches seen types calls Yes No site a heap K → Z
  branches_lead Yes No site a heap K o (inl h) = o _ _ _ (grows_refl heap) h.1
  branches_lead Yes No site a heap K o (inr h) = o _ _ _ (grows_refl heap) h.1

  mutual
    eval_leads : (e : Expression) (l : Locals) (a : List E) (heap : HeapMap) (K : Outcomes E) → Leads heap K → Evaluates seen types calls e l a heap K → Z
    eval_leads (constant z) l a heap K o h = o _ _ _ (grows_refl heap) h
    eval_leads null l a heap K o h = o _ _ _ (grows_refl heap) h
    eval_leads (local n site) l a heap K o h = uses_lead (l n) site a heap K o h
    eval_leads (negated e) l a heap K o h =
        eval_leads e l a heap _ (value_leads heap K _ o (λ a x h w. some_to (result_of Neg x (Word (pos 0))) (λ v. K a (gives v) h) Z (λ v e. o a (gives v) h w))) h
    eval_leads (arithmetic op c d) l a heap K o h =
        eval_leads c l a heap _ (value_leads heap K _ o (λ a x h w.
        eval_leads d l a h _ (value_leads h K _ (λ a y i g. o a y i (grows_trans w g)) (λ a y i g. calculates_lead op x y a i K (λ a r j t. o a r j (grows_trans (grows_trans w g) t)))))) h
    eval_leads (truth c) l a heap K o h =
        test_leads c l a heap _ (verdict_leads heap _ _ _ (λ a kind at h w. o a (errs kind at) h w) (λ a h w. o a (gives (Word (pos 1))) h w) (λ a h w. o a (gives (Word (pos 0))) h w)) h
    eval_leads (cell e field b site) l a heap K o h = eval_leads e l a heap _ (value_leads heap K _ o (λ a x h w. loads_lead x field b site a h K (λ a y i g. o a y i (grows_trans w g)))) h
    eval_leads (allocate b site) l a heap K o (inl h) = o _ _ _ (grows_refl heap) h
    eval_leads (allocate b site) l a heap K o (inr (n, out, h)) = o _ _ _ (grows_new heap n (new_block types b.0) out) h
    eval_leads (get_char site) l a heap K o (z, low, high, h) = o _ _ _ (grows_refl heap) h
    eval_leads (call proc es result site) l a heap K o h =
        all_lead es l a heap _ _ (λ a kind at h w. o a (errs kind at) h w)
        (λ a vs h w. call_leads proc site vs a h _ _ (λ a kind at i g. o a (errs kind at) i (grows_trans w g)) (λ a v i g. uses_lead v site a i K (λ a y j r. o a y j (grows_trans (grows_trans w g) r)))) h
    eval_leads (stop number site es) l a heap K o h =
        passes_lead es l a heap _ _ (λ a kind at h w. o a (errs kind at) h w) (λ a h w. o a (errs (outside number) site) h w) h

    all_lead : (es : Arguments) (l : Locals) (a : List E) (heap : HeapMap) (err : List E → Halt → Site → HeapMap → Type 0) (on : List E → List Value → HeapMap → Type 0) → LeadsErr heap err → Leads heap on →
        EvaluatesAll seen types calls es l a heap err on → Z
    all_lead no_arguments l a heap err on oe o h = o _ _ _ (grows_refl heap) h
    all_lead (an_argument (passed e) rest) l a heap err on oe o h =
        eval_leads e l a heap _ (outcome_leads heap err _ oe (λ a v h w. all_lead rest l a h err _ (λ a kind at i g. oe a kind at i (grows_trans w g)) (λ a vs i g. o a (v ∷ vs) i (grows_trans w g)))) h
    all_lead (an_argument (erased parts) rest) l a heap err on oe o h =
        passes_lead parts l a heap err _ oe (λ a h w. all_lead rest l a h err on (λ a kind at i g. oe a kind at i (grows_trans w g)) (λ a vs i g. o a vs i (grows_trans w g))) h

    passes_lead : (es : Expressions) (l : Locals) (a : List E) (heap : HeapMap) (err : List E → Halt → Site → HeapMap → Type 0) (on : List E → HeapMap → Type 0) → LeadsErr heap err → LeadsOn heap on →
        PassesAll seen types calls es l a heap err on → Z
    passes_lead no_expressions l a heap err on oe o h = o _ _ (grows_refl heap) h
    passes_lead (an_expression (local n site) rest) l a heap err on oe o h = passes_lead rest l a heap err on oe o h
    passes_lead (an_expression (cell e field b site) rest) l a heap err on oe o h =
        eval_leads e l a heap _ (outcome_leads heap err _ oe (λ a x h w. reaches_lead x b site a h err _ (λ a kind at i g. oe a kind at i (grows_trans w g))
        (λ a i g. passes_lead rest l a i err on (λ a kind at j r. oe a kind at j (grows_trans (grows_trans w g) r)) (λ a j r. o a j (grows_trans (grows_trans w g) r))))) h
    passes_lead (an_expression (call proc es result site) rest) l a heap err on oe o h =
        all_lead es l a heap err _ oe (λ a vs h w. call_leads proc site vs a h err _ (λ a kind at i g. oe a kind at i (grows_trans w g))
        (λ a v i g. passes_lead rest l a i err on (λ a kind at j r. oe a kind at j (grows_trans (grows_trans w g) r)) (λ a j r. o a j (grows_trans (grows_trans w g) r)))) h
    passes_lead (an_expression e rest) l a heap err on oe o h =
        eval_leads e l a heap _ (outcome_leads heap err _ oe (λ a v h w. passes_lead rest l a h err on (λ a kind at i g. oe a kind at i (grows_trans w g)) (λ a i g. o a i (grows_trans w g)))) h

    test_leads : (c : Condition) (l : Locals) (a : List E) (heap : HeapMap) (K : Verdicts E) → Leads heap K → Tests seen types calls c l a heap K → Z
    test_leads (compare r c d site) l a heap K o h =
        eval_leads c l a heap _ (outcome_leads heap _ _ (λ a kind at h w. o a (fault kind at) h w) (λ a x h w.
        eval_leads d l a h _ (outcome_leads h _ _ (λ a kind at i g. o a (fault kind at) i (grows_trans w g)) (λ a y i g. branches_lead _ _ site a i K (λ a y j r. o a y j (grows_trans (grows_trans w g) r)))))) h
    test_leads (word e site) l a heap K o h = eval_leads e l a heap _ (outcome_leads heap _ _ (λ a kind at h w. o a (fault kind at) h w) (λ a y i g. branches_lead _ _ site a i K (λ a y j r. o a y j (grows_trans g r)))) h
    test_leads (pointer e site) l a heap K o h = eval_leads e l a heap _ (outcome_leads heap _ _ (λ a kind at h w. o a (fault kind at) h w) (λ a y i g. branches_lead _ _ site a i K (λ a y j r. o a y j (grows_trans g r)))) h
    test_leads (both c d) l a heap K o h =
        test_leads c l a heap _ (verdict_leads heap _ _ _ (λ a kind at h w. o a (fault kind at) h w) (λ a h w. test_leads d l a h K (λ a y i g. o a y i (grows_trans w g))) (λ a h w. o a no h w)) h
    test_leads (either c d) l a heap K o h =
        test_leads c l a heap _ (verdict_leads heap _ _ _ (λ a kind at h w. o a (fault kind at) h w) (λ a h w. o a yes h w) (λ a h w. test_leads d l a h K (λ a y i g. o a y i (grows_trans w g)))) h
    test_leads (opposite c) l a heap K o h = test_leads c l a heap _ (verdict_leads heap _ _ _ (λ a kind at h w. o a (fault kind at) h w) (λ a h w. o a no h w) (λ a h w. o a yes h w)) h

  exits_grown : (heap h : HeapMap) (K : Exits E) → Grows heap h → LeadsExits heap K → LeadsExits h K
  exits_grown heap h K w o a x l i g k = o a x l i (grows_trans w g) k

  takes_lead : (e : Expression) (l : Locals) (a : List E) (heap : HeapMap) (K : Exits E) (f : List E → Value → HeapMap → Type 0) → LeadsExits heap K → Leads heap f → Takes seen types calls e l a heap K f → Z
  takes_lead e l a heap K f o g h = eval_leads e l a heap _ (outcome_leads heap (failing seen types calls l K) f (λ a kind site h w. o a (fails kind site) l h w) g) h

  declares_lead : (n : ℕ) (e : Option Expression) (l : Locals) (a : List E) (heap : HeapMap) (K : Exits E) → LeadsExits heap K → Declares seen types calls n e l a heap K → Z
  declares_lead n None l a heap K o h = o _ _ _ _ (grows_refl heap) h
  declares_lead n (Some e) l a heap K o h = takes_lead e (with_local l n Unwritten) a heap K _ o (λ a v h w. o a falls (with_local (with_local l n Unwritten) n v) h w) h

  assigns_lead : (p : Place) (e : Expression) (l : Locals) (a : List E) (heap : HeapMap) (K : Exits E) → LeadsExits heap K → Assigns seen types calls p e l a heap K → Z
  assigns_lead (local_place n at) e l a heap K o h = takes_lead e l a heap K _ o (λ a v h w. o a falls (with_local l n v) h w) h
  assigns_lead (cell_place p field b site) e l a heap K o h =
      takes_lead p l a heap K _ o (λ a x h w. takes_lead e l a h K _ (exits_grown heap h K w o) (λ a v i g. stores_lead x field b site v l a i K (exits_grown heap i K (grows_trans w g) o))) h

  updates_lead : (op : Arithmetic) (p : Place) (e : Expression) (l : Locals) (a : List E) (heap : HeapMap) (K : Exits E) → LeadsExits heap K → Updates seen types calls op p e l a heap K → Z
  updates_lead op (local_place n at) e l a heap K o h =
      uses_lead (l n) at a heap _ (outcome_leads heap (failing seen types calls l K) _ (λ a kind site h w. o a (fails kind site) l h w) (λ a x h w.
      takes_lead e l a h K _ (exits_grown heap h K w o) (λ a y i g.
      calculates_lead op x y a i _ (outcome_leads i (failing seen types calls l K) _ (λ a kind site j t. o a (fails kind site) l j (grows_trans (grows_trans w g) t)) (λ a v j t. o a falls (with_local l n v) j (grows_trans (grows_trans w g) t)))))) h
  updates_lead op (cell_place p field b site) e l a heap K o h =
      takes_lead p l a heap K _ o (λ a place h w.
      loads_lead place field b site a h _ (outcome_leads h (failing seen types calls l K) _ (λ a kind site i g. o a (fails kind site) l i (grows_trans w g)) (λ a x i g.
      takes_lead e l a i K _ (exits_grown heap i K (grows_trans w g) o) (λ a y j r.
      let grew = grows_trans (grows_trans w g) r in
      calculates_lead op x y a j _ (outcome_leads j (failing seen types calls l K) _ (λ a kind site k t. o a (fails kind site) l k (grows_trans grew t))
      (λ a v k t. stores_lead place field b site v l a k K (exits_grown heap k K (grows_trans grew t) o))))))) h

  tests_if_lead : (c : Option Condition) (l : Locals) (a : List E) (heap : HeapMap) (K : Verdicts E) → Leads heap K → TestsIf seen types calls c l a heap K → Z
  tests_if_lead None l a heap K o h = o _ _ _ (grows_refl heap) h
  tests_if_lead (Some c) l a heap K o h = test_leads c l a heap K o h

  gives_lead : (e : Option Expression) (l : Locals) (a : List E) (heap : HeapMap) (K : Exits E) → LeadsExits heap K → GivesBack seen types calls e l a heap K → Z
  gives_lead None l a heap K o h = o _ _ _ _ (grows_refl heap) h
  gives_lead (Some e) l a heap K o h = takes_lead e l a heap K _ o (λ a v h w. o a (returns v) l h w) h

  abbrev LeadsAll : (Locals → List E → HeapMap → Exits E → Type 0) → Type 1
  LeadsAll X = (l : Locals) (a : List E) (heap : HeapMap) (K : Exits E) → LeadsExits heap K → X l a heap K → Z

  loops_lead : (bound : Option ℕ) (n made : ℕ) (site : Site) (c : Option Condition) (body after_body : Locals → List E → HeapMap → Exits E → Type 0) → LeadsAll body → LeadsAll after_body →
      LeadsAll (Loops seen types calls bound n made site c body after_body)
  loops_lead bound zero made site c body after_body b f l a heap K o h = absurd h
  loops_lead bound (suc n) made site c body after_body b f l a heap K o h =
      tests_if_lead c l a heap _ (verdict_leads heap (failing seen types calls l K) _ _ (λ a kind site h w. o a (fails kind site) l h w)
      (λ a h w k. b l (a ++ marking seen Iter site) h _ (body_leads h K _ (exits_grown heap h K w o) (λ a l i g.
      f l a i _ (fall_leads i K _ (exits_grown heap i K (grows_trans w g) o) (λ a l j r. loops_lead bound n (suc made) site c body after_body b f l a j K (exits_grown heap j K (grows_trans (grows_trans w g) r) o))))) k.1)
      (λ a h w. o (a ++ marking seen Done site) falls l h w)) h

  mutual
    pub runs_lead : (bound : Option ℕ) (n : ℕ) (s : Statement) → LeadsAll (Executes seen types calls bound n s)
    runs_lead bound n (block ss) l a heap K o h = all_runs_lead bound n ss l a heap K o h
    runs_lead bound n (declare i e) l a heap K o h = declares_lead i e l a heap K o h
    runs_lead bound n (assign p e) l a heap K o h = assigns_lead p e l a heap K o h
    runs_lead bound n (update op p e) l a heap K o h = updates_lead op p e l a heap K o h
    runs_lead bound n (run_call proc es site) l a heap K o h =
        all_lead es l a heap (failing seen types calls l K) _ (λ a kind site h w. o a (fails kind site) l h w)
        (λ a vs h w. call_leads proc site vs a h (failing seen types calls l K) (λ a v h. K a falls l h) (λ a kind site i g. o a (fails kind site) l i (grows_trans w g)) (λ a v i g. o a falls l i (grows_trans w g))) h
    runs_lead bound n (free e b site) l a heap K o h = takes_lead e l a heap K _ o (λ a p h w. frees_lead p b site l a h K (exits_grown heap h K w o)) h
    runs_lead bound n (input site) l a heap K o h = takes_lead (get_char site) l a heap K _ o (λ a v h w. o a falls l h w) h
    runs_lead bound n (choose c first second) l a heap K o h =
        test_leads c l a heap _ (verdict_leads heap (failing seen types calls l K) _ _ (λ a kind site h w. o a (fails kind site) l h w)
        (λ a h w. runs_lead bound n first l a h K (exits_grown heap h K w o)) (λ a h w. runs_lead bound n second l a h K (exits_grown heap h K w o))) h
    runs_lead bound n (loop site c body after_body) l a heap K o h =
        loops_lead bound n 0 site c (Executes seen types calls bound n body) (Executes seen types calls bound n after_body) (runs_lead bound n body) (runs_lead bound n after_body) l a heap K o h
    runs_lead bound n break l a heap K o h = o _ _ _ _ (grows_refl heap) h
    runs_lead bound n continue l a heap K o h = o _ _ _ _ (grows_refl heap) h
    runs_lead bound n (return e) l a heap K o h = gives_lead e l a heap K o h
    runs_lead bound n (evaluate e) l a heap K o h =
        passes_lead (an_expression e no_expressions) l a heap (failing seen types calls l K) _ (λ a kind site h w. o a (fails kind site) l h w) (λ a h w. o a falls l h w) h
    runs_lead bound n (access e parts field b site) l a heap K o h =
        takes_lead e l a heap K _ o (λ a x h w. passes_lead parts l a h (failing seen types calls l K) _ (λ a kind site i g. o a (fails kind site) l i (grows_trans w g)) (λ a i g.
        let grew = grows_trans w g in
        reaches_lead x b site a i (failing seen types calls l K) (λ a h. K a falls l h) (λ a kind site j r. o a (fails kind site) l j (grows_trans grew r)) (λ a j r. o a falls l j (grows_trans grew r)))) h

    all_runs_lead : (bound : Option ℕ) (n : ℕ) (ss : Statements) → LeadsAll (ExecutesAll seen types calls bound n ss)
    all_runs_lead bound n no_statements l a heap K o h = o _ _ _ _ (grows_refl heap) h
    all_runs_lead bound n (a_statement s rest) l a heap K o h =
        runs_lead bound n s l a heap _ (fall_leads heap K _ o (λ a l h w. all_runs_lead bound n rest l a h K (exits_grown heap h K w o))) h

closes_grow : {E : Type 0} (heap : HeapMap) (t : List E) (ending : Ending) (end : HeapMap) (a : List E) (x : Exit) (l : Locals) (h : HeapMap) → Grows heap h → closes t ending end a x l h → Grows heap end
closes_grow heap t ending end a falls l h w k = subst (λ u. Grows heap u) (sym k.2) w
closes_grow heap t ending end a (returns v) l h w k = subst (λ u. Grows heap u) (sym k.2) w
closes_grow heap t ending end a (fails kind site) l h w k = subst (λ u. Grows heap u) (sym k.2) w
closes_grow heap t ending end a breaks l h w k = absurd k
closes_grow heap t ending end a continues l h w k = absurd k

module _ {E : Type 0} (seen : Event → E) (bound : Option ℕ) (P : TypedProgram) where
  pub tree_calls_within_grow : (n f : ℕ) (arguments : List Value) (heap : HeapMap) (t : List E) (ending : Ending) (end : HeapMap) → TreeCallsWithin seen bound P n f arguments heap t ending end → Grows heap end
  tree_calls_within_grow zero f arguments heap t ending end c = absurd c
  tree_calls_within_grow (suc n) f arguments heap t ending end c =
      some_to (P.procedures f) (λ p. Executes seen P.types (TreeCallsWithin seen bound P n) bound n p.body (first_locals arguments) [] heap (closes t ending end)) (Grows heap end)
      (λ p e h. runs_lead seen P.types (TreeCallsWithin seen bound P n) (tree_calls_within_grow n) (Grows heap end) bound n p.body (first_locals arguments) [] heap (closes t ending end) (closes_grow heap t ending end) h) c

  pub tree_calls_grow : (f : ℕ) (arguments : List Value) (heap : HeapMap) (t : List E) (ending : Ending) (end : HeapMap) → SeenTreeCalls seen bound P f arguments heap t ending end → Grows heap end
  tree_calls_grow f arguments heap t ending end (n, c) = tree_calls_within_grow n f arguments heap t ending end c
